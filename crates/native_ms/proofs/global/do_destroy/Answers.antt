-- `global::do_destroy` steps as `sound_step` does, refused or not. Assumes nothing.
use Rattle.std.proofs.lemmas.Result.{err_from_is_err_and}
use Rattle.model.specs.Answers.{count_reply}
use Rattle.laws.proofs.Tables.{put_bound_lem}
use Rattle.native_ms.proofs.SpaceCalls.{leaves_bound, destroy_done, destroy_refused}
use Rattle.native_ms.proofs.global.do_destroy.Goals as goal

pub invariant_of-owner : goal.invariant_of-owner
invariant_of-owner c = let b = leaves_bound _ _ c.check_leave.ensures c.in_ok-check_leave.was in record { from = b.0; to = b.1 }

pub overflow_sub-holder : goal.overflow_sub-holder
overflow_sub-holder c = (leaves_bound _ _ c.check_leave.ensures c.in_ok-check_leave.was).0

pub returns-in_err-check_leave : goal.returns-in_err-check_leave
unfolding count_reply
returns-in_err-check_leave c = let p = err_from_is_err_and c.from_residual.result c.from_residual.ensures.1 in rw (p.1, p.2) (destroy_refused _ _ _ c.check_leave.ensures c.in_err-check_leave.was)

pub returns : goal.returns
unfolding count_reply
returns c = destroy_done _ _ _ c.check_leave.ensures c.in_ok-check_leave.was c.owner-from.ensures c.abandon_blocks-count.ensures (put_bound_lem _ _ _ c.set_bound.ensures)
