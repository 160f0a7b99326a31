-- `global::do_bind` steps as `sound_step` does, refused or not. Assumes nothing.
use Rattle.std.proofs.lemmas.Result.{err_from_is_err_and}
use Rattle.model.specs.Answers.{reply_of}
use Rattle.laws.proofs.Tables.{put_bound_lem}
use Rattle.native_ms.proofs.SpaceCalls.{bind_low, bind_done, bind_refused}
use Rattle.native_ms.proofs.global.do_bind.Goals as goal

pub overflow_sub-holder : goal.overflow_sub-holder
overflow_sub-holder c = bind_low _ _ c.check_bind.ensures c.in_ok-check_bind.was

pub returns-in_err-check_bind : goal.returns-in_err-check_bind
unfolding reply_of
returns-in_err-check_bind c = let p = err_from_is_err_and c.from_residual.result c.from_residual.ensures.1 in rw (p.1, p.2) (bind_refused _ _ c.check_bind.ensures c.in_err-check_bind.was)

pub returns : goal.returns
unfolding reply_of
returns c = bind_done _ _ c.check_bind.ensures c.in_ok-check_bind.was (put_bound_lem _ _ _ c.set_bound.ensures)
