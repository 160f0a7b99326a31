-- `global::do_mark` steps as `sound_step` does, refused or not. Assumes nothing.
use Rattle.std.proofs.lemmas.Result.{err_from_is_err_and}
use Rattle.model.specs.Answers.{mark_reply}
use Rattle.model.specs.Base.{flag}
use Rattle.native_ms.proofs.SpaceCalls.{mark_refused, mark_old, mark_new}
use Rattle.native_ms.proofs.global.do_mark.Goals as goal

pub returns-then-is_marked : goal.returns-then-is_marked
unfolding mark_reply flag
returns-then-is_marked c = mark_old _ _ _ _ _ _ c.check_mark.ensures c.in_ok-check_mark.was c.is_marked.ensures c.if-is_marked.true

pub returns-in_err-check_mark : goal.returns-in_err-check_mark
unfolding mark_reply
returns-in_err-check_mark c = let p = err_from_is_err_and c.from_residual.result c.from_residual.ensures.1 in rw (p.1, p.2) (mark_refused _ _ _ _ _ _ c.check_mark.ensures c.in_err-check_mark.was)

pub returns : goal.returns
unfolding mark_reply flag
returns c = mark_new _ _ _ _ _ _ c.check_mark.ensures c.in_ok-check_mark.was c.is_marked.ensures c.if-is_marked.false c.set_state.ensures c.set_mark.ensures
