-- `global::do_prepare` steps as `sound_step` does, refused or not. Assumes nothing.
use Rattle.std.proofs.lemmas.Result.{err_from_is_err_and}
use Rattle.model.specs.Answers.{reply_of}
use Rattle.laws.proofs.Tables.{put_phase_lem}
use Rattle.native_ms.proofs.SpaceCalls.{prepare_done, prepare_refused}
use Rattle.native_ms.proofs.global.do_prepare.Goals as goal

pub returns-in_err-check_phase : goal.returns-in_err-check_phase
unfolding reply_of
returns-in_err-check_phase c = let p = err_from_is_err_and c.from_residual.result c.from_residual.ensures.1 in rw (p.1, p.2) (prepare_refused _ _ _ c.check_phase.ensures c.in_err-check_phase.was)

pub returns : goal.returns
unfolding reply_of
returns c = prepare_done _ _ _ c.check_phase.ensures c.in_ok-check_phase.was (c.requires) (λ h. put_phase_lem _ _ h c.set_phase.ensures) c.unmark_blocks.ensures c.clear_all.ensures
