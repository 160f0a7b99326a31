-- `global::end_of_gc` is `collected`, the merged blocks counted. Assumes nothing.
use native.Mathlib.Omega.{arith}
use Rattle.laws.proofs.Tables.{put_phase_lem}
use Rattle.native_ms.proofs.MovedLaws.{end_moves_lem}
use Rattle.native_ms.proofs.global.end_of_gc.Goals as goal

pub returns : goal.returns
returns c = end_moves_lem _ _ c.merge-merged.ensures c.clear_released.ensures (put_phase_lem _ _ (omega (arith, c.requires, c.merge-merged.auto.w, c.clear_released.auto.w)) c.set_phase.ensures)
