-- `global::part_released` is `part_released` and counts as `merged`: the phase, the mark, and at the last the end. Assumes nothing.
use native.Mathlib.Omega.{arith}
use Rattle.laws.proofs.Tables.{put_released_lem, put_phase_lem}
use Rattle.native_ms.proofs.MovedLaws.{part_last, part_due}
use Rattle.native_ms.proofs.global.part_released.Goals as goal

pub returns-then-done : goal.returns-then-done
returns-then-done c = part_last _ _ _ (put_phase_lem _ _ (omega (arith, c.requires)) c.set_phase.ensures) (put_released_lem _ _ _ c.set_released.ensures) c.all_released-done.ensures c.if-done.true c.end_of_gc.ensures

pub returns : goal.returns
returns c = part_due _ _ _ (put_phase_lem _ _ (omega (arith, c.requires)) c.set_phase.ensures) (put_released_lem _ _ _ c.set_released.ensures) c.all_released-done.ensures c.if-done.false
