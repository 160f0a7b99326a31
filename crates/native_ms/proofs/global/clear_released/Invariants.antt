-- `global::clear_released` makes the nine released marks 0. The invariant: those passed are. Assumes nothing.
use mathlib.Core.Path.{◌≡◌}
use Rattle.model.specs.Tables.{view}
use Rattle.native_ms.proofs.SpaceCalls.{unreleased}
use Rattle.native_ms.proofs.global.clear_released.Given as goal

abbrev pub invariant-loop-part : goal.invariant-loop-part
invariant-loop-part l = view l.w ≡ unreleased l.part (view l.initial.w)
