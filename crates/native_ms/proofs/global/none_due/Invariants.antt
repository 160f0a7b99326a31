-- `global::none_due` meets its contract: the holders passed are not due, and at the end no part is.
use mathlib.Core.Path.{◌≡◌}
use Rattle.model.specs.Tables.{Words, view}
use Rattle.native_ms.specs.Released.{TellsReleased}
use Rattle.native_ms.proofs.SoundTests.{NoneDue}
use Rattle.native_ms.proofs.global.none_due.Given as goal

abbrev pub invariant-loop-holder : goal.invariant-loop-holder
invariant-loop-holder g l =
    goal.F-IsAlwaysCallable g l.released
    × ((then : Words) → then.bound ≡ (view l.w).bound → TellsReleased (goal.F-post g l.released) then → NoneDue then l.holder)
