-- `classes::bad_count` meets its contract. The invariant: what remains from the border on is the whole. Leans on the laws of a survey.
use mathlib.Core.Path.{◌≡◌}
use Prim.Native.Nat.{◌+◌, ◌-◌, ◌≤◌}
use Rattle.model.specs.Base.{least_from}
use Rattle.model.specs.Classes.{is_bad_count, bad_count}
use Rattle.native_ms.proofs.classes.bad_count.Given as goal

abbrev pub invariant-loop-at : goal.invariant-loop-at
invariant-loop-at l = (1 ≤ l.at) × (l.at ≤ l.words + 1) × (least_from ((l.words + 1) - l.at) l.at (is_bad_count l.space.p) ≡ bad_count l.space.p)

abbrev pub decreases-loop-at : goal.decreases-loop-at
decreases-loop-at l = (l.words + 1) - l.at
