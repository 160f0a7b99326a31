-- the closure of `global::is_last`: the part itself, or one that had released.
use Rattle.native_ms.proofs.EagerLaws.{with_last, with_other}
use Rattle.native_ms.proofs.global.fn.is_last.none_due.Goals as goal

pub returns-then-other-part-number : goal.returns-then-other-part-number
returns-then-other-part-number c = with_last _ _ _ c.requires.0 c.requires.1 c.if-other-part-number.true

pub returns-else-other-part-number : goal.returns-else-other-part-number
returns-else-other-part-number c = with_other _ _ _ c.if-other-part-number.false c.has_released.ensures
