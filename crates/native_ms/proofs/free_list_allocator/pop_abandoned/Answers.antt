-- `free_list_allocator::pop_abandoned` pops as `pop_abandoned` does: an available block first, then an unswept one. One law for each.
use mathlib.Core.Path.{refl}
use Rattle.native_ms.proofs.Search.{not_none}
use Rattle.native_ms.proofs.Abandoned.{next_available, next_unswept}
use Rattle.native_ms.proofs.free_list_allocator.pop_abandoned.Goals as goal

pub returns-in-Some : goal.returns-in-Some
returns-in-Some c = next_available _ _ _ c.lists-shared.ensures.available c.in-Some.ensures (not_none c.in-Some.at.some)

pub returns-in_err-at : goal.returns-in_err-at
returns-in_err-at c =
    rw c.from_residual.ensures
    (next_unswept _ _ _ c.lists-shared.ensures.available c.in_default.ensures refl c.lists-shared.ensures.unswept c.in_err-at.ensures)

pub returns : goal.returns
returns c = next_unswept _ _ _ c.lists-shared.ensures.available c.in_default.ensures refl c.lists-shared.ensures.unswept c.in_ok-at.ensures
