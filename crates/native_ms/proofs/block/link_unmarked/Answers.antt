use mathlib.Core.Path.{refl, sym, ◌∙◌}
use native.Mathlib.Omega.{arith}
use Rattle.native_ms.proofs.Chains.{linking_start, linking_kept, linking_freed, next_fits}
use Rattle.native_ms.proofs.block.link_unmarked.Goals as goal
use Rattle.native_ms.proofs.block.link_unmarked.Goals.{then-not-keeps, else-not-keeps}

pub loop-seen-init : goal.loop-seen-init
loop-seen-init g c = linking_start _ _ _ _ _

pub overflow_mul-at : goal.overflow_mul-at
overflow_mul-at g c = omega (arith, (next_fits _ _ _ _ _ c.requires c.loop-seen-test.true refl).0)

pub overflow_add-at : goal.overflow_add-at
overflow_add-at g c = omega (arith, (next_fits _ _ _ _ _ c.requires c.loop-seen-test.true refl).0)

pub invariant_of-keeps : goal.invariant_of-keeps
invariant_of-keeps g c = let f = next_fits _ _ _ _ _ c.requires c.loop-seen-test.true refl in record { low = omega (arith, f.0); small = f.1 }

pub loop-seen-preserved : goal.loop-seen-preserved
loop-seen-preserved g c =
    elim c.if-not-keeps.branch [
      | then-not-keeps w ↦ rw (w.heap-is, w.last-is, w.linked-is) (linking_freed _ _ _ _ _ _ _ _ _ c.loop-seen.invariant (sym c.keeps.ensures ∙ w.if-not-keeps.true) w.store.ensures)
      | else-not-keeps w ↦ rw (w.heap-is, w.last-is, w.linked-is) (linking_kept _ _ _ _ _ _ _ _ _ c.loop-seen.invariant (sym c.keeps.ensures ∙ w.if-not-keeps.false))
    ]
