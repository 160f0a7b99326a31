use native.Mathlib.Omega.{arith}
use Rattle.native_ms.proofs.Offsets.{walking_kept, walking_freed, next_in}
use Rattle.native_ms.proofs.block.chain.link_unkept.Goals as goal
use Rattle.native_ms.proofs.block.chain.link_unkept.Goals.{then-not-kept, else-not-kept}

pub overflow_add-last : goal.overflow_add-last
overflow_add-last g c = let x = next_in _ _ _ _ _ _ c.requires.cells c.loop-test.true c.loop.invariant.here in omega (arith, x.ends, x.base)

pub loop-preserved : goal.loop-preserved
loop-preserved g c =
    elim c.if-not-kept.branch [
      | then-not-kept w ↦ rw (w.heap-is, w.last-is, w.linked-is) (walking_freed _ _ _ _ _ _ _ _ _ _ _ _ _ _ c.loop.invariant c.loop-test.true c.kept.ensures w.if-not-kept.true w.put_word.ensures)
      | else-not-kept w ↦ rw (w.heap-is, w.last-is, w.linked-is) (walking_kept _ _ _ _ _ _ _ _ _ _ _ _ _ _ c.loop.invariant c.loop-test.true c.kept.ensures w.if-not-kept.false)
    ]
