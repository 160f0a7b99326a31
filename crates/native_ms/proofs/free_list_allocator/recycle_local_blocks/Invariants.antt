-- `free_list_allocator::recycle_local_blocks` sweeps as `recycle_local_blocks` does. The invariant: what remains from here, after n
-- sweeps, is the whole, and each turn swept one.
use Prim.Native.Nat.{◌-◌}
use mathlib.Core.Path.{◌≡◌}
use Rattle.model.specs.Tables.{view}
use Rattle.model.specs.FreeListAllocator.{recycle_local_blocks}
use Rattle.native_ms.specs.Closing.{closed}
use Rattle.native_ms.proofs.free_list_allocator.recycle_local_blocks.Given as goal

abbrev pub invariant-loop : goal.invariant-loop
invariant-loop l = record {
  count : l.swept ≡ l.counter;
  same : closed l.space.p l.swept l.heap (recycle_local_blocks (l.end - l.counter) l.space.p l.marks l.fn.owner.set l.fn.bin.number (view l.words)) ≡ closed l.space.p l.initial.swept l.initial.heap (recycle_local_blocks l.space.p.blocks l.space.p l.marks l.fn.owner.set l.fn.bin.number (view l.initial.words));
}
