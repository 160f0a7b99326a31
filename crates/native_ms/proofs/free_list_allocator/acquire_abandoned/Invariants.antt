-- `free_list_allocator::acquire_abandoned` takes blocks over as `acquire_abandoned` does. The invariant: what remains from here, after
-- n sweeps, is the whole, and each turn swept at most one.
use Prim.Native.Nat.{◌+◌, ◌-◌, ◌≤◌}
use mathlib.Core.Path.{◌≡◌}
use Rattle.model.specs.Tables.{view}
use Rattle.model.specs.FreeListAllocator.{acquire_abandoned}
use Rattle.native_ms.specs.Closing.{closed}
use Rattle.native_ms.proofs.free_list_allocator.acquire_abandoned.Given as goal

abbrev pub invariant-loop : goal.invariant-loop
invariant-loop l = record {
  few : l.swept ≤ l.initial.swept + l.counter;
  same : closed l.wanted.space.now.p l.swept l.heap (acquire_abandoned (l.end - l.counter) l.wanted.space.now.p l.marks l.wanted.holder.number l.wanted.bin.number (view l.words)) ≡ closed l.wanted.space.now.p l.initial.swept l.initial.heap (acquire_abandoned l.wanted.space.now.p.blocks l.wanted.space.now.p l.marks l.wanted.holder.number l.wanted.bin.number (view l.initial.words));
}
