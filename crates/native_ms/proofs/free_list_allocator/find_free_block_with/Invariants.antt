-- `free_list_allocator::find_free_block_with` skims as `find_free_block_with` does. The invariant: what remains from here is the whole.
use Prim.Native.Nat.{◌-◌}
use mathlib.Core.Path.{◌≡◌}
use Rattle.model.specs.Tables.{view}
use Rattle.model.specs.FreeListAllocator.{find_free_block_with}
use Rattle.native_ms.specs.Closing.{skimmed}
use Rattle.native_ms.proofs.free_list_allocator.find_free_block_with.Given as goal

abbrev pub invariant-loop : goal.invariant-loop
invariant-loop l = skimmed (find_free_block_with (l.end - l.counter) l.space.p l.own.available.at l.own.consumed.at (view l.words)) ≡ skimmed (find_free_block_with l.space.p.blocks l.space.p l.own.available.at l.own.consumed.at (view l.initial.words))
