-- `block_list::count_from` walks as `walk` does. The invariant: what is counted and what remains is the whole.
use Prim.Native.Nat.{◌+◌, ◌-◌}
use mathlib.Core.Path.{◌≡◌}
use lib.ListN.{length}
use Rattle.model.specs.Tables.{view}
use Rattle.model.specs.BlockList.{walk}
use Rattle.native_ms.proofs.block_list.count_from.Given as goal

abbrev pub invariant-loop-met : goal.invariant-loop-met
invariant-loop-met l = l.met + length (walk (l.met-end - l.met) l.space.p (view l.w).next l.link) ≡ length (walk l.space.p.blocks l.space.p (view l.w).next l.initial.link)
