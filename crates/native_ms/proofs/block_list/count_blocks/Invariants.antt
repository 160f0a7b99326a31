-- `block_list::count_blocks` walks as `ends` and `walk` do. The invariant: what is counted and what remains is the whole.
use Prim.Native.Nat.{◌-◌}
use mathlib.Core.Path.{◌≡◌}
use Rattle.model.specs.Tables.{view}
use Rattle.native_ms.specs.Counted.{counted_from}
use Rattle.native_ms.proofs.block_list.count_blocks.Given as goal

abbrev pub invariant-loop-passed : goal.invariant-loop-passed
invariant-loop-passed l = counted_from (l.passed-end - l.passed) l.space.p (view l.w).next l.passed l.link ≡ counted_from l.space.p.blocks l.space.p (view l.w).next 0 l.initial.link
