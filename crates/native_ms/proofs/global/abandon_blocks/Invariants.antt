-- `global::abandon_blocks` goes through the 49 bins. The invariant: those passed are done and counted. Assumes nothing.
use Prim.Native.Nat.{◌*◌, ◌≤◌}
use mathlib.Core.Path.{◌≡◌}
use Rattle.model.specs.Tables.{view}
use Rattle.native_ms.specs.Moved.{moved, bins_move}
use Rattle.native_ms.proofs.global.abandon_blocks.Given as goal

abbrev pub invariant-loop-bin : goal.invariant-loop-bin
invariant-loop-bin l = record {
  few : l.count ≤ 3072 * l.bin;
  same : moved l.count (view l.w) ≡ bins_move l.bin l.space.p l.to.set l.from.set (view l.initial.w);
}
