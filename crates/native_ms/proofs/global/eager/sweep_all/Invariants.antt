-- `eager::sweep_all` is `sweep_all`. The invariant: the blocks passed are swept and counted. Assumes nothing.
use Prim.Native.Nat.{◌≤◌}
use mathlib.Core.Path.{◌≡◌}
use Rattle.model.specs.Base.{each_below}
use Rattle.model.specs.Tables.{view}
use Rattle.model.specs.Global.{freed, sweep_block}
use Rattle.native_ms.specs.Eager.{done, swept_in}
use Rattle.native_ms.proofs.global.eager.sweep_all.Given as goal

abbrev pub invariant-loop-number : goal.invariant-loop-number
invariant-loop-number l = record {
  few : l.swept ≤ l.number;
  same : done l.swept (view l.w) l.heap ≡ swept_in l.space.p l.initial.heap (each_below l.number (sweep_block l.space.p l.m) (freed (view l.initial.w) l.st));
}
