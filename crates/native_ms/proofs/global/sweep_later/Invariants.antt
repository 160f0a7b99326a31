-- `global::sweep_later` is `sweep_later`, its events counted. The invariant: the bins passed are done and counted. Assumes nothing.
use Prim.Native.Nat.{◌*◌, ◌≤◌}
use mathlib.Core.Path.{◌≡◌}
use Rattle.model.specs.Tables.{view}
use Rattle.native_ms.specs.Released.{out, total}
use Rattle.native_ms.proofs.Releases.{later_bins}
use Rattle.native_ms.proofs.global.sweep_later.Given as goal

abbrev pub invariant-loop-bin : goal.invariant-loop-bin
invariant-loop-bin l = record {
  few : l.released ≤ 3072 * l.bin;
  same : out l.released (view l.w) l.st ≡ total (later_bins l.space.p l.bin (view l.initial.w) l.initial.st);
}
