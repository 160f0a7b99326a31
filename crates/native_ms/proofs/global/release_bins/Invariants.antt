-- `global::release_bins` goes through the 49 bins. The invariant: those passed are done and counted. Assumes nothing.
use Prim.Native.Nat.{◌*◌, ◌≤◌}
use mathlib.Core.Path.{◌≡◌}
use Rattle.model.specs.Tables.{view}
use Rattle.native_ms.specs.Released.{out, total, released_bins}
use Rattle.native_ms.proofs.global.release_bins.Given as goal

abbrev pub invariant-loop-bin : goal.invariant-loop-bin
invariant-loop-bin l = record {
  few : l.released ≤ 3072 * l.bin;
  same : out l.released (view l.w) l.st ≡ total (released_bins l.space.p l.owner.set l.bin (view l.initial.w) l.initial.st);
}
