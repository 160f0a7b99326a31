-- `global::release_blocks` walks as `release_from` does. The invariant: what is left from here, and n, is the whole. Assumes nothing.
use Prim.Native.Nat.{◌-◌, ◌≤◌}
use mathlib.Core.Path.{◌≡◌}
use Rattle.model.specs.Tables.{view}
use Rattle.model.specs.Global.{release_from}
use Rattle.native_ms.specs.Released.{total}
use Rattle.native_ms.proofs.Releases.{plus}
use Rattle.native_ms.proofs.global.release_blocks.Given as goal

abbrev pub invariant-loop : goal.invariant-loop
invariant-loop l = record {
  few : l.released ≤ l.counter;
  same : plus l.released (total (release_from (l.end - l.counter) l.space.p l.list.at l.link (view l.w) l.st)) ≡ total (release_from l.space.p.blocks l.space.p l.list.at l.initial.link (view l.initial.w) l.initial.st);
}
