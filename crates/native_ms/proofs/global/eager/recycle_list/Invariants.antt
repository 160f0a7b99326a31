-- `eager::recycle_list` walks as `recycle_from` does. The invariant: what is left from here is the whole. Assumes nothing.
use Prim.Native.Nat.{◌-◌}
use mathlib.Core.Path.{◌≡◌}
use Rattle.model.specs.Tables.{view}
use Rattle.model.specs.Global.{recycle_from}
use Rattle.native_ms.proofs.global.eager.recycle_list.Given as goal

abbrev pub invariant-loop : goal.invariant-loop
invariant-loop l = recycle_from (l.end - l.counter) l.space.p l.own.available.at l.own.consumed.at l.link (view l.w) ≡ recycle_from l.space.p.blocks l.space.p l.own.available.at l.own.consumed.at l.initial.link (view l.initial.w)
