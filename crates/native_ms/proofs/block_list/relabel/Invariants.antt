-- `block_list::relabel` walks as `relabel` does. The invariant: what remains to be done from here is the whole.
use Prim.Native.Nat.{◌-◌}
use mathlib.Core.Path.{◌≡◌}
use Rattle.model.specs.Tables.{view}
use Rattle.model.specs.BlockList.{relabel}
use Rattle.native_ms.proofs.block_list.relabel.Given as goal

abbrev pub invariant-loop : goal.invariant-loop
invariant-loop l = relabel (l.end - l.counter) l.space.p l.fn.list.at l.link (view l.w) ≡ relabel l.space.p.blocks l.space.p l.fn.list.at l.initial.link (view l.initial.w)
