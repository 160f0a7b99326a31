-- `chain::link_brute` meets its contract: the cells with a place below the heap, then the others. Assumes nothing.
use Prim.Native.Nat.{◌+◌, ◌-◌, ◌/◌}
use native.Mathlib.Omega.{arith}
use Rattle.native_ms.proofs.Reaches.{reach_low, rest_reach, joined, below_past}
use Rattle.native_ms.proofs.block.chain.link_brute.Goals as goal

pub overflow_add-at : goal.overflow_add-at
overflow_add-at c = omega (arith, (reach_low _ (c.requires)).ends)

pub link_from-rest-requires : goal.link_from-rest-requires
link_from-rest-requires c = rw (c.behind.ensures.0, c.behind.ensures.1, c.behind.ensures.2) (rest_reach _ c.requires ((64 - (c.args.span.at + c.args.up) + (c.args.span.size - 1)) / c.args.span.size) (omega (arith, c.if-span-below.false)) c.link_edge-edge.auto.heap, omega (arith, below_past (c.args.span.at + c.args.up) c.args.span.size (reach_low _ (c.requires)).word (omega (arith, c.if-at-up-ge64.false))))

pub returns : goal.returns
returns c = joined _ _ _ _ _ _ (omega (arith, c.if-span-below.false)) c.link_edge-edge.ensures (rw (c.behind.ensures.0, c.behind.ensures.1, c.behind.ensures.2) at c.link_from-rest.ensures)
