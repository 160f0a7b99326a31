-- `chain::link_from` meets its contract: the cells whose places lie in the heap, then those at its end. Assumes nothing.
use native.Mathlib.Omega.{arith}
use Rattle.native_ms.proofs.Offsets.{few_cells}
use Rattle.native_ms.proofs.Reaches.{reach_low, rest_places, from_inside, from_part, by_places, inner_few, joined}
use Rattle.native_ms.proofs.block.chain.link_from.Goals as goal

pub overflow_add-first : goal.overflow_add-first
overflow_add-first c = omega (arith, (reach_low _ c.requires.0).ends)

pub overflow_add-at-2 : goal.overflow_add-at-2
overflow_add-at-2 c = omega (arith, (reach_low _ c.requires.0).cells)

pub returns-then-at-span : goal.returns-then-at-span
returns-then-at-span c = c.link_inner.ensures _ (by_places _ c.requires.0 c.requires.1 _ _ (from_inside _ c.requires.0 c.requires.1 c.if-at-span.true))

pub overflow_add-at-3 : goal.overflow_add-at-3
overflow_add-at-3 c = omega (arith, (reach_low _ c.requires.0).ends)

pub link_edge-rest-requires : goal.link_edge-rest-requires
link_edge-rest-requires c = rw (c.behind.ensures.0, c.behind.ensures.1, c.behind.ensures.2) (rest_places _ c.requires.0 _ (inner_few _ c.requires.0 c.requires.1 c.if-at-span.false) c.link_inner-linked.auto.heap, c.requires.0.high)

pub overflow_add-count : goal.overflow_add-count
overflow_add-count c = let inner = (c.link_inner-linked.ensures _ (by_places _ c.requires.0 c.requires.1 _ _ (from_part _ c.requires.0 c.requires.1 c.if-at-span.false c.if-end-at.false))) in omega (arith, few_cells _ c.requires.0.cells, inner.few, c.link_edge-rest.ensures.few, c.behind.ensures.2, (inner_few _ c.requires.0 c.requires.1 c.if-at-span.false))

pub returns : goal.returns
returns c = joined _ _ _ _ _ _ (inner_few _ c.requires.0 c.requires.1 c.if-at-span.false) (c.link_inner-linked.ensures _ (by_places _ c.requires.0 c.requires.1 _ _ (from_part _ c.requires.0 c.requires.1 c.if-at-span.false c.if-end-at.false))) (rw (c.behind.ensures.0, c.behind.ensures.1, c.behind.ensures.2) at c.link_edge-rest.ensures)
