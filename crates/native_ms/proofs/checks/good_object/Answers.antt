-- `checks::good_object` is `good_object`, of any words and marks. Assumes nothing.
use native.Mathlib.Omega.{arith}
use mathlib.Core.Path.{sym, ◌∙◌}
use Rattle.laws.proofs.Params.{good_bounds, in_heap_low, in_heap_high}
use Rattle.native_ms.proofs.SpaceCalls.{object_out, object_odd, object_past, object_none, object_at}
use Rattle.native_ms.proofs.checks.good_object.Goals as goal

pub returns-then-not-inside : goal.returns-then-not-inside
returns-then-not-inside c = λ w m. object_out _ _ _ _ c.in_heap-inside.ensures w m c.if-not-inside.true

pub returns-then-place-ne0 : goal.returns-then-place-ne0
returns-then-place-ne0 c = λ w m. object_odd _ _ _ _ c.in_heap-inside.ensures w m c.if-not-inside.false c.if-place-ne0.true

pub returns-then-space-i : goal.returns-then-space-i
returns-then-space-i c = λ w m. object_past _ _ _ _ c.in_heap-inside.ensures w m c.if-not-inside.false c.if-place-ne0.false c.if-space-i.true

pub returns-then-s-eq-UNALLOCATED : goal.returns-then-s-eq-UNALLOCATED
returns-then-s-eq-UNALLOCATED c = λ w m. object_none _ _ _ _ c.in_heap-inside.ensures w m c.if-not-inside.false c.if-place-ne0.false c.if-space-i.false c.state-s.ensures c.if-s-eq-UNALLOCATED.true

pub minus_lower-a-requires : goal.minus_lower-a-requires
minus_lower-a-requires c = let b = good_bounds c.args.space.now.p c.args.space.now.good in let y = sym c.in_heap-inside.ensures ∙ c.if-not-inside.false in (omega (arith, b.base_low, in_heap_low c.args.space.now.p _ y), omega (arith, b.end_high, in_heap_high c.args.space.now.p _ y))

pub returns : goal.returns
returns c = λ w m. object_at _ _ _ _ c.in_heap-inside.ensures w m c.if-not-inside.false c.if-place-ne0.false c.if-space-i.false c.state-s.ensures c.if-s-eq-UNALLOCATED.false c.minus_lower-a.ensures c.in_block.ensures
