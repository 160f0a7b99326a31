use mathlib.Core.Path.{refl, ◌∙◌}
use native.Mathlib.Omega.{arith}
use Rattle.native_ms.proofs.Search.{not_none, recycle_end, recycle_none, recycle_found, recycle_step}
use Rattle.native_ms.proofs.Turns.{left_some, left_next, left_none}
use Rattle.native_ms.proofs.free_list_allocator.recycle_local_blocks.Goals as goal

pub returns-in_default : goal.returns-in_default
returns-in_default c = record { same = recycle_none _ _ _ _ _ _ _ c.lists-own.ensures.unswept c.in_default.ensures _ (left_some c.loop-test.true) refl ∙ c.loop.invariant.same; few = omega (arith, c.loop.invariant.count, c.loop-test.true) }

pub returns-then-free : goal.returns-then-free
returns-then-free c = record { same = recycle_found _ _ _ _ _ _ _ c.lists-own.ensures.unswept c.in-Some.ensures (not_none c.in-Some.start.some) c.block_at-b.ensures c.sweep.ensures c.lists-own.ensures.available c.lists-own.ensures.consumed c.file_block-free.ensures _ (left_some c.loop-test.true) c.if-free.true ∙ c.loop.invariant.same; few = omega (arith, c.loop.invariant.count, c.loop-test.true) }

pub loop-preserved : goal.loop-preserved
loop-preserved c = record { count = omega (arith, c.loop.invariant.count, c.loop-test.true); same = recycle_step _ _ _ _ _ _ _ c.lists-own.ensures.unswept c.in-Some.ensures (not_none c.in-Some.start.some) c.block_at-b.ensures c.sweep.ensures c.lists-own.ensures.available c.lists-own.ensures.consumed c.file_block-free.ensures (left_next c.loop-test.true) c.if-free.false ∙ c.loop.invariant.same }

pub returns : goal.returns
returns c = record { same = recycle_end _ _ _ _ _ _ _ _ (left_none c.loop-test.false) ∙ c.loop.invariant.same; few = omega (arith, c.loop.invariant.count) }
