use mathlib.Core.Path.{refl, ◌∙◌}
use native.Mathlib.Omega.{arith}
use Rattle.laws.proofs.Params.{good_bounds}
use Rattle.native_ms.proofs.Abandoned.{one_at_most, acquire_end, acquire_none, acquire_found, acquire_step}
use Rattle.native_ms.proofs.Search.{not_none}
use Rattle.native_ms.proofs.Turns.{left_some, left_next, left_none}
use Rattle.native_ms.proofs.free_list_allocator.acquire_abandoned.Goals as goal

pub returns-in_default : goal.returns-in_default
returns-in_default c = acquire_none _ _ _ _ _ _ _ _ c.in_default.ensures (left_some c.loop-test.true) refl ∙ c.loop.invariant.same

pub overflow_add-swept : goal.overflow_add-swept
overflow_add-swept c = omega (arith, c.loop.invariant.few, c.loop-test.true, c.requires.1, (good_bounds c.args.wanted.now.space.now.p c.requires.0.good).blocks_high, one_at_most _ c.from-swept.ensures)

pub returns-then-free : goal.returns-then-free
returns-then-free c = acquire_found _ _ _ _ _ _ _ (not_none c.in-Some.next.at.some) refl _ _ c.in-Some.ensures c.take_over-free.ensures c.from-swept.ensures (left_some c.loop-test.true) c.if-free.true ∙ c.loop.invariant.same

pub loop-preserved : goal.loop-preserved
loop-preserved c = record { few = omega (arith, c.loop.invariant.few, c.loop-test.true, one_at_most _ c.from-swept.ensures); same = acquire_step _ _ _ _ _ _ _ (not_none c.in-Some.next.at.some) refl _ c.in-Some.ensures c.take_over-free.ensures c.from-swept.ensures (left_next c.loop-test.true) c.if-free.false ∙ c.loop.invariant.same }

pub returns : goal.returns
returns c = acquire_end _ _ _ _ _ _ _ _ (left_none c.loop-test.false) ∙ c.loop.invariant.same
