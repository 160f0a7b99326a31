use mathlib.Core.Path.{◌∙◌}
use native.Mathlib.Omega.{arith}
use Rattle.laws.proofs.Params.{good_bounds}
use Rattle.native_ms.proofs.Releases.{from_end, from_stop, from_start, from_step, from_at, attempt_few}
use Rattle.native_ms.proofs.Turns.{left_all, left_next, left_none}
use Rattle.native_ms.proofs.global.release_blocks.Goals as goal

pub loop-init : goal.loop-init
loop-init c = record { few = omega arith; same = rw left_all (from_start _ _ _ _ _ _) }

pub returns-then-link-eq0 : goal.returns-then-link-eq0
returns-then-link-eq0 c = from_stop _ _ _ _ _ _ _ c.if-link-eq0.true ∙ c.loop.invariant.same ∙ from_at _ _ _ _ c.first-link.ensures

pub overflow_add-released : goal.overflow_add-released
overflow_add-released c = omega (arith, c.loop.invariant.few, c.loop-test.true, (good_bounds c.args.space.now.p c.args.space.now.good).blocks_high, attempt_few _ _ _ _ _ c.attempt_release-released.ensures)

pub loop-preserved : goal.loop-preserved
loop-preserved c = record { few = omega (arith, c.loop.invariant.few, c.loop-test.true, attempt_few _ _ _ _ _ c.attempt_release-released.ensures); same = from_step _ _ _ _ _ _ (left_next c.loop-test.true) c.if-link-eq0.false c.block_at-b.ensures c.next-link.ensures c.attempt_release-released.ensures ∙ c.loop.invariant.same }

pub returns : goal.returns
returns c = from_end _ _ _ _ _ _ _ (left_none c.loop-test.false) ∙ c.loop.invariant.same ∙ from_at _ _ _ _ c.first-link.ensures
