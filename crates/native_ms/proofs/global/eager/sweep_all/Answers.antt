use native.Mathlib.Omega.{arith}
use Rattle.laws.proofs.Params.{good_bounds}
use Rattle.native_ms.proofs.EagerLaws.{all_none, block_few, all_more, all_end}
use Rattle.native_ms.proofs.global.eager.sweep_all.Goals as goal

pub loop-number-init : goal.loop-number-init
loop-number-init c = record { few = omega arith; same = all_none _ _ _ _ _ }

pub overflow_add-swept : goal.overflow_add-swept
overflow_add-swept c = omega (arith, c.loop-number.auto.number-end, c.loop-number.invariant.few, (good_bounds c.args.space.now.p c.requires.good).blocks_high, block_few _ _ _ _ _ _ c.sweep_block-swept.ensures)

pub loop-number-preserved : goal.loop-number-preserved
loop-number-preserved c = record { few = omega (arith, c.loop-number.invariant.few, block_few _ _ _ _ _ _ c.sweep_block-swept.ensures); same = all_more _ _ _ _ _ _ c.loop-number.invariant.same c.sweep_block-swept.ensures }

pub returns : goal.returns
returns c = all_end _ _ _ _ _ _ c.loop-number.auto.number-end c.loop-number-test.false c.loop-number.invariant.same
