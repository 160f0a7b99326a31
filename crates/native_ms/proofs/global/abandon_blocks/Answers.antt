use native.Mathlib.Omega.{arith}
use Rattle.laws.proofs.Params.{good_bounds}
use Rattle.native_ms.proofs.MovedLaws.{over_few, over_none, over_more}
use Rattle.native_ms.proofs.global.abandon_blocks.Goals as goal

pub loop-bin-init : goal.loop-bin-init
loop-bin-init c = record { few = omega arith; same = over_none _ _ _ _ }

pub overflow_add-count : goal.overflow_add-count
overflow_add-count c = omega (arith, c.loop-bin.invariant.few, c.loop-bin-test.true, over_few _ _ _ _ _ (good_bounds c.args.space.now.p c.args.space.now.good).blocks_high c.abandon_bin-count.ensures)

pub loop-bin-preserved : goal.loop-bin-preserved
loop-bin-preserved c = record { few = omega (arith, c.loop-bin.invariant.few, over_few _ _ _ _ _ (good_bounds c.args.space.now.p c.args.space.now.good).blocks_high c.abandon_bin-count.ensures); same = over_more _ _ _ _ _ c.loop-bin.invariant.same c.abandon_bin-count.ensures }
