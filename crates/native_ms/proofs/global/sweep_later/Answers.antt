use native.Mathlib.Omega.{arith}
use Rattle.laws.proofs.Params.{good_bounds}
use Rattle.native_ms.proofs.Releases.{later_none, later_more, later_end, later_few}
use Rattle.native_ms.proofs.global.sweep_later.Goals as goal

pub loop-bin-init : goal.loop-bin-init
loop-bin-init c = record { few = omega arith; same = later_none _ _ _ }

pub overflow_add-released : goal.overflow_add-released
overflow_add-released c = omega (arith, c.loop-bin.invariant.few, c.loop-bin-test.true, later_few _ _ _ _ (good_bounds c.args.space.now.p c.args.space.now.good).blocks_high c.sweep_later_bin-released.ensures)

pub loop-bin-preserved : goal.loop-bin-preserved
loop-bin-preserved c = record { few = omega (arith, c.loop-bin.invariant.few, later_few _ _ _ _ (good_bounds c.args.space.now.p c.args.space.now.good).blocks_high c.sweep_later_bin-released.ensures); same = later_more _ _ _ _ c.loop-bin.invariant.same c.sweep_later_bin-released.ensures }

pub returns : goal.returns
returns c = later_end _ _ _ _ c.loop-bin.auto.bin-end c.loop-bin-test.false c.loop-bin.invariant.same
