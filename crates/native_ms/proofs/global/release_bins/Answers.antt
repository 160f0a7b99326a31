use native.Mathlib.Omega.{arith}
use Rattle.laws.proofs.Params.{good_bounds}
use Rattle.native_ms.proofs.Releases.{bins_none, bins_more, bin_few}
use Rattle.native_ms.proofs.global.release_bins.Goals as goal

pub loop-bin-init : goal.loop-bin-init
loop-bin-init c = record { few = omega arith; same = bins_none _ _ _ _ }

pub overflow_add-released : goal.overflow_add-released
overflow_add-released c = omega (arith, c.loop-bin.invariant.few, c.loop-bin-test.true, bin_few _ _ _ _ _ (good_bounds c.args.space.now.p c.args.space.now.good).blocks_high c.release_bin-released.ensures)

pub loop-bin-preserved : goal.loop-bin-preserved
loop-bin-preserved c = record { few = omega (arith, c.loop-bin.invariant.few, bin_few _ _ _ _ _ (good_bounds c.args.space.now.p c.args.space.now.good).blocks_high c.release_bin-released.ensures); same = bins_more _ _ _ _ _ c.loop-bin.invariant.same c.release_bin-released.ensures }
