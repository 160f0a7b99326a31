use Rattle.std.proofs.Common.{◌∙◌, ◌-◌}
use native.Mathlib.Omega.{arith}
use Rattle.laws.proofs.Params.{good_bounds}
use Rattle.native_ms.proofs.CountedLaws.{counted_few, starts_in, bins_end, bins_bad, bins_step}
use Rattle.native_ms.proofs.block_list.count_bins.Goals as goal

pub returns-in_err-met : goal.returns-in_err-met
returns-in_err-met g c =
    c.from_residual.ensures
    ∙ bins_bad _ _ _ _ (c.loop-bin.bin - 1) (omega (arith, c.loop-bin-test.true, c.loop-bin.invariant.low)) (starts_in g.L.Starts.first_of c.args.lists.now (c.loop-bin.bin - 1) (omega (arith, c.requires, c.loop-bin.invariant.high, c.loop-bin-test.true)) c.index-lists-bin.is c.first-first.ensures) c.count_blocks.ensures c.in_err-met.was
    ∙ c.loop-bin.invariant.same

pub overflow_add-met : goal.overflow_add-met
overflow_add-met g c = record { fits = omega (arith, c.loop-bin.invariant.few, c.loop-bin-test.true, counted_few _ _ _ _ c.count_blocks.ensures c.in_ok-met.was, (good_bounds c.args.space.now.p c.args.space.now.good).blocks_high) }

pub loop-bin-preserved : goal.loop-bin-preserved
loop-bin-preserved g c =
    record {
      low = omega (arith, c.loop-bin-test.true);
      high = omega (arith, c.loop-bin.invariant.high);
      few = omega (arith, c.loop-bin.invariant.few, c.loop-bin-test.true, counted_few _ _ _ _ c.count_blocks.ensures c.in_ok-met.was, (good_bounds c.args.space.now.p c.args.space.now.good).blocks_high);
      same = bins_step _ _ _ _ (c.loop-bin.bin - 1) (omega (arith, c.loop-bin-test.true, c.loop-bin.invariant.low)) (starts_in g.L.Starts.first_of c.args.lists.now (c.loop-bin.bin - 1) (omega (arith, c.requires, c.loop-bin.invariant.high, c.loop-bin-test.true)) c.index-lists-bin.is c.first-first.ensures) c.count_blocks.ensures c.in_ok-met.was ∙ c.loop-bin.invariant.same;
    }

pub returns : goal.returns
returns g c = bins_end _ _ _ _ _ (omega (arith, c.loop-bin-test.false)) ∙ c.loop-bin.invariant.same
