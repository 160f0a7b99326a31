use native.Mathlib.Omega.{arith}
use Rattle.std.proofs.Common.{◌≡◌, get_or, subst}
use Rattle.std.proofs.lemmas.Grind.{common_steps}
use Rattle.model.specs.declared.Row.{Row}
use Rattle.model.specs.Base.{flag}
use Rattle.model.specs.SizeClasses.{no_row}
use Rattle.laws.proofs.Below.{sum_up}
use Rattle.laws.proofs.Params.{good_bounds}
use Rattle.native_ms.specs.Borders.{Level}
use Rattle.native_ms.proofs.Borders.{row_given, level_step, surveyed}
use Rattle.native_ms.proofs.classes.survey.Goals as goal

pub loop-row-preserved : goal.loop-row-preserved
unfolding flag
loop-row-preserved c =
    let p = c.args.space.now.p in
    let k = c.loop-row in
    let this : get_or c.given-rows.result.now k.row-index no_row ≡ get_or p.rows k.row-index no_row =
    row_given p.rows p.count c.given-rows.ensures.rows c.given-rows.ensures.length k.row-index (omega (arith, c.loop-row-test.true, c.given-rows.ensures.length)) in
    record {
      few = grind (arith, common_steps);
      rows = grind (arith, common_steps, sum_up);
      past = c.border-next.ensures.past;
      low = omega (arith, c.border-next.ensures.low);
      level = level_step p.rows c.args.at k.row-index k.next c.border-next.result (subst (λ (r : Row). Level r c.args.at c.border-next.result) this c.border-next.ensures.level) c.border-next.ensures.low k.invariant.level;
    }

pub returns : goal.returns
returns c =
    let k = c.loop-row in
    let few = c.given-rows.ensures.length in
    let b = good_bounds c.args.space.now.p c.args.space.now.good in
    surveyed _ _ _ _ _ _ (omega (arith, k.auto.row-index-end)) (omega (arith, c.loop-row-test.false, b.rows_high)) k.invariant.rows k.invariant.past k.invariant.low k.invariant.level
