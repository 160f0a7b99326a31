use native.Mathlib.Omega.{arith}
use mathlib.Core.Path.{sym, ◌∙◌}
use Rattle.native_ms.proofs.Borders.{survey_start, survey_jump, survey_stop, survey_end}
use Rattle.native_ms.proofs.classes.bad_count.Goals as goal

pub loop-at-init : goal.loop-at-init
loop-at-init c = (omega arith, omega arith, survey_start _)

pub returns-then-here-ne1 : goal.returns-then-here-ne1
returns-then-here-ne1 c = (survey_stop _ _ _ _ _ c.survey-here.ensures c.if-here-ne1.true c.loop-at-test.true ∙ c.loop-at.invariant.2, λ z. omega (arith, c.loop-at.invariant.0))

pub loop-at-preserved : goal.loop-at-preserved
loop-at-preserved c = (omega (arith, c.survey-here.ensures.past), c.survey-here.ensures.low, sym (survey_jump _ _ _ _ _ c.survey-here.ensures c.if-here-ne1.false c.loop-at-test.true) ∙ c.loop-at.invariant.2)

pub returns : goal.returns
returns c = sym c.loop-at.invariant.2 ∙ survey_end _ _ _ c.loop-at-test.false
