-- `parse` meets its contract: by the first byte, and then as the library reads it. Leans on the laws of numbers.
use mathlib.Core.Path.{◌∙◌}
use native.Mathlib.Omega.{arith}
use Rattle.trace.proofs.NumberLaws.{number_blank, number_plus, number_led, number_none, number_parsed}
use Rattle.trace.proofs.numbers.parse.Goals as goal

pub returns-in_err-first : goal.returns-in_err-first
returns-in_err-first c = c.from_residual.ensures ∙ number_blank _ (omega (arith, c.in_err-first.ensures.item.3))

pub returns-then-first-eq43 : goal.returns-then-first-eq43
returns-then-first-eq43 c =
    let item = c.in_ok-first.ensures.item in number_plus _ item.3.0 (item.3.1 0) c.if-first-eq43.true

pub returns-then-s-ne1 : goal.returns-then-s-ne1
returns-then-s-ne1 c =
    let item = c.in_ok-first.ensures.item in number_led _ item.3.0 (item.3.1 0) c.if-first-eq48.true c.if-s-ne1.true

pub returns-in_default : goal.returns-in_default
returns-in_default c =
    let item = c.in_ok-first.ensures.item in number_none _ item.3.0 (item.3.1 0) c.else-first-eq48.either c.in_default.ensures.cases.0

pub returns : goal.returns
returns c =
    let item = c.in_ok-first.ensures.item in
    number_parsed _ item.3.0 (item.3.1 0) c.else-first-eq48.either c.parse.result c.if-first-eq43.false c.in-Ok.ensures.cases.0 c.parse.ensures.value.0 c.ok.ensures.value
