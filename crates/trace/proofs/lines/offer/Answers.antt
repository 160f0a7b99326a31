-- `offer` meets its contract. Leans on the laws of offers.
use mathlib.Core.Path.{◌∙◌}
use Rattle.trace.proofs.LineLaws.{word_tested, offer_dash, offer_block, offer_bad}
use Rattle.trace.proofs.lines.offer.Goals as goal

pub returns-then-eq : goal.returns-then-eq
returns-then-eq c = offer_dash _ (word_tested 45 _ c.letter.ensures c.eq.ensures c.if-eq.true)

pub returns-in_err-block : goal.returns-in_err-block
returns-in_err-block c = c.from_residual.ensures ∙ offer_bad _ _ (word_tested 45 _ c.letter.ensures c.eq.ensures c.if-eq.false) c.parse.ensures c.in_err-block.was

pub returns : goal.returns
returns c = offer_block _ _ _ (word_tested 45 _ c.letter.ensures c.eq.ensures c.if-eq.false) c.parse.ensures c.in_ok-block.was
