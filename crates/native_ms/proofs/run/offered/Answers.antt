-- `offered` meets its contract.
use Rattle.model.specs.Exports.{offered_by}
use borrow.Author.Tests.{eq-eqb, ne_eqb}
use Rattle.native_ms.proofs.run.offered.Goals as goal

pub returns-then-n-eq-NO_OFFER : goal.returns-then-n-eq-NO_OFFER
unfolding offered_by
returns-then-n-eq-NO_OFFER c = rw (eq-eqb _ _ c.if-n-eq-NO_OFFER.true)

pub returns : goal.returns
unfolding offered_by
returns c = rw (ne_eqb _ _ c.if-n-eq-NO_OFFER.false)
