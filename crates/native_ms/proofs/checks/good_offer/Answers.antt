-- `checks::good_offer` tests the offer as `good_offer` does. One law for each way out.
use Rattle.native_ms.proofs.AllocCall.{offer_none, offer_out, offer_in}
use Rattle.native_ms.proofs.checks.good_offer.Goals as goal

pub returns-then-b-p : goal.returns-then-b-p
returns-then-b-p c = offer_in _ _ c.in-Some.is c.if-b-p.true c.state-state.ensures

pub returns-in-None : goal.returns-in-None
returns-in-None c = offer_none _ _ c.in-None.is

pub returns-else-b-p : goal.returns-else-b-p
returns-else-b-p c = offer_out _ _ c.in-Some.is c.if-b-p.false
