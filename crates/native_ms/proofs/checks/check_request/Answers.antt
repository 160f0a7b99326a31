-- `checks::check_request` makes the tests of `request_tests`, in order, and picks the bin. One law for each way out.
use Rattle.std.proofs.lemmas.Result.{err_from_is_err_and}
use Rattle.native_ms.proofs.AllocCall.{raised_some, raised_none, check_request, check_size, check_offer, check_bin}
use Rattle.native_ms.proofs.checks.check_request.Goals as goal

pub returns-then-not-good_request : goal.returns-then-not-good_request
returns-then-not-good_request c = λ w m. check_request _ w _ m _ _ _ _ c.good_request.ensures c.if-not-good_request.true

pub returns-then-not-good_offer : goal.returns-then-not-good_offer
returns-then-not-good_offer c = λ w m. check_offer _ w _ m _ _ _ _ c.good_request.ensures c.if-not-good_request.false c.get_maximum_aligned_size.ensures (raised_some _ _ c.ok_or.ensures.value c.in_ok-size.was) c.good_offer.ensures c.if-not-good_offer.true

pub returns-in_err-size : goal.returns-in_err-size
returns-in_err-size c = let p = err_from_is_err_and c.from_residual.result c.from_residual.ensures.1 in let n = raised_none _ _ c.ok_or.ensures.value c.in_err-size.was in rw (p.1, p.2, n.1) (λ w m. check_size _ w _ m _ _ _ _ c.good_request.ensures c.if-not-good_request.false c.get_maximum_aligned_size.ensures n.0)

pub returns : goal.returns
returns c = λ w m. check_bin _ w _ m _ _ _ _ c.good_request.ensures c.if-not-good_request.false c.get_maximum_aligned_size.ensures (raised_some _ _ c.ok_or.ensures.value c.in_ok-size.was) c.good_offer.ensures c.if-not-good_offer.false c.bin_of.ensures
