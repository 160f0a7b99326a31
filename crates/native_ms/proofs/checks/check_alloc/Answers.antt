-- `checks::check_alloc` makes the tests of an alloc: those of the holder, and those of the request. Assumes nothing.
use Rattle.std.proofs.lemmas.Result.{err_from_is_err_and}
use Rattle.model.specs.Calls.{call_tests}
use Rattle.native_ms.proofs.AllocCall.{bin_refused, bin_passed}
use Rattle.native_ms.proofs.checks.check_alloc.Goals as goal

pub returns-in_err-check_bound : goal.returns-in_err-check_bound
unfolding call_tests
returns-in_err-check_bound c = let p = err_from_is_err_and c.from_residual.result c.from_residual.ensures.1 in rw (p.1, p.2) (λ m. bin_refused _ _ c.check_bound.ensures c.in_err-check_bound.was)

pub returns : goal.returns
unfolding call_tests
returns c = λ m. bin_passed _ _ c.check_bound.ensures c.in_ok-check_bound.was (c.check_request.ensures _ m)
