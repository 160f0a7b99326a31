-- `checks::check_mark` makes the tests of `mark_tests`, in order. Assumes nothing.
use Rattle.std.proofs.lemmas.Result.{err_from_is_err_and}
use Rattle.model.specs.declared.Refusal.TheVariants.{BadObject}
use Rattle.model.specs.Calls.{mark_tests}
use Rattle.native_ms.proofs.Tests.{test_no, test_yes, then_refused, then_passed}
use Rattle.native_ms.proofs.checks.check_mark.Goals as goal

pub returns-then-not-good_object : goal.returns-then-not-good_object
unfolding mark_tests
returns-then-not-good_object c = λ m. then_passed _ c.check_phase.ensures c.in_ok-check_phase.was (test_no BadObject (c.good_object.ensures _ m) c.if-not-good_object.true)

pub returns-in_err-check_phase : goal.returns-in_err-check_phase
unfolding mark_tests
returns-in_err-check_phase c = let p = err_from_is_err_and c.from_residual.result c.from_residual.ensures.1 in rw (p.1, p.2) (λ m. then_refused _ c.check_phase.ensures c.in_err-check_phase.was)

pub returns : goal.returns
unfolding mark_tests
returns c = λ m. then_passed _ c.check_phase.ensures c.in_ok-check_phase.was (test_yes BadObject (c.good_object.ensures _ m) c.if-not-good_object.false)
