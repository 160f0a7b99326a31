-- `checks::check_bind` makes the tests of `bind_tests`, in order. Assumes nothing.
use Rattle.std.proofs.lemmas.Result.{err_from_is_err_and}
use Rattle.model.specs.declared.Refusal.TheVariants.{BadHolder}
use Rattle.model.specs.Calls.{bind_tests}
use Rattle.native_ms.proofs.Tests.{either_no, either_yes, neither, then_refused, then_passed}
use Rattle.native_ms.proofs.checks.check_bind.Goals as goal

pub returns-then-not-is_holder : goal.returns-then-not-is_holder
unfolding bind_tests
returns-then-not-is_holder c = then_passed _ c.check_phase.ensures c.in_ok-check_phase.was (either_no BadHolder _ c.is_holder.ensures c.if-not-is_holder.true)

pub returns-then-is_bound : goal.returns-then-is_bound
unfolding bind_tests
returns-then-is_bound c = then_passed _ c.check_phase.ensures c.in_ok-check_phase.was (either_yes BadHolder c.is_holder.ensures c.is_bound.ensures c.if-is_bound.true)

pub returns-in_err-check_phase : goal.returns-in_err-check_phase
unfolding bind_tests
returns-in_err-check_phase c = let p = err_from_is_err_and c.from_residual.result c.from_residual.ensures.1 in rw (p.1, p.2) (then_refused _ c.check_phase.ensures c.in_err-check_phase.was)

pub returns : goal.returns
unfolding bind_tests
returns c = then_passed _ c.check_phase.ensures c.in_ok-check_phase.was (neither BadHolder c.is_holder.ensures c.if-not-is_holder.false c.is_bound.ensures c.if-is_bound.false)
