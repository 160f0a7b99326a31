-- `checks::check_leave` makes the tests of `leave_tests`, in order. Assumes nothing.
use mathlib.Core.Path.{refl}
use Rattle.model.specs.declared.Refusal.TheVariants.{WrongPhase, BadHolder}
use Rattle.model.specs.Calls.{leave_tests, may_leave}
use Rattle.native_ms.proofs.Tests.{test_no, test_yes, then_refused, then_passed}
use Rattle.native_ms.proofs.checks.check_leave.Goals as goal

pub returns-then-not-phase_in : goal.returns-then-not-phase_in
unfolding leave_tests may_leave
returns-then-not-phase_in c = then_refused _ (test_no WrongPhase c.phase_in.ensures c.if-not-phase_in.true) refl

pub returns-then-not-is_bound : goal.returns-then-not-is_bound
unfolding leave_tests may_leave
returns-then-not-is_bound c = then_passed _ (test_yes WrongPhase c.phase_in.ensures c.if-not-phase_in.false) refl (test_no BadHolder c.is_bound.ensures c.if-not-is_bound.true)

pub returns : goal.returns
unfolding leave_tests may_leave
returns c = then_passed _ (test_yes WrongPhase c.phase_in.ensures c.if-not-phase_in.false) refl (test_yes BadHolder c.is_bound.ensures c.if-not-is_bound.false)
