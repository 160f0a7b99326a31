-- `checks::check_shared_release` makes the tests of `shared_tests`, in order. Assumes nothing.
use Rattle.model.specs.declared.Refusal.TheVariants.{WrongPhase}
use Rattle.model.specs.Calls.{shared_tests, may_release}
use Rattle.native_ms.proofs.Tests.{either_no, either_yes, neither}
use Rattle.native_ms.proofs.checks.check_shared_release.Goals as goal

pub returns-then-not-phase_in : goal.returns-then-not-phase_in
unfolding shared_tests may_release
returns-then-not-phase_in c = either_no WrongPhase _ c.phase_in.ensures c.if-not-phase_in.true

pub returns-then-has_released : goal.returns-then-has_released
unfolding shared_tests may_release
returns-then-has_released c = either_yes WrongPhase c.phase_in.ensures c.has_released.ensures c.if-has_released.true

pub returns : goal.returns
unfolding shared_tests may_release
returns c = neither WrongPhase c.phase_in.ensures c.if-not-phase_in.false c.has_released.ensures c.if-has_released.false
