-- `checks::check_release` makes the tests of `release_tests`, in order. Assumes nothing.
use mathlib.Core.Path.{refl}
use Rattle.model.specs.declared.Refusal.TheVariants.{WrongPhase, BadHolder}
use Rattle.model.specs.Calls.{release_tests, may_release}
use Rattle.native_ms.proofs.Tests.{test_no, test_yes, either_no, either_yes, neither, then_refused, then_passed}
use Rattle.native_ms.proofs.checks.check_release.Goals as goal

pub returns-then-not-phase_in : goal.returns-then-not-phase_in
unfolding release_tests may_release
returns-then-not-phase_in c = then_refused _ (either_no WrongPhase _ c.phase_in.ensures c.if-not-phase_in.true) refl

pub returns-then-released_already : goal.returns-then-released_already
unfolding release_tests may_release
returns-then-released_already c = then_refused _ (either_yes WrongPhase c.phase_in.ensures c.released_already.ensures c.if-released_already.true) refl

pub returns-then-not-is_bound : goal.returns-then-not-is_bound
unfolding release_tests may_release
returns-then-not-is_bound c = then_passed _ (neither WrongPhase c.phase_in.ensures c.if-not-phase_in.false c.released_already.ensures c.if-released_already.false) refl (test_no BadHolder c.is_bound.ensures c.if-not-is_bound.true)

pub returns : goal.returns
unfolding release_tests may_release
returns c = then_passed _ (neither WrongPhase c.phase_in.ensures c.if-not-phase_in.false c.released_already.ensures c.if-released_already.false) refl (test_yes BadHolder c.is_bound.ensures c.if-not-is_bound.false)
