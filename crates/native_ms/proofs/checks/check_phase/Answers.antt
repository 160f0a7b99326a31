-- `checks::check_phase` is `phase_test`. Assumes nothing.
use Rattle.native_ms.proofs.Tests.{phase_other, phase_this}
use Rattle.native_ms.proofs.checks.check_phase.Goals as goal

pub returns-then-phase : goal.returns-then-phase
returns-then-phase c = phase_this _ _ c.phase.ensures c.if-phase.true

pub returns : goal.returns
returns c = phase_other _ _ c.phase.ensures c.if-phase.false
