-- `checks::check_bound` makes the tests of `bound_tests`, in order. Assumes nothing.
use Rattle.native_ms.proofs.Tests.{holder_range, bound_phase, bound_number, bound_not, bound_passed}
use Rattle.native_ms.proofs.checks.check_bound.Goals as goal

pub returns-then-phase-ne-RUNNING : goal.returns-then-phase-ne-RUNNING
returns-then-phase-ne-RUNNING c = bound_phase _ _ c.phase.ensures c.if-phase-ne-RUNNING.true

pub returns-then-not-is_holder : goal.returns-then-not-is_holder
returns-then-not-is_holder c = bound_number _ _ c.phase.ensures c.if-phase-ne-RUNNING.false c.is_holder.ensures c.if-not-is_holder.true

pub bound-requires : goal.bound-requires
bound-requires c = (c.requires, (holder_range _ c.is_holder.ensures c.if-not-is_holder.false).0, (holder_range _ c.is_holder.ensures c.if-not-is_holder.false).1)

pub returns-then-bound-ne1 : goal.returns-then-bound-ne1
returns-then-bound-ne1 c = bound_not _ _ c.phase.ensures c.if-phase-ne-RUNNING.false c.is_holder.ensures c.if-not-is_holder.false c.bound.ensures c.if-bound-ne1.true

pub returns : goal.returns
returns c = bound_passed _ _ c.phase.ensures c.if-phase-ne-RUNNING.false c.is_holder.ensures c.if-not-is_holder.false c.bound.ensures c.if-bound-ne1.false
