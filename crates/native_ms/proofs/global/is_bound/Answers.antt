-- `global::is_bound` meets its contract.
use Rattle.native_ms.proofs.SoundTests.{bound_none, bound_word}
use Rattle.native_ms.proofs.SpaceCalls.{holder_low}
use Rattle.native_ms.proofs.global.is_bound.Goals as goal

pub overflow_sub-holder : goal.overflow_sub-holder
overflow_sub-holder c = holder_low _ c.is_holder.ensures c.if-is_holder.true

pub returns-then-is_holder : goal.returns-then-is_holder
returns-then-is_holder c = bound_word _ _ c.is_holder.ensures c.if-is_holder.true c.bound.ensures

pub returns-else-is_holder : goal.returns-else-is_holder
returns-else-is_holder c = bound_none _ _ c.is_holder.ensures c.if-is_holder.false
