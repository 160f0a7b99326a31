-- `allocator::align_allocation` meets its contract: nothing wraps in the ranges that alloc's checks give.
use Rattle.native_ms.proofs.RaisedLaws.{rest_within, shift_none, shift_up}
use Rattle.native_ms.proofs.allocator.align_allocation.Goals as goal

pub returns-then-rest-eq0 : goal.returns-then-rest-eq0
returns-then-rest-eq0 c = shift_none _ _ _ c.requires.0 c.rest_of-rest.ensures c.if-rest-eq0.true

pub overflow_sub-result : goal.overflow_sub-result
overflow_sub-result c = rest_within _ _ _ c.requires.0 c.rest_of-rest.ensures

pub returns : goal.returns
returns c = shift_up _ _ _ c.requires.0 c.rest_of-rest.ensures c.if-rest-eq0.false
