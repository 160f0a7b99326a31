-- `allocator::shift_address` meets its contract, by its test.
use Rattle.native_ms.proofs.RaisedLaws.{shifted_none, shift_ranges, shifted_at}
use Rattle.native_ms.proofs.allocator.shift_address.Goals as goal

pub returns-then-not-may_shift : goal.returns-then-not-may_shift
returns-then-not-may_shift c = shifted_none _ _ _ c.may_shift.ensures c.if-not-may_shift.true

pub align_allocation-requires : goal.align_allocation-requires
align_allocation-requires c = shift_ranges _ _ _ c.may_shift.ensures c.if-not-may_shift.false

pub returns : goal.returns
returns c = shifted_at _ _ _ c.may_shift.ensures c.if-not-may_shift.false c.align_allocation.ensures
