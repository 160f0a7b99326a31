-- `allocator::good_request` meets its contract: the tests stand in the definition's order.
use Rattle.laws.proofs.Requests.{request_size, request_offset, request_far, request_align}
use Rattle.native_ms.proofs.RaisedLaws.{divides_no, divides_yes}
use Rattle.native_ms.proofs.allocator.good_request.Goals as goal

pub returns-then-not-min_divides : goal.returns-then-not-min_divides
returns-then-not-min_divides c = request_size c.args.space.now.p c.args.size c.args.align c.args.offset (divides_no c.min_divides.ensures c.if-not-min_divides.true)

pub returns-then-not-min_divides-2 : goal.returns-then-not-min_divides-2
returns-then-not-min_divides-2 c = request_offset c.args.space.now.p c.args.size c.args.align c.args.offset (divides_yes c.min_divides.ensures c.if-not-min_divides.false) (divides_no c.min_divides-2.ensures c.if-not-min_divides-2.true)

pub returns-then-offset-gt-MAX_OFFSET : goal.returns-then-offset-gt-MAX_OFFSET
returns-then-offset-gt-MAX_OFFSET c = request_far c.args.space.now.p c.args.size c.args.align c.args.offset (divides_yes c.min_divides.ensures c.if-not-min_divides.false) (divides_yes c.min_divides-2.ensures c.if-not-min_divides-2.false) c.if-offset-gt-MAX_OFFSET.true

pub returns : goal.returns
returns c = request_align c.args.space.now.p c.args.size c.args.align c.args.offset (divides_yes c.min_divides.ensures c.if-not-min_divides.false) (divides_yes c.min_divides-2.ensures c.if-not-min_divides-2.false) c.if-offset-gt-MAX_OFFSET.false c.power_between.ensures
