-- `allocator::min_divides` meets its contract: MIN is 4 or 8.
use Rattle.laws.proofs.Good.{good}
use Rattle.native_ms.proofs.RaisedLaws.{divides_words, divides_eight, divides_four}
use Rattle.native_ms.proofs.allocator.min_divides.Goals as goal

pub returns-then-x-eq0 : goal.returns-then-x-eq0
returns-then-x-eq0 c = divides_words _ _ (good c.args.space.now.p c.args.space.now.good).min_is c.if-x-eq0.true

pub returns-then-space-eq8 : goal.returns-then-space-eq8
returns-then-space-eq8 c = divides_eight _ _ c.if-x-eq0.false c.if-space-eq8.true

pub returns : goal.returns
returns c = divides_four _ _ (good c.args.space.now.p c.args.space.now.good).min_is c.if-space-eq8.false
