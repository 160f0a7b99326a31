-- `free_list_allocator::free_head` meets its contract: a block that is given has a free cell.
use native.Mathlib.Omega.{arith}
use Rattle.model.specs.Tables.{view}
use Rattle.native_ms.proofs.Offsets.{words_known}
use Rattle.native_ms.proofs.ShortWay.{head_free}
use Rattle.native_ms.proofs.free_list_allocator.free_head.Goals as goal

pub first-first-requires : goal.first-first-requires
first-first-requires c = (omega (arith, words_known _ c.requires), c.args.list.low)

pub free-cell-requires : goal.free-cell-requires
free-cell-requires c = (words_known _ c.requires, c.if-blocks-number.false)

pub returns : goal.returns
returns c = (c.if-blocks-number.false, head_free c.args.space.now.p (view c.args.words.now) c.args.list.at _ c.args.space.now.good c.first-first.ensures c.if-start-base.false c.log_of-log.ensures.0 c.free-cell.ensures c.if-cell-eq0.false)
