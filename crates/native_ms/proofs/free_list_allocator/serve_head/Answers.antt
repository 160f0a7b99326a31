-- `free_list_allocator::serve_head` takes the cell and answers it as the machine does.
use Rattle.model.specs.Tables.{view}
use Rattle.model.specs.Answers.{alloc_reply}
use Rattle.native_ms.proofs.Ending.{head_cell, cell_at}
use Rattle.native_ms.proofs.ShortWay.{taken_low}
use Rattle.native_ms.proofs.free_list_allocator.serve_head.Goals as goal

pub align_allocation-address-requires : goal.align_allocation-address-requires
align_allocation-address-requires c = (c.args.wanted.now.shift.align_from, c.args.wanted.now.shift.align_to, taken_low c.args.wanted.now.space.now.p (view c.args.words.now) c.requires (cell_at c.args.wanted.now.space.now.p c.args.b.0 (view c.args.words.now) c.args.heap.now c.take_head-taken.ensures), c.args.wanted.now.shift.offset_low)

pub returns : goal.returns
unfolding alloc_reply
returns c = head_cell c.args.wanted.now.space.now.p c.args.b.0 c.args.wanted.now.request.align c.args.wanted.now.request.offset (view c.args.words.now) c.args.heap.now c.take_head-taken.ensures c.align_allocation-address.ensures
