-- `free_list_allocator::serve_searched` ends as the machine does once its search is made: no block, or a cell. One law for each.
-- The cell is low enough to be shifted, since free heads stay low in a search.
use mathlib.Core.Path.{refl}
use Rattle.native_ms.proofs.Search.{not_none}
use Rattle.model.specs.Answers.{alloc_reply}
use Rattle.native_ms.proofs.Ending.{serve_none, serve_cell, cell_low}
use Rattle.model.specs.FreeListAllocator.{find_block}
use Rattle.model.specs.Tables.{tables_of, view}
use Rattle.native_ms.proofs.free_list_allocator.serve_searched.Goals as goal

pub returns-in_default : goal.returns-in_default
unfolding alloc_reply
returns-in_default c = serve_none c.args.wanted.now.space.now.p c.args.wanted.now.request.align c.args.wanted.now.request.offset c.args.heap.now (find_block c.args.wanted.now.space.now.p c.args.wanted.now.holder.number c.args.wanted.now.bin.number c.args.wanted.now.request.offer (tables_of (view c.args.words.now) c.args.states.now c.args.marks.now)) (rw c.in_default.is at c.find_block-search.ensures) refl

pub align_allocation-address-requires : goal.align_allocation-address-requires
align_allocation-address-requires c = (c.args.wanted.now.shift.align_from, c.args.wanted.now.shift.align_to, cell_low c.args.wanted.now.space.now.p c.args.wanted.now.holder.number c.args.wanted.now.bin.number c.args.wanted.now.request.offer (view c.args.words.now) c.args.states.now c.args.heap.now _ c.args.wanted.now.space.now.good c.requires.0.heads c.find_block-search.ensures c.block_alloc-taken.ensures, c.args.wanted.now.shift.offset_low)

pub returns : goal.returns
unfolding alloc_reply
returns c = serve_cell c.args.wanted.now.space.now.p c.args.wanted.now.request.align c.args.wanted.now.request.offset c.args.heap.now (find_block c.args.wanted.now.space.now.p c.args.wanted.now.holder.number c.args.wanted.now.bin.number c.args.wanted.now.request.offer (tables_of (view c.args.words.now) c.args.states.now c.args.marks.now)) (rw c.in-Some.is at c.find_block-search.ensures) (not_none c.in-Some.end.start.some) c.block_at-b.ensures c.block_alloc-taken.ensures c.align_allocation-address.ensures
