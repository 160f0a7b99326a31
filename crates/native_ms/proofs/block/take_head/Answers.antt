-- `block::take_head` meets its contract: as `block_alloc`, at places that are known to be there. Assumes nothing.
use Rattle.model.specs.Tables.{view}
use Rattle.model.specs.Memory.{load, zeroed}
use Rattle.native_ms.proofs.Chains.{take}
use Rattle.native_ms.proofs.ShortWay.{head_from, head_room, head_word}
use Rattle.native_ms.proofs.block.take_head.Goals as goal

pub overflow_sub-offset : goal.overflow_sub-offset
overflow_sub-offset c = head_from _ _ c.requires c.cells_of-cells.ensures.head c.cells_of-cells.ensures.size

pub word_at-next-requires : goal.word_at-next-requires
word_at-next-requires c = head_word _ _ c.requires c.cells_of-cells.ensures.head c.cells_of-cells.ensures.size

pub clear-requires : goal.clear-requires
clear-requires c = head_room _ _ c.requires c.cells_of-cells.ensures.head c.cells_of-cells.ensures.size

pub returns : goal.returns
unfolding load zeroed
returns c = take c.args.space.now.p c.args.b.0 (view c.args.words.now) c.args.heap.now c.cells_of-cells.ensures.head c.cells_of-cells.ensures.size c.cells_of-cells.ensures.count c.word_at-next.ensures c.behind.ensures c.set_chain.ensures c.clear.ensures
