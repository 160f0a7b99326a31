-- `block::block_alloc` meets its contract: the link becomes the head, and the count is one less. Assumes nothing.
use Rattle.model.specs.Tables.{view}
use Rattle.native_ms.proofs.Chains.{take}
use Rattle.native_ms.proofs.block.block_alloc.Goals as goal

pub returns : goal.returns
returns c = take c.args.space.now.p c.args.b.0 (view c.args.words.now) c.args.heap.now c.cells_of-cells.ensures.head c.cells_of-cells.ensures.size c.cells_of-cells.ensures.count c.load-link.ensures c.behind.ensures c.set_chain.ensures c.zero.ensures
