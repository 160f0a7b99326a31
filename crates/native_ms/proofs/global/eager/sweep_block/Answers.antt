-- `eager::sweep_block` is `sweep_block`, its sweep counted and made. Assumes nothing.
use Rattle.native_ms.proofs.EagerLaws.{block_unused, block_swept}
use Rattle.native_ms.proofs.global.eager.sweep_block.Goals as goal

pub returns-then-state-eq-UNALLOCATED : goal.returns-then-state-eq-UNALLOCATED
returns-then-state-eq-UNALLOCATED c = block_unused _ _ _ _ _ _ c.state-state.ensures c.if-state-eq-UNALLOCATED.true

pub returns : goal.returns
returns c = block_swept _ _ _ _ _ _ c.state-state.ensures c.if-state-eq-UNALLOCATED.false c.sweep.ensures
