-- `eager::recycle_block` is `recycle_block`. Assumes nothing.
use Rattle.native_ms.proofs.EagerLaws.{recycle_no, recycle_yes}
use Rattle.native_ms.proofs.global.eager.recycle_block.Goals as goal

pub returns-then-cell-eq0 : goal.returns-then-cell-eq0
returns-then-cell-eq0 c = recycle_no _ _ _ _ _ c.free-cell.ensures c.if-cell-eq0.true

pub returns : goal.returns
returns c = recycle_yes _ _ _ _ _ c.free-cell.ensures c.if-cell-eq0.false c.remove.ensures c.push.ensures
