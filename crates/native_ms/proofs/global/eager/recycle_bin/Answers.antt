-- `eager::recycle_bin` is `recycle_bin`. Assumes nothing.
use Rattle.native_ms.proofs.EagerLaws.{bin_recycled}
use Rattle.native_ms.proofs.global.eager.recycle_bin.Goals as goal

pub returns : goal.returns
returns c = bin_recycled _ _ _ _ c.lists.ensures.available c.lists.ensures.consumed c.recycle_list.ensures
