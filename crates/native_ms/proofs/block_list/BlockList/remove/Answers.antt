-- `BlockList::remove` is `remove` on the words that hold the record.
use Rattle.model.specs.BlockList.{remove}
use Rattle.native_ms.proofs.RecordsLaws.{on_record_lem}
use Rattle.native_ms.proofs.block_list.BlockList.remove.Goals as goal

pub returns : goal.returns
returns c = on_record_lem _ _ _ c.put_record.ensures (remove _ _ _) c.remove.ensures c.record_at.ensures
