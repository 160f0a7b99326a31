-- `BlockList::append` is `append` on the words that hold both records.
use Rattle.native_ms.proofs.RecordsLaws.{append_on_lem}
use Rattle.native_ms.proofs.block_list.BlockList.append.Goals as goal

pub returns : goal.returns
returns c = append_on_lem _ _ _ c.put_record.ensures _ _ _ c.put_record-2.ensures c.append-blocks.ensures c.record_at.ensures c.record_at-2.ensures
