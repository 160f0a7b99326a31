-- `BlockList::push` is `push` on the words that hold the record.
use Rattle.model.specs.BlockList.{push}
use Rattle.native_ms.proofs.RecordsLaws.{on_record_lem}
use Rattle.native_ms.proofs.block_list.BlockList.push.Goals as goal

pub returns : goal.returns
returns c = on_record_lem _ _ _ c.put_record.ensures (push _ _ _) c.push.ensures c.record_at.ensures
