-- `BlockList::pop` is `pop` on the words that hold the record.
use Rattle.native_ms.proofs.RecordsLaws.{pop_on_lem}
use Rattle.native_ms.proofs.block_list.BlockList.pop.Goals as goal

pub returns : goal.returns
returns c = pop_on_lem _ _ _ c.put_record.ensures _ c.pop-at.ensures c.record_at.ensures
