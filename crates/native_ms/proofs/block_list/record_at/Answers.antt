-- `block_list::record_at` makes the two reads of `record_at`.
use Rattle.native_ms.proofs.RecordsLaws.{record_at_lem}
use Rattle.native_ms.proofs.block_list.record_at.Goals as goal

pub returns : goal.returns
returns c = record_at_lem _ _ _ c.first.ensures c.last.ensures
