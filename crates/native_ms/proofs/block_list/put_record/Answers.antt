-- `block_list::put_record` makes the two stores of `with_record`.
use Rattle.laws.proofs.Tables.{put_first_lem, put_last_lem}
use Rattle.native_ms.proofs.RecordsLaws.{with_record_lem}
use Rattle.native_ms.proofs.block_list.put_record.Goals as goal

pub returns : goal.returns
returns c = with_record_lem _ _ _ (put_first_lem _ _ _ c.set_first.ensures) (put_last_lem _ _ _ c.set_last.ensures)
