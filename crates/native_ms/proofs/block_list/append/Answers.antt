-- `block_list::append` counts, links, relabels and empties the other list. Leans on one law for each way out.
use Rattle.laws.proofs.Tables.{put_first_lem, put_last_lem}
use Rattle.native_ms.proofs.MovedLaws.{moves_none, moves_some}
use Rattle.native_ms.proofs.block_list.append.Goals as goal

pub returns-then-first-eq0 : goal.returns-then-first-eq0
returns-then-first-eq0 c = moves_none _ _ _ _ c.first-first.ensures c.if-first-eq0.true

pub returns : goal.returns
returns c = moves_some _ _ _ _ c.first-first.ensures c.if-first-eq0.false c.count_from-count.ensures c.link.ensures c.relabel.ensures (put_first_lem _ _ _ c.set_first.ensures) (put_last_lem _ _ _ c.set_last.ensures)
