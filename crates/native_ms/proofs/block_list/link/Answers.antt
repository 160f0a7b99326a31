-- `block_list::link` makes the stores of `link`, in order. Leans on one law for each arm.
use Rattle.laws.proofs.BlockList.{link_empty, link_behind}
use Rattle.laws.proofs.Tables.{put_first_lem, put_last_lem, put_next_lem, put_prev_lem}
use Rattle.native_ms.proofs.block_list.link.Goals as goal

pub returns-then-own_first-eq0 : goal.returns-then-own_first-eq0
returns-then-own_first-eq0 c = link_empty _ _ _ _ c.first-first.ensures c.last-last.ensures c.last-own_last.ensures c.first-own_first.ensures c.if-own_first-eq0.true (put_first_lem _ _ _ c.set_first.ensures) (put_last_lem _ _ _ c.set_last.ensures)

pub returns-else-own_first-eq0 : goal.returns-else-own_first-eq0
returns-else-own_first-eq0 c = link_behind _ _ _ _ c.first-first.ensures c.last-last.ensures c.last-own_last.ensures c.first-own_first.ensures c.if-own_first-eq0.false c.block_at-before.ensures c.block_at-behind.ensures (put_next_lem _ _ _ c.set_next.ensures) (put_prev_lem _ _ _ c.set_prev.ensures) (put_last_lem _ _ _ c.set_last-else-own_first-eq0.ensures)
