-- `block_list::pop` makes the stores of `pop`, in order. Leans on one law for each way out.
use Rattle.laws.proofs.BlockList.{pop_none, pop_only_lem, pop_ahead_lem}
use Rattle.laws.proofs.Tables.{put_first_lem, put_last_lem, put_next_lem, put_prev_lem, put_list_lem}
use Rattle.native_ms.proofs.block_list.pop.Goals as goal

pub returns-then-head-eq0 : goal.returns-then-head-eq0
returns-then-head-eq0 c = pop_none _ _ _ c.first-head.ensures c.if-head-eq0.true

pub returns-then-next-eq0 : goal.returns-then-next-eq0
returns-then-next-eq0 c = pop_only_lem _ _ _ c.first-head.ensures c.if-head-eq0.false c.block_at-top.ensures c.next-next.ensures c.if-next-eq0.true (put_first_lem _ _ _ c.set_first.ensures) (put_last_lem _ _ _ c.set_last.ensures) (put_next_lem _ _ _ c.set_next.ensures) (put_prev_lem _ _ _ c.set_prev.ensures)

pub returns-else-next-eq0 : goal.returns-else-next-eq0
returns-else-next-eq0 c = pop_ahead_lem _ _ _ c.first-head.ensures c.if-head-eq0.false c.block_at-top.ensures c.next-next.ensures c.if-next-eq0.false c.block_at-follower.ensures c.word-word.ensures (put_first_lem _ _ _ c.set_first-else-next-eq0.ensures) (put_prev_lem _ _ _ c.set_prev-else-next-eq0.ensures) (put_list_lem _ _ _ c.set_list.ensures) (put_next_lem _ _ _ c.set_next-else-next-eq0.ensures) (put_prev_lem _ _ _ c.set_prev-else-next-eq0-2.ensures)
