-- `block_list::push` makes the stores of `push`, in order. Leans on one law for each arm.
use Rattle.laws.proofs.BlockList.{push_only_lem, push_ahead_lem}
use Rattle.laws.proofs.Tables.{put_first_lem, put_last_lem, put_next_lem, put_prev_lem, put_list_lem}
use Rattle.native_ms.proofs.block_list.push.Goals as goal

pub returns-then-head-eq0 : goal.returns-then-head-eq0
returns-then-head-eq0 c = push_only_lem _ _ _ _ c.start-start.ensures c.word-word.ensures c.first-head.ensures c.if-head-eq0.true (put_next_lem _ _ _ c.set_next.ensures) (put_prev_lem _ _ _ c.set_prev.ensures) (put_first_lem _ _ _ c.set_first.ensures) (put_last_lem _ _ _ c.set_last.ensures) (put_list_lem _ _ _ c.set_list.ensures)

pub returns-else-head-eq0 : goal.returns-else-head-eq0
returns-else-head-eq0 c = push_ahead_lem _ _ _ _ c.start-start.ensures c.word-word.ensures c.first-head.ensures c.if-head-eq0.false c.block_at-old.ensures (put_next_lem _ _ _ c.set_next-else-head-eq0.ensures) (put_prev_lem _ _ _ c.set_prev-else-head-eq0.ensures) (put_prev_lem _ _ _ c.set_prev-else-head-eq0-2.ensures) (put_first_lem _ _ _ c.set_first-else-head-eq0.ensures) (put_list_lem _ _ _ c.set_list-else-head-eq0.ensures)
