-- `block_list::remove` makes the stores of `remove`, in order. Leans on one law for each arm.
use Rattle.laws.proofs.BlockList.{remove_only, remove_first, remove_last, remove_inner}
use Rattle.laws.proofs.Tables.{put_first_lem, put_last_lem, put_next_lem, put_prev_lem, put_list_lem}
use Rattle.native_ms.proofs.block_list.remove.Goals as goal

pub returns-then-next-eq0 : goal.returns-then-next-eq0
returns-then-next-eq0 c = remove_only _ _ _ _ c.prev-prev.ensures c.next-next.ensures c.word-word.ensures c.block_at-before.ensures c.block_at-behind.ensures c.if-prev-eq0.true c.if-next-eq0.true (put_first_lem _ _ _ c.set_first.ensures) (put_last_lem _ _ _ c.set_last.ensures)

pub returns-else-next-eq0 : goal.returns-else-next-eq0
returns-else-next-eq0 c = remove_first _ _ _ _ c.prev-prev.ensures c.next-next.ensures c.word-word.ensures c.block_at-before.ensures c.block_at-behind.ensures c.if-prev-eq0.true c.if-next-eq0.false (put_prev_lem _ _ _ c.set_prev.ensures) (put_first_lem _ _ _ c.set_first-else-next-eq0.ensures) (put_list_lem _ _ _ c.set_list.ensures)

pub returns-then-next-eq0-2 : goal.returns-then-next-eq0-2
returns-then-next-eq0-2 c = remove_last _ _ _ _ c.prev-prev.ensures c.next-next.ensures c.word-word.ensures c.block_at-before.ensures c.block_at-behind.ensures c.if-prev-eq0.false c.if-next-eq0-2.true (put_next_lem _ _ _ c.set_next.ensures) (put_last_lem _ _ _ c.set_last-then-next-eq0-2.ensures) (put_list_lem _ _ _ c.set_list-then-next-eq0-2.ensures)

pub returns-else-next-eq0-2 : goal.returns-else-next-eq0-2
returns-else-next-eq0-2 c = remove_inner _ _ _ _ c.prev-prev.ensures c.next-next.ensures c.word-word.ensures c.block_at-before.ensures c.block_at-behind.ensures c.if-prev-eq0.false c.if-next-eq0-2.false (put_next_lem _ _ _ c.set_next-else-next-eq0-2.ensures) (put_prev_lem _ _ _ c.set_prev-else-next-eq0-2.ensures)
