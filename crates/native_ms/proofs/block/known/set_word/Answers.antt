-- `known::set_word` writes its block's word, and nothing where there is no such block. Leans on the laws of tables; assumes nothing.
use Rattle.native_ms.proofs.SoundLent.{table_put, table_left}
use Rattle.native_ms.proofs.block.known.set_word.Goals as goal

pub returns-then-b-blocks : goal.returns-then-b-blocks
returns-then-b-blocks c = rw (← c.number.ensures.0) (table_put _ _ c.number.result _ _ c.requires c.if-b-blocks.true)

pub returns-else-b-blocks : goal.returns-else-b-blocks
returns-else-b-blocks c = table_left _ _ _ _ _ c.requires c.if-b-blocks.false
