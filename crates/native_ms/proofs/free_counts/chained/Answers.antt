-- `free_counts::chained` meets its contract. Assumes nothing.
use Rattle.model.specs.Sound.{chained, state_of}
use Rattle.native_ms.proofs.Each.{down_stop, down_step, down_end}
use Rattle.native_ms.proofs.free_counts.chained.Goals as goal

pub returns-then-not-block_chained : goal.returns-then-not-block_chained
unfolding chained state_of
returns-then-not-block_chained c = λ m. down_stop _ _ c.loop-b.invariant c.loop-b-test.true c.block_chained.ensures c.if-not-block_chained.true

pub loop-b-preserved : goal.loop-b-preserved
loop-b-preserved c = down_step _ _ c.loop-b.invariant c.loop-b-test.true c.block_chained.ensures c.if-not-block_chained.false

pub returns : goal.returns
unfolding chained state_of
returns c = λ m. down_end _ _ c.loop-b.invariant c.loop-b-test.false
