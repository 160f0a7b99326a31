-- `eager::eager_ok` meets its contract: no block is tested by its marks. Assumes nothing.
use Rattle.model.specs.Sound.{eager_ok, eager_block, on_unswept, state_of}
use Rattle.native_ms.proofs.Each.{down_stop, down_step, down_end}
use Rattle.native_ms.proofs.sound.eager.eager_ok.Goals as goal

pub returns-then-not-lent : goal.returns-then-not-lent
unfolding eager_ok
returns-then-not-lent c = λ m. rw c.if-not-lent.true

pub returns-then-not-eager_block : goal.returns-then-not-eager_block
unfolding eager_ok eager_block on_unswept state_of
returns-then-not-eager_block c = λ m. rw c.if-not-lent.false (down_stop _ _ c.loop-b.invariant c.loop-b-test.true c.eager_block.ensures c.if-not-eager_block.true)

pub loop-b-preserved : goal.loop-b-preserved
loop-b-preserved c = down_step _ _ c.loop-b.invariant c.loop-b-test.true c.eager_block.ensures c.if-not-eager_block.false

pub returns : goal.returns
unfolding eager_ok eager_block on_unswept state_of
returns c = λ m. rw c.if-not-lent.false (down_end _ _ c.loop-b.invariant c.loop-b-test.false)
