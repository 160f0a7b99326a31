use mathlib.Core.Path.{◌∙◌}
use Rattle.native_ms.proofs.EagerLaws.{list_end, list_stop, list_step, list_at}
use Rattle.native_ms.proofs.Turns.{left_next, left_none}
use Rattle.native_ms.proofs.global.eager.recycle_list.Goals as goal

pub returns-then-link-eq0 : goal.returns-then-link-eq0
returns-then-link-eq0 c = list_stop _ _ _ _ _ _ c.if-link-eq0.true ∙ c.loop.invariant ∙ list_at _ _ _ _ c.first-link.ensures

pub loop-preserved : goal.loop-preserved
loop-preserved c = list_step _ _ _ _ _ (left_next c.loop-test.true) c.if-link-eq0.false c.block_at-b.ensures c.next-link.ensures c.recycle_block.ensures ∙ c.loop.invariant

pub returns : goal.returns
returns c = list_end _ _ _ _ _ _ (left_none c.loop-test.false) ∙ c.loop.invariant ∙ list_at _ _ _ _ c.first-link.ensures
