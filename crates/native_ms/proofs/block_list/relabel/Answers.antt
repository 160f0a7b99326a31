use mathlib.Core.Path.{◌∙◌}
use Rattle.laws.proofs.BlockList.{relabel_end, relabel_stop, relabel_step}
use Rattle.laws.proofs.Tables.{put_list_lem}
use Rattle.native_ms.proofs.Turns.{left_some, left_none, later}
use Rattle.native_ms.proofs.block_list.relabel.Goals as goal

pub returns-then-link-eq0 : goal.returns-then-link-eq0
returns-then-link-eq0 c = relabel_stop _ _ _ _ _ c.if-link-eq0.true ∙ c.loop.invariant

pub loop-preserved : goal.loop-preserved
loop-preserved c = rw later (relabel_step _ _ _ _ _ (left_some c.loop-test.true) c.if-link-eq0.false c.block_at-b.ensures c.word-word.ensures c.next-link.ensures (put_list_lem _ _ _ c.set_list.ensures)) ∙ c.loop.invariant

pub returns : goal.returns
returns c = relabel_end _ _ _ _ _ (left_none c.loop-test.false) ∙ c.loop.invariant
