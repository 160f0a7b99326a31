use mathlib.Core.Path.{◌∙◌}
use native.Mathlib.Omega.{arith}
use Rattle.native_ms.proofs.SoundTests.{passes_bad, passes_step}
use Rattle.native_ms.proofs.SoundLent.{list_skip, lists_end}
use Rattle.native_ms.proofs.sound.lists.Lists.pass_set.Goals as goal

pub returns-in_err-left : goal.returns-in_err-left
returns-in_err-left c = rw c.from_residual.ensures (passes_bad _ _ _ _ _ (omega arith) c.pass.ensures c.in_err-left.was ∙ c.loop-list.invariant.1)

pub loop-list-preserved-then-first-last-ne0 : goal.loop-list-preserved-then-first-last-ne0
loop-list-preserved-then-first-last-ne0 c = (omega arith, passes_step _ _ _ _ _ (omega arith) c.pass.ensures c.in_ok-left.was ∙ c.loop-list.invariant.1)

pub loop-list-preserved : goal.loop-list-preserved
loop-list-preserved c = (omega arith, list_skip _ _ _ c.loop-list.list c.loop-list.left (omega arith) c.first-first.ensures c.last-last.ensures c.if-first-last-ne0.false ∙ c.loop-list.invariant.1)

pub returns : goal.returns
returns c = lists_end _ _ _ _ _ _ c.loop-list.invariant.0 c.loop-list-test.false ∙ c.loop-list.invariant.1
