use mathlib.Core.Path.{refl, ◌∙◌}
use native.Mathlib.Omega.{arith}
use Rattle.native_ms.proofs.SoundTests.{stands_off, last_here, last_off, pass_last, pass_long, pass_bad, pass_step, pass_at}
use Rattle.native_ms.proofs.sound.lists.Lists.pass.Goals as goal

pub returns-then-left-eq0 : goal.returns-then-left-eq0
returns-then-left-eq0 c = pass_long _ _ _ _ _ _ _ c.loop-a-test.true (omega (arith, c.if-left-eq0.true)) ∙ c.loop-a.invariant ∙ pass_at _ _ _ _ _ c.first-a.ensures

pub returns-in_err-block : goal.returns-in_err-block
returns-in_err-block c = rw c.from_residual.ensures (pass_bad _ _ _ _ _ _ c.loop-a-test.true (stands_off _ _ _ _ _ _ refl c.in_err-block.ensures) _ (omega (arith, c.if-left-eq0.false)) refl ∙ c.loop-a.invariant ∙ pass_at _ _ _ _ _ c.first-a.ensures)

pub returns-then-not-stands_on : goal.returns-then-not-stands_on
returns-then-not-stands_on c = pass_bad _ _ _ _ _ _ c.loop-a-test.true c.stands_on.ensures _ (omega (arith, c.if-left-eq0.false)) c.if-not-stands_on.true ∙ c.loop-a.invariant ∙ pass_at _ _ _ _ _ c.first-a.ensures

pub loop-a-preserved : goal.loop-a-preserved
loop-a-preserved c = pass_step _ _ _ _ _ _ c.loop-a-test.true c.stands_on.ensures _ (omega (arith, c.if-left-eq0.false)) c.if-not-stands_on.false c.in_ok-block.ensures.2 c.next-a.ensures ∙ c.loop-a.invariant

pub returns-then-last-before : goal.returns-then-last-before
returns-then-last-before c = pass_last _ _ _ _ _ _ _ c.loop-a-test.false (last_here _ _ _ _ c.last.ensures c.if-last-before.true) ∙ c.loop-a.invariant ∙ pass_at _ _ _ _ _ c.first-a.ensures

pub returns-else-last-before : goal.returns-else-last-before
returns-else-last-before c = pass_last _ _ _ _ _ _ _ c.loop-a-test.false (last_off _ _ _ _ c.last.ensures c.if-last-before.false) ∙ c.loop-a.invariant ∙ pass_at _ _ _ _ _ c.first-a.ensures
