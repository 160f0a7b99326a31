use mathlib.Core.Path.{◌≡◌, ◌∙◌}
use native.Mathlib.Omega.{arith}
use Rattle.native_ms.proofs.MovedLaws.{count_end, count_stop, count_step}
use Rattle.native_ms.proofs.Turns.{left_next, left_none}
use Rattle.native_ms.proofs.block_list.count_from.Goals as goal

pub returns-then-link-eq0 : goal.returns-then-link-eq0
returns-then-link-eq0 c = count_stop _ _ _ _ _ c.if-link-eq0.true ∙ c.loop-met.invariant

pub loop-met-preserved : goal.loop-met-preserved
loop-met-preserved c = count_step _ _ _ _ (left_next c.loop-met-test.true) c.if-link-eq0.false c.block_at-b.ensures c.next-link.ensures ∙ c.loop-met.invariant

pub returns : goal.returns
returns c =
    let all : c.args.space.now.p.blocks ≡ c.loop-met.met = omega arith in
    all ∙ count_end _ _ _ _ _ (left_none c.loop-met-test.false) ∙ c.loop-met.invariant
