use mathlib.Core.Path.{◌≡◌, sym, ◌∙◌}
use Rattle.std.proofs.Common.{Some, ap}
use native.Mathlib.Omega.{arith}
use Rattle.native_ms.proofs.CountedLaws.{counted_stop, counted_long, counted_bad, counted_step}
use Rattle.native_ms.proofs.Turns.{left_some, left_next, left_none}
use Rattle.native_ms.proofs.block_list.count_blocks.Goals as goal

pub returns-then-link-eq0 : goal.returns-then-link-eq0
returns-then-link-eq0 c = counted_stop _ _ _ _ _ c.if-link-eq0.true ∙ c.loop-passed.invariant

pub returns-then-not-is_start : goal.returns-then-not-is_start
returns-then-not-is_start c = counted_bad _ _ _ _ _ (left_some c.loop-passed-test.true) c.if-link-eq0.false (sym c.is_start.ensures ∙ c.if-not-is_start.true) ∙ c.loop-passed.invariant

pub loop-passed-preserved : goal.loop-passed-preserved
loop-passed-preserved c = counted_step _ _ _ _ (left_next c.loop-passed-test.true) c.if-link-eq0.false (sym c.is_start.ensures ∙ c.if-not-is_start.false) c.block_at-b.ensures c.next-link.ensures ∙ c.loop-passed.invariant

pub returns-then-link-eq0-2 : goal.returns-then-link-eq0-2
returns-then-link-eq0-2 c =
    let all : c.args.space.now.p.blocks ≡ c.loop-passed.passed = omega arith in
    ap Some all ∙ counted_stop _ _ _ _ _ c.if-link-eq0-2.true ∙ c.loop-passed.invariant

pub returns : goal.returns
returns c = counted_long _ _ _ _ _ (left_none c.loop-passed-test.false) c.if-link-eq0-2.false ∙ c.loop-passed.invariant
