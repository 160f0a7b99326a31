use mathlib.Core.Path.{ap, ◌∙◌}
use Rattle.native_ms.specs.Closing.{skimmed}
use Rattle.native_ms.proofs.Search.{skim_end, skim_none, skim_found, skim_step}
use Rattle.native_ms.proofs.Turns.{left_some, left_next, left_none}
use Rattle.native_ms.proofs.free_list_allocator.find_free_block_with.Goals as goal

pub returns-then-first-eq0 : goal.returns-then-first-eq0
returns-then-first-eq0 c = skim_none _ _ _ _ c.first-first.ensures _ c.if-first-eq0.true ∙ c.loop.invariant

pub returns-then-cell-ne0 : goal.returns-then-cell-ne0
returns-then-cell-ne0 c = ap skimmed (skim_found _ _ _ _ c.first-first.ensures c.if-first-eq0.false c.block_at-b.ensures c.free-cell.ensures _ (left_some c.loop-test.true) c.if-cell-ne0.true) ∙ c.loop.invariant

pub loop-preserved : goal.loop-preserved
loop-preserved c = skim_step _ _ _ _ c.first-first.ensures c.if-first-eq0.false c.block_at-b.ensures c.free-cell.ensures (left_next c.loop-test.true) c.if-cell-ne0.false c.pop.ensures c.push.ensures ∙ c.loop.invariant

pub returns : goal.returns
returns c = skim_end _ _ _ _ _ (left_none c.loop-test.false) ∙ c.loop.invariant
