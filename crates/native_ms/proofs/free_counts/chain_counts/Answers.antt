use mathlib.Core.Path.{sym, ◌∙◌}
use Rattle.native_ms.proofs.FreeCountLaws.{counts_stop, counts_on, counts_end}
use Rattle.native_ms.proofs.free_counts.chain_counts.Goals as goal

pub returns-then-not-is_cell : goal.returns-then-not-is_cell
returns-then-not-is_cell c = sym (counts_stop _ _ _ _ _ _ _ c.loop-test.true (sym c.is_cell.ensures ∙ c.if-not-is_cell.true)) ∙ c.loop.invariant

pub loop-preserved : goal.loop-preserved
loop-preserved c = counts_on _ _ _ _ _ _ _ c.loop-test.true c.load-at.ensures (sym c.is_cell.ensures ∙ c.if-not-is_cell.false) c.loop.invariant

pub returns : goal.returns
returns c = counts_end _ _ _ _ _ _ _ c.loop-test.false ∙ c.loop.invariant
