-- `block::sweep` meets its contract: each way out is the sweep that the parameters choose. Assumes nothing.
use mathlib.Core.Path.{sym, ◌∙◌}
use mathlib.Core.Bool.{true, false}
use Rattle.native_ms.proofs.Chains.{swept}
use Rattle.native_ms.proofs.block.sweep.Goals as goal

pub returns-then-is_simple : goal.returns-then-is_simple
returns-then-is_simple c = swept _ _ _ true (sym c.if-is_simple.true ∙ c.is_simple.ensures) c.sweep_by.ensures

pub returns : goal.returns
returns c = swept _ _ _ false (sym c.if-is_simple.false ∙ c.is_simple.ensures) c.sweep_by-2.ensures
