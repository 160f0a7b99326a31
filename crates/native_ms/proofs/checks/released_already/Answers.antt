-- `checks::released_already`: a holder that has released. Assumes nothing.
use mathlib.Core.Path.{◌∙◌}
use Rattle.native_ms.proofs.SpaceCalls.{already_none, already_holder}
use Rattle.native_ms.proofs.checks.released_already.Goals as goal

pub returns-else-is_holder : goal.returns-else-is_holder
returns-else-is_holder c = c.if-is_holder.false ∙ already_none _ _ c.is_holder.ensures c.if-is_holder.false

pub returns-then-is_holder : goal.returns-then-is_holder
returns-then-is_holder c = already_holder _ _ c.is_holder.ensures c.if-is_holder.true c.has_released.ensures
