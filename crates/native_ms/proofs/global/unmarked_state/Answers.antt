-- `global::unmarked_state` is `unmarked_state`. Assumes nothing.
use Rattle.native_ms.proofs.SpaceCalls.{unmark_none, unmark_some}
use Rattle.native_ms.proofs.global.unmarked_state.Goals as goal

pub returns-then-state-eq-UNALLOCATED : goal.returns-then-state-eq-UNALLOCATED
returns-then-state-eq-UNALLOCATED c = unmark_none _ c.if-state-eq-UNALLOCATED.true

pub returns : goal.returns
returns c = unmark_some _ c.if-state-eq-UNALLOCATED.false
