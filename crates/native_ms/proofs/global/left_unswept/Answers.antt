-- `global::left_unswept` meets its contract: the choice decides whether the list goes behind the other. Assumes nothing.
use Rattle.native_ms.proofs.MovedLaws.{moves_words}
use Rattle.native_ms.proofs.Releases.{waits_none, waits_append}
use Rattle.native_ms.proofs.global.left_unswept.Goals as goal

pub returns-then-space : goal.returns-then-space
returns-then-space c = waits_none _ _ _ _ c.if-space.true

pub returns : goal.returns
returns c = waits_append _ _ _ _ c.if-space.false (moves_words _ _ _ _ c.append.ensures)
