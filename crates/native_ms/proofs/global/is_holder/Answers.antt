-- `global::is_holder` meets its contract.
use Rattle.native_ms.proofs.SoundTests.{holder_none, holder_low}
use Rattle.native_ms.proofs.global.is_holder.Goals as goal

pub returns-then-holder-ge1 : goal.returns-then-holder-ge1
returns-then-holder-ge1 c = holder_low _ c.if-holder-ge1.true

pub returns-else-holder-ge1 : goal.returns-else-holder-ge1
returns-else-holder-ge1 c = holder_none _ c.if-holder-ge1.false
