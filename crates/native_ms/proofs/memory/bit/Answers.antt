-- `bit` meets its contract. Leans on the laws of shift and mask; assumes nothing.
use Rattle.words.proofs.Shift.{test_by_mask}
use Rattle.native_ms.proofs.memory.bit.Goals as goal

pub returns : goal.returns
returns c = test_by_mask _ _
