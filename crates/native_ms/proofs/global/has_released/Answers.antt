-- `global::has_released` meets its contract.
use Rattle.native_ms.proofs.SoundTests.{released_word}
use Rattle.native_ms.proofs.global.has_released.Goals as goal

pub returns : goal.returns
returns c = released_word _ _ c.released.ensures
