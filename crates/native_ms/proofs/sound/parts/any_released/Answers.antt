-- `parts::any_released` meets its contract.
use Rattle.std.proofs.Common.{rules}
use Rattle.std.proofs.iter.runs.Sources.{ranges}
use Rattle.model.specs.Tables.{view}
use Rattle.model.specs.Global.{has_released}
use Rattle.native_ms.proofs.Each.{any_each}
use Rattle.native_ms.proofs.sound.parts.any_released.Goals as goal

pub returns : goal.returns
unfolding has_released
returns c = any_each _ (has_released (view c.args.words.now)) _ (search (rules, ranges))
