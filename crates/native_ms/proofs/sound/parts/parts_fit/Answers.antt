-- `parts::parts_fit` meets its contract.
use Rattle.std.proofs.Common.{rules}
use Rattle.std.proofs.iter.runs.Sources.{ranges}
use Rattle.model.specs.Tables.{view}
use Rattle.native_ms.specs.SoundWalk.{part_fits}
use Rattle.native_ms.proofs.Each.{all_each}
use Rattle.native_ms.proofs.sound.parts.parts_fit.Goals as goal

pub returns : goal.returns
unfolding part_fits
returns c = all_each _ (part_fits (view c.args.words.now)) _ (search (rules, ranges))
