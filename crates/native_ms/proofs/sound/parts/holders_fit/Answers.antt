-- `parts::holders_fit` meets its contract.
use Rattle.std.proofs.Common.{rules}
use Rattle.std.proofs.iter.runs.Sources.{ranges}
use Rattle.model.specs.Tables.{view}
use Rattle.native_ms.specs.SoundWalk.{holder_fits}
use Rattle.native_ms.proofs.Each.{all_each}
use Rattle.native_ms.proofs.sound.parts.holders_fit.Goals as goal

pub returns : goal.returns
unfolding holder_fits
returns c = all_each _ (holder_fits (view c.args.lists.now.lent.now.words.now)) _ (search (rules, ranges))
