-- `global::release_holder` is `release_holder`, its events counted. Assumes nothing.
use Rattle.native_ms.proofs.MovedLaws.{over_words}
use Rattle.native_ms.proofs.Releases.{holder_total}
use Rattle.native_ms.proofs.global.release_holder.Goals as goal

pub returns : goal.returns
returns c = holder_total _ _ _ _ c.owner-owner.ensures c.release_bins-released.ensures (over_words _ _ _ _ c.abandon_blocks.ensures)
