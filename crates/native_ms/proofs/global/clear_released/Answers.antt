use Rattle.laws.proofs.Tables.{put_released_lem}
use Rattle.native_ms.proofs.SpaceCalls.{unreleased_none, unreleased_more, unreleased_end}
use Rattle.native_ms.proofs.global.clear_released.Goals as goal

pub loop-part-init : goal.loop-part-init
loop-part-init c = unreleased_none _

pub loop-part-preserved : goal.loop-part-preserved
loop-part-preserved c = unreleased_more _ _ c.loop-part.invariant (put_released_lem _ _ _ c.set_released.ensures)

pub returns : goal.returns
returns c = unreleased_end _ _ (c.requires) c.loop-part.auto.part-end c.loop-part-test.false c.loop-part.invariant
