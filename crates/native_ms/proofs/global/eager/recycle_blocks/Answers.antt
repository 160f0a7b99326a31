use Rattle.native_ms.proofs.SpaceCalls.{each_none, each_more}
use Rattle.native_ms.proofs.EagerLaws.{bins_recycled}
use Rattle.native_ms.proofs.global.eager.recycle_blocks.Goals as goal

pub loop-bin-init : goal.loop-bin-init
loop-bin-init c = each_none _ _

pub loop-bin-preserved : goal.loop-bin-preserved
loop-bin-preserved c = each_more _ _ _ c.loop-bin.invariant c.recycle_bin.ensures

pub returns : goal.returns
returns c = bins_recycled _ _ _ _ c.loop-bin.auto.bin-end c.loop-bin-test.false c.loop-bin.invariant
