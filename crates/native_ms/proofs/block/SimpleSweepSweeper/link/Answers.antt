-- `SimpleSweep::link` meets its contract: a cell's first bit is that of its start. Assumes nothing.
use Rattle.native_ms.proofs.Offsets.{by_start}
use Rattle.native_ms.proofs.Reaches.{reach_inside}
use Rattle.native_ms.proofs.block.SimpleSweepSweeper.link.Goals as goal

pub link_by_bit-requires : goal.link_by_bit-requires
link_by_bit-requires c = reach_inside _ c.requires

pub returns : goal.returns
returns c = c.link_by_bit.ensures _ (by_start _ _ _ _ _ _ c.requires.cells c.requires.starts)
