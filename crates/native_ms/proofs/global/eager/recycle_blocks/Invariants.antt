-- `eager::recycle_blocks` goes through the 49 bins. The invariant: those passed are done. Assumes nothing.
use mathlib.Core.Path.{◌≡◌}
use Rattle.model.specs.Base.{each_below}
use Rattle.model.specs.Tables.{view}
use Rattle.model.specs.Global.{recycle_bin}
use Rattle.native_ms.proofs.global.eager.recycle_blocks.Given as goal

abbrev pub invariant-loop-bin : goal.invariant-loop-bin
invariant-loop-bin l = view l.w ≡ each_below l.bin (recycle_bin l.space.p l.owner.set) (view l.initial.w)
