-- `global::release_bin` is `release_bin`, its events counted. Assumes nothing.
use Rattle.native_ms.proofs.Releases.{blocks_low, two_fit, bin_total}
use Rattle.model.specs.Tables.{view}
use Rattle.native_ms.proofs.global.release_bin.Goals as goal

pub overflow_add-result : goal.overflow_add-result
overflow_add-result c = two_fit (blocks_low c.args.space.now.p c.args.space.now.good _ _ _ _ c.release_blocks-free.ensures) (blocks_low c.args.space.now.p c.args.space.now.good _ _ _ _ c.release_blocks-full.ensures)

pub returns : goal.returns
returns c = bin_total c.args.space.now.p c.args.owner.set c.args.bin.number (view c.args.w.now) c.args.st.now c.lists-own.ensures.available c.lists-own.ensures.unswept c.lists-own.ensures.consumed c.release_blocks-free.ensures c.left_unswept.ensures c.release_blocks-full.ensures c.left_unswept-2.ensures
