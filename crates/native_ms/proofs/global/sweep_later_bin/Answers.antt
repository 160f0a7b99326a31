-- `global::sweep_later_bin` is `sweep_later_bin`, its events counted. Assumes nothing.
use Rattle.native_ms.proofs.Releases.{blocks_low, two_fit, three_fit, later_total}
use Rattle.model.specs.Tables.{view}
use Rattle.native_ms.proofs.global.sweep_later_bin.Goals as goal

pub overflow_add-result : goal.overflow_add-result
overflow_add-result c = two_fit (blocks_low c.args.space.now.p c.args.space.now.good _ _ _ _ c.release_blocks-free.ensures) (blocks_low c.args.space.now.p c.args.space.now.good _ _ _ _ c.release_blocks-full.ensures)

pub overflow_add-result-2 : goal.overflow_add-result-2
overflow_add-result-2 c = three_fit (blocks_low c.args.space.now.p c.args.space.now.good _ _ _ _ c.release_blocks-free.ensures) (blocks_low c.args.space.now.p c.args.space.now.good _ _ _ _ c.release_blocks-full.ensures) (blocks_low c.args.space.now.p c.args.space.now.good _ _ _ _ c.release_blocks-waiting.ensures)

pub returns : goal.returns
returns c = later_total c.args.space.now.p c.args.bin.number (view c.args.w.now) c.args.st.now c.lists-shared.ensures.available c.lists-shared.ensures.unswept c.lists-shared.ensures.consumed c.release_blocks-free.ensures c.release_blocks-full.ensures c.release_blocks-waiting.ensures c.left_unswept.ensures c.left_unswept-2.ensures
