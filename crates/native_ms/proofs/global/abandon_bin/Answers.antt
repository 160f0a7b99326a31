-- `global::abandon_bin` appends three lists as `abandon_bin` does, and counts as `abandoned_bin`. Assumes nothing.
use Rattle.native_ms.proofs.MovedLaws.{moves_low, over_bin}
use Rattle.native_ms.proofs.Releases.{two_fit, three_fit}
use Rattle.native_ms.proofs.global.abandon_bin.Goals as goal

pub overflow_add-result : goal.overflow_add-result
overflow_add-result c = two_fit (moves_low c.args.space.now.p c.args.space.now.good _ _ _ c.append-free.ensures) (moves_low c.args.space.now.p c.args.space.now.good _ _ _ c.append-full.ensures)

pub overflow_add-result-2 : goal.overflow_add-result-2
overflow_add-result-2 c = three_fit (moves_low c.args.space.now.p c.args.space.now.good _ _ _ c.append-free.ensures) (moves_low c.args.space.now.p c.args.space.now.good _ _ _ c.append-full.ensures) (moves_low c.args.space.now.p c.args.space.now.good _ _ _ c.append-kept.ensures)

pub returns : goal.returns
returns c = over_bin _ _ _ _ _ c.lists-own.ensures.available c.lists-own.ensures.unswept c.lists-own.ensures.consumed c.lists-other.ensures.available c.lists-other.ensures.unswept c.lists-other.ensures.consumed c.append-free.ensures c.append-full.ensures c.append-kept.ensures
