-- `free_list_allocator::find_block` searches as `find_block` does. One law for each way out.
use mathlib.Core.Path.{refl, ◌∙◌}
use native.Mathlib.Omega.{arith}
use Rattle.laws.proofs.Params.{good_bounds}
use Rattle.native_ms.proofs.Search.{not_none}
use Rattle.native_ms.proofs.Ending.{find_skimmed, find_recycled, find_global}
use Rattle.model.specs.Tables.{view}
use Rattle.native_ms.proofs.Offsets.{known_on}
use Rattle.native_ms.proofs.free_list_allocator.find_block.Goals as goal

pub returns-in-Some : goal.returns-in-Some
returns-in-Some c = rw (c.listed.ensures.end, c.listed.ensures.swept) (find_skimmed c.args.wanted.now.space.now.p c.args.wanted.now.holder.number c.args.wanted.now.bin.number c.args.wanted.now.request.offer (view c.args.words.now) c.args.states.now c.args.marks.now c.args.heap.now c.owner-owner.ensures c.lists-own.ensures.available c.lists-own.ensures.consumed c.in-Some.ensures (not_none c.in-Some.start.some))

pub recycle_local_blocks-recycled-requires : goal.recycle_local_blocks-recycled-requires
recycle_local_blocks-recycled-requires c = known_on _ c.requires c.find_free_block_with.auto.words refl

pub returns-in-Some-at : goal.returns-in-Some-at
returns-in-Some-at c = rw (c.listed-in-Some-at.ensures.end, c.listed-in-Some-at.ensures.swept) (find_recycled c.args.wanted.now.space.now.p c.args.wanted.now.holder.number c.args.wanted.now.bin.number c.args.wanted.now.request.offer (view c.args.words.now) c.args.states.now c.args.marks.now c.args.heap.now c.owner-owner.ensures c.lists-own.ensures.available c.lists-own.ensures.consumed c.in_default.ensures refl (rw c.in-Some-at.is at c.recycle_local_blocks-recycled.ensures) (not_none c.in-Some-at.start.some))

pub acquire_global_block-requires : goal.acquire_global_block-requires
acquire_global_block-requires c = (known_on _ c.requires (c.recycle_local_blocks-recycled.auto.words ∙ c.find_free_block_with.auto.words) c.recycle_local_blocks-recycled.auto.heap, omega (arith, c.recycle_local_blocks-recycled.ensures.few, (good_bounds c.args.wanted.now.space.now.p c.requires.good).blocks_high))

pub returns : goal.returns
returns c = find_global c.args.wanted.now.space.now.p c.args.wanted.now.holder.number c.args.wanted.now.bin.number c.args.wanted.now.request.offer (view c.args.words.now) c.args.states.now c.args.marks.now c.args.heap.now c.owner-owner.ensures c.lists-own.ensures.available c.lists-own.ensures.consumed c.in_default.ensures refl (rw c.in_default-at.is at c.recycle_local_blocks-recycled.ensures) refl c.acquire_global_block.ensures
