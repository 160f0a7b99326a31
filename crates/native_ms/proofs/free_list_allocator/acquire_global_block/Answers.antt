-- `free_list_allocator::acquire_global_block` tries abandoned blocks and then the offer, as `acquire_global` does. One law for each way
-- out.
use mathlib.Core.Path.{refl}
use native.Mathlib.Omega.{arith}
use Rattle.laws.proofs.Params.{good_bounds, start_pos}
use Rattle.native_ms.proofs.Search.{not_none}
use Rattle.native_ms.proofs.Ending.{global_found, global_none, global_fresh}
use Rattle.model.specs.Tables.{view}
use Rattle.native_ms.proofs.free_list_allocator.acquire_global_block.Goals as goal

pub returns-in-Some : goal.returns-in-Some
returns-in-Some c = rw (c.listed.ensures.end, c.listed.ensures.swept) (global_found c.args.wanted.now.space.now.p c.args.wanted.now.holder.number c.args.wanted.now.bin.number c.args.before (view c.args.words.now) c.args.states.now c.args.marks.now c.args.heap.now (rw c.in-Some.is at c.acquire_abandoned-found.ensures) c.args.wanted.now.request.offer (not_none c.in-Some.start.some))

pub returns-in-None : goal.returns-in-None
returns-in-None c = global_none c.args.wanted.now.space.now.p c.args.wanted.now.holder.number c.args.wanted.now.bin.number c.args.before (view c.args.words.now) c.args.states.now c.args.marks.now c.args.heap.now (rw c.in_default.is at c.acquire_abandoned-found.ensures) refl c.args.wanted.now.request.offer c.in-None.is

pub returns-in-Some-offer : goal.returns-in-Some-offer
returns-in-Some-offer c = global_fresh c.args.wanted.now.space.now.p c.args.wanted.now.holder.number c.args.wanted.now.bin.number c.args.before (view c.args.words.now) c.args.states.now c.args.marks.now c.args.heap.now (rw c.in_default.is at c.acquire_abandoned-found.ensures) refl c.args.wanted.now.request.offer _ c.in-Some-offer.is c.acquire_fresh.ensures c.start-at.ensures

pub invariant_of-end : goal.invariant_of-end
invariant_of-end c = omega (arith, c.start-at.ensures, start_pos c.args.wanted.now.space.now.p (good_bounds c.args.wanted.now.space.now.p c.requires.0.good) _ (c.args.wanted.now.offered.block _ c.in-Some-offer.is))
