-- `free_list_allocator::do_alloc` steps as `sound_step` does: refused, at the head block where it has a free cell, which is what the
-- search would find, or by the search. Assumes nothing.
use Rattle.std.proofs.lemmas.Result.{err_from_is_err_and}
use native.Mathlib.Omega.{arith}
use Rattle.model.specs.Tables.{view}
use Rattle.model.specs.Answers.{alloc_reply}
use Rattle.laws.proofs.Params.{good_bounds}
use Rattle.native_ms.proofs.Ending.{serve_head}
use Rattle.native_ms.proofs.ShortWay.{head_takeable}
use Rattle.native_ms.proofs.AllocCall.{call_lengths, call_refused, call_ready, call_holder, call_bin, call_shift, call_known, call_offered, call_served}
use Rattle.native_ms.proofs.free_list_allocator.do_alloc.Goals as goal

pub check_alloc-requires : goal.check_alloc-requires
check_alloc-requires c = call_lengths c.args.space.now.p _ _ _ _ c.requires

pub returns-in_err-bin : goal.returns-in_err-bin
unfolding alloc_reply
returns-in_err-bin c = let p = err_from_is_err_and c.from_residual.result c.from_residual.ensures.1 in rw (p.1, p.2) (call_refused c.args.space.now.p c.args.words.now c.args.states.now c.args.marks.now c.args.heap.now _ _ _ _ _ c.check_alloc.ensures c.in_err-bin.was)

pub invariant_of-wanted : goal.invariant_of-wanted
invariant_of-wanted c = let h = call_holder c.args.space.now.p c.args.words.now c.args.states.now c.args.marks.now c.args.heap.now _ _ _ _ _ c.check_alloc.ensures c.in_ok-bin.was in record { from = h.0; to = h.1 }

pub invariant_of-wanted-2 : goal.invariant_of-wanted-2
invariant_of-wanted-2 c = record { low = call_bin c.args.space.now.p c.args.words.now c.args.states.now c.args.marks.now c.args.heap.now _ _ _ _ _ c.check_alloc.ensures c.in_ok-bin.was c.requires }

pub invariant_of-wanted-3 : goal.invariant_of-wanted-3
invariant_of-wanted-3 c = record { offered = call_offered c.args.space.now.p c.args.words.now c.args.states.now c.args.marks.now c.args.heap.now _ _ _ _ _ c.check_alloc.ensures c.in_ok-bin.was c.requires; shift = call_shift c.args.space.now.p c.args.words.now c.args.states.now c.args.marks.now c.args.heap.now _ _ _ _ _ c.check_alloc.ensures c.in_ok-bin.was c.requires }

pub free_head-requires : goal.free_head-requires
free_head-requires c = (call_known c.args.space.now.p c.args.words.now c.args.states.now c.args.marks.now c.args.heap.now _ _ _ _ _ c.check_alloc.ensures c.in_ok-bin.was c.requires).count

pub serve_head-requires : goal.serve_head-requires
serve_head-requires c = head_takeable _ _ (call_known c.args.space.now.p c.args.words.now c.args.states.now c.args.marks.now c.args.heap.now _ _ _ _ _ c.check_alloc.ensures c.in_ok-bin.was c.requires) (call_ready c.args.space.now.p c.args.words.now c.args.states.now c.args.marks.now c.args.heap.now _ _ _ _ _ c.check_alloc.ensures c.in_ok-bin.was c.requires).cells c.in-Some.ensures

pub returns-in-Some : goal.returns-in-Some
returns-in-Some c = call_served c.args.space.now.p c.args.words.now c.args.states.now c.args.marks.now c.args.heap.now _ _ _ _ _ c.check_alloc.ensures c.in_ok-bin.was (serve_head c.args.space.now.p c.args.holder _ c.args.request.offer (view c.args.words.now) c.args.states.now c.args.marks.now c.args.heap.now c.owner-owner.ensures c.lists-own.ensures.available c.in-Some.ensures.1 (omega (arith, (good_bounds c.args.space.now.p c.args.space.now.good).blocks_low)) c.args.request.align c.args.request.offset (c.serve_head.ensures _ c.args.marks.now))

pub serve_searched-requires : goal.serve_searched-requires
serve_searched-requires c = (call_ready c.args.space.now.p c.args.words.now c.args.states.now c.args.marks.now c.args.heap.now _ _ _ _ _ c.check_alloc.ensures c.in_ok-bin.was c.requires, call_known c.args.space.now.p c.args.words.now c.args.states.now c.args.marks.now c.args.heap.now _ _ _ _ _ c.check_alloc.ensures c.in_ok-bin.was c.requires)

pub returns : goal.returns
returns c = call_served c.args.space.now.p c.args.words.now c.args.states.now c.args.marks.now c.args.heap.now _ _ _ _ _ c.check_alloc.ensures c.in_ok-bin.was c.serve_searched.ensures
