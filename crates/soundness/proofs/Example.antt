-- Refused calls, computed on the machine, of which the theorems of Refused.antt and Released.antt speak: a mark out of its
-- phase, an alloc that is Exhausted after it has swept and moved a block, one on tables with a bad chain;
-- and a release that makes one block Unallocated, a destroy and a last release by which one block goes over, and one with the choice of
-- eager sweeping, of which Eager.antt speaks.
use Rattle.std.specs.Prelude.{None, Some}
use Prim.Native.Nat.{ℕ, zero, suc, ◌<◌}
use native.Mathlib.Omega.{arith}
use mathlib.Core.Path.{◌≡◌, refl, sym, ap, ◌∙◌}
use mathlib.Core.Bool.{true}
use mathlib.Core.List.{List, [], ◌∷◌, head_d}
use lib.Count.{count_leading_zeros}
use borrow.Author.Tests.{leb-true}
use lib.ListN.{get_or, set, replicate}
use Rattle.model.specs.declared.Params.{Params}
use Rattle.model.specs.declared.Refusal.TheVariants.{BadTables, WrongPhase}
use Rattle.model.specs.Base.{all_below, any_below, member, filter, sum_below, each_below, flag}
use Rattle.model.specs.Params.{Lent, power_of_two, lower_ok, biased, plus_lower, minus_lower, heap_bytes, heap_end, good_params, word_count, fits, start, block_at, in_heap, is_start, list_of, list_word, local_sets, available, unswept, consumed}
use Rattle.model.specs.Memory.{load_bytes, bytes_of, overwrite, load, store, zeroed, bit_of, set_bit, mark_index, marked, set_mark, cleared}
use Rattle.model.specs.Tables.{Words, view, flat, set_first, set_last, set_bound, set_released, set_next, set_prev, set_free, set_size, set_list, set_tls, set_cells, set_phase, with_released}
use Rattle.model.specs.SizeClasses.{fours, class_words, class_bytes, words_in, highest_bit, bin_in_octave, mi_bin, bin_of, cell_bytes, raised, shift, align_allocation}
use Rattle.model.specs.Classes.{classes_fit}
use Rattle.model.specs.BlockList.{push, pop_head, pop, remove_between, remove, relabel, link, append, walk, blocks_on, appended}
use Rattle.model.specs.Block.{cell_count, is_cell, cells_down, link_all, init_chain, init_block, simple, keeps, sweep_chain, swept_words, clear_block, free_chain}
use Rattle.model.specs.Events.{event_heap, events_heap, is_sweep, is_release, sweeps, releases}
use Rattle.model.specs.FreeListAllocator.{find_free_block_with, recycle_local_blocks, acquire_abandoned, acquire_fresh, find_block}
use Rattle.model.specs.Global.{fresh_words, fresh_tables, is_holder, is_bound, bind_holder, abandon_bin, abandon_blocks, abandoned_bin, abandoned_below, abandoned_blocks, destroy_holder, unmarked_state, prepared, mark_place, release_from, release_blocks, append_to, left_unswept, release_bin, release_holder, sweep_later_bin, sweep_later, has_released, all_released, is_last, sweep_block, sweep_all, recycle_from, recycle_bin, recycle_blocks, swept_eagerly, eagerly, part_released, merged}
use Rattle.model.specs.Sound.{state_of, state_known, block_clear, list_named, bin_named, set_named, on_list_named, size_ok, link_ok, tls_ok, block_sound, linked_from, linked, owner_empty, unbound_empty, in_gc_empty, phase_known, flags_known, released_few, released_some, released_empty, sound, chain_counts, chain_ok, on_unswept, released_before, eager_block, eager_ok, chained}
use Rattle.model.specs.Calls.{Reply, exhausted, tables_in, Call, alloc, mark, release, Returned, refusal_number, good_request, too_big, good_offer, good_object, may_release, and_then, phase_test, bind_tests, bound_tests, request_tests, mark_tests, release_tests, shared_tests, call_tests, take_plan, release_plan, plan_passed, if_passed, plan_sound, plan, take_cell, finish, step, refused, answered, call, set_up, destroy, shared_release, may_leave, leave_tests, free_cells, cells_of, ask}
use Rattle.model.specs.OwnRows.{with_own_rows, LowBins, OwnRows}
use Rattle.model.specs.Census.{census_params}
use Rattle.model.specs.Eager.{LeftSwept, EndsSwept, EagerSwept}
use Rattle.model.specs.Refusals.{OfAlloc, KeptExhausted, RefusalKeeps, made_unallocated, blocks_of, went_over, swept_at_end, CountsReleased, ReleasedCounts, DestroyedCounts}
use Rattle.soundness.proofs.Eager.{eager_swept}
use Rattle.soundness.proofs.Refused.{refusal_keeps}
use Rattle.soundness.proofs.OwnRows.{own_rows}
use Rattle.soundness.proofs.Released.{destroyed_counted, released_counted}

abbrev p : Params
p = census_params

-- every byte of it is 0, so that a chain in it has one cell
pub heap₀ : List ℕ
heap₀ = replicate 16384 0

-- the cell at 27648 holds its own address
pub ring : List ℕ
unfolding heap₀
ring = set heap₀ 11265 108

-- no marks, and one at each of the four cells of 1,024 bytes of block 2
pub no_marks : List ℕ
no_marks = replicate 256 0

pub all_marked : List ℕ
unfolding no_marks
all_marked = set (set (set (set no_marks 128 1) 144 1) 160 1) 176 1

-- holders 1 and 2 are bound, and block 2, the only one in use, is on the list l with this free head, free count and holder
pub standing : ℕ → ℕ → ℕ → ℕ → ℕ → Words
standing l phase free cells tls =
    record {
      first = set (replicate 1470 0) l 24576;
      last = set (replicate 1470 0) l 24576;
      phase = phase;
      bound = 1 ∷ 1 ∷ 0 ∷ 0 ∷ 0 ∷ 0 ∷ 0 ∷ 0 ∷ [];
      released = replicate 9 0;
      next = 0 ∷ 0 ∷ 0 ∷ 0 ∷ [];
      prev = 0 ∷ 0 ∷ 0 ∷ 0 ∷ [];
      free = 0 ∷ 0 ∷ free ∷ 0 ∷ [];
      size = 0 ∷ 0 ∷ 1024 ∷ 0 ∷ [];
      list = 0 ∷ 0 ∷ list_word l ∷ 0 ∷ [];
      tls = 0 ∷ 0 ∷ tls ∷ 0 ∷ [];
      cells = 0 ∷ 0 ∷ cells ∷ 0 ∷ [];
    }

-- all that is lent, with this state byte of block 2
pub lent_on : List ℕ → Words → ℕ → List ℕ → Lent
lent_on h w s m = record { words = flat w; states = 0 ∷ 0 ∷ s ∷ 0 ∷ []; marks = m; heap = h }

pub lent : Words → ℕ → List ℕ → Lent
unfolding lent_on heap₀
lent w s m = lent_on heap₀ w s m

-- holder 2 asks for a cell of block 2's class, and nothing is offered
abbrev wants : Call
wants = alloc 2 1024 8 0 None

-- who opens `machine` opens all that its line names
machine : Params
unfolding count_leading_zeros all_below any_below member filter each_below flag power_of_two lower_ok biased plus_lower minus_lower heap_bytes heap_end good_params word_count fits start block_at in_heap is_start list_of list_word local_sets available unswept consumed load_bytes bytes_of overwrite load store zeroed bit_of set_bit mark_index marked set_mark cleared view flat set_first set_last set_bound set_released set_next set_prev set_free set_size set_list set_tls set_cells set_phase with_released fours class_words class_bytes words_in highest_bit bin_in_octave mi_bin bin_of cell_bytes classes_fit raised shift align_allocation push pop pop_head remove_between remove relabel link append walk blocks_on cell_count is_cell cells_down head_d link_all init_chain init_block simple keeps sweep_chain swept_words clear_block event_heap events_heap is_sweep is_release sweeps releases find_free_block_with recycle_local_blocks acquire_abandoned acquire_fresh find_block fresh_words fresh_tables is_holder is_bound bind_holder abandon_bin abandon_blocks destroy_holder unmarked_state prepared mark_place release_from release_blocks append_to left_unswept release_bin release_holder sweep_later_bin sweep_later has_released all_released part_released is_last sweep_block sweep_all recycle_from recycle_bin recycle_blocks swept_eagerly eagerly state_of state_known block_clear list_named bin_named set_named on_list_named size_ok link_ok tls_ok block_sound linked_from linked owner_empty unbound_empty in_gc_empty phase_known flags_known released_few released_some released_empty sound chain_counts chain_ok chained on_unswept released_before eager_block eager_ok refusal_number good_request too_big good_offer good_object may_release and_then phase_test bind_tests bound_tests request_tests mark_tests release_tests shared_tests call_tests take_plan release_plan plan_passed if_passed plan_sound plan take_cell finish step call set_up census_params heap₀ ring no_marks all_marked standing lent_on lent sum_below appended abandoned_bin abandoned_below abandoned_blocks merged may_leave leave_tests cells_of ask
machine = census_params

-- ---- a mark in Running, of a block on the available list (24) of holder 1: nothing changes

abbrev idle : Lent
idle = lent (standing 24 0 27648 1 1) 255 no_marks

pub mark_refused : (call p idle (mark 27648 2)).reply ≡ refused WrongPhase
unfolding machine
mark_refused = refl

pub mark_changes_nothing : (call p idle (mark 27648 2)).lent ≡ idle
unfolding RefusalKeeps refusal_number
mark_changes_nothing =
    let n : (call p idle (mark 27648 2)).reply.number ≡ 3 = ap (λ (r : Reply). r.number) mark_refused in
    (refusal_keeps p idle (mark 27648 2) (λ z. omega (arith, sym n ∙ z))).nothing (λ z. omega (arith, sym n ∙ z))

-- ---- Exhausted: block 2 is abandoned and unswept (1249), all its cells are marked. It is swept, and moved to the consumed list
-- (269) of holder 2. One sweep is told (02, R-12)

abbrev full : Lent
full = lent (standing 1249 0 27648 1 1) 254 all_marked

pub none_left : call p full wants ≡ record { reply = exhausted 1; lent = lent (standing 269 0 0 0 2) 254 all_marked }
unfolding machine
none_left = refl

pub exhausted_keeps : KeptExhausted p 2 (bin_of p (raised p 1024 8)) full (call p full wants).lent
unfolding RefusalKeeps OfAlloc refusal_number
exhausted_keeps =
    let n : (call p full wants).reply.number ≡ 9 = ap (λ (r : Returned). r.reply.number) none_left in
    (refusal_keeps p full wants (λ z. omega (arith, sym n ∙ z))).exhausted n

pub one_told : (0 ∷ 0 ∷ 0 ∷ 1 ∷ []) ≡ 0 ∷ 0 ∷ 0 ∷ sweeps (step p (tables_in full) full.heap wants).events ∷ []
unfolding RefusalKeeps refusal_number
one_told =
    let n : (call p full wants).reply.number ≡ 9 = ap (λ (r : Returned). r.reply.number) none_left in
    sym (ap (λ (r : Returned). r.reply.values) none_left) ∙ (refusal_keeps p full wants (λ z. omega (arith, sym n ∙ z))).told n

-- ---- R-7. A bad link is BadTables, and nothing changes: block 2 is available to holder 2 (171), and its chain is a ring

abbrev spoilt : Lent
spoilt = lent_on ring (standing 171 0 27648 1 2) 255 no_marks

pub ring_refused : (call p spoilt wants).reply ≡ refused BadTables
unfolding machine
ring_refused = refl

pub ring_changes_nothing : (call p spoilt wants).lent ≡ spoilt
unfolding RefusalKeeps refusal_number
ring_changes_nothing =
    let n : (call p spoilt wants).reply.number ≡ 2 = ap (λ (r : Reply). r.number) ring_refused in
    (refusal_keeps p spoilt wants (λ z. omega (arith, sym n ∙ z))).nothing (λ z. omega (arith, sym n ∙ z))

-- ---- asked for bin 24, that of 1,024 bytes, the total is 1: block 2 has one free cell

abbrev single : Lent
single = lent (standing 171 0 27648 1 2) 255 no_marks

pub one_free : ask p single (free_cells 24) ≡ answered (1 ∷ [])
unfolding machine
one_free = refl

-- ---- a release in Marking of holder 1, whose block 2 is Unmarked: one block, by the answer and by the state bytes. It is not the
-- last, and merges none

abbrev unmarked : Lent
unmarked = lent (standing 24 1 27648 1 1) 255 no_marks

pub one_released : (call p unmarked (release 1)).reply ≡ answered (1 ∷ 0 ∷ 0 ∷ [])
unfolding machine
one_released = refl

abbrev numbers : Params → Lent → Call → List ℕ
numbers q l c = made_unallocated q l (call q l c).lent ∷ went_over q l (call q l c).lent ∷ swept_at_end q (call q l c).lent ∷ []

pub one_counted : (1 ∷ 0 ∷ 0 ∷ []) ≡ numbers p unmarked (release 1)
unfolding ReleasedCounts CountsReleased
one_counted =
    sym (ap (λ (r : Reply). r.values) one_released) ∙ (released_counted p unmarked).0 1 (ap (λ (r : Reply). r.number) one_released)

-- ---- R-6: holder 1 is destroyed and leaves block 2 behind, available (24) or unswept (73)

pub one_left : (call p idle (destroy 1)).reply ≡ answered (1 ∷ [])
unfolding machine
one_left = refl

abbrev kept : Lent
kept = lent (standing 73 0 27648 1 1) 254 no_marks

pub unswept_left : (call p kept (destroy 1)).reply ≡ answered (1 ∷ [])
unfolding machine
unswept_left = refl

pub left_counted : ((1 ∷ []) ≡ blocks_of p kept 1 ∷ []) × ((1 ∷ []) ≡ went_over p kept (call p kept (destroy 1)).lent ∷ [])
unfolding DestroyedCounts
left_counted =
    let e = sym (ap (λ (r : Reply). r.values) unswept_left) in
    let c = destroyed_counted p kept 1 (ap (λ (r : Reply). r.number) unswept_left) in
    (e ∙ c.0, e ∙ c.1)

-- ---- the shared release is the last: both holders have released, and block 2 waits in in-gc, unswept (1396)

abbrev waiting : Lent
waiting = lent (with_released (0 ∷ 1 ∷ 1 ∷ 0 ∷ 0 ∷ 0 ∷ 0 ∷ 0 ∷ 0 ∷ []) (standing 1396 2 27648 1 1)) 254 no_marks

pub one_merged : (call p waiting shared_release).reply ≡ answered (0 ∷ 1 ∷ 0 ∷ [])
unfolding machine
one_merged = refl

pub merged_counted : (0 ∷ 1 ∷ 0 ∷ []) ≡ numbers p waiting shared_release
unfolding ReleasedCounts CountsReleased
merged_counted =
    sym (ap (λ (r : Reply). r.values) one_merged) ∙ (released_counted p waiting).1 (ap (λ (r : Reply). r.number) one_merged)

-- ---- R-8: the same with the choice on. Block 2 is full, Marked and consumed (1445), with a mark at its first cell. It is swept, recycled
-- and merged, and the three other cells are free

abbrev q : Params
q = record { base = p.base; bytes = p.bytes; blocks = p.blocks; min = p.min; max = p.max; offsets = p.offsets; unified = p.unified; lower = p.lower; eager = true; rows = p.rows; count = p.count }

pub one_marked : List ℕ
unfolding no_marks
one_marked = set no_marks 128 1

abbrev ending : Lent
ending = lent (with_released (0 ∷ 1 ∷ 1 ∷ 0 ∷ 0 ∷ 0 ∷ 0 ∷ 0 ∷ 0 ∷ []) (standing 1445 2 0 0 1)) 254 one_marked

pub one_swept : (call q ending shared_release).reply ≡ answered (0 ∷ 1 ∷ 1 ∷ [])
unfolding machine one_marked
one_swept = refl

-- available to all (1200), with a free head and a count of 3
pub swept_words_lem : view (call q ending shared_release).lent.words ≡ standing 1200 0 27648 3 1
unfolding machine one_marked
swept_words_lem = refl

pub swept_counted : (0 ∷ 1 ∷ 1 ∷ []) ≡ numbers q ending shared_release
unfolding ReleasedCounts CountsReleased
swept_counted =
    sym (ap (λ (r : Reply). r.values) one_swept) ∙ (released_counted q ending).1 (ap (λ (r : Reply). r.number) one_swept)

block_two : (2 < q.blocks) × (get_or (call q ending shared_release).lent.states 2 0 ≡ 254)
unfolding machine one_marked
block_two = (omega arith, refl)

after_swept : LeftSwept q ending (call q ending shared_release).lent 2
unfolding EagerSwept EndsSwept standing
after_swept =
    (eager_swept q ending).1 refl (ap (λ (r : Reply). r.number) one_swept) (ap (λ (w : Words). w.phase) swept_words_lem) 2 block_two.0
    (λ z. omega (arith, sym block_two.1 ∙ z))

built : sweep_chain q one_marked 2 1024 ≡ 27648 ∷ 26624 ∷ 25600 ∷ []
unfolding machine one_marked
built = refl

pub swept_chain : free_chain q (call q ending shared_release).lent.heap 2 (view (call q ending shared_release).lent.words) ≡ 27648 ∷ 26624 ∷ 25600 ∷ []
unfolding standing lent lent_on
swept_chain = after_swept.chain ∙ ap (λ (w : Words). sweep_chain q one_marked 2 (get_or w.size 2 0)) swept_words_lem ∙ built

-- ---- 01's own sizes as rows (02, R-5): block 2 is in bin 24, and the block's own bin is 32. Holder 1 asks for 72 bytes and gets what it got
-- before, a cell of 80 bytes of the block offered

own_low : LowBins p idle
unfolding machine LowBins
own_low zero l ne = absurd (ne refl)
own_low (suc zero) l ne = absurd (ne refl)
own_low (suc (suc zero)) l ne = leb-true 24 32 refl
own_low (suc (suc (suc zero))) l ne = absurd (ne refl)
own_low (suc (suc (suc (suc b)))) l ne = absurd (omega arith)

abbrev entry : Call
entry = alloc 1 72 8 0 (Some (record { 0 = 1 }))

plain_served : (call p idle entry).reply ≡ answered (24480 ∷ 80 ∷ 1 ∷ 0 ∷ [])
unfolding machine
plain_served = refl

plain : p.count ≡ 0
unfolding machine
plain = refl

pub own_served : (call (with_own_rows p) idle entry).reply ≡ answered (24480 ∷ 80 ∷ 1 ∷ 0 ∷ [])
unfolding OwnRows
own_served = ap (λ (r : Returned). r.reply) ((own_rows p plain).1 idle own_low entry) ∙ plain_served
