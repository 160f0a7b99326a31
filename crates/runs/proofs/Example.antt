-- An example run that meets the premises of demand 3, computed on the machine turn by turn: two cells of one block are handed
-- out, a byte is written into the first, a collection marks that one alone, and the alloc after it sweeps the block. The first
-- cell is kept. The second is lost, and its bytes are handed out again in the same call, as another cell.
--
-- A second run, with the same first turns, meets those of `MarkedStays`: the holder leaves after the mark, the shared release is
-- first and last, and another holder's alloc sweeps the block. The first cell, the departed holder's, is kept; the second is lost.
--
-- A third run, with the same turns up to the mark and the choice of eager sweeping on, meets the premises of demand 3: the last release
-- sweeps the block. The first cell is kept; the second is lost in that release.
--
-- A fourth run meets those of `SweepsBound` and `PassOnce`, and reaches both: a block of one cell, which is marked, waits at the end of the
-- collection. The alloc after it sweeps the block, frees nothing, moves it to consumed and is Exhausted.
use Rattle.std.specs.Prelude.{Option, None, Some}
use Prim.Native.Nat.{ℕ, ◌≤◌}
use native.Mathlib.Omega.{arith}
use mathlib.Core.Path.{◌≡◌, refl, sym, ap, ◌∙◌, subst}
use mathlib.Core.Logic.{◌≢◌, inl, inr, ⊎_elim}
use mathlib.Core.Bool.{Bool, true, false, ◌&&◌}
use mathlib.Core.List.{List, [], ◌∷◌, ◌++◌, head_d}
use lib.Count.{count_leading_zeros}
use lib.ListN.{set, replicate}
use Rattle.model.specs.declared.Params.{Params}
use Rattle.model.specs.declared.Block.{Block}
use Rattle.model.specs.Base.{all_below, any_below, member, filter, sum_below, each_below, flag, In, any}
use Rattle.model.specs.Params.{Lent, power_of_two, lower_ok, biased, plus_lower, minus_lower, heap_bytes, heap_end, good_params, word_count, fits, start, block_at, in_heap, is_start, list_of, list_word, local_sets, available, unswept, consumed}
use Rattle.model.specs.Memory.{load_bytes, bytes_of, overwrite, load, store, zeroed, bit_of, set_bit, mark_index, marked, set_mark, cleared}
use Rattle.model.specs.Tables.{Words, tables_of, view, flat, set_first, set_last, set_bound, set_released, set_next, set_prev, set_free, set_size, set_list, set_tls, set_cells, set_phase, with_released}
use Rattle.model.specs.SizeClasses.{fours, class_words, class_bytes, words_in, highest_bit, bin_in_octave, mi_bin, bin_of, cell_bytes, raised, shift, align_allocation}
use Rattle.model.specs.Classes.{classes_fit}
use Rattle.model.specs.BlockList.{push, pop_head, pop, remove_between, remove, relabel, link, append, walk, blocks_on, appended}
use Rattle.model.specs.Block.{cell_count, is_cell, cells_down, link_all, init_chain, init_block, simple, keeps, sweep_chain, swept_words, clear_block, chain_from, free_chain}
use Rattle.model.specs.Events.{Event, swept, taken, spent, event_heap, events_heap, is_sweep, is_release, sweeps, releases, spends, times_spent}
use Rattle.model.specs.FreeListAllocator.{find_free_block_with, recycle_local_blocks, acquire_abandoned, acquire_fresh, find_block}
use Rattle.model.specs.Global.{fresh_words, fresh_tables, is_holder, is_bound, bind_holder, abandon_bin, abandon_blocks, abandoned_bin, abandoned_below, abandoned_blocks, destroy_holder, unmarked_state, prepared, mark_place, release_from, release_blocks, append_to, left_unswept, release_bin, release_holder, sweep_later_bin, sweep_later, has_released, all_released, is_last, sweep_block, sweep_all, recycle_from, recycle_bin, recycle_blocks, swept_eagerly, eagerly, part_released, merged}
use Rattle.model.specs.Sound.{state_of, state_known, block_clear, list_named, bin_named, set_named, on_list_named, size_ok, link_ok, tls_ok, block_sound, linked_from, linked, owner_empty, unbound_empty, in_gc_empty, phase_known, flags_known, released_few, released_some, released_empty, sound, chain_counts, chain_ok, on_unswept, released_before, eager_block, eager_ok, chained}
use Rattle.model.specs.Calls.{answered, exhausted, Call, bind, destroy, alloc, prepare, mark, release, shared_release, refusal_number, good_request, too_big, good_offer, good_object, may_leave, may_release, and_then, phase_test, bind_tests, leave_tests, bound_tests, request_tests, mark_tests, release_tests, shared_tests, call_tests, take_plan, release_plan, plan_passed, if_passed, plan_sound, plan, take_cell, finish, step, tables_in, lent_of, call, set_up}
use Rattle.model.specs.Census.{census_params, letter, awaits_sweep, printed_chain}
use Rattle.model.specs.Runs.{Cell, frees, entered, book_event, book_events, book_answer, taker_of, book_after, Write, written, Turn, State, found_by, step_of, result_of, book_of, turned, begun, covers, Holds, HoldersWrite, unmarked, stays_held, byte_at, RunKeeps, Demand3}
use Rattle.model.specs.Spans.{after_turns, phase_in, is_prepare, NoPrepare, NotLost, MarkedStays, Span, swept_count, alloc_sweeps, awaits, waiting, SweepsBound, EagerSweepsNone, passes, PassOnce}
use Rattle.model.specs.Port.{PortRun, turns_of, port_begun, PortKeeps, ran, Demand3OfThePort}
use Rattle.soundness.proofs.Printed.{printed_is_built}
use Rattle.runs.proofs.Demand3.{demand3}
use Rattle.runs.proofs.SpanLaws.{marked_stays}
use Rattle.runs.proofs.Ceiling.{sweeps_bound, eager_sweeps_none, pass_once}
use Rattle.runs.proofs.Port.{ran_chain, ran_turns, demand3_of_the_port}

-- ---- the run

abbrev p : Params
p = census_params

-- the same with the choice of eager sweeping on
abbrev p' : Params
p' =
    record {
      base = p.base;
      bytes = p.bytes;
      blocks = p.blocks;
      min = p.min;
      max = p.max;
      offsets = p.offsets;
      unified = p.unified;
      lower = p.lower;
      eager = true;
      rows = p.rows;
      count = p.count;
    }

unfoldable pub heap₀ : List ℕ
heap₀ = replicate 16384 255

-- what is lent to set-up: no byte of it is 0
unfoldable pub lent : Lent
lent = record { words = replicate 2986 255; states = replicate 4 255; marks = replicate 256 255; heap = heap₀ }

abbrev quiet : Call → Turn
quiet c = record { writes = []; call = c }

-- the second word of the first cell
abbrev writing : Write
writing = record { holder = 1; address = 27656; byte = 7 }

abbrev ask : Option Block → Call
ask offer = alloc 1 1024 8 0 offer

unfoldable pub turns : List Turn
turns =
    quiet (bind 1) ∷ quiet (ask (Some (record { 0 = 2 }))) ∷ quiet (ask None)
    ∷ record { writes = writing ∷ []; call = prepare } ∷ quiet (mark 27648 2) ∷ quiet (release 1) ∷ quiet shared_release
    ∷ quiet (ask None) ∷ []

-- the second run, up to where releasing begins, and from there
unfoldable pub before_releasing : List Turn
before_releasing =
    quiet (bind 1) ∷ quiet (ask (Some (record { 0 = 2 }))) ∷ quiet (ask None)
    ∷ record { writes = writing ∷ []; call = prepare } ∷ quiet (mark 27648 2) ∷ quiet (destroy 1) ∷ []

abbrev other_ask : Call
other_ask = alloc 2 1024 8 0 None

unfoldable pub after_releasing : List Turn
after_releasing = quiet (bind 2) ∷ quiet other_ask ∷ []

-- the third run
unfoldable pub eager_turns : List Turn
eager_turns =
    quiet (bind 1) ∷ quiet (ask (Some (record { 0 = 2 }))) ∷ quiet (ask None)
    ∷ record { writes = writing ∷ []; call = prepare } ∷ quiet (mark 27648 2) ∷ quiet (release 1) ∷ quiet shared_release ∷ []

-- the fourth, up to the end of its last release, and from there
abbrev wide : Option Block → Call
wide offer = alloc 1 4096 8 0 offer

unfoldable pub until_released : List Turn
until_released =
    quiet (bind 1) ∷ quiet (wide (Some (record { 0 = 2 }))) ∷ quiet prepare ∷ quiet (mark 24576 2) ∷ quiet (release 1) ∷ quiet shared_release ∷ []

unfoldable pub after_released : List Turn
after_released = quiet (wide None) ∷ []

-- ---- what stands between its turns

-- the words while block 2, the only one in use, is on the list l with this free head and free count
standing : ℕ → ℕ → List ℕ → ℕ → ℕ → Words
standing l phase parts free cells =
    record {
      first = set (replicate 1470 0) l 24576;
      last = set (replicate 1470 0) l 24576;
      phase = phase;
      bound = 1 ∷ 0 ∷ 0 ∷ 0 ∷ 0 ∷ 0 ∷ 0 ∷ 0 ∷ [];
      released = parts;
      next = 0 ∷ 0 ∷ 0 ∷ 0 ∷ [];
      prev = 0 ∷ 0 ∷ 0 ∷ 0 ∷ [];
      free = 0 ∷ 0 ∷ free ∷ 0 ∷ [];
      size = 0 ∷ 0 ∷ 1024 ∷ 0 ∷ [];
      list = 0 ∷ 0 ∷ list_word l ∷ 0 ∷ [];
      tls = 0 ∷ 0 ∷ 1 ∷ 0 ∷ [];
      cells = 0 ∷ 0 ∷ cells ∷ 0 ∷ [];
    }

-- the parts that have released: none, or holder 1
none : List ℕ
none = replicate 9 0

one : List ℕ
one = 0 ∷ 1 ∷ 0 ∷ 0 ∷ 0 ∷ 0 ∷ 0 ∷ 0 ∷ 0 ∷ []

states : ℕ → List ℕ
states s = 0 ∷ 0 ∷ s ∷ 0 ∷ []

no_marks : List ℕ
no_marks = replicate 256 0

-- the mark at 27648
one_mark : List ℕ
one_mark = set no_marks 176 1

-- the heap after the first alloc, the second, the write, the last alloc
heap₂ : List ℕ
heap₂ = zeroed p (link_all p (27648 ∷ 26624 ∷ 25600 ∷ 24576 ∷ []) heap₀) 27648 1024

heap₃ : List ℕ
heap₃ = zeroed p heap₂ 26624 1024

heap₄ : List ℕ
heap₄ = set heap₃ 11272 7

pub heap₈ : List ℕ
heap₈ = zeroed p (link_all p (26624 ∷ 25600 ∷ 24576 ∷ []) heap₄) 26624 1024

-- the two cells, old or new
abbrev first : Bool → Cell
first old = record { start = 27648; size = 1024; holder = 1; old = old }

abbrev second : Bool → Cell
second old = record { start = 26624; size = 1024; holder = 1; old = old }

abbrev stands : Words → List ℕ → List ℕ → List ℕ → List Cell → List ℕ → State
stands w s m h cells places =
    record { lent = lent_of (tables_of w s m) h; book = record { cells = cells; places = places } }

-- after each turn. List 24 is the holder's available list of this class, 1396 in-gc unswept, 1249 abandoned unswept
after₀ : State
after₀ = stands (fresh_words p) (states 0) no_marks heap₀ [] []

after₁ : State
after₁ = stands (set_bound 0 1 (fresh_words p)) (states 0) no_marks heap₀ [] []

after₂ : State
after₂ = stands (standing 24 0 none 26624 3) (states 255) no_marks heap₂ (first false ∷ []) []

after₃ : State
after₃ = stands (standing 24 0 none 25600 2) (states 255) no_marks heap₃ (second false ∷ first false ∷ []) []

after₄ : State
after₄ = stands (standing 24 1 none 25600 2) (states 255) no_marks heap₄ (second true ∷ first true ∷ []) []

after₅ : State
after₅ = stands (standing 24 1 none 25600 2) (states 254) one_mark heap₄ (second true ∷ first true ∷ []) (27648 ∷ [])

after₆ : State
after₆ = stands (standing 1396 2 one 25600 2) (states 254) one_mark heap₄ (second true ∷ first true ∷ []) (27648 ∷ [])

pub after₇ : State
after₇ = stands (standing 1249 0 none 25600 2) (states 254) one_mark heap₄ (second true ∷ first true ∷ []) (27648 ∷ [])

unfoldable pub after₈ : State
unfolding standing states none one_mark no_marks heap₈ heap₄ heap₃ heap₂ heap₀
after₈ = stands (standing 24 0 none 25600 2) (states 254) one_mark heap₈ (second false ∷ first true ∷ []) (27648 ∷ [])

-- after the fifth turn holder 1 leaves; then the shared release, holder 2, and its alloc. List 1200 is the abandoned available
-- list of this class, 171 holder 2's
pub left₆ : State
left₆ = stands (set_bound 0 0 (standing 1200 1 none 25600 2)) (states 254) one_mark heap₄ (second true ∷ first true ∷ []) (27648 ∷ [])

left₇ : State
left₇ = stands (set_bound 0 0 (standing 1249 0 none 25600 2)) (states 254) one_mark heap₄ (second true ∷ first true ∷ []) (27648 ∷ [])

pub left₈ : State
left₈ = stands (set_bound 1 1 (set_bound 0 0 (standing 1249 0 none 25600 2))) (states 254) one_mark heap₄ (second true ∷ first true ∷ []) (27648 ∷ [])

-- the cell that holder 2 gets where the second stood
abbrev third : Cell
third = record { start = 26624; size = 1024; holder = 2; old = false }

pub left₉ : State
left₉ = stands (set_tls 2 2 (set_bound 1 1 (set_bound 0 0 (standing 171 0 none 25600 2)))) (states 254) one_mark heap₈ (third ∷ first true ∷ []) (27648 ∷ [])

-- after the fifth turn, with eager sweeping: the release leaves the block available, and the last one sweeps it. List 1347 is in-gc's
-- available list of this class
heap₇ : List ℕ
heap₇ = link_all p (26624 ∷ 25600 ∷ 24576 ∷ []) heap₄

pub eager₆ : State
eager₆ = stands (standing 1347 2 one 25600 2) (states 254) one_mark heap₄ (second true ∷ first true ∷ []) (27648 ∷ [])

pub eager₇ : State
eager₇ = stands (standing 1200 0 none 26624 3) (states 254) one_mark heap₇ (first true ∷ []) (27648 ∷ [])

-- of the fourth run, from its second turn on: block 2 has one cell of 4,096 bytes. List 32 is holder 1's available list of this class, 130 its
-- consumed one, 1404 in-gc unswept, 1257 abandoned unswept
heap_wide : List ℕ
heap_wide = zeroed p (link_all p (24576 ∷ []) heap₀) 24576 4096

abbrev only : Bool → Cell
only old = record { start = 24576; size = 4096; holder = 1; old = old }

-- the words while the block is on the list l; its cell is handed out
standing_wide : ℕ → ℕ → List ℕ → Words
standing_wide l phase parts = set_size 2 4096 (standing l phase parts 0 0)

-- the mark at 24576
wide_mark : List ℕ
wide_mark = set no_marks 128 1

wide₂ : State
wide₂ = stands (standing_wide 32 0 none) (states 255) no_marks heap_wide (only false ∷ []) []

wide₃ : State
wide₃ = stands (standing_wide 32 1 none) (states 255) no_marks heap_wide (only true ∷ []) []

wide₄ : State
wide₄ = stands (standing_wide 32 1 none) (states 254) wide_mark heap_wide (only true ∷ []) (24576 ∷ [])

wide₅ : State
wide₅ = stands (standing_wide 1404 2 one) (states 254) wide_mark heap_wide (only true ∷ []) (24576 ∷ [])

-- the end of the last release
pub wide₆ : State
wide₆ = stands (standing_wide 1257 0 none) (states 254) wide_mark heap_wide (only true ∷ []) (24576 ∷ [])

pub wide₇ : State
wide₇ = stands (standing_wide 130 0 none) (states 254) wide_mark heap_wide (only true ∷ []) (24576 ∷ [])

-- ---- each turn, computed. Who opens `machine` opens all that its line names

machine : Params
unfolding begun turned found_by step_of result_of book_of written taker_of book_after book_answer book_events book_event entered frees count_leading_zeros all_below any_below member filter sum_below each_below flag power_of_two lower_ok biased plus_lower minus_lower heap_bytes heap_end good_params word_count fits start block_at in_heap is_start list_of list_word local_sets available unswept consumed load_bytes bytes_of overwrite load store zeroed bit_of set_bit mark_index marked set_mark cleared view flat set_first set_last set_bound set_released set_next set_prev set_free set_size set_list set_tls set_cells set_phase with_released fours class_words class_bytes words_in highest_bit bin_in_octave mi_bin bin_of cell_bytes classes_fit raised shift align_allocation push pop pop_head remove_between remove relabel link append walk blocks_on cell_count is_cell cells_down head_d link_all init_chain init_block simple keeps sweep_chain swept_words clear_block event_heap events_heap is_sweep is_release sweeps releases find_free_block_with recycle_local_blocks acquire_abandoned acquire_fresh find_block fresh_words fresh_tables is_holder is_bound bind_holder abandon_bin abandon_blocks destroy_holder unmarked_state prepared mark_place release_from release_blocks append_to left_unswept release_bin release_holder sweep_later_bin sweep_later has_released all_released part_released is_last sweep_block sweep_all recycle_from recycle_bin recycle_blocks swept_eagerly eagerly state_of state_known block_clear list_named bin_named set_named on_list_named size_ok link_ok tls_ok block_sound linked_from linked owner_empty unbound_empty in_gc_empty phase_known flags_known released_few released_some released_empty sound chain_counts chain_ok chained on_unswept released_before eager_block eager_ok refusal_number good_request too_big good_offer good_object may_release and_then phase_test bind_tests bound_tests request_tests mark_tests release_tests shared_tests call_tests take_plan release_plan plan_passed if_passed plan_sound plan take_cell finish step call set_up census_params after₀ after₁ after₂ after₃ after₄ after₅ after₆ after₇ after₈ standing states none one no_marks one_mark heap₀ heap₂ heap₃ heap₄ heap₈ lent chain_from free_chain letter awaits_sweep printed_chain appended abandoned_bin abandoned_below abandoned_blocks merged may_leave leave_tests left₆ left₇ left₈ left₉ heap₇ eager₆ eager₇ standing_wide wide_mark heap_wide wide₂ wide₃ wide₄ wide₅ wide₆ wide₇
machine = census_params

set_up_lem : begun p lent ≡ after₀
unfolding machine
set_up_lem = refl

turn₁ : turned p after₀ (quiet (bind 1)) ≡ after₁
unfolding machine
turn₁ = refl

turn₂ : turned p after₁ (quiet (ask (Some (record { 0 = 2 })))) ≡ after₂
unfolding machine
turn₂ = refl

turn₃ : turned p after₂ (quiet (ask None)) ≡ after₃
unfolding machine
turn₃ = refl

turn₄ : turned p after₃ (record { writes = writing ∷ []; call = prepare }) ≡ after₄
unfolding machine
turn₄ = refl

turn₅ : turned p after₄ (quiet (mark 27648 2)) ≡ after₅
unfolding machine
turn₅ = refl

turn₆ : turned p after₅ (quiet (release 1)) ≡ after₆
unfolding machine
turn₆ = refl

turn₇ : turned p after₆ (quiet shared_release) ≡ after₇
unfolding machine
turn₇ = refl

turn₈ : turned p after₇ (quiet (ask None)) ≡ after₈
unfolding machine
turn₈ = refl

-- ---- joined

-- a turn in which nothing is written, and one with one byte written
quiet_turn : (q : Params) (s s' : State) (c : Call) (us : List Turn) → turned q s (quiet c) ≡ s' → HoldersWrite q s' us → HoldersWrite q s (quiet c ∷ us)
unfolding HoldersWrite In
quiet_turn q s s' c us e H = ((λ w m. absurd m), subst (λ (x : State). HoldersWrite q x us) (sym e) H)

writing_turn : (q : Params) (s s' : State) (w : Write) (c : Call) (us : List Turn) → Holds s.book w
    → turned q s (record { writes = w ∷ []; call = c }) ≡ s' → HoldersWrite q s' us → HoldersWrite q s (record { writes = w ∷ []; call = c } ∷ us)
unfolding HoldersWrite In
writing_turn q s s' w c us h e H =
    ((λ v m. ⊎_elim (λ z. subst (Holds s.book) (sym z) h) (λ f. absurd f) m), subst (λ (x : State). HoldersWrite q x us) (sym e) H)

-- the first cell is holder 1's when it is written
held : Holds after₃.book writing
unfolding Holds In covers after₃
held = (first false, inr (inl refl), refl, (omega arith, omega arith))

nothing_left : (q : Params) (s : State) → HoldersWrite q s []
unfolding HoldersWrite
nothing_left q s = tt

-- the premise of demand 3
pub holders_write : HoldersWrite p (begun p lent) turns
unfolding turns
holders_write =
    subst (λ (x : State). HoldersWrite p x turns) (sym set_up_lem)
    (quiet_turn p _ _ _ _ turn₁ (quiet_turn p _ _ _ _ turn₂ (quiet_turn p _ _ _ _ turn₃
    (writing_turn p _ _ _ _ _ held turn₄ (quiet_turn p _ _ _ _ turn₅ (quiet_turn p _ _ _ _ turn₆
    (quiet_turn p _ _ _ _ turn₇ (quiet_turn p _ _ _ _ turn₈ (nothing_left p after₈)))))))))

-- set-up is not refused
pub set_up_answers : (set_up p lent).reply ≡ answered []
unfolding machine
set_up_answers = refl

-- so the theorem speaks of this run
pub run_keeps : RunKeeps p (begun p lent) turns
unfolding Demand3
run_keeps = (demand3 p lent lent turns turns set_up_answers set_up_answers holders_write holders_write refl).1

-- ---- the same run as one of the port: the machine's own results keep the promises, by `refl` at each call
pub port : PortRun p
unfolding begun
port =
    record {
      given = lent;
      first = set_up p lent;
      made = ran p (begun p lent) turns;
      set_up_kept = record { reply = refl; lent = refl };
      calls_kept = ran_chain p turns (begun p lent);
    }

port_writes : HoldersWrite p (begun p lent) (turns_of (ran p (begun p lent) turns))
port_writes = subst (HoldersWrite p (begun p lent)) (sym (ran_turns p turns (begun p lent))) holders_write

-- so the theorem speaks of it
pub port_keeps : PortKeeps p (port_begun port) port.made
unfolding Demand3OfThePort port
port_keeps = (demand3_of_the_port p port port set_up_answers set_up_answers port_writes port_writes refl).2

next : (q : Params) (s s' z : State) (u : Turn) (us : List Turn) → turned q s u ≡ s' → after_turns q s' us ≡ z → after_turns q s (u ∷ us) ≡ z
unfolding after_turns
next q s s' z u us e f = ap (λ (x : State). after_turns q x us) e ∙ f

done : (q : Params) (s : State) → after_turns q s [] ≡ s
unfolding after_turns
done q s = refl

pub run_ends : after_turns p (begun p lent) turns ≡ after₈
unfolding turns
run_ends =
    ap (λ (x : State). after_turns p x turns) set_up_lem
    ∙ next p _ _ _ _ _ turn₁ (next p _ _ _ _ _ turn₂ (next p _ _ _ _ _ turn₃ (next p _ _ _ _ _ turn₄ (next p _ _ _ _ _ turn₅
    (next p _ _ _ _ _ turn₆ (next p _ _ _ _ _ turn₇ (next p _ _ _ _ _ turn₈ (done p after₈))))))))

-- ---- what is held then: the first cell, kept since it was marked, and a new cell where the second stood
pub held_after : after₈.book.cells ≡ second false ∷ first true ∷ []
unfolding after₈
held_after = refl

-- the last alloc swept block 2 and took the cell
abbrev last : List Event
last = (step_of p after₇ (quiet (ask None))).events

pub last_events : last ≡ swept 2 (26624 ∷ 25600 ∷ 24576 ∷ []) ∷ taken 26624 1024 ∷ []
unfolding machine
last_events = refl

pub kept : stays_held p last (first true) ≡ true
unfolding stays_held any frees member
kept = rw last_events

pub lost : stays_held p last (second true) ≡ false
unfolding stays_held any frees member
lost = rw last_events

-- the byte written still stands, and where the heap was 255 the new cell is 0
pub bytes_after : (byte_at p heap₈ 27656 ≡ 7) × (byte_at p heap₈ 26632 ≡ 0)
unfolding machine
bytes_after = (refl, refl)

-- ---- R-4: a listing at the end of the collection prints the chain that the last alloc's sweep then builds. This run meets the
-- premises of `printed_is_built`

pub waits : awaits_sweep (tables_in after₇.lent).words 2 ≡ true
unfolding machine
waits = refl

pub as_printed : 26624 ∷ 25600 ∷ 24576 ∷ [] ≡ printed_chain (tables_in after₇.lent) (found_by p after₇.lent (quiet (ask None))).heap 2
unfolding step_of In
as_printed =
    printed_is_built (tables_in after₇.lent) (found_by p after₇.lent (quiet (ask None))).heap 1 1024 8 0 None 2 _ waits
    (subst (In (swept 2 (26624 ∷ 25600 ∷ 24576 ∷ []))) (sym last_events) (inl refl))

-- ---- R-10: the second run

leave₆ : turned p after₅ (quiet (destroy 1)) ≡ left₆
unfolding machine
leave₆ = refl

leave₇ : turned p left₆ (quiet shared_release) ≡ left₇
unfolding machine
leave₇ = refl

leave₈ : turned p left₇ (quiet (bind 2)) ≡ left₈
unfolding machine
leave₈ = refl

leave₉ : turned p left₈ (quiet other_ask) ≡ left₉
unfolding machine
leave₉ = refl

pub leaving_writes : HoldersWrite p (begun p lent) (before_releasing ++ (quiet shared_release ∷ after_releasing))
unfolding before_releasing after_releasing
leaving_writes =
    subst (λ (x : State). HoldersWrite p x (before_releasing ++ (quiet shared_release ∷ after_releasing))) (sym set_up_lem)
    (quiet_turn p _ _ _ _ turn₁ (quiet_turn p _ _ _ _ turn₂ (quiet_turn p _ _ _ _ turn₃
    (writing_turn p _ _ _ _ _ held turn₄ (quiet_turn p _ _ _ _ turn₅ (quiet_turn p _ _ _ _ leave₆
    (quiet_turn p _ _ _ _ leave₇ (quiet_turn p _ _ _ _ leave₈ (quiet_turn p _ _ _ _ leave₉ (nothing_left p left₉))))))))))

-- where releasing begins
pub stands_left : after_turns p (begun p lent) before_releasing ≡ left₆
unfolding before_releasing
stands_left =
    ap (λ (x : State). after_turns p x before_releasing) set_up_lem
    ∙ next p _ _ _ _ _ turn₁ (next p _ _ _ _ _ turn₂ (next p _ _ _ _ _ turn₃ (next p _ _ _ _ _ turn₄ (next p _ _ _ _ _ turn₅
    (next p _ _ _ _ _ leave₆ (done p left₆))))))

not_and : (a b : Bool) → a ≡ false → (a && b) ≡ false
not_and a b e = rw e

no_prepare : (q : Params) (s s' : State) (c : Call) (us : List Turn) → is_prepare c ≡ false → turned q s (quiet c) ≡ s' → NoPrepare q s' us
    → NoPrepare q s (quiet c ∷ us)
unfolding NoPrepare
no_prepare q s s' c us n e N = (not_and (is_prepare c) _ n, subst (λ (x : State). NoPrepare q x us) (sym e) N)

none_prepares : (q : Params) (s : State) → NoPrepare q s []
unfolding NoPrepare
none_prepares q s = tt

pub no_prepare_since : NoPrepare p left₆ (quiet shared_release ∷ after_releasing)
unfolding after_releasing is_prepare
no_prepare_since =
    no_prepare p _ _ _ _ refl leave₇ (no_prepare p _ _ _ _ refl leave₈ (no_prepare p _ _ _ _ refl leave₉ (none_prepares p left₉)))

marking_still : phase_in left₆ ≡ 1
unfolding machine
marking_still = refl

-- the shared release is first and last: Running follows at once
running_again : phase_in left₇ ≡ 0
unfolding machine
running_again = refl

first_marked : unmarked p left₆.book (first true) ≡ false
unfolding machine unmarked
first_marked = refl

second_unmarked : unmarked p left₆.book (second true) ≡ true
unfolding machine unmarked
second_unmarked = refl

first_held : In (first true) left₆.book.cells
unfolding left₆ In
first_held = inr (inl refl)

-- so the theorem speaks of this run: the first cell, the departed holder's, isn't lost
pub left_stays : NotLost p (after_turns p (begun p lent) before_releasing) (quiet shared_release ∷ after_releasing) (first true)
unfolding MarkedStays
left_stays =
    marked_stays p lent before_releasing (quiet shared_release) after_releasing (first true) set_up_answers leaving_writes
    (subst (λ (x : State). phase_in x ≡ 1) (sym stands_left) marking_still)
    (subst (λ (x : State). phase_in (turned p x (quiet shared_release)) ≢ 1) (sym stands_left) leaves_marking)
    (subst (λ (x : State). In (first true) x.book.cells) (sym stands_left) first_held)
    (subst (λ (x : State). unmarked p x.book (first true) ≡ false) (sym stands_left) first_marked)
    (subst (λ (x : State). NoPrepare p x (quiet shared_release ∷ after_releasing)) (sym stands_left) no_prepare_since)
  where
    leaves_marking : phase_in (turned p left₆ (quiet shared_release)) ≢ 1
    leaves_marking e = omega (arith, sym (subst (λ (x : State). phase_in x ≡ 1) leave₇ e) ∙ running_again)

-- the second is, by the sweep of holder 2's alloc
abbrev other_events : List Event
other_events = (step_of p left₈ (quiet other_ask)).events

pub other_events_lem : other_events ≡ swept 2 (26624 ∷ 25600 ∷ 24576 ∷ []) ∷ taken 26624 1024 ∷ []
unfolding machine
other_events_lem = refl

pub left_lost : stays_held p other_events (second true) ≡ false
unfolding stays_held any frees member
left_lost = rw other_events_lem

pub left_after : left₉.book.cells ≡ third ∷ first true ∷ []
unfolding left₉
left_after = refl

-- ---- R-8: the third run

eager_set_up : begun p' lent ≡ after₀
unfolding machine
eager_set_up = refl

eager_turn₁ : turned p' after₀ (quiet (bind 1)) ≡ after₁
unfolding machine
eager_turn₁ = refl

eager_turn₂ : turned p' after₁ (quiet (ask (Some (record { 0 = 2 })))) ≡ after₂
unfolding machine
eager_turn₂ = refl

eager_turn₃ : turned p' after₂ (quiet (ask None)) ≡ after₃
unfolding machine
eager_turn₃ = refl

eager_turn₄ : turned p' after₃ (record { writes = writing ∷ []; call = prepare }) ≡ after₄
unfolding machine
eager_turn₄ = refl

eager_turn₅ : turned p' after₄ (quiet (mark 27648 2)) ≡ after₅
unfolding machine
eager_turn₅ = refl

eager_turn₆ : turned p' after₅ (quiet (release 1)) ≡ eager₆
unfolding machine
eager_turn₆ = refl

eager_turn₇ : turned p' eager₆ (quiet shared_release) ≡ eager₇
unfolding machine
eager_turn₇ = refl

pub eager_writes : HoldersWrite p' (begun p' lent) eager_turns
unfolding eager_turns
eager_writes =
    subst (λ (x : State). HoldersWrite p' x eager_turns) (sym eager_set_up)
    (quiet_turn p' _ _ _ _ eager_turn₁ (quiet_turn p' _ _ _ _ eager_turn₂ (quiet_turn p' _ _ _ _ eager_turn₃
    (writing_turn p' _ _ _ _ _ held eager_turn₄ (quiet_turn p' _ _ _ _ eager_turn₅ (quiet_turn p' _ _ _ _ eager_turn₆
    (quiet_turn p' _ _ _ _ eager_turn₇ (nothing_left p' eager₇))))))))

pub eager_answers : (set_up p' lent).reply ≡ answered []
unfolding machine
eager_answers = refl

-- so the theorem speaks of this run
pub eager_run_keeps : RunKeeps p' (begun p' lent) eager_turns
unfolding Demand3
eager_run_keeps = (demand3 p' lent lent eager_turns eager_turns eager_answers eager_answers eager_writes eager_writes refl).1

-- the last release swept block 2, and answered so: none released, one merged, one swept
abbrev last_release : List Event
last_release = (step_of p' eager₆ (quiet shared_release)).events

pub eager_events : last_release ≡ swept 2 (26624 ∷ 25600 ∷ 24576 ∷ []) ∷ []
unfolding machine
eager_events = refl

pub eager_said : (result_of p' eager₆ (quiet shared_release)).reply ≡ answered (0 ∷ 1 ∷ 1 ∷ [])
unfolding machine
eager_said = refl

pub eager_kept : stays_held p' last_release (first true) ≡ true
unfolding stays_held any frees member
eager_kept = rw eager_events

pub eager_lost : stays_held p' last_release (second true) ≡ false
unfolding stays_held any frees member
eager_lost = rw eager_events

-- ---- R-12: after the third run an alloc finds the block swept. It is a span with the choice on

pub after_eager : List Turn
after_eager = quiet (ask None) ∷ []

eager_turn₈ : turned p' eager₇ (quiet (ask None)) ≡ after₈
unfolding machine
eager_turn₈ = refl

stands_eager : after_turns p' (begun p' lent) eager_turns ≡ eager₇
unfolding eager_turns
stands_eager =
    ap (λ (x : State). after_turns p' x eager_turns) eager_set_up
    ∙ next p' _ _ _ _ _ eager_turn₁ (next p' _ _ _ _ _ eager_turn₂ (next p' _ _ _ _ _ eager_turn₃ (next p' _ _ _ _ _ eager_turn₄ (next p' _ _ _ _ _ eager_turn₅
    (next p' _ _ _ _ _ eager_turn₆ (next p' _ _ _ _ _ eager_turn₇ (done p' eager₇)))))))

eager_more : HoldersWrite p' (begun p' lent) (eager_turns ++ after_eager)
unfolding eager_turns after_eager
eager_more =
    subst (λ (x : State). HoldersWrite p' x (eager_turns ++ after_eager)) (sym eager_set_up)
    (quiet_turn p' _ _ _ _ eager_turn₁ (quiet_turn p' _ _ _ _ eager_turn₂ (quiet_turn p' _ _ _ _ eager_turn₃
    (writing_turn p' _ _ _ _ _ held eager_turn₄ (quiet_turn p' _ _ _ _ eager_turn₅ (quiet_turn p' _ _ _ _ eager_turn₆
    (quiet_turn p' _ _ _ _ eager_turn₇ (quiet_turn p' _ _ _ _ eager_turn₈ (nothing_left p' after₈)))))))))

eager_phase : phase_in eager₇ ≡ 0
unfolding machine
eager_phase = refl

pub eager_span : Span p' lent eager_turns after_eager
unfolding after_eager is_prepare
eager_span =
    record {
      set_ups = eager_answers;
      holders = eager_more;
      starts = subst (λ (x : State). phase_in x ≡ 0) (sym stands_eager) eager_phase;
      prepares = subst (λ (x : State). NoPrepare p' x after_eager) (sym stands_eager) (no_prepare p' _ _ _ _ refl eager_turn₈ (none_prepares p' after₈));
    }

pub eager_ceiling : alloc_sweeps p' (after_turns p' (begun p' lent) eager_turns) after_eager ≡ 0
unfolding EagerSweepsNone
eager_ceiling = eager_sweeps_none p' lent eager_turns after_eager eager_span refl

pub eager_served : (result_of p' eager₇ (quiet (ask None))).reply ≡ answered (26624 ∷ 1024 ∷ 0 ∷ 0 ∷ [])
unfolding machine
eager_served = refl

-- ---- R-12: the fourth run

went₂ : turned p after₁ (quiet (wide (Some (record { 0 = 2 })))) ≡ wide₂
unfolding machine
went₂ = refl

went₃ : turned p wide₂ (quiet prepare) ≡ wide₃
unfolding machine
went₃ = refl

went₄ : turned p wide₃ (quiet (mark 24576 2)) ≡ wide₄
unfolding machine
went₄ = refl

went₅ : turned p wide₄ (quiet (release 1)) ≡ wide₅
unfolding machine
went₅ = refl

went₆ : turned p wide₅ (quiet shared_release) ≡ wide₆
unfolding machine
went₆ = refl

went₇ : turned p wide₆ (quiet (wide None)) ≡ wide₇
unfolding machine
went₇ = refl

pub stands_released : after_turns p (begun p lent) until_released ≡ wide₆
unfolding until_released
stands_released =
    ap (λ (x : State). after_turns p x until_released) set_up_lem
    ∙ next p _ _ _ _ _ turn₁ (next p _ _ _ _ _ went₂ (next p _ _ _ _ _ went₃ (next p _ _ _ _ _ went₄ (next p _ _ _ _ _ went₅
    (next p _ _ _ _ _ went₆ (done p wide₆))))))

released_writes : HoldersWrite p (begun p lent) (until_released ++ after_released)
unfolding until_released after_released
released_writes =
    subst (λ (x : State). HoldersWrite p x (until_released ++ after_released)) (sym set_up_lem)
    (quiet_turn p _ _ _ _ turn₁ (quiet_turn p _ _ _ _ went₂ (quiet_turn p _ _ _ _ went₃ (quiet_turn p _ _ _ _ went₄
    (quiet_turn p _ _ _ _ went₅ (quiet_turn p _ _ _ _ went₆ (quiet_turn p _ _ _ _ went₇ (nothing_left p wide₇))))))))

released_phase : phase_in wide₆ ≡ 0
unfolding machine
released_phase = refl

no_prepare_after : NoPrepare p wide₆ after_released
unfolding after_released is_prepare
no_prepare_after = no_prepare p _ _ _ _ refl went₇ (none_prepares p wide₇)

pub span : Span p lent until_released after_released
span =
    record {
      set_ups = set_up_answers;
      holders = released_writes;
      starts = subst (λ (x : State). phase_in x ≡ 0) (sym stands_released) released_phase;
      prepares = subst (λ (x : State). NoPrepare p x after_released) (sym stands_released) no_prepare_after;
    }

-- so the theorems speak of it
pub ceiling : alloc_sweeps p (after_turns p (begun p lent) until_released) after_released ≤ waiting p (tables_in (after_turns p (begun p lent) until_released).lent)
unfolding SweepsBound
ceiling = sweeps_bound p lent until_released after_released span

pub passes_once : passes p 2 (after_turns p (begun p lent) until_released) after_released ≤ 1
unfolding PassOnce
passes_once = pass_once p lent until_released after_released 2 span

-- and it reaches both: the alloc sweeps the block, spends it and is Exhausted
pub first_told : (result_of p wide₆ (quiet (wide None))).reply ≡ exhausted 1
unfolding machine
first_told = refl

pub first_events : (step_of p wide₆ (quiet (wide None))).events ≡ swept 2 [] ∷ spent 2 ∷ []
unfolding machine
first_events = refl

pub one_waits : waiting p (tables_in wide₆.lent) ≡ 1
unfolding machine waiting awaits
one_waits = refl

pub one_swept : alloc_sweeps p wide₆ after_released ≡ 1
unfolding alloc_sweeps swept_count after_released sweeps filter is_sweep
one_swept = rw first_events

pub one_pass : passes p 2 wide₆ after_released ≡ 1
unfolding passes times_spent after_released filter spends
one_pass = rw first_events
