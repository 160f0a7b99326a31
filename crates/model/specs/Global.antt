-- "Space": bind, destroy, prepare, mark and the releases, and what happens to blocks in each phase.
--
-- | call           | phase              | blocks                                                                    | after      |
-- |----------------|--------------------|---------------------------------------------------------------------------|------------|
-- | bind           | Running            |                                                                           | Running    |
-- | destroy        | Running, Marking   | the holder's lists go behind the abandoned ones                           | the same   |
-- | alloc          | Running            | full blocks to consumed; unswept blocks swept; abandoned ones taken over; | Running    |
-- |                |                    | an offered block becomes Unmarked, on available                           |            |
-- | prepare        | Running            | occupied blocks Unmarked, all marks cleared                               | Marking    |
-- | mark           | Marking            | the block of a new mark becomes Marked                                    | Marking    |
-- | release        | Marking, Releasing | Unmarked blocks released, its unswept lists apart; the rest to in-gc      | Releasing, |
-- | shared release | Marking, Releasing | abandoned Unmarked blocks released; the rest unswept                      | Releasing, |
-- |                |                    | the last of these: in-gc merged into abandoned                            | or Running |
--
-- With the choice of eager sweeping (02, R-8) nothing becomes unswept: what a release leaves stays available or consumed, and the last
-- one sweeps every occupied block and moves consumed blocks that have a free cell to available before the merge.
use Rattle.std.specs.Prelude.{if◌then◌else◌, ℕ, zero, suc, ◌+◌, ◌-◌, ◌/◌, Bool, not, ◌&&◌, ◌||◌, List, [], ◌∷◌, ◌++◌, map, eqb, leb, get_or, set, replicate}
use Rattle.model.specs.declared.Params.{Params}
use Rattle.model.specs.Base.{all_below, sum_below, each_below}
use Rattle.model.specs.Params.{word_count, block_at, heap_bytes, bins, holders, parts, local_sets, abandoned, in_gc, available, unswept, consumed}
use Rattle.model.specs.Memory.{marked, set_mark, cleared}
use Rattle.model.specs.Tables.{Words, view, Tables, tables_of, with_words, set_phase, set_bound, set_released, with_released}
use Rattle.model.specs.BlockList.{push, remove, append, appended}
use Rattle.model.specs.Block.{state_unallocated, state_unmarked, state_marked, swept_words, clear_block}
use Rattle.model.specs.Events.{Event, released}
use Rattle.model.specs.FreeListAllocator.{sweep_of}

-- "Phases (added): Running, Marking, Releasing."
abbrev pub phase_running : ℕ
phase_running = 0

abbrev pub phase_marking : ℕ
phase_marking = 1

abbrev pub phase_releasing : ℕ
phase_releasing = 2

-- ---- set-up: "Setup zeroes tables and marks, leaves heap bytes and starts in Running with no holder bound."

unfoldable pub fresh_words : Params → Words
fresh_words p = view (replicate (word_count p) 0)

unfoldable pub fresh_tables : Params → Tables
fresh_tables p = tables_of (fresh_words p) (replicate p.blocks state_unallocated) (replicate (heap_bytes p / 64) 0)

-- ---- holders

unfoldable pub is_holder : ℕ → Bool
is_holder holder = leb 1 holder && leb holder holders

unfoldable pub is_bound : Words → ℕ → Bool
is_bound w holder = is_holder holder && eqb (get_or w.bound (holder - 1) 0) 1

-- "Bind gives a holder empty lists": those of a holder that is not bound are empty in sound tables
unfoldable pub bind_holder : ℕ → Tables → Tables
bind_holder holder t = with_words (set_bound (holder - 1) 1 t.words) t

-- the lists of one owner go behind those of another, bin by bin (docs/DECISIONS.md on the order of the three)
unfoldable pub abandon_bin : Params → ℕ → ℕ → ℕ → Words → Words
abandon_bin p to from bin w =
    append p (unswept to bin) (unswept from bin)
    (append p (consumed to bin) (consumed from bin) (append p (available to bin) (available from bin) w))

unfoldable pub abandon_blocks : Params → ℕ → ℕ → Words → Words
abandon_blocks p to from w = each_below bins (abandon_bin p to from) w

-- 02, R-6: "Destroy answers the sum over its lists". The blocks of one bin, each list counted where it is appended
unfoldable pub abandoned_bin : Params → ℕ → ℕ → ℕ → Words → ℕ
abandoned_bin p to from bin w =
    let w₁ : Words = append p (available to bin) (available from bin) w in
    let w₂ : Words = append p (consumed to bin) (consumed from bin) w₁ in
    appended p (available from bin) w + appended p (consumed from bin) w₁ + appended p (unswept from bin) w₂

-- and of the bins below n, each on the words that the bins before it left
unfoldable pub abandoned_below : ℕ → Params → ℕ → ℕ → Words → ℕ
abandoned_below n p to from w = sum_below n (λ bin. abandoned_bin p to from bin (each_below bin (abandon_bin p to from) w))

unfoldable pub abandoned_blocks : Params → ℕ → ℕ → Words → ℕ
abandoned_blocks p to from w = abandoned_below bins p to from w

-- "Destroy (Running) hands lists to abandoned."; since R-10 in Marking too, in the same way (Calls `may_leave`)
unfoldable pub destroy_holder : Params → ℕ → Tables → Tables
destroy_holder p holder t = with_words (set_bound (holder - 1) 0 (abandon_blocks p abandoned (local_sets holder) t.words)) t

-- ---- marking

-- "Prepare (Running) makes occupied blocks Unmarked, clears all marks and enters Marking."
unfoldable pub unmarked_state : ℕ → ℕ
unmarked_state state = if eqb state state_unallocated then state_unallocated else state_unmarked

unfoldable pub prepared : Tables → Tables
prepared t = tables_of (set_phase phase_marking t.words) (map unmarked_state t.states) (cleared t.marks)

-- "Mark answers whether it was new; a new one makes its block Marked."
unfoldable pub mark_place : Params → ℕ → ℕ → Tables → Tables
mark_place p place b t =
    if marked p t.marks place then t
    else tables_of t.words (set t.states b state_marked) (set_mark p t.marks place)

-- ---- releasing

-- words and states after, and what happened to blocks on the way
pub record Freed : Type 0 where
  pub words : Words
  pub states : List ℕ
  pub events : List Event

abbrev pub freed : Words → List ℕ → Freed
freed w st = record { words = w; states = st; events = [] }

abbrev pub after_release : ℕ → Freed → Freed
after_release b f = record { words = f.words; states = f.states; events = released b ∷ f.events }

-- The Unmarked blocks of the list, from the address a on, are taken out and released; the others stay.
-- "A walk reads next before the block is removed." At most k blocks
unfoldable pub release_from : ℕ → Params → ℕ → ℕ → Words → List ℕ → Freed
release_from zero p list a w st = freed w st
release_from (suc k) p list a w st =
    let b : ℕ = block_at p a in
    let next : ℕ = get_or w.next b 0 in
    if eqb a 0 then freed w st
    else if eqb (get_or st b 0) state_unmarked
    then after_release b (release_from k p list next (clear_block b (remove p list b w)) (set st b state_unallocated))
    else release_from k p list next w st

-- and after what was done before
unfoldable pub release_blocks : Params → ℕ → Freed → Freed
release_blocks p list f =
    let more : Freed = release_from p.blocks p list (get_or f.words.first list 0) f.words f.states in
    record { words = more.words; states = more.states; events = f.events ++ more.events }

unfoldable pub append_to : Params → ℕ → ℕ → Freed → Freed
append_to p list other f = record { words = append p list other f.words; states = f.states; events = f.events }

-- what stays of the other list is swept later. 02, R-8, with the choice on: "releases append nothing to unswept lists"
unfoldable pub left_unswept : Params → ℕ → ℕ → Freed → Freed
left_unswept p list other f = if p.eager then f else append_to p list other f

-- "A holder's release is `FreeListAllocator::release`": available and consumed blocks are released or become unswept;
-- blocks that are unswept already stay, Unmarked or not, as in the Rust
unfoldable pub release_bin : Params → ℕ → ℕ → Freed → Freed
release_bin p owner bin f =
    left_unswept p (unswept owner bin) (consumed owner bin)
    (release_blocks p (consumed owner bin)
    (left_unswept p (unswept owner bin) (available owner bin) (release_blocks p (available owner bin) f)))

-- ", into in-gc"
unfoldable pub release_holder : Params → ℕ → Words → List ℕ → Freed
release_holder p holder w st =
    let f : Freed = each_below bins (release_bin p (local_sets holder)) (freed w st) in
    record { words = abandon_blocks p in_gc (local_sets holder) f.words; states = f.states; events = f.events }

-- "the shared one is `sweep_later` on abandoned"
unfoldable pub sweep_later_bin : Params → ℕ → Freed → Freed
sweep_later_bin p bin f =
    left_unswept p (unswept abandoned bin) (consumed abandoned bin)
    (left_unswept p (unswept abandoned bin) (available abandoned bin)
    (release_blocks p (unswept abandoned bin)
    (release_blocks p (consumed abandoned bin) (release_blocks p (available abandoned bin) f))))

unfoldable pub sweep_later : Params → Words → List ℕ → Freed
sweep_later p w st = each_below bins (sweep_later_bin p) (freed w st)

-- the holder's part at its number, the shared part at 0
unfoldable pub has_released : Words → ℕ → Bool
has_released w part = eqb (get_or w.released part 0) 1

-- "Each bound holder releases once, the shared part once": nothing is due any more
unfoldable pub all_released : Words → Bool
all_released w = has_released w 0 && all_below holders (λ i. not (is_bound w (suc i)) || has_released w (suc i))

-- with this part nothing is due any more: it is the last
unfoldable pub is_last : ℕ → Words → Bool
is_last part w = all_released (set_released part 1 (set_phase phase_releasing w))

-- ---- the end of a collection with the choice of eager sweeping. 02, R-8: "the last one sweeps all occupied blocks in ascending order

unfoldable pub sweep_block : Params → List ℕ → ℕ → Freed → Freed
sweep_block p ms b f =
    if eqb (get_or f.states b 0) state_unallocated then f
    else record { words = swept_words p ms b f.words; states = f.states; events = f.events ++ (sweep_of p ms b f.words ∷ []) }

unfoldable pub sweep_all : Params → List ℕ → Freed → Freed
sweep_all p ms f = each_below p.blocks (sweep_block p ms) f

-- and runs `recycle_blocks` on abandoned and in-gc before the merge": consumed blocks that have a free cell go to available. From the
-- address a on; next is read before the block is removed. At most k blocks
unfoldable pub recycle_from : ℕ → Params → ℕ → ℕ → ℕ → Words → Words
recycle_from zero p avail full a w = w
recycle_from (suc k) p avail full a w =
    let b : ℕ = block_at p a in
    let next : ℕ = get_or w.next b 0 in
    if eqb a 0 then w
    else if eqb (get_or w.free b 0) 0 then recycle_from k p avail full next w
    else recycle_from k p avail full next (push p avail b (remove p full b w))

unfoldable pub recycle_bin : Params → ℕ → ℕ → Words → Words
recycle_bin p owner bin w =
    recycle_from p.blocks p (available owner bin) (consumed owner bin) (get_or w.first (consumed owner bin) 0) w

unfoldable pub recycle_blocks : Params → ℕ → Words → Words
recycle_blocks p owner w = each_below bins (recycle_bin p owner) w

unfoldable pub swept_eagerly : Params → List ℕ → Freed → Freed
swept_eagerly p ms f =
    let all : Freed = sweep_all p ms f in
    record { words = recycle_blocks p in_gc (recycle_blocks p abandoned all.words); states = all.states; events = all.events }

-- after a part's own work: nothing, but for the last part with the choice on
unfoldable pub eagerly : Params → List ℕ → ℕ → Freed → Freed
eagerly p ms part f = if p.eager && is_last part f.words then swept_eagerly p ms f else f

-- ---- the part is done

-- a part has released: "the first entering Releasing". "The last merges in-gc into abandoned and returns to Running."
unfoldable pub part_released : Params → ℕ → Words → Words
part_released p part w =
    let w₁ : Words = set_released part 1 (set_phase phase_releasing w) in
    if all_released w₁ then set_phase phase_running (with_released (replicate parts 0) (abandon_blocks p abandoned in_gc w₁)) else w₁

-- 02, R-6: "the last release answers the number merged from in-gc"; one that is not the last merges none
unfoldable pub merged : Params → ℕ → Words → ℕ
merged p part w =
    let w₁ : Words = set_released part 1 (set_phase phase_releasing w) in
    if all_released w₁ then abandoned_blocks p abandoned in_gc w₁ else 0
