-- "Allocator": the search for a block with a free cell, by tables and marks alone. The heap is not looked at here: it is
-- read where chains are tested and where the cell is taken (Calls.antt).
use Rattle.std.specs.Prelude.{if◌then◌else◌, ℕ, zero, suc, Bool, true, false, List, [], ◌∷◌, ◌++◌, eqb, get_or, set, Option, None, Some}
use Rattle.model.specs.declared.Params.{Params}
use Rattle.model.specs.declared.Block.{Block}
use Rattle.model.specs.Params.{start, block_at, local_sets, abandoned, available, unswept, consumed}
use Rattle.model.specs.Tables.{Words, Tables, tables_of, with_words, set_tls}
use Rattle.model.specs.SizeClasses.{cell_bytes}
use Rattle.model.specs.BlockList.{Popped, push, pop}
use Rattle.model.specs.Block.{state_unmarked, sweep_chain, swept_words, init_chain, init_block}
use Rattle.model.specs.Events.{Event, initialised, swept, spent}

-- what a search gives: the start of a block with a free cell, 0 for none; the words after; what happened, in order
pub record Found : Type 0 where
  pub at : ℕ
  pub words : Words
  pub events : List Event

abbrev pub found : ℕ → Words → Found
found a w = record { at = a; words = w; events = [] }

abbrev pub after : Event → Found → Found
after e f = record { at = f.at; words = f.words; events = e ∷ f.events }

-- the second search went on where the first had found none
abbrev pub followed_by : Found → Found → Found
followed_by f f' = record { at = f'.at; words = f'.words; events = f.events ++ f'.events }

-- "skim the local available list, moving full blocks to consumed": up to a block with a free cell, which stays at the head.
-- At most k blocks
unfoldable pub find_free_block_with : ℕ → Params → ℕ → ℕ → Words → Found
find_free_block_with zero p avail full w = found 0 w
find_free_block_with (suc k) p avail full w =
    let first : ℕ = get_or w.first avail 0 in
    let b : ℕ = block_at p first in
    if eqb first 0 then found 0 w
    else if eqb (get_or w.free b 0) 0 then after (spent b) (find_free_block_with k p avail full (push p full b (pop p avail w).words))
    else found first w

-- the event of a sweep of b by these words
abbrev pub sweep_of : Params → List ℕ → ℕ → Words → Event
sweep_of p ms b w = swept b (sweep_chain p ms b (get_or w.size b 0))

-- the block at a, with these words, is filed: under available if it has a free cell, which ends the search, else under
-- consumed, and the search goes on
abbrev pub filed : Params → ℕ → ℕ → ℕ → Words → (Words → Found) → Found
filed p owner bin a w more =
    let b : ℕ = block_at p a in
    if eqb (get_or w.free b 0) 0 then after (spent b) (more (push p (consumed owner bin) b w))
    else found a (push p (available owner bin) b w)

-- "then local unswept": blocks are popped, swept and filed. At most k blocks
unfoldable pub recycle_local_blocks : ℕ → Params → List ℕ → ℕ → ℕ → Words → Found
recycle_local_blocks zero p ms owner bin w = found 0 w
recycle_local_blocks (suc k) p ms owner bin w =
    let top : Popped = pop p (unswept owner bin) w in
    let b : ℕ = block_at p top.at in
    if eqb top.at 0 then found 0 top.words
    else after (sweep_of p ms b top.words)
    (filed p owner bin top.at (swept_words p ms b top.words) (λ w'. recycle_local_blocks k p ms owner bin w'))

-- "then `acquire_global_block`: abandoned available, abandoned unswept (swept)": each block becomes the holder's and is filed
-- under its lists. Abandoned consumed blocks are not tried. At most k blocks
unfoldable pub acquire_abandoned : ℕ → Params → List ℕ → ℕ → ℕ → Words → Found
acquire_abandoned zero p ms holder bin w = found 0 w
acquire_abandoned (suc k) p ms holder bin w =
    let top : Popped = pop p (available abandoned bin) w in
    let top' : Popped = pop p (unswept abandoned bin) top.words in
    let b' : ℕ = block_at p top'.at in
    let w₁ : Words = set_tls (block_at p top.at) holder top.words in
    let w₂ : Words = set_tls b' holder top'.words in
    let more : Words → Found = λ w'. acquire_abandoned k p ms holder bin w' in
    if eqb top.at 0
    then (if eqb top'.at 0 then found 0 top'.words
    else after (sweep_of p ms b' w₂) (filed p (local_sets holder) bin top'.at (swept_words p ms b' w₂) more))
    else filed p (local_sets holder) bin top.at w₁ more

-- a search's end: also whether the offer was used, and all tables
pub record Search : Type 0 where
  pub at : ℕ
  pub fresh : Bool
  pub tables : Tables
  pub events : List Event

abbrev pub in_found : Found → Tables → Search
in_found f t = record { at = f.at; fresh = false; tables = with_words f.words t; events = f.events }

-- "the offer": pushed on the available list, then initialised
unfoldable pub acquire_fresh : Params → ℕ → ℕ → Option Block → Found → Tables → Search
acquire_fresh p holder bin None f t = in_found f t
acquire_fresh p holder bin (Some b) f t =
    let size : ℕ = cell_bytes p bin in
    let w : Words = init_block p b.0 size holder (push p (available (local_sets holder) bin) b.0 f.words) in
    let t' : Tables = tables_of w (set t.states b.0 state_unmarked) t.marks in
    let events : List Event = f.events ++ (initialised b.0 (init_chain p b.0 size) ∷ []) in
    record { at = start p b.0; fresh = true; tables = t'; events = events }

-- the whole search of a holder for a block of this bin
unfoldable pub find_block : Params → ℕ → ℕ → Option Block → Tables → Search
find_block p holder bin offer t =
    let owner : ℕ = local_sets holder in
    let skimmed : Found = find_free_block_with p.blocks p (available owner bin) (consumed owner bin) t.words in
    let recycled : Found = followed_by skimmed (recycle_local_blocks p.blocks p t.marks owner bin skimmed.words) in
    let acquired : Found = followed_by recycled (acquire_abandoned p.blocks p t.marks holder bin recycled.words) in
    if eqb skimmed.at 0
    then (if eqb recycled.at 0 then (if eqb acquired.at 0 then acquire_fresh p holder bin offer acquired t else in_found acquired t)
    else in_found recycled t)
    else in_found skimmed t
