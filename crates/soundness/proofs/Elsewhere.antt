-- Rows change nothing but the class of a size and the size of a bin (02, R-5): every other definition gives the same for parameters that
-- differ in their rows alone. By computation where it is no walk, and by induction where it is. Assumes nothing.
use Rattle.std.specs.Prelude.{if◌then◌else◌}
use mathlib.Core.Path.{◌≡◌, refl, ap, ◌∙◌}
use mathlib.Core.Bool.{true, not, ◌&&◌, ◌||◌}
use mathlib.Core.List.{List, [], ◌∷◌, ◌++◌, head_d}
use Prim.Native.Nat.{ℕ, zero, suc, ◌+◌, ◌*◌, ◌/◌}
use lib.Dec.{eqb, leb}
use lib.ListN.{length, get_or, set, replicate}
use Rattle.model.specs.declared.Params.{Params}
use Rattle.model.specs.declared.Row.{Row}
use Rattle.model.specs.Base.{all_below, sum_below, each_below}
use Rattle.model.specs.Params.{start, block_at, in_heap, is_start, heap_bytes, heap_end, plus_lower, list_word, local_sets, available, unswept, consumed, abandoned, in_gc, bins}
use Rattle.model.specs.Memory.{load, store, zeroed, mark_index, marked}
use Rattle.model.specs.Tables.{Words, set_first, set_last, set_list, set_tls, set_released, set_phase, with_released}
use Rattle.model.specs.BlockList.{Popped, push, pop_head, pop, remove_between, remove, relabel, link, append, walk, blocks_on, appended, ends, pages_used, pages_end}
use Rattle.model.specs.Block.{state_unallocated, state_unmarked, cell_count, is_cell, link_all, simple, keeps, sweep_chain, swept_words, clear_block}
use Rattle.model.specs.Events.{Event, initialised, swept, released, taken, spent, event_heap, events_heap}
use Rattle.model.specs.FreeListAllocator.{find_free_block_with, Found, found, after, sweep_of, filed, recycle_local_blocks, acquire_abandoned}
use Rattle.model.specs.Global.{phase_running, phase_releasing, abandon_bin, abandon_blocks, abandoned_bin, abandoned_below, abandoned_blocks, Freed, freed, after_release, release_from, release_blocks, append_to, left_unswept, release_bin, release_holder, sweep_later_bin, sweep_later, sweep_block, sweep_all, recycle_from, recycle_bin, recycle_blocks, swept_eagerly, is_last, eagerly, all_released, part_released, merged}
use Rattle.model.specs.Sound.{state_of, linked_from, eager_ok, chain_counts, chain_ok, chained}

-- the parameters with other rows
abbrev pub other_rows : Params → List Row → ℕ → Params
other_rows p rows count =
    record { base = p.base; bytes = p.bytes; blocks = p.blocks; min = p.min; max = p.max; offsets = p.offsets; unified = p.unified; lower = p.lower; eager = p.eager; rows = rows; count = count }

module _ (p : Params) (rows : List Row) (count : ℕ) where
  abbrev q : Params
  q = other_rows p rows count

  -- ---- lists

  relabel_same : (k : ℕ) → relabel k q ≡ relabel k p
  unfolding relabel block_at
  relabel_same zero = refl
  relabel_same (suc k) = λ i l a t.
      if eqb a 0 then t else relabel_same k i l (get_or t.next (block_at p a) 0) (set_list (block_at p a) (list_word l) t)

  append_same : append q ≡ append p
  unfolding append link block_at
  append_same = λ i l other t.
      if eqb (get_or t.first other 0) 0 then t
      else set_last other 0 (set_first other 0 (relabel_same p.blocks i l (get_or t.first other 0) (link p l other t)))

  walk_same : (k : ℕ) → walk k q ≡ walk k p
  unfolding walk block_at
  walk_same zero = refl
  walk_same (suc k) = λ i next a. if eqb a 0 then [] else (block_at p a ∷ walk_same k i next (get_or next (block_at p a) 0))

  pub blocks_on_same : blocks_on q ≡ blocks_on p
  unfolding blocks_on
  blocks_on_same = λ i l t. walk_same p.blocks i t.next (get_or t.first l 0)

  appended_same : appended q ≡ appended p
  unfolding appended
  appended_same = λ i other t. length (blocks_on_same i other t)

  ends_same : (k : ℕ) → ends k q ≡ ends k p
  unfolding ends block_at is_start in_heap heap_end heap_bytes
  ends_same zero = refl
  ends_same (suc k) = λ i next a. if eqb a 0 then true else (is_start p a && ends_same k i next (get_or next (block_at p a) 0))

  pub pages_used_same : pages_used q ≡ pages_used p
  unfolding pages_used
  pages_used_same = λ i next firsts. p.bytes / 4096 * sum_below 48 (λ j. length (walk_same p.blocks i next (get_or firsts (j + 1) 0)))

  pub pages_end_same : pages_end q ≡ pages_end p
  unfolding pages_end
  pages_end_same = λ i next firsts. all_below 48 (λ j. ends_same p.blocks i next (get_or firsts (j + 1) 0))

  -- ---- cells and events

  link_all_same : (l : List ℕ) → link_all q l ≡ link_all p l
  unfolding link_all store
  link_all_same [] = refl
  link_all_same (a ∷ l) = λ i h. store p (link_all_same l i h) a (head_d l 0)

  pub event_heap_same : (e : Event) → event_heap q e ≡ event_heap p e
  unfolding event_heap zeroed
  event_heap_same (initialised b l) = λ i h. link_all_same l i h
  event_heap_same (swept b l) = λ i h. link_all_same l i h
  event_heap_same (released b) = refl
  event_heap_same (taken a s) = refl
  event_heap_same (spent b) = refl

  pub events_heap_same : (es : List Event) (h : List ℕ) → events_heap q es h ≡ events_heap p es h
  unfolding events_heap
  events_heap_same [] h = refl
  events_heap_same (e ∷ es) h = ap (λ (x : List ℕ). events_heap q es x) (λ i. event_heap_same e i h) ∙ events_heap_same es (event_heap p e h)

  -- ---- the search

  pub find_free_same : (k : ℕ) → find_free_block_with k q ≡ find_free_block_with k p
  unfolding find_free_block_with push pop pop_head start block_at
  find_free_same zero = refl
  find_free_same (suc k) = λ i avail full t.
      let first : ℕ = get_or t.first avail 0 in
      let b : ℕ = block_at p first in
      if eqb first 0 then found 0 t
      else if eqb (get_or t.free b 0) 0 then after (spent b) (find_free_same k i avail full (push p full b (pop p avail t).words))
      else found first t

  pub recycle_same : (k : ℕ) → recycle_local_blocks k q ≡ recycle_local_blocks k p
  unfolding recycle_local_blocks push pop pop_head start block_at swept_words sweep_chain keeps simple marked mark_index in_heap heap_end heap_bytes plus_lower cell_count
  recycle_same zero = refl
  recycle_same (suc k) = λ i ms owner bin t.
      let g : Popped = pop p (unswept owner bin) t in
      let b : ℕ = block_at p g.at in
      if eqb g.at 0 then found 0 g.words
      else after (sweep_of p ms b g.words)
      (filed p owner bin g.at (swept_words p ms b g.words) (λ w. recycle_same k i ms owner bin w))

  pub abandoned_same : (k : ℕ) → acquire_abandoned k q ≡ acquire_abandoned k p
  unfolding acquire_abandoned push pop pop_head start block_at swept_words sweep_chain keeps simple marked mark_index in_heap heap_end heap_bytes plus_lower cell_count
  abandoned_same zero = refl
  abandoned_same (suc k) = λ i ms h bin t.
      let g : Popped = pop p (available abandoned bin) t in
      let g' : Popped = pop p (unswept abandoned bin) g.words in
      let b' : ℕ = block_at p g'.at in
      let w : Words = set_tls (block_at p g.at) h g.words in
      let w' : Words = set_tls b' h g'.words in
      let more : Words → Found = λ u. abandoned_same k i ms h bin u in
      if eqb g.at 0
      then (if eqb g'.at 0 then found 0 g'.words
      else after (sweep_of p ms b' w') (filed p (local_sets h) bin g'.at (swept_words p ms b' w') more))
      else filed p (local_sets h) bin g.at w more

  -- ---- releases

  abandon_bin_same : abandon_bin q ≡ abandon_bin p
  unfolding abandon_bin
  abandon_bin_same = λ i to from bin t.
      append_same i (unswept to bin) (unswept from bin)
      (append_same i (consumed to bin) (consumed from bin) (append_same i (available to bin) (available from bin) t))

  pub abandon_blocks_same : abandon_blocks q ≡ abandon_blocks p
  unfolding abandon_blocks
  abandon_blocks_same = λ i to from t. each_below bins (abandon_bin_same i to from) t

  abandoned_bin_same : abandoned_bin q ≡ abandoned_bin p
  unfolding abandoned_bin
  abandoned_bin_same = λ i to from bin t.
      let t₁ : Words = append_same i (available to bin) (available from bin) t in
      let t₂ : Words = append_same i (consumed to bin) (consumed from bin) t₁ in
      appended_same i (available from bin) t + appended_same i (consumed from bin) t₁ + appended_same i (unswept from bin) t₂

  pub abandoned_blocks_same : abandoned_blocks q ≡ abandoned_blocks p
  unfolding abandoned_blocks abandoned_below
  abandoned_blocks_same = λ i to from t. sum_below bins (λ bin. abandoned_bin_same i to from bin (each_below bin (abandon_bin_same i to from) t))

  release_from_same : (k : ℕ) → release_from k q ≡ release_from k p
  unfolding release_from remove remove_between block_at
  release_from_same zero = refl
  release_from_same (suc k) = λ i l a t s.
      let b : ℕ = block_at p a in
      let next : ℕ = get_or t.next b 0 in
      if eqb a 0 then freed t s
      else if eqb (get_or s b 0) state_unmarked
      then after_release b (release_from_same k i l next (clear_block b (remove p l b t)) (set s b state_unallocated))
      else release_from_same k i l next t s

  release_blocks_same : release_blocks q ≡ release_blocks p
  unfolding release_blocks
  release_blocks_same = λ i l f.
      let g : Freed = release_from_same p.blocks i l (get_or f.words.first l 0) f.words f.states in
      record { words = g.words; states = g.states; events = f.events ++ g.events }

  append_to_same : append_to q ≡ append_to p
  unfolding append_to
  append_to_same = λ i l other f. record { words = append_same i l other f.words; states = f.states; events = f.events }

  left_unswept_same : left_unswept q ≡ left_unswept p
  unfolding left_unswept
  left_unswept_same = λ i l other f. if p.eager then f else append_to_same i l other f

  release_bin_same : release_bin q ≡ release_bin p
  unfolding release_bin
  release_bin_same = λ i owner bin f.
      left_unswept_same i (unswept owner bin) (consumed owner bin)
      (release_blocks_same i (consumed owner bin)
      (left_unswept_same i (unswept owner bin) (available owner bin) (release_blocks_same i (available owner bin) f)))

  pub release_holder_same : release_holder q ≡ release_holder p
  unfolding release_holder
  release_holder_same = λ i h t s.
      let f : Freed = each_below bins (release_bin_same i (local_sets h)) (freed t s) in
      record { words = abandon_blocks_same i in_gc (local_sets h) f.words; states = f.states; events = f.events }

  sweep_later_bin_same : sweep_later_bin q ≡ sweep_later_bin p
  unfolding sweep_later_bin
  sweep_later_bin_same = λ i bin f.
      left_unswept_same i (unswept abandoned bin) (consumed abandoned bin)
      (left_unswept_same i (unswept abandoned bin) (available abandoned bin)
      (release_blocks_same i (unswept abandoned bin)
      (release_blocks_same i (consumed abandoned bin) (release_blocks_same i (available abandoned bin) f))))

  pub sweep_later_same : sweep_later q ≡ sweep_later p
  unfolding sweep_later
  sweep_later_same = λ i t s. each_below bins (sweep_later_bin_same i) (freed t s)

  -- ---- the end of a collection with eager sweeping

  sweep_block_same : sweep_block q ≡ sweep_block p
  unfolding sweep_block swept_words sweep_chain keeps simple marked mark_index in_heap heap_end heap_bytes plus_lower cell_count start
  sweep_block_same = refl

  sweep_all_same : sweep_all q ≡ sweep_all p
  unfolding sweep_all
  sweep_all_same = λ i ms f. each_below p.blocks (sweep_block_same i ms) f

  recycle_from_same : (k : ℕ) → recycle_from k q ≡ recycle_from k p
  unfolding recycle_from push remove remove_between start block_at
  recycle_from_same zero = refl
  recycle_from_same (suc k) = λ i avail full a w.
      let b : ℕ = block_at p a in
      let next : ℕ = get_or w.next b 0 in
      if eqb a 0 then w
      else if eqb (get_or w.free b 0) 0 then recycle_from_same k i avail full next w
      else recycle_from_same k i avail full next (push p avail b (remove p full b w))

  recycle_blocks_same : recycle_blocks q ≡ recycle_blocks p
  unfolding recycle_blocks recycle_bin
  recycle_blocks_same = λ i owner w.
      each_below bins
      (λ bin u. recycle_from_same p.blocks i (available owner bin) (consumed owner bin) (get_or u.first (consumed owner bin) 0) u) w

  swept_eagerly_same : swept_eagerly q ≡ swept_eagerly p
  unfolding swept_eagerly
  swept_eagerly_same = λ i ms f.
      let all : Freed = sweep_all_same i ms f in
      record { words = recycle_blocks_same i in_gc (recycle_blocks_same i abandoned all.words); states = all.states; events = all.events }

  pub eagerly_same : eagerly q ≡ eagerly p
  unfolding eagerly
  eagerly_same = λ i ms part f. if p.eager && is_last part f.words then swept_eagerly_same i ms f else f

  -- ---- the part is done

  pub part_released_same : part_released q ≡ part_released p
  unfolding part_released
  part_released_same = λ i part t.
      let t₁ : Words = set_released part 1 (set_phase phase_releasing t) in
      if all_released t₁ then set_phase phase_running (with_released (replicate 9 0) (abandon_blocks_same i abandoned in_gc t₁)) else t₁

  pub merged_same : merged q ≡ merged p
  unfolding merged
  merged_same = λ i part t.
      let t₁ : Words = set_released part 1 (set_phase phase_releasing t) in
      if all_released t₁ then abandoned_blocks_same i abandoned in_gc t₁ else 0

  -- ---- the lists of sound tables

  pub linked_from_same : (k : ℕ) → linked_from k q ≡ linked_from k p
  unfolding linked_from block_at is_start in_heap heap_end heap_bytes
  linked_from_same zero = refl
  linked_from_same (suc k) = λ i t l before a.
      let b : ℕ = block_at p a in
      if eqb a 0 then eqb (get_or t.words.last l 0) before
      else (is_start p a && not (eqb (state_of t b) state_unallocated) && eqb (get_or t.words.list b 0) (list_word l)
      && eqb (get_or t.words.prev b 0) before && linked_from_same k i t l a (get_or t.words.next b 0))

  -- what R-8 tests of them
  pub eager_ok_same : eager_ok q ≡ eager_ok p
  unfolding eager_ok
  eager_ok_same = refl

  -- ---- and their chains

  chain_counts_same : (k : ℕ) → chain_counts k q ≡ chain_counts k p
  unfolding chain_counts is_cell start load
  chain_counts_same zero = refl
  chain_counts_same (suc k) = λ i h b size a. is_cell p b size a && chain_counts_same k i h b size (load p h a)

  pub chained_same : chained q ≡ chained p
  unfolding chained chain_ok cell_count
  chained_same = λ i t h.
      let w : Words = t.words in
      all_below p.blocks
      (λ b. eqb (state_of t b) state_unallocated
      || (leb (get_or w.cells b 0) (cell_count p (get_or w.size b 0))
      && chain_counts_same (get_or w.cells b 0) i h b (get_or w.size b 0) (get_or w.free b 0)))
