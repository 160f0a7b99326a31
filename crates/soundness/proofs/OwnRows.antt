-- "With 01's own sizes up to the block given as rows, every earlier answer returns on tables with no block in a higher bin" (02, R-5). Rows
-- change nothing but classes (Elsewhere.antt), and these rows change no class (OwnTable.antt). Assumes nothing.
use Rattle.std.specs.Prelude.{if◌then◌else◌, Result, ⊤, Ok, Err, Option, None, Some}
use mathlib.Core.Path.{◌≡◌, refl, ap, ◌∙◌}
use mathlib.Core.Logic.{◌⊎◌, inl, inr, ◌≢◌}
use mathlib.Core.Bool.{Bool, true, false, not, ◌&&◌}
use mathlib.Core.List.{List, [], ◌∷◌, ◌++◌}
use Prim.Native.Nat.{ℕ, zero, suc, ◌-◌, ◌≤◌, ◌<◌}
use native.Mathlib.Nat.{eq-zero-or-pos}
use native.Mathlib.Decide.{ℕ_discrete, dec_lt}
use native.Mathlib.Omega.{arith}
use lib.Dec.{eqb, ltb, leb}
use lib.ListN.{length, get_or, set}
use borrow.Author.Tests.{eq-eqb, ne_eqb, lt-ltb, le-leb}
use Rattle.model.specs.declared.Params.{Params}
use Rattle.model.specs.declared.Row.{Row}
use Rattle.model.specs.declared.Block.{Block}
use Rattle.model.specs.declared.Refusal.{Refusal}
use Rattle.model.specs.declared.Refusal.TheVariants.{BadSetup, BadTables}
use Rattle.model.specs.Base.{all_below, member}
use Rattle.model.specs.Params.{good_params, max_rows, Lent, fits, word_count, heap_bytes, heap_end, start, block_at, in_heap, minus_lower, lists, local_sets, available, consumed, abandoned}
use Rattle.model.specs.Memory.{load, zeroed, marked, mark_index, set_mark}
use Rattle.model.specs.Tables.{Words, Tables, tables_of, with_words, view, set_bound}
use Rattle.model.specs.SizeClasses.{mi_bin, bin_of, cell_bytes, raised, tabulated}
use Rattle.model.specs.Classes.{classes_fit}
use Rattle.model.specs.OwnRows.{own_row, with_own_rows, LowBins, OwnRows}
use Rattle.model.specs.BlockList.{push}
use Rattle.model.specs.Block.{state_unmarked, cell_count, is_cell, init_chain, init_block}
use Rattle.model.specs.Events.{Event, initialised, event_heap, events_heap, sweeps, releases}
use Rattle.model.specs.FreeListAllocator.{Found, followed_by, Search, in_found, acquire_fresh, find_block}
use Rattle.model.specs.Global.{fresh_words, fresh_tables, destroy_holder, mark_place, Freed, release_holder, sweep_later}
use Rattle.model.specs.Sound.{state_of, state_known, bin_named, list_named, on_list_named, size_ok, link_ok, tls_ok, block_sound, linked, unbound_empty, in_gc_empty, phase_known, flags_known, released_few, released_some, released_empty, sound, sound_on}
use Rattle.model.specs.Calls.{answered, refused, Call, bind, destroy, alloc, prepare, mark, release, shared_release, End, says, takes, Plan, refuses, good_request, too_big, good_offer, good_object, call_tests, request_tests, mark_tests, take_plan, release_plan, plan_passed, if_passed, plan_sound, plan, take_cell, finish, carried, step, tables_in, call, set_up, pages, Question, free_cells, cells_of, ask}
use Rattle.laws.proofs.Below.{test}
use Rattle.laws.proofs.Params.{Bounds, good_bounds}
use Rattle.laws.proofs.Classes.{mi_chosen, fits_raised}
use Rattle.laws.proofs.Lent.{fits_parts}
use Rattle.laws.proofs.Tests.{alloc_passed}
use Rattle.soundness.proofs.Elsewhere.{blocks_on_same, pages_used_same, pages_end_same, events_heap_same, find_free_same, recycle_same, abandoned_same, abandon_blocks_same, abandoned_blocks_same, release_holder_same, sweep_later_same, part_released_same, merged_same, linked_from_same, eagerly_same, eager_ok_same, chained_same}
use Rattle.soundness.proofs.OwnTable.{own_fit, own_bin, own_cell, own_low}

module _ (p : Params) where
  abbrev q : Params
  q = with_own_rows p

  abbrev rs : List Row
  rs = tabulated own_row max_rows 1

  abbrev n : ℕ
  n = mi_bin p.bytes

  -- ---- parameters and lengths

  few : n ≤ 48
  unfolding mi_bin
  few = go (dec_lt 65536 p.bytes)
    where
      go : Dec (65536 < p.bytes) → mi_bin p.bytes ≤ 48
      go (yes l) = rw (lt-ltb 65536 p.bytes l) (omega arith)
      go (no f) = (mi_chosen p.bytes (omega (arith, f))).to

  module _ (plain : p.count ≡ 0) where
    good_same : good_params q ≡ good_params p
    unfolding good_params with_own_rows heap_end heap_bytes
    good_same =
        let a : leb n 48 ≡ true = le-leb n 48 few in
        let b : leb p.count 48 ≡ true = le-leb p.count 48 (omega (arith, plain)) in
        rw (a, b)

    fits_same : (l : Lent) → fits q l ≡ fits p l
    unfolding fits with_own_rows word_count heap_bytes
    fits_same l = rw good_same

    -- ---- plans and steps, on good parameters

    module _ (B : Bounds p) where
      -- the size of a block in a bin of the table
      size_same : (w : Words) (b : ℕ) → bin_named w b ≤ n → size_ok q w b ≡ size_ok p w b
      unfolding size_ok
      size_same w b low = go (eq-zero-or-pos (bin_named w b))
        where
          go : (bin_named w b ≡ 0) ⊎ (0 < bin_named w b)
              → (leb 1 (bin_named w b) && ltb 0 (get_or w.size b 0) && eqb (get_or w.size b 0) (cell_bytes q (bin_named w b)))
              ≡ (leb 1 (bin_named w b) && ltb 0 (get_or w.size b 0) && eqb (get_or w.size b 0) (cell_bytes p (bin_named w b)))
          go (inl e) = rw e
          go (inr h) = rw (own_cell p B plain (bin_named w b) h low)

      block_same : (t : Tables) (b : ℕ) → (state_of t b ≢ 0 → bin_named t.words b ≤ n) → block_sound q t b ≡ block_sound p t b
      unfolding block_sound on_list_named link_ok is_cell start with_own_rows
      block_same t b low = go (ℕ_discrete (state_of t b) 0)
        where
          go : Dec (state_of t b ≡ 0) → block_sound q t b ≡ block_sound p t b
          go (yes e) = rw (eq-eqb (state_of t b) 0 e)
          go (no f) = rw (ne_eqb (state_of t b) 0 f) (λ i.
              state_known t b
              && (leb 1 (get_or t.words.list b 0) && leb (get_or t.words.list b 0) lists && member b (blocks_on_same p rs n i (list_named t.words b) t.words))
              && size_same t.words b (low f) i && link_ok p t.words b (get_or t.words.free b 0) && tls_ok t.words b)

      all_same : (m : ℕ) (f g : ℕ → Bool) → ((i : ℕ) → i < m → f i ≡ g i) → all_below m f ≡ all_below m g
      unfolding all_below
      all_same zero f g h = refl
      all_same (suc m) f g h = rw (h m (omega arith), all_same m f g (λ i l. h i (omega arith)))

      sound_same : (t : Tables) → ((b : ℕ) → b < p.blocks → state_of t b ≢ 0 → bin_named t.words b ≤ n) → sound q t ≡ sound p t
      unfolding sound linked with_own_rows
      sound_same t low = λ i.
          all_same p.blocks (block_sound q t) (block_sound p t) (λ b l. block_same t b (low b l)) i
          && all_below lists (λ l. linked_from_same p rs n p.blocks i t l 0 (get_or t.words.first l 0))
          && unbound_empty t.words
          && in_gc_empty t.words
          && (phase_known t.words && flags_known t.words)
          && (released_few t.words && released_some t.words)
          && released_empty t.words

      sound_on_same : (t : Tables) (h : List ℕ) → ((b : ℕ) → b < p.blocks → state_of t b ≢ 0 → bin_named t.words b ≤ n)
          → sound_on q t h ≡ sound_on p t h
      unfolding with_own_rows
      sound_on_same t h low = λ i. sound_same t low i && eager_ok_same p rs n i t && chained_same p rs n i t h

      -- ---- the search, for a bin of the table

      fresh_same : (h bin : ℕ) (offer : Option Block) → cell_bytes q bin ≡ cell_bytes p bin → acquire_fresh q h bin offer ≡ acquire_fresh p h bin offer
      unfolding acquire_fresh init_block init_chain cell_count push start block_at with_own_rows
      fresh_same h bin None e = refl
      fresh_same h bin (Some b) e = λ i f t.
          let s : ℕ = e i in
          let w : Words = init_block p b.0 s h (push p (available (local_sets h) bin) b.0 f.words) in
          let t' : Tables = tables_of w (set t.states b.0 state_unmarked) t.marks in
          let events : List Event = f.events ++ (initialised b.0 (init_chain p b.0 s) ∷ []) in
          record { at = start p b.0; fresh = true; tables = t'; events = events }

      find_same : (h bin : ℕ) (offer : Option Block) (t : Tables) → cell_bytes q bin ≡ cell_bytes p bin → find_block q h bin offer t ≡ find_block p h bin offer t
      unfolding find_block with_own_rows
      find_same h bin offer t e = λ i.
          let owner : ℕ = local_sets h in
          let g : Found = find_free_same p rs n p.blocks i (available owner bin) (consumed owner bin) t.words in
          let f : Found = followed_by g (recycle_same p rs n p.blocks i t.marks owner bin g.words) in
          let a : Found = followed_by f (abandoned_same p rs n p.blocks i t.marks h bin f.words) in
          if eqb g.at 0
          then (if eqb f.at 0 then (if eqb a.at 0 then fresh_same h bin offer e i a t else in_found a t)
          else in_found f t)
          else in_found g t

      -- ---- tests and plans

      tests_same : (t : Tables) (c : Call) → call_tests q t c ≡ call_tests p t c
      unfolding call_tests request_tests mark_tests good_request too_big raised good_offer good_object in_heap heap_end heap_bytes start minus_lower with_own_rows
      tests_same t (bind h) = refl
      tests_same t (destroy h) = refl
      tests_same t (release h) = refl
      tests_same t (alloc h size align offset None) = refl
      tests_same t (alloc h size align offset (Some b)) = refl
      tests_same t (mark place b) = refl
      tests_same t prepare = refl
      tests_same t shared_release = refl

      raised_same : (size align : ℕ) → raised q size align ≡ raised p size align
      unfolding raised with_own_rows
      raised_same size align = refl

      take_plan_same : (align offset : ℕ) (s : Search) → take_plan q align offset s ≡ take_plan p align offset s
      unfolding take_plan block_at with_own_rows
      take_plan_same align offset s = refl

      release_plan_same : (part : ℕ) (t : Tables) (f : Freed) → release_plan q part t f ≡ release_plan p part t f
      unfolding release_plan with_own_rows
      release_plan_same part t f = λ i.
          let g : Freed = eagerly_same p rs n i t.marks part f in
          let tables : Tables = tables_of (part_released_same p rs n i part g.words) g.states t.marks in
          record { tables = tables; events = g.events; end = says (answered (releases g.events ∷ merged_same p rs n i part g.words ∷ sweeps g.events ∷ [])) }

      alloc_same : (t : Tables) (h size align offset : ℕ) (offer : Option Block) → raised p size align ≤ p.bytes
          → take_plan q align offset (find_block q h (bin_of q (raised q size align)) offer t)
          ≡ take_plan p align offset (find_block p h (bin_of p (raised p size align)) offer t)
      alloc_same t h size align offset offer fit =
          let r : ℕ = raised p size align in
          let b : bin_of q (raised q size align) ≡ bin_of p r = ap (bin_of q) (raised_same size align) ∙ own_bin p B plain r fit in
          let l = own_low p B plain r fit in
          ap (λ (m : ℕ). take_plan q align offset (find_block q h m offer t)) b
          ∙ ap (take_plan q align offset) (find_same h (bin_of p r) offer t (own_cell p B plain (bin_of p r) l.0 l.1))
          ∙ take_plan_same align offset (find_block p h (bin_of p r) offer t)

      passed_same : (t : Tables) (c : Call) → call_tests p t c ≡ Ok tt → plan_passed q t c ≡ plan_passed p t c
      unfolding plan_passed destroy_holder mark_place marked mark_index set_mark in_heap heap_end heap_bytes with_own_rows
      passed_same t (bind h) e = refl
      passed_same t (destroy h) e = λ i.
          record {
            tables = with_words (set_bound (h - 1) 0 (abandon_blocks_same p rs n i abandoned (local_sets h) t.words)) t;
            events = [];
            end = says (answered (abandoned_blocks_same p rs n i abandoned (local_sets h) t.words ∷ []));
          }
      passed_same t (release h) e =
          release_plan_same h t (release_holder q h t.words t.states)
          ∙ λ i. release_plan p h t (release_holder_same p rs n i h t.words t.states)
      passed_same t (alloc h size align offset offer) e =
          alloc_same t h size align offset offer (fits_raised p size align (alloc_passed p t h size align offset offer e).small)
      passed_same t (mark place b) e = refl
      passed_same t prepare e = refl
      passed_same t shared_release e =
          release_plan_same 0 t (sweep_later q t.words t.states) ∙ λ i. release_plan p 0 t (sweep_later_same p rs n i t.words t.states)

      planned_same : (t : Tables) (c : Call) (x : Result ⊤ Refusal) → call_tests p t c ≡ x → if_passed x t (plan_passed q t c) ≡ if_passed x t (plan_passed p t c)
      unfolding if_passed
      planned_same t c (Ok tt) e = passed_same t c e
      planned_same t c (Err r) e = refl

      plan_same : (t : Tables) (h : List ℕ) (c : Call) → ((b : ℕ) → b < p.blocks → state_of t b ≢ 0 → bin_named t.words b ≤ n)
          → plan q t h c ≡ plan p t h c
      unfolding plan plan_sound
      plan_same t h c low =
          (λ i. if sound_on_same t h low i then if_passed (tests_same t c i) t (plan_passed q t c) else refuses t BadTables)
          ∙ ap (λ (x : Plan). if sound_on p t h then x else refuses t BadTables) (planned_same t c (call_tests p t c) refl)

      -- ---- the end of a call

      end_same : (t : Tables) (es : List Event) (h : List ℕ) (e : End) → finish q t es h e ≡ finish p t es h e
      unfolding finish take_cell load zeroed event_heap with_own_rows
      end_same t es h (says r) = refl
      end_same t es h (takes b align offset fresh) = refl

      step_same : (t : Tables) (h : List ℕ) (c : Call) → ((b : ℕ) → b < p.blocks → state_of t b ≢ 0 → bin_named t.words b ≤ n)
          → step q t h c ≡ step p t h c
      unfolding step finish with_own_rows
      step_same t h c low =
          ap (carried q h) (plan_same t h c low)
          ∙ ap (λ (x : List ℕ). finish q (plan p t h c).tables (plan p t h c).events x (plan p t h c).end) (events_heap_same p rs n (plan p t h c).events h)
          ∙ end_same (plan p t h c).tables (plan p t h c).events (events_heap p (plan p t h c).events h) (plan p t h c).end

    -- ---- the calls

    plain_fit : classes_fit p ≡ true
    unfolding classes_fit
    plain_fit = rw (eq-eqb p.count 0 plain)

    fresh_tables_same : fresh_tables q ≡ fresh_tables p
    unfolding fresh_tables fresh_words word_count heap_bytes with_own_rows
    fresh_tables_same = refl

    set_up_same : (l : Lent) → set_up q l ≡ set_up p l
    unfolding set_up
    set_up_same l = go (test (fits p l))
      where
        go : (fits p l ≡ true) ⊎ (fits p l ≡ false) → set_up q l ≡ set_up p l
        go (inl f) = rw (fits_same l, f, own_fit p (good_bounds p (fits_parts p l f).0), plain_fit, fresh_tables_same)
        go (inr f) = rw (fits_same l, f)

    call_same : (l : Lent) → LowBins p l → (c : Call) → call q l c ≡ call p l c
    unfolding call LowBins state_of
    call_same l low c = go (test (fits p l))
      where
        go : (fits p l ≡ true) ⊎ (fits p l ≡ false) → call q l c ≡ call p l c
        go (inl f) =
            let B : Bounds p = good_bounds p (fits_parts p l f).0 in
            rw (fits_same l, f, own_fit p B, plain_fit, step_same B (tables_in l) l.heap c low)
        go (inr f) = rw (fits_same l, f)

    cells_same : (w : Words) (bin : ℕ) → cells_of q w bin ≡ cells_of p w bin
    unfolding cells_of with_own_rows
    cells_same w bin = refl

    pages_same : (words firsts : List ℕ) → pages q words firsts ≡ pages p words firsts
    unfolding pages word_count with_own_rows
    pages_same words firsts = λ i.
        if not (good_same i && eqb (length words) (word_count p) && eqb (length firsts) 49) then refused BadSetup
        else if not (pages_end_same p rs n i (view words).next firsts) then refused BadTables
        else answered (pages_used_same p rs n i (view words).next firsts ∷ [])

    -- what is asked for (02, R-7) is answered alike too
    pub ask_same : (l : Lent) → LowBins p l → (question : Question) → ask q l question ≡ ask p l question
    unfolding ask LowBins state_of
    ask_same l low (free_cells bin) = go (test (fits p l))
      where
        go : (fits p l ≡ true) ⊎ (fits p l ≡ false) → ask q l (free_cells bin) ≡ ask p l (free_cells bin)
        go (inl f) =
            let B : Bounds p = good_bounds p (fits_parts p l f).0 in
            rw (fits_same l, f, own_fit p B, plain_fit, sound_on_same B (tables_in l) l.heap low, cells_same (view l.words) bin)
        go (inr f) = rw (fits_same l, f)

pub own_rows : OwnRows
unfolding OwnRows
own_rows p plain = (set_up_same p plain, call_same p plain, pages_same p plain, ask_same p plain)
