-- Every call keeps tables sound, chains and free counts too, and set-up makes sound ones. Assumes nothing.
use Rattle.std.specs.Prelude.{Ok, Option}
use mathlib.Core.Path.{◌≡◌, refl, sym, ap, ◌∙◌, subst}
use mathlib.Core.Logic.{◌≢◌, ◌⊎◌, inl, inr, ⊎_elim}
use mathlib.Core.Bool.{Bool, true, not, ◌&&◌}
use mathlib.Core.List.{List, [], ◌∷◌, head_d}
use Prim.Native.Nat.{ℕ, suc, ◌+◌, ◌-◌, ◌*◌, ◌/◌, ◌%◌, ◌<◌, ◌≤◌}
use native.Mathlib.Omega.{arith}
use lib.Dec.{eqb, ltb, leb}
use lib.ListN.{get_or, set, length, length-set, length-map, replicate, length-replicate}
use borrow.Author.Tests.{eq-eqb}
use Rattle.model.specs.declared.Params.{Params}
use Rattle.model.specs.declared.Block.{Block}
use Rattle.model.specs.Base.{In}
use Rattle.model.specs.Params.{Lent, fits, word_count, heap_bytes, in_heap, start, minus_lower, local_sets, abandoned}
use Rattle.model.specs.Tables.{Words, Tables, with_words, set_bound, set_released, with_released, set_phase, set_free, set_cells}
use Rattle.model.specs.Global.{phase_running, is_holder, is_bound, unmarked_state, fresh_words, fresh_tables, bind_holder, destroy_holder, prepared, mark_place, all_released, has_released, Freed, release_holder, sweep_later, eagerly, part_released}
use Rattle.model.specs.Memory.{load, zeroed, marked}
use Rattle.model.specs.Sound.{state_of, list_named, set_named, link_ok, owner_empty, unbound_empty, in_gc_empty, phase_known, flags_known, released_few, released_some, released_empty, sound, on_unswept, released_before, eager_block, eager_ok, chained, sound_on}
use Rattle.model.specs.BlockList.{blocks_on}
use Rattle.model.specs.SizeClasses.{bin_of, cell_bytes, raised}
use Rattle.model.specs.Classes.{classes_fit}
use Rattle.model.specs.Events.{Event, event_heap, events_heap}
use Rattle.model.specs.FreeListAllocator.{find_block}
use Rattle.model.specs.Calls.{changes, good_offer, take_plan, good_object, release_plan, call_tests, plan_passed, Call, bind, destroy, alloc, prepare, mark, release, shared_release, End, says, takes, Plan, plan, plan_sound, Step, take_cell, finish, carried, step, Returned, tables_in, lent_of, call}
use Rattle.model.specs.Refusals.{SoundKept}
use Rattle.laws.proofs.Base.{and_left, and_right, if_cases, if_false, or_left, or_right, Bool_cases, below_all}
use Rattle.laws.proofs.Memory.{get_d_zeros}
use Rattle.laws.proofs.Classes.{chosen, fits_raised}
use Rattle.laws.proofs.Cells.{Whole, whole_is_cell}
use Rattle.laws.proofs.Below.{true_not_false, and_both}
use Rattle.laws.proofs.Params.{Bounds, good_bounds}
use Rattle.laws.proofs.Lent.{Fitting, fitting, lent_tables}
use Rattle.laws.proofs.Tests.{Asked, phase_passed, bind_passed, leave_passed, alloc_passed, mark_passed, release_passed, plan_cases}
use Rattle.laws.proofs.Stores.{set_off}
use Rattle.laws.proofs.Tables.{Sized, sized_same, kept_lengths, sized_view, lengths_set_bound}
use Rattle.soundness.proofs.SoundLists.{Good, sound_good, good_blocks, good_linked}
use Rattle.soundness.proofs.Owners.{abandon_links, abandon_framed, holder_framed, holder_empties, shared_framed, eagerly_framed}
use Rattle.soundness.proofs.Flags.{Flags, flag_facts, sound_flags, bind_flags, prepare_flags, destroy_flags, same_flags, released_flags, bound_at}
use Rattle.soundness.proofs.GoodTables.{GoodTables, clear_words}
use Rattle.soundness.proofs.Release.{abandon_good, holder_good, shared_good}
use Rattle.soundness.proofs.Alloc.{find_served, take_good}
use Rattle.soundness.proofs.Chains.{shadow_events, Chains, first_whole, first_head, first_link, rest_cell, take_chains}
use Rattle.soundness.proofs.Chained.{shadow_of, chains_found, chained_by}
use Rattle.soundness.proofs.ChainPlans.{Top, EndsOn, After, find_after, take_ends, holder_chains, shared_chains, part_after}
use Rattle.soundness.proofs.Eagerly.{Settled, eagerly_good}
use Rattle.soundness.proofs.EagerOk.{EagerFacts, eager_facts, facts_eager, settled_facts, abandon_settled, find_settled, Due, facts_due, holder_left, shared_left, part_facts}
use Rattle.soundness.proofs.Simple.{rows_of, good_stays, same_states, bind_good, prepare_good, mark_good, fresh_good, fresh_flags}

module _ (p : Params) (B : Bounds p) where
  -- tables that are good and whose flags are
  pub good_sound : (t : Tables) (L : ℕ → List ℕ) → Good p t L → Flags t.words → sound p t ≡ true
  unfolding sound
  good_sound t L G F =
      and_both (and_both (and_both (and_both (and_both (and_both (good_blocks p B t L G) (good_linked p B t L G)) F.unbound) F.in_gc_lem)
      (and_both F.phase F.flags)) (and_both F.few F.some)) F.empty

  -- what a call finds and leaves: tables of the right lengths, and sound
  pub record Kept (t : Tables) : Type 0 where
    pub sized : Sized p.blocks t.words
    pub states : length t.states ≡ p.blocks
    pub passes : sound p t ≡ true

  -- set-up makes them
  pub fresh_kept : Kept (fresh_tables p)
  unfolding fresh_tables fresh_words word_count
  fresh_kept =
      record {
        sized = sized_view p.blocks (replicate (2958 + 7 * p.blocks) 0) (length-replicate (2958 + 7 * p.blocks) 0);
        states = length-replicate p.blocks 0;
        passes = good_sound (fresh_tables p) (λ l. []) (fresh_good p) (fresh_flags p);
      }

  -- other words with the same tables of lists and blocks
  pub still_good : {ms st : List ℕ} {w : Words} (w' : Words) → rows_of w' ≡ rows_of w → Sized p.blocks w' → GoodTables p ms w st → GoodTables p ms w' st
  still_good {ms} {st} w' e z H =
      record { lists = H.lists; good = good_stays p w' ms e (same_states p st) H.good; sized = z; states = H.states }

  -- the end of a release: flags alone, or in-gc merged into abandoned
  pub part_good : (part : ℕ) (w : Words) (st ms : List ℕ) → GoodTables p ms w st → GoodTables p ms (part_released p part w) st
  unfolding part_released set_released set_phase with_released
  part_good part w st ms H = if_cases (λ (x : Words). GoodTables p ms x st) (all_released w₁)
      (λ e.
      let A = abandon_good p B ms 8 9 (omega arith) (omega arith) (omega arith) (omega arith) st w₁ H₁ in
      let S = A.sized in
      still_good _ refl (record { first = S.first; last = S.last; bound = S.bound; released = refl; next = S.next; prev = S.prev; free = S.free; size = S.size; list = S.list; tls = S.tls; cells = S.cells }) A)
      (λ e. H₁)
    where
      w₁ : Words
      w₁ = set_released part 1 (set_phase 2 w)

      H₁ : GoodTables p ms w₁ st
      H₁ = still_good w₁ refl (sized_same (simp kept_lengths) H.sized) H

  -- held tables whose flags are good
  good_kept : (t : Tables) → GoodTables p t.marks t.words t.states → Flags t.words → Kept t
  good_kept t H F = record { sized = H.sized; states = H.states; passes = good_sound t H.lists H.good F }

  module _ (t : Tables) (K : Kept t) where
    abbrev L : ℕ → List ℕ
    L l = blocks_on p l t.words

    G : Good p t L
    G = sound_good p B t K.passes

    pub H : GoodTables p t.marks t.words t.states
    H = record { lists = L; good = G; sized = K.sized; states = K.states }

    F : Flags t.words
    F = sound_flags p t K.passes

    bind_kept : (h : ℕ) → t.words.phase ≡ 0 → is_holder h ≡ true → Kept (bind_holder h t)
    unfolding bind_holder
    bind_kept h e o =
        record {
          sized = sized_same (simp kept_lengths) K.sized;
          states = K.states;
          passes = good_sound (bind_holder h t) L (bind_good p h t L G) (bind_flags t.words h K.sized F e o);
        }

    prepare_kept : t.words.phase ≡ 0 → Kept (prepared t)
    unfolding prepared
    prepare_kept e =
        record {
          sized = sized_same (simp kept_lengths) K.sized;
          states = length-map t.states unmarked_state ∙ K.states;
          passes = good_sound (prepared t) L (prepare_good p t L G) (prepare_flags t.words F e);
        }

    mark_kept : (place b : ℕ) → state_of t b ≢ 0 → Kept (mark_place p place b t)
    unfolding mark_place
    mark_kept place b o = if_cases Kept (marked p t.marks place) (λ e. K)
        (λ e.
        record {
          sized = K.sized;
          states = length-set t.states b 254 ∙ K.states;
          passes = good_sound _ L (subst (λ (x : Tables). Good p x L) (if_false (marked p t.marks place) _ _ e) (mark_good p place b t L o G)) F;
        })

    mark_words : (place b : ℕ) → (mark_place p place b t).words ≡ t.words
    unfolding mark_place
    mark_words place b = if_cases (λ (u : Tables). u.words ≡ t.words) (marked p t.marks place) (λ e. refl) (λ e. refl)

    -- destroy: the holder's lists go behind the abandoned ones
    destroy_kept : (h : ℕ) → t.words.phase ≤ 1 → is_bound t.words h ≡ true → Kept (destroy_holder p h t)
    unfolding destroy_holder local_sets set_bound
    destroy_kept h e o =
        let P = bound_at t.words h o in
        let A = abandon_good p B t.marks 8 (h - 1) (omega arith) (omega (arith, P.high)) (omega (arith, P.low, P.high)) (omega arith) t.states t.words H in
        good_kept (destroy_holder p h t) (still_good _ refl (sized_same (lengths_set_bound (h - 1) 0 _) A.sized) A) (destroy_flags p t.words h K.sized F e o)

    -- a release: own blocks released or handed to in-gc; and the end of the collection, if it is the last
    part_kept : (part : ℕ) (f : Freed) → GoodTables p t.marks f.words f.states → (part ≡ 0) ⊎ (is_bound t.words part ≡ true)
        → f.words.bound ≡ t.words.bound → f.words.released ≡ t.words.released
        → ((l : ℕ) → l / 147 < 8 → suc (l / 147) ≢ part → get_or f.words.first l 0 ≡ get_or t.words.first l 0)
        → ((l : ℕ) → suc (l / 147) ≡ part → l / 147 < 8 → get_or f.words.first l 0 ≡ 0) → part ≤ 8
        → Kept (release_plan p part t f).tables
    unfolding release_plan
    part_kept part f A whose bound released others own low =
        let g : Freed = eagerly p t.marks part f in
        let R = eagerly_framed p t.marks part f in
        let G = (eagerly_good p B t.marks part f A).good in
        good_kept _ (part_good part g.words g.states t.marks G)
        (released_flags p t.words g.words part G.sized F whose (R.bound ∙ bound) (R.released ∙ released)
        (λ l lt ne. R.first l (omega (arith, lt)) (omega (arith, lt)) ∙ others l lt ne)
        (λ l e. R.first l (omega (arith, e, low)) (omega (arith, e, low)) ∙ own l e (omega (arith, e, low))))

    release_kept : (h : ℕ) → is_bound t.words h ≡ true → Kept (release_plan p h t (release_holder p h t.words t.states)).tables
    release_kept h o =
        let P = bound_at t.words h o in
        let R = holder_framed p t.words t.states h P.low P.high in
        part_kept h _ (holder_good p B t.marks h P.low P.high t.words t.states H) (inr o) R.bound R.released
        (λ l lt ne. R.first l (omega (arith, ne)) (omega (arith, lt)))
        (λ l e lt. holder_empties p t.words t.states h P.low P.high K.sized l (omega (arith, e))) P.high

    shared_kept : Kept (release_plan p 0 t (sweep_later p t.words t.states)).tables
    shared_kept =
        let R = shared_framed p t.words t.states in
        part_kept 0 _ (shared_good p B t.marks t.words t.states H) (inl refl) R.bound R.released
        (λ l lt ne. R.first l (omega (arith, lt)) (omega (arith, lt))) (λ l e lt. absurd (omega (arith, e))) (omega arith)

    -- the search of an alloc
    find_kept : (h bin : ℕ) (offer : Option Block) → t.words.phase ≡ 0 → is_bound t.words h ≡ true → 1 ≤ bin → bin < 49 → 8 ≤ cell_bytes p bin
        → good_offer p t offer ≡ true
        → Kept (find_block p h bin offer t).tables
    find_kept h bin offer e o pos low word fine =
        let P = bound_at t.words h o in
        let S = find_served p B t H h bin P.low P.high pos low word offer fine in
        good_kept _ S.good (same_flags t.words _ F e h o S.frame)

  -- ---- with the choice of eager sweeping: each call keeps what that tests

  module _ (t : Tables) (K : Kept t) (E : eager_ok p t ≡ true) where
    facts : p.eager ≡ true → EagerFacts t.words t.states
    facts on = eager_facts p B (H t K) on E

    -- of tables that a call leaves
    passes_eager : (u : Tables) → Kept u → (p.eager ≡ true → EagerFacts u.words u.states) → eager_ok p u ≡ true
    passes_eager u k f = facts_eager p B (H u k) f

    bind_eager : (h : ℕ) → eager_ok p (bind_holder h t) ≡ true
    unfolding bind_holder set_bound eager_ok eager_block on_unswept released_before set_named list_named has_released state_of
    bind_eager h = E

    prepare_eager : t.words.phase ≡ 0 → eager_ok p (prepared t) ≡ true
    unfolding prepared set_phase Settled
    prepare_eager e =
        passes_eager (prepared t) (prepare_kept t K e) (λ on. settled_facts (prepared t).states (facts on).settled (λ z. omega (arith, z)))

    mark_eager : (place b : ℕ) → state_of t b ≢ 0 → t.words.phase ≡ 1 → eager_ok p (mark_place p place b t) ≡ true
    mark_eager place b o e =
        passes_eager (mark_place p place b t) (mark_kept t K place b o)
        (λ on. settled_facts (mark_place p place b t).states (subst Settled (sym same) (facts on).settled) (λ z. omega (arith, sym (ap (λ (w : Words). w.phase) same ∙ e) ∙ z)))
      where
        same : (mark_place p place b t).words ≡ t.words
        same = mark_words t K place b

    destroy_eager : (h : ℕ) → t.words.phase ≤ 1 → is_bound t.words h ≡ true → eager_ok p (destroy_holder p h t) ≡ true
    unfolding destroy_holder local_sets set_bound Settled
    destroy_eager h e o =
        let P = bound_at t.words h o in
        let R = abandon_framed p (h - 1) 8 (omega (arith, P.high)) (omega arith) t.words in
        passes_eager (destroy_holder p h t) (destroy_kept t K h e o)
        (λ on. settled_facts t.states (abandon_settled p 8 (h - 1) t.words (facts on).settled) (λ z. omega (arith, e, sym R.phase ∙ z)))

    find_eager : (h bin : ℕ) (offer : Option Block) → t.words.phase ≡ 0 → is_bound t.words h ≡ true → 1 ≤ bin → bin < 49 → 8 ≤ cell_bytes p bin
        → good_offer p t offer ≡ true → eager_ok p (find_block p h bin offer t).tables ≡ true
    find_eager h bin offer e o pos low word fine =
        let P = bound_at t.words h o in
        let S = find_served p B t (H t K) h bin P.low P.high pos low word offer fine in
        passes_eager (find_block p h bin offer t).tables (find_kept t K h bin offer e o pos low word fine)
        (λ on. settled_facts _ (find_settled p h bin low t.marks offer t refl (facts on).settled) (λ z. omega (arith, sym (S.frame.phase ∙ e) ∙ z)))

    pub due : (on : p.eager ≡ true) → Due p B t.marks t.words t.states (H t K)
    due on = facts_due p B t.marks t.words t.states (H t K) (flag_facts t.words (F t K)) (facts on)

    release_eager : (h : ℕ) → is_bound t.words h ≡ true → eager_ok p (release_plan p h t (release_holder p h t.words t.states)).tables ≡ true
    unfolding release_plan
    release_eager h o =
        let P = bound_at t.words h o in
        let R = holder_framed p t.words t.states h P.low P.high in
        passes_eager _ (release_kept t K h o)
        (λ on.
        let L = holder_left p B t.marks t.words t.states (H t K) on (due on) h P.low P.high in
        part_facts p B t.marks h _ L.good L.settled L.in_gc_lem
        (λ r. L.shared (ap (λ (x : List ℕ). get_or x 0 0) (sym R.released) ∙ sym (set_off (release_holder p h t.words t.states).words.released h 1 0 (omega (arith, P.low))) ∙ r)))

    shared_eager : eager_ok p (release_plan p 0 t (sweep_later p t.words t.states)).tables ≡ true
    unfolding release_plan
    shared_eager =
        passes_eager _ (shared_kept t K)
        (λ on.
        let L = shared_left p B t.marks t.words t.states (H t K) on (due on) in
        part_facts p B t.marks 0 _ L.0.good L.0.settled L.0.in_gc_lem (λ r. L.1))

  -- ---- the end of a call: the cell taken

  free_flags : (w : Words) (b v n : ℕ) → Flags w → Flags (set_cells b n (set_free b v w))
  unfolding set_free set_cells unbound_empty in_gc_empty phase_known flags_known released_few released_some released_empty owner_empty is_bound has_released all_released
  free_flags w b v n F =
      record { unbound = F.unbound; in_gc_lem = F.in_gc_lem; phase = F.phase; flags = F.flags; few = F.few; some = F.some; empty = F.empty }

  -- the head of what is left of a chain is a good link
  head_good : (w : Words) (b : ℕ) (l : List ℕ) → ((y : ℕ) → In y l → Whole p b (get_or w.size b 0) y) → link_ok p w b (head_d l 0) ≡ true
  unfolding link_ok head_d In
  head_good w b [] f = refl
  head_good w b (y ∷ l) f = or_right (eqb y 0) (whole_is_cell p b (get_or w.size b 0) y (f y (inl refl)))

  module _ (t : Tables) (h : List ℕ) (sh : List (List ℕ)) (K : Kept t) (C : Chains p t.words.free t.words.size t.words.cells h sh)
      (b : ℕ) (T : Top p sh b) where
    abbrev w : Words
    w = t.words

    whole : Whole p b (get_or w.size b 0) T.cell
    whole = first_whole p B w.free w.size w.cells h sh C b T.low T.cell T.rest T.is

    -- the link read at the free head
    link_is : load p h (get_or w.free b 0) ≡ head_d T.rest 0
    link_is =
        ap (load p h) (first_head p B w.free w.size w.cells h sh C b T.low T.cell T.rest T.is)
        ∙ first_link p B w.free w.size w.cells h sh C b T.low T.cell T.rest T.is

    link_good : link_ok p w b (load p h (get_or w.free b 0)) ≡ true
    link_good = rw link_is (head_good w b T.rest (rest_cell p B w.free w.size w.cells h sh C b T.low T.cell T.rest T.is))

    -- a block that has cells is in use
    in_use_lem : state_of t b ≢ 0
    in_use_lem z = absurd (omega (arith, whole.word, (clear_words w b ((sound_good p B t K.passes).clear b T.low z)).1))

    take_kept : (n : ℕ) → Kept (with_words (set_cells b n (set_free b (load p h (get_or w.free b 0)) w)) t)
    take_kept n =
        record {
          sized = sized_same (simp kept_lengths) K.sized;
          states = K.states;
          passes = good_sound _ _ (take_good p t _ K.sized (sound_good p B t K.passes) b _ n T.low in_use_lem link_good)
              (free_flags w b _ n (sound_flags p t K.passes));
        }

    take_after : Chains p (set w.free b (load p h (get_or w.free b 0))) w.size (set w.cells b (get_or w.cells b 0 - 1))
        (zeroed p h (get_or w.free b 0) (get_or w.size b 0)) (set sh b T.rest)
    take_after =
        rw (link_is, first_head p B w.free w.size w.cells h sh C b T.low T.cell T.rest T.is)
        (take_chains p B w.free w.size w.cells h sh C b T.low T.cell T.rest T.is)

  take_eager : (t : Tables) (b v n : ℕ) → eager_ok p t ≡ true → eager_ok p (with_words (set_cells b n (set_free b v t.words)) t) ≡ true
  unfolding set_free set_cells eager_ok eager_block on_unswept released_before set_named list_named has_released state_of
  take_eager t b v n E = E

  -- tables that a call finds and leaves, with their heap
  pub record Sound (t : Tables) (h : List ℕ) : Type 0 where
    pub kept : Kept t
    pub eager : eager_ok p t ≡ true
    pub shadow : List (List ℕ)
    pub chains : Chains p t.words.free t.words.size t.words.cells h shadow

  finish_sound : (t : Tables) (es : List Event) (h : List ℕ) (sh : List (List ℕ)) (e : End) → Kept t → eager_ok p t ≡ true
      → Chains p t.words.free t.words.size t.words.cells h sh → EndsOn p sh e → Sound (finish p t es h e).tables (finish p t es h e).heap
  unfolding finish take_cell EndsOn set_free set_cells event_heap
  finish_sound t es h sh (says r) K E C X = record { kept = K; eager = E; shadow = sh; chains = C }
  finish_sound t es h sh (takes b align offset fresh) K E C T =
      record { kept = take_kept t h sh K C b T _; eager = take_eager t b _ _ E; shadow = set sh b T.rest; chains = take_after t h sh K C b T }

  -- ---- every call

  module _ (rows : classes_fit p ≡ true) (t : Tables) (h : List ℕ) (S : Sound t h) where
    K : Kept t
    K = S.kept

    abbrev ws : Words
    ws = t.words

    -- what a plan leaves, before its end
    record Leaves (q : Plan) : Type 0 where
      kept : Kept q.tables
      eager : eager_ok p q.tables ≡ true
      chains : After p B h S.shadow q.events q.tables.words
      ends : EndsOn p (shadow_events q.events S.shadow) q.end

    -- chains of words that have the same heads, sizes and counts
    leaves : (u : Tables) (vs : List ℕ) → Kept u → eager_ok p u ≡ true → (u.words.free ≡ ws.free) × (u.words.size ≡ ws.size) × (u.words.cells ≡ ws.cells) → Leaves (changes u vs)
    unfolding EndsOn events_heap shadow_events
    leaves u vs k g e = record { kept = k; eager = g; chains = rw (e.0, e.1, e.2) S.chains; ends = tt }

    object_occupied : (place b : ℕ) → good_object p t place b ≡ true → state_of t b ≢ 0
    unfolding good_object
    object_occupied place b e z =
        let A : Bool = in_heap p place && eqb (place % 8) 0 in
        let C : Bool = ltb b p.blocks in
        let D : Bool = not (eqb (state_of t b) 0) in
        let E : Bool = leb (start p b) (minus_lower p place) && ltb (minus_lower p place) (start p b + p.bytes) in
        true_not_false (sym (and_right C D (and_right A (C && D) (and_left (A && (C && D)) E e))) ∙ ap not (eq-eqb _ _ z))

    bind_same : (d : ℕ) → ((bind_holder d t).words.free ≡ ws.free) × ((bind_holder d t).words.size ≡ ws.size) × ((bind_holder d t).words.cells ≡ ws.cells)
    unfolding bind_holder set_bound
    bind_same d = (refl, refl, refl)

    destroy_same : (d : ℕ) → ((destroy_holder p d t).words.free ≡ ws.free) × ((destroy_holder p d t).words.size ≡ ws.size) × ((destroy_holder p d t).words.cells ≡ ws.cells)
    unfolding destroy_holder set_bound
    destroy_same d = let L = abandon_links p abandoned (local_sets d) ws in (L.free, L.size, L.cells)

    prepare_same : ((prepared t).words.free ≡ ws.free) × ((prepared t).words.size ≡ ws.size) × ((prepared t).words.cells ≡ ws.cells)
    unfolding prepared set_phase
    prepare_same = (refl, refl, refl)

    mark_same : (place b : ℕ) → ((mark_place p place b t).words.free ≡ ws.free) × ((mark_place p place b t).words.size ≡ ws.size) × ((mark_place p place b t).words.cells ≡ ws.cells)
    mark_same place b =
        let e = mark_words t K place b in
        (ap (λ (w : Words). w.free) e, ap (λ (w : Words). w.size) e, ap (λ (w : Words). w.cells) e)

    -- the search of an alloc
    alloc_leaves : (d size align offset : ℕ) (offer : Option Block) → Asked p t d size align offset offer
        → Leaves (take_plan p align offset (find_block p d (bin_of p (raised p size align)) offer t))
    unfolding take_plan
    alloc_leaves d size align offset offer a =
        let P = bound_at ws d a.bound in
        let f = fits_raised p size align a.small in
        let n = chosen p B rows (raised p size align) f in
        let bin : ℕ = bin_of p (raised p size align) in
        let lb : bin < 49 = omega (arith, n.to) in
        let F = find_after p B h S.shadow t (H t K) S.chains d bin P.low P.high lb n.word n.room offer a.offered in
        record {
          kept = find_kept t K d bin offer a.running a.bound n.from lb n.word a.offered;
          eager = find_eager t K S.eager d bin offer a.running a.bound n.from lb n.word a.offered;
          chains = F.chains;
          ends = take_ends p B h S.shadow t (H t K) S.chains d bin P.low P.high lb n.word n.room align offset _ F;
        }

    passed_leaves : (c : Call) → call_tests p t c ≡ Ok tt → Leaves (plan_passed p t c)
    unfolding call_tests plan_passed release_plan EndsOn
    passed_leaves (bind d) e = let b = bind_passed ws d e in leaves (bind_holder d t) [] (bind_kept t K d b.0 b.1) (bind_eager t K S.eager d) (bind_same d)
    passed_leaves (destroy d) e =
        let b = leave_passed ws d e in
        leaves (destroy_holder p d t) _ (destroy_kept t K d b.0 b.1) (destroy_eager t K S.eager d b.0 b.1) (destroy_same d)
    passed_leaves (alloc d size align offset offer) e = alloc_leaves d size align offset offer (alloc_passed p t d size align offset offer e)
    passed_leaves prepare e =
        let b = phase_passed ws phase_running e in
        leaves (prepared t) [] (prepare_kept t K b) (prepare_eager t K S.eager b) prepare_same
    passed_leaves (mark place b) e =
        let m = mark_passed p t place b e in
        let o = object_occupied place b m.1 in
        leaves (mark_place p place b t) _ (mark_kept t K place b o) (mark_eager t K S.eager place b o m.0) (mark_same place b)
    passed_leaves (release d) e =
        let b = (release_passed ws d e).1 in
        let P = bound_at ws d b in
        record {
          kept = release_kept t K d b;
          eager = release_eager t K S.eager d b;
          chains = part_after p B h S.shadow t.marks d _ (holder_good p B t.marks d P.low P.high ws t.states (H t K)) (holder_chains p B h S.shadow t K.states S.chains d);
          ends = tt;
        }
    passed_leaves shared_release e =
        record {
          kept = shared_kept t K;
          eager = shared_eager t K S.eager;
          chains = part_after p B h S.shadow t.marks 0 _ (shared_good p B t.marks ws t.states (H t K)) (shared_chains p B h S.shadow t K.states S.chains);
          ends = tt;
        }

    plan_leaves : (c : Call) → Leaves (plan_sound p t c)
    unfolding EndsOn events_heap shadow_events
    plan_leaves c = plan_cases Leaves p t c (λ r b. record { kept = K; eager = S.eager; chains = S.chains; ends = tt }) (λ e. passed_leaves c e)

  -- the tests of R-8 and of chains, and what they find
  pub kept_sound : (t : Tables) (h : List ℕ) → Kept t → length h ≡ heap_bytes p → eager_ok p t ≡ true → chained p t h ≡ true → Sound t h
  kept_sound t h K len g e = record { kept = K; eager = g; shadow = shadow_of p h t.words; chains = chains_found p B t h K.passes e K.sized len }

  -- set-up makes sound tables, whatever the heap holds
  fresh_chained : (h : List ℕ) → chained p (fresh_tables p) h ≡ true
  unfolding chained state_of fresh_tables
  fresh_chained h = below_all p.blocks _ (λ b low. or_left _ (eq-eqb _ _ (get_d_zeros p.blocks b)))

  fresh_eager : eager_ok p (fresh_tables p) ≡ true
  unfolding eager_ok eager_block state_of fresh_tables
  fresh_eager = or_right (not p.eager) (below_all p.blocks _ (λ b low. or_left _ (eq-eqb _ _ (get_d_zeros p.blocks b))))

  pub fresh_sound : (h : List ℕ) → length h ≡ heap_bytes p → Sound (fresh_tables p) h
  fresh_sound h len = kept_sound (fresh_tables p) h fresh_kept len fresh_eager (fresh_chained h)

  pub sound_on_lem : (t : Tables) (h : List ℕ) → Sound t h → sound_on p t h ≡ true
  sound_on_lem t h S = and_both (and_both S.kept.passes S.eager) (chained_by p B t h S.shadow S.chains)

  -- a call on sound tables and heap leaves them so
  pub step_sound : classes_fit p ≡ true → (t : Tables) (h : List ℕ) (c : Call) → Sound t h → Sound (step p t h c).tables (step p t h c).heap
  unfolding step plan
  step_sound rows t h c S =
      let L = plan_leaves rows t h S c in
      if_cases (λ (q : Plan). Sound (carried p h q).tables (carried p h q).heap) (sound_on p t h) (λ e. finish_sound _ _ _ _ _ L.kept L.eager L.chains L.ends)
      (λ e. absurd (true_not_false (sym (sound_on_lem t h S) ∙ e)))

  -- and one on tables that are sound but for their chains, or for eager sweeping, changes nothing
  pub step_kept : classes_fit p ≡ true → (t : Tables) (h : List ℕ) (c : Call) → length h ≡ heap_bytes p → Kept t → Kept (step p t h c).tables
  unfolding step plan finish
  step_kept rows t h c len K =
      ⊎_elim
      (λ e. (step_sound rows t h c (kept_sound t h K len (and_right (sound p t) (eager_ok p t) (and_left (sound p t && eager_ok p t) _ e)) (and_right (sound p t && eager_ok p t) _ e))).kept)
      (λ e. if_cases (λ (q : Plan). Kept (carried p h q).tables) (sound_on p t h) (λ f. absurd (true_not_false (sym f ∙ e))) (λ f. K)) (Bool_cases (sound_on p t h))

-- what is lent to a call that is not refused before it looks
pub lent_sound : (p : Params) (l : Lent) (fit : fits p l ≡ true) → sound_on p (tables_in l) l.heap ≡ true
    → Sound p (good_bounds p (fitting p l fit).good) (tables_in l) l.heap
unfolding word_count
lent_sound p l fit ok =
    kept_sound p B t l.heap (record { sized = sized_view p.blocks l.words F.words; states = F.states; passes = and_left (sound p t) (eager_ok p t) both })
    F.heap (and_right (sound p t) (eager_ok p t) both) (and_right (sound p t && eager_ok p t) (chained p t l.heap) ok)
  where
    F : Fitting p l
    F = fitting p l fit

    B : Bounds p
    B = good_bounds p F.good

    t : Tables
    t = tables_in l

    both : (sound p t && eager_ok p t) ≡ true
    both = and_left (sound p t && eager_ok p t) (chained p t l.heap) ok

pub sound_kept : SoundKept
unfolding SoundKept call
sound_kept p l c fit ok =
    rw fit (if_cases (λ (r : Returned). sound_on p (tables_in r.lent) r.lent.heap ≡ true) (classes_fit p) served (λ k. ok))
  where
    B : Bounds p
    B = good_bounds p (fitting p l fit).good

    t : Tables
    t = tables_in l

    served : classes_fit p ≡ true → let s : Step = step p t l.heap c in sound_on p (tables_in (lent_of s.tables s.heap)) s.heap ≡ true
    served rows =
        let T : Sound p B (step p t l.heap c).tables (step p t l.heap c).heap = step_sound p B rows t l.heap c (lent_sound p l fit ok) in
        rw (lent_tables p.blocks (step p t l.heap c).tables (step p t l.heap c).heap T.kept.sized) (sound_on_lem p B _ _ T)
