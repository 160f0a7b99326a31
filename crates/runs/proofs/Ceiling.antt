-- Work between collections, as the model states it (Spans; 02, R-12): from any point of Running up to the next prepare each call sweeps
-- no more blocks than leave the abandoned unswept lists, and spends a block as often as it comes to name a consumed list. So the
-- sweeps of a span are at most the blocks that waited at its start, and no block is spent twice. With eager sweeping none waits on
-- tables that a call accepts, so none is swept.
use Rattle.std.specs.Prelude.{Ok, Option, None, Some}
use mathlib.Core.Path.{◌≡◌, refl, sym, ap, ◌∙◌, subst}
use mathlib.Core.Logic.{◌≢◌, ◌⊎◌, inl, inr, ⊎_elim}
use mathlib.Core.Bool.{Bool, true, false, not, ◌&&◌}
use mathlib.Core.List.{List, [], ◌∷◌, ◌++◌}
use Prim.Native.Nat.{ℕ, ◌+◌, ◌-◌, ◌*◌, ◌/◌, ◌%◌, ◌≤◌, ◌<◌}
use native.Mathlib.Omega.{arith}
use native.Mathlib.Decide.{ℕ_discrete}
use lib.Dec.{eqb, ltb}
use lib.ListN.{length, get_or, set, replicate, get_or-eq_default}
use borrow.Author.Tests.{eqb-true, eqb-false, eq-eqb, ne_eqb, ltb-true, not-true}
use Rattle.model.specs.declared.Params.{Params}
use Rattle.model.specs.declared.Block.{Block}
use Rattle.model.specs.declared.Refusal.TheVariants.{BadTables}
use Rattle.model.specs.declared.Refusal.{Refusal}
use Rattle.model.specs.Base.{all_below, member, filter, flag, In}
use Rattle.model.specs.Params.{good_params, Lent, fits, list_word, local_sets, abandoned, available, unswept, consumed, bins}
use Rattle.model.specs.Tables.{Words, Tables, set_bound, set_free, set_size, set_tls, set_cells}
use Rattle.model.specs.SizeClasses.{bin_of, raised, cell_bytes}
use Rattle.model.specs.Classes.{classes_fit}
use Rattle.model.specs.BlockList.{push, append, blocks_on}
use Rattle.model.specs.Block.{state_unmarked, init_chain, init_block}
use Rattle.model.specs.Events.{Event, initialised, taken, events_heap, is_sweep, sweeps, spends, times_spent}
use Rattle.model.specs.FreeListAllocator.{Found, Search, in_found, acquire_fresh, find_block}
use Rattle.model.specs.Global.{bind_holder, abandon_bin, abandon_blocks, destroy_holder, fresh_tables}
use Rattle.model.specs.Sound.{state_of, block_clear, list_named, set_named, sound, on_unswept, released_before, eager_block, eager_ok, chained, sound_on}
use Rattle.model.specs.Calls.{Call, bind, destroy, alloc, prepare, mark, release, shared_release, End, says, takes, Plan, refuses, good_offer, may_release, take_plan, call_tests, plan_passed, plan, Step, take_cell, finish, step, Returned, tables_in, result_from}
use Rattle.model.specs.Runs.{Book, book_events, book_after, Write, written, Turn, State, step_of, result_of, turned, empty_book, begun, Holds, HoldersWrite}
use Rattle.model.specs.Spans.{after_turns, phase_in, is_prepare, NoPrepare, Span, swept_count, alloc_sweeps, awaits, waiting, SweepsBound, EagerSweepsNone, passes, PassOnce, is_consumed, PassSeen}
use Rattle.laws.proofs.Base.{all_below_lem, and_left, and_right, Bool_cases, if_cases, in_member, member_in, or_cases, not_both}
use Rattle.laws.proofs.Params.{Bounds}
use Rattle.laws.proofs.Stores.{set_at, set_off}
use Rattle.laws.proofs.Tables.{Sized, by_lt}
use Rattle.laws.proofs.Pigeon.{sum_same, sum_zero, flag_one, flag_none}
use Rattle.laws.proofs.Frame.{links_refl, push_list, each_keeps, append_none}
use Rattle.laws.proofs.Classes.{chosen, fits_raised}
use Rattle.laws.proofs.Tests.{Asked, leave_passed, alloc_passed, mark_passed, release_passed, shared_passed, plan_cases}
use Rattle.laws.proofs.Lent.{fits_parts, answered_fits, answered_classes, set_up_is, lent_tables}
use Rattle.laws.proofs.Walks.{Numbered, find_keeps}
use Rattle.soundness.proofs.SoundLists.{sound_good}
use Rattle.soundness.proofs.Owners.{available_numbered, consumed_numbered}
use Rattle.soundness.proofs.GoodTables.{GoodTables}
use Rattle.soundness.proofs.Flags.{bound_at}
use Rattle.soundness.proofs.Chains.{shadow_events}
use Rattle.soundness.proofs.Release.{append_placed}
use Rattle.soundness.proofs.Over.{named_in, named_out}
use Rattle.runs.proofs.Steps.{no_events}
use Rattle.runs.proofs.Search.{Settled, available_settled, consumed_settled}
use Rattle.runs.proofs.Plans.{Inv, Steady, Leaving, append_leaving}
use Rattle.runs.proofs.AllocPlan.{starting, find_searched}
use Rattle.runs.proofs.Work.{waits_on, full_on, available_waits, available_full, consumed_waits, consumed_full, in_queue, queue, outside, queue_moved, sweeps_append, spent_append, Work, no_work, On, Got, work_steps}
use Rattle.runs.proofs.Calls.{sound_tables, shadow_step}
use Rattle.runs.proofs.Counts.{sweeps_taken}
use Rattle.runs.proofs.Demand3.{bounds, state_of as standing, J, S, step_of_lem, result_of_lem, turn_of, fresh_inv}

-- ---- one call in Running: from the tables t to t', with the events es

pub record Worked (p : Params) (t : Tables) (es : List Event) (t' : Tables) : Type 0 where
  pub phase : t'.words.phase ≡ 0
  pub few : sweeps es + queue p t'.states t'.words.list ≤ queue p t.states t.words.list
  pub once : (b : ℕ) → times_spent b es + outside t'.words.list b ≡ outside t.words.list b
  -- with eager sweeping there is nothing to sweep
  pub eager : p.eager ≡ true → sweeps es ≡ 0

-- nothing happened, and the lists stay
quiet_worked : (p : Params) (t t' : Tables) → t'.words.phase ≡ 0 → t'.states ≡ t.states → t'.words.list ≡ t.words.list → Worked p t [] t'
unfolding sweeps times_spent filter
quiet_worked p t t' running st list =
    let q : queue p t'.states t'.words.list ≡ queue p t.states t.words.list = λ i. queue p (st i) (list i) in
    record { phase = running; few = omega (arith, q); once = λ b. omega (arith, ap (λ (x : List ℕ). outside x b) list); eager = λ e. refl }

-- an Unallocated block's list word is 0
clear_word : (w : Words) (b : ℕ) → block_clear w b ≡ true → get_or w.list b 0 ≡ 0
unfolding block_clear
clear_word w b e =
    let four : Bool = eqb (get_or w.next b 0) 0 && eqb (get_or w.prev b 0) 0 && eqb (get_or w.free b 0) 0 && eqb (get_or w.size b 0) 0 in
    let list : Bool = eqb (get_or w.list b 0) 0 in
    let tls : Bool = eqb (get_or w.tls b 0) 0 in
    eqb-true _ _ (and_right four list (and_left (four && list) tls (and_left (four && list && tls) (eqb (get_or w.cells b 0) 0) e)))

-- a block in use on no unswept list does not wait
not_waiting : (t : Tables) (b : ℕ) → eager_block t b ≡ true → get_or t.states b 0 ≢ 0 → waits_on (get_or t.words.list b 0) ≡ false
unfolding eager_block on_unswept state_of set_named list_named waits_on
not_waiting t b e occ =
    let s : ℕ = (get_or t.words.list b 0 - 1) / 49 in
    let held : Bool = eqb (get_or t.states b 0) state_unmarked && released_before t.words b in
    let q : (not (eqb (s % 3) 1) && not held) ≡ true =
    ⊎_elim (λ z. absurd (occ (eqb-true _ _ z))) (λ z. z) (or_cases (eqb (get_or t.states b 0) 0) (not (eqb (s % 3) 1) && not held) e) in
    let f : s % 3 ≢ 1 = eqb-false _ _ (not-true _ (and_left (not (eqb (s % 3) 1)) (not held) q)) in
    ne_eqb s 25 (λ z. omega (arith, z, f))

none_full : full_on 0 ≡ false
unfolding full_on
none_full = refl

-- a cell is taken: no block is swept, none changes its list
module _ (p : Params) (t : Tables) where
  taken_worked : (q : Plan) (h : List ℕ) (end : End) → Worked p t q.events q.tables
      → Worked p t (finish p q.tables q.events h end).events (finish p q.tables q.events h end).tables
  unfolding finish take_cell set_cells set_free times_spent filter spends
  taken_worked q h (says reply) W = W
  taken_worked q h (takes b align offset fresh) W =
      record {
        phase = W.phase;
        few = omega (arith, sweeps_taken q.events (get_or q.tables.words.free b 0) (get_or q.tables.words.size b 0), W.few);
        once = λ d. omega (arith, spent_append d q.events (taken (get_or q.tables.words.free b 0) (get_or q.tables.words.size b 0) ∷ []), W.once d);
        eager = λ e. sweeps_taken q.events (get_or q.tables.words.free b 0) (get_or q.tables.words.size b 0) ∙ W.eager e;
      }

module _ (p : Params) (B : Bounds p) (t : Tables) (h : List ℕ) (sh : List (List ℕ)) (bk : Book) (I : Inv p B t h sh bk)
    (passes_test : sound p t ≡ true) (running : t.words.phase ≡ 0)
    (swept_before : p.eager ≡ true → queue p t.states t.words.list ≡ 0) where
  abbrev st : List ℕ
  st = t.states

  tables : GoodTables p t.marks t.words t.states
  tables = record { lists = λ n. blocks_on p n t.words; good = sound_good p B t passes_test; sized = I.sized; states = I.core.states }

  -- ---- destroy: blocks go over, each to a list of its kind, and none of them waits for a sweep

  record Left (w : Words) : Type 0 where
    good : GoodTables p t.marks w st
    leaving : Leaving p B t.words w
    same : (b : ℕ) → b < p.blocks → get_or st b 0 ≢ 0
        → (waits_on (get_or w.list b 0) ≡ waits_on (get_or t.words.list b 0)) × (full_on (get_or w.list b 0) ≡ full_on (get_or t.words.list b 0))

  left_append : (l o bin j : ℕ) (w : Words) → Left w → Numbered l 8 bin → Numbered o j bin → j < 8 → Settled (list_word l) → Settled (list_word o)
      → waits_on (list_word l) ≡ waits_on (list_word o) → full_on (list_word l) ≡ full_on (list_word o) → Left (append p l o w)
  left_append l o bin j w L P Q lj sl so ew ef =
      record {
        good = append_placed p B t.marks w st P Q ne (λ low. absurd (omega arith)) L.good;
        leaving = append_leaving p B t.words w l o sl so L.leaving;
        same = λ b low occ. at b low occ (Bool_cases (member b (L.good.lists o)));
      }
    where
      ne : l ≢ o
      ne e = omega (arith, P.owner, Q.owner, ap (λ (x : ℕ). x / 147) e)

      at : (b : ℕ) → b < p.blocks → get_or st b 0 ≢ 0 → (member b (L.good.lists o) ≡ true) ⊎ (member b (L.good.lists o) ≡ false)
          → (waits_on (get_or (append p l o w).list b 0) ≡ waits_on (get_or t.words.list b 0)) × (full_on (get_or (append p l o w).list b 0) ≡ full_on (get_or t.words.list b 0))
      at b low occ (inl y) =
          let n = named_in p B t.marks w st L.good P Q ne b (member_in b (L.good.lists o) y) in (
            ap waits_on n.1 ∙ ew ∙ sym (ap waits_on n.0) ∙ (L.same b low occ).0,
            ap full_on n.1 ∙ ef ∙ sym (ap full_on n.0) ∙ (L.same b low occ).1,
          )
      at b low occ (inr y) =
          let n = named_out p B t.marks w st L.good P Q ne b low occ (λ x. not_both _ (in_member b (L.good.lists o) x) y) in
          (ap waits_on n ∙ (L.same b low occ).0, ap full_on n ∙ (L.same b low occ).1)

  left_bin : (j : ℕ) → j < 8 → (bin : ℕ) → bin < 49 → (w : Words) → Left w → Left (abandon_bin p abandoned (3 * j) bin w)
  unfolding abandon_bin
  left_bin j lj bin lb w L =
      let M = left_append (available abandoned bin) (available (3 * j) bin) bin j w L (available_numbered 8 bin (omega arith) lb) (available_numbered j bin (omega arith) lb) lj
      (available_settled 8 bin (omega arith) lb) (available_settled j bin (omega arith) lb)
      (available_waits 8 bin (omega arith) lb ∙ sym (available_waits j bin (omega arith) lb)) (available_full 8 bin (omega arith) lb ∙ sym (available_full j bin (omega arith) lb)) in
      let N = left_append (consumed abandoned bin) (consumed (3 * j) bin) bin j _ M (consumed_numbered 8 bin (omega arith) lb) (consumed_numbered j bin (omega arith) lb) lj
      (consumed_settled 8 bin (omega arith) lb) (consumed_settled j bin (omega arith) lb)
      (consumed_waits 8 bin (omega arith) lb ∙ sym (consumed_waits j bin (omega arith) lb)) (consumed_full 8 bin (omega arith) lb ∙ sym (consumed_full j bin (omega arith) lb)) in
      subst Left (sym (append_none p (unswept abandoned bin) (unswept (3 * j) bin) _ (N.leaving.idle j bin lj lb))) N

  left_all : (j : ℕ) → j < 8 → Left (abandon_blocks p abandoned (3 * j) t.words)
  unfolding abandon_blocks Steady
  left_all j lj =
      each_keeps Left bins (abandon_bin p abandoned (3 * j)) (λ bin lb x X. left_bin j lj bin lb x X) t.words
      (record {
        good = tables;
        leaving = record { links = links_refl t.words; steady = λ b s. s; idle = I.idle };
        same = λ b low occ. (refl, refl);
      })

  destroy_worked : (d : ℕ) → 1 ≤ d → d ≤ 8 → Worked p t [] (destroy_holder p d t)
  unfolding destroy_holder set_bound local_sets sweeps times_spent filter queue state_of
  destroy_worked d lo hi =
      record {
        phase = L.leaving.links.phase ∙ running;
        few = omega (arith, sum_same p.blocks (in_queue st w.list) (in_queue st t.words.list) (λ b low. in_queue_lem b low (ℕ_discrete (get_or st b 0) 0)));
        once = λ b. omega (arith, ap (λ (x : Bool). flag (not x)) (full b));
        eager = λ e. refl;
      }
    where
      w : Words
      w = abandon_blocks p abandoned (3 * (d - 1)) t.words

      L : Left w
      L = left_all (d - 1) (omega arith)

      in_queue_lem : (b : ℕ) → b < p.blocks → Dec (get_or st b 0 ≡ 0) → in_queue st w.list b ≡ in_queue st t.words.list b
      in_queue_lem b low (yes z) = rw (eq-eqb (get_or st b 0) 0 z)
      in_queue_lem b low (no occ) = rw (L.same b low occ).0

      full : (b : ℕ) → full_on (get_or w.list b 0) ≡ full_on (get_or t.words.list b 0)
      full b =
          by_lt b p.blocks (λ low. at low (ℕ_discrete (get_or st b 0) 0))
          (λ far. ap full_on (get_or-eq_default w.list 0 {n = b} (omega (arith, L.good.sized.list)) ∙ sym (get_or-eq_default t.words.list 0 {n = b} (omega (arith, I.sized.list)))))
        where
          at : b < p.blocks → Dec (get_or st b 0 ≡ 0) → full_on (get_or w.list b 0) ≡ full_on (get_or t.words.list b 0)
          at low (yes z) = ap full_on (clear_word w b (L.good.good.clear b low z) ∙ sym (clear_word t.words b (tables.good.clear b low z)))
          at low (no occ) = (L.same b low occ).1

  -- ---- alloc

  module _ (hd : ℕ) (lo : 1 ≤ hd) (hi : hd ≤ 8) (bin : ℕ) (some : 1 ≤ bin) (low : bin < 49) (word : 8 ≤ cell_bytes p bin) (room : cell_bytes p bin ≤ p.bytes) where
    own : local_sets hd ≡ 3 * (hd - 1)
    unfolding local_sets
    own = refl

    abbrev Ends : Search → Type 0
    Ends s = (sweeps s.events + queue p s.tables.states s.tables.words.list ≤ queue p st t.words.list)
        × ((b : ℕ) → times_spent b s.events + outside s.tables.words.list b ≡ outside t.words.list b)

    found_ends : (f : Found) → Work p st t.words f.events f.words → Ends (in_found f t)
    found_ends f K = (K.few, K.once)

    -- the offered block was free, and is available now
    module _ (b : ℕ) (lb : b < p.blocks) (none : get_or st b 0 ≡ 0) (f : Found) (K : Work p st t.words f.events f.words) (long : length f.words.list ≡ p.blocks) where
      abbrev list : ℕ
      list = available (local_sets hd) bin

      abbrev u : List ℕ
      u = (push p (available (local_sets hd) bin) b f.words).list

      now : get_or u b 0 ≡ list_word list
      now = ap (λ (x : List ℕ). get_or x b 0) (push_list p list b f.words) ∙ set_at f.words.list b (list_word list) (omega (arith, long))

      others : (z : ℕ) → z ≢ b → get_or u z 0 ≡ get_or f.words.list z 0
      others z n = ap (λ (x : List ℕ). get_or x z 0) (push_list p list b f.words) ∙ set_off f.words.list b (list_word list) z n

      was : get_or f.words.list b 0 ≡ 0
      unfolding state_of
      was = K.free b none ∙ clear_word t.words b (tables.good.clear b lb none)

      still : (d : ℕ) → Dec (d ≡ b) → outside u d ≡ outside f.words.list d
      still d (yes e) =
          let is : outside u b ≡ 1 = flag_one (rw (now, own, available_full (hd - 1) bin (omega arith) low)) in
          let old : outside f.words.list b ≡ 1 = flag_one (rw (was, none_full)) in
          ap (outside u) e ∙ is ∙ sym old ∙ sym (ap (outside f.words.list) e)
      still d (no n) = rw (others d n)

      queued : queue p (set st b 255) u ≤ queue p st f.words.list
      queued =
          let q : queue p (set st b 255) u + in_queue st f.words.list b ≡ queue p st f.words.list =
          queue_moved p st (set st b 255) f.words.list u b lb (λ z n. (set_off st b 255 z n, others z n)) (rw (now, own) (available_waits (hd - 1) bin (omega arith) low)) in
          omega (arith, q)

      fresh_ends : Ends (acquire_fresh p hd bin (Some (record { 0 = b })) f t)
      unfolding acquire_fresh init_block set_cells set_tls set_size set_free sweeps times_spent filter is_sweep spends
      fresh_ends = (
        omega (arith, queued, K.few, sweeps_append f.events (initialised b (init_chain p b (cell_bytes p bin)) ∷ [])),
        λ d. omega (arith, still d (ℕ_discrete d b), K.once d, spent_append d f.events (initialised b (init_chain p b (cell_bytes p bin)) ∷ [])),
      )

    offered : (offer : Option Block) → good_offer p t offer ≡ true → (f : Found) → Work p st t.words f.events f.words → Sized p.blocks f.words
        → Ends (acquire_fresh p hd bin offer f t)
    unfolding acquire_fresh good_offer state_of
    offered None fine f K Z = found_ends f K
    offered (Some b) fine f K Z =
        fresh_ends b.0 (ltb-true _ _ (and_left (ltb b.0 p.blocks) (eqb (get_or st b.0 0) 0) fine))
        (eqb-true _ _ (and_right (ltb b.0 p.blocks) (eqb (get_or st b.0 0) 0) fine)) f K Z.list

    find_ends : (offer : Option Block) → good_offer p t offer ≡ true → Ends (find_block p hd bin offer t)
    unfolding events_heap shadow_events book_events
    find_ends offer fine =
        find_keeps p hd bin t (On p B st t.marks hd h sh bk bin (hd - 1) low (omega arith) own t.words)
        (Got p B st t.marks hd h sh bk bin (hd - 1) low (omega arith) own t.words)
        (work_steps p B st t.marks hd h sh bk bin (hd - 1) low (omega arith) own t.words) Ends offer
        (λ f e o. offered offer fine f o.1 o.0.searching.lengths) (λ f e o. found_ends f o.1)
        (record { events = no_events p B hd h bk; searching = starting p B t h sh bk I passes_test running hd lo hi bin some low word room }, no_work p st t.words)

    alloc_worked : (align offset : ℕ) (offer : Option Block) → good_offer p t offer ≡ true
        → let q : Plan = take_plan p align offset (find_block p hd bin offer t) in Worked p t q.events q.tables
    unfolding take_plan
    alloc_worked align offset offer fine =
        let E = find_ends offer fine in
        record { phase = (find_searched p B t h sh bk I passes_test running hd lo hi bin some low word room offer fine).phase; few = E.0; once = E.1; eager = λ e. omega (arith, E.0, swept_before e) }

-- ---- every call

module _ (p : Params) (fine : good_params p ≡ true) (rows : classes_fit p ≡ true) (t : Tables) (h : List ℕ) (sh : List (List ℕ)) (bk : Book)
    (I : Inv p (bounds p fine rows) t h sh bk) (running : t.words.phase ≡ 0) where
  abbrev B : Bounds p
  B = bounds p fine rows

  -- the step of a plan of the call c, that is no answered prepare
  abbrev Works : Call → Plan → Type 0
  Works c q =
      let s : Step = finish p q.tables q.events (events_heap p q.events h) q.end in
      (is_prepare c && eqb s.reply.number 0) ≡ false → Worked p t s.events s.tables

  refused_works : (c : Call) (r : Refusal) → Works c (refuses t r)
  unfolding finish
  refused_works c r n = quiet_worked p t t running refl refl

  -- no release and no mark is of this phase
  no_release : may_release t.words ≡ true → ⊥
  unfolding may_release
  no_release e =
      ⊎_elim (λ q. omega (arith, running, eqb-true t.words.phase 1 q)) (λ q. omega (arith, running, eqb-true t.words.phase 2 q))
      (or_cases (eqb t.words.phase 1) (eqb t.words.phase 2) e)

  -- a block on an unswept list is not accepted then
  eager_none : eager_ok p t ≡ true → p.eager ≡ true → queue p t.states t.words.list ≡ 0
  unfolding queue eager_ok
  eager_none ok on = sum_same p.blocks (in_queue t.states t.words.list) (λ b. 0) (λ b low. none b low (ℕ_discrete (get_or t.states b 0) 0)) ∙ sum_zero p.blocks
    where
      all : all_below p.blocks (eager_block t) ≡ true
      all = ⊎_elim (λ q. absurd (not_both (not p.eager) q (ap not on))) (λ q. q) (or_cases (not p.eager) (all_below p.blocks (eager_block t)) ok)

      none : (b : ℕ) → b < p.blocks → Dec (get_or t.states b 0 ≡ 0) → in_queue t.states t.words.list b ≡ 0
      none b low (yes z) = flag_none (rw (eq-eqb (get_or t.states b 0) 0 z))
      none b low (no occ) = flag_none (rw (ne_eqb (get_or t.states b 0) 0 occ, not_waiting t b (all_below_lem p.blocks (eager_block t) all b low) occ))

  alloc_works : (d size align offset : ℕ) (offer : Option Block) → (s : sound p t ≡ true) → (p.eager ≡ true → queue p t.states t.words.list ≡ 0) → Asked p t d size align offset offer
      → let q : Plan = take_plan p align offset (find_block p d (bin_of p (raised p size align)) offer t) in Worked p t q.events q.tables
  alloc_works d size align offset offer s w a =
      let r = bound_at t.words d a.bound in
      let k = chosen p B rows (raised p size align) (fits_raised p size align a.small) in
      alloc_worked p B t h sh bk I s running w d r.low r.high (bin_of p (raised p size align)) k.from (omega (arith, k.to)) k.word k.room align offset offer a.offered

  passed_works : (c : Call) → sound p t ≡ true → (p.eager ≡ true → queue p t.states t.words.list ≡ 0) → call_tests p t c ≡ Ok tt → Works c (plan_passed p t c)
  unfolding call_tests plan_passed is_prepare finish bind_holder set_bound
  passed_works (bind d) s w e = λ n. quiet_worked p t (bind_holder d t) running refl refl
  passed_works (destroy d) s w e =
      let r = bound_at t.words d (leave_passed t.words d e).1 in
      λ n. destroy_worked p B t h sh bk I s running w d r.low r.high
  passed_works (alloc d size align offset offer) s w e =
      let q : Plan = take_plan p align offset (find_block p d (bin_of p (raised p size align)) offer t) in
      λ n. taken_worked p t q _ q.end (alloc_works d size align offset offer s w (alloc_passed p t d size align offset offer e))
  passed_works prepare s w e = λ n. absurd (not_both true refl n)
  passed_works (mark place b) s w e = λ n. absurd (omega (arith, running, (mark_passed p t place b e).0))
  passed_works (release d) s w e = λ n. absurd (no_release (release_passed t.words d e).0)
  passed_works shared_release s w e = λ n. absurd (no_release (shared_passed t.words e))

  pub step_works : (c : Call) → (is_prepare c && eqb (step p t h c).reply.number 0) ≡ false → Worked p t (step p t h c).events (step p t h c).tables
  unfolding step plan
  step_works c =
      if_cases (Works c) (sound_on p t h)
      (λ s.
      let k : sound_tables p t ≡ true = and_left (sound_tables p t) (chained p t h) s in
      plan_cases (Works c) p t c (λ r b. refused_works c r)
      (λ e. passed_works c (and_left (sound p t) (eager_ok p t) k) (eager_none (and_right (sound p t) (eager_ok p t) k)) e))
      (λ s. refused_works c BadTables)

-- ---- turns

module _ (p : Params) (fine : good_params p ≡ true) (rows : classes_fit p ≡ true) where
  -- what stands holds tables and a heap under the invariant, and holders write what they hold in the turns to come
  record At (s : State) (us : List Turn) : Type 0 where
    tables : Tables
    heap : List ℕ
    shadow : List (List ℕ)
    book : Book
    is : s ≡ standing p fine rows tables heap book
    inv : Inv p (bounds p fine rows) tables heap shadow book
    holders : HoldersWrite p (standing p fine rows tables heap book) us

  next : (s : State) (u : Turn) (us : List Turn) → At s (u ∷ us) → At (turned p s u) us
  unfolding HoldersWrite
  next s u us A =
      let g : List ℕ = written p u.writes A.heap in
      let e = turn_of p fine rows A.tables A.heap A.shadow A.book A.inv u A.holders.0 in
      record {
        tables = (step p A.tables g u.call).tables;
        heap = (step p A.tables g u.call).heap;
        shadow = (shadow_step p A.tables A.shadow u.call).shadow;
        book = book_after p u.call (step p A.tables g u.call) A.book;
        is = ap (λ (x : State). turned p x u) A.is ∙ e;
        inv = (S p fine rows A.tables A.heap A.shadow A.book A.inv u A.holders.0).inv;
        holders = subst (λ (x : State). HoldersWrite p x us) e A.holders.1;
      }

  later : (us vs : List Turn) (s : State) → At s (us ++ vs) → At (after_turns p s us) vs
  unfolding after_turns
  later [] vs s A = A
  later (u ∷ us) vs s A = later us vs (turned p s u) (next s u (us ++ vs) A)

  -- a point of Running, with turns to come and no prepare among them
  record Runs (s : State) (us : List Turn) : Type 0 where
    at : At s us
    running : phase_in s ≡ 0
    prepares : NoPrepare p s us

  abbrev TurnWorked : State → Turn → Type 0
  TurnWorked s u = Worked p (tables_in s.lent) (step_of p s u).events (tables_in (turned p s u).lent)

  turn_works : (s : State) (u : Turn) (us : List Turn) → Runs s (u ∷ us) → TurnWorked s u
  unfolding NoPrepare HoldersWrite next
  turn_works s u us R =
      subst (λ (x : Tables). Worked p x (step_of p s u).events (tables_in (turned p s u).lent)) (sym before)
      (subst (λ (x : Step). Worked p t x.events (tables_in (turned p s u).lent)) (sym steps)
      (subst (λ (x : Tables). Worked p t (step p t g u.call).events x) (sym after)
      (step_works p fine rows t g A.shadow A.book (J p fine rows t A.heap A.shadow A.book A.inv u honest) running u.call quiet)))
    where
      A : At s (u ∷ us)
      A = R.at

      t : Tables
      t = A.tables

      g : List ℕ
      g = written p u.writes A.heap

      honest : (w : Write) → In w u.writes → Holds A.book w
      honest = A.holders.0

      before : tables_in s.lent ≡ t
      before = ap (λ (x : State). tables_in x.lent) A.is ∙ lent_tables p.blocks t A.heap A.inv.sized

      steps : step_of p s u ≡ step p t g u.call
      steps = ap (λ (x : State). step_of p x u) A.is ∙ step_of_lem p fine rows t A.heap A.shadow A.book A.inv u honest

      result : result_of p s u ≡ result_from (step p t g u.call)
      result = ap (λ (x : State). result_of p x u) A.is ∙ result_of_lem p fine rows t A.heap A.shadow A.book A.inv u honest

      after : tables_in (turned p s u).lent ≡ (step p t g u.call).tables
      after =
          let N : At (turned p s u) us = next s u us A in
          ap (λ (x : State). tables_in x.lent) N.is ∙ lent_tables p.blocks N.tables N.heap N.inv.sized

      running : t.words.phase ≡ 0
      running = sym (ap (λ (x : Tables). x.words.phase) before) ∙ R.running

      quiet : (is_prepare u.call && eqb (step p t g u.call).reply.number 0) ≡ false
      quiet = subst (λ (x : Returned). (is_prepare u.call && eqb x.reply.number 0) ≡ false) result R.prepares.0

  runs_next : (s : State) (u : Turn) (us : List Turn) → Runs s (u ∷ us) → Runs (turned p s u) us
  unfolding NoPrepare
  runs_next s u us R = record { at = next s u us R.at; running = (turn_works s u us R).phase; prepares = R.prepares.1 }

  runs_later : (us vs : List Turn) (s : State) → Runs s (us ++ vs) → Runs (after_turns p s us) vs
  unfolding after_turns
  runs_later [] vs s R = R
  runs_later (u ∷ us) vs s R = runs_later us vs (turned p s u) (runs_next s u (us ++ vs) R)

  -- ---- spans

  abbrev queue_in : State → ℕ
  queue_in s = queue p (tables_in s.lent).states (tables_in s.lent).words.list

  abbrev outside_in : State → ℕ → ℕ
  outside_in s b = outside (tables_in s.lent).words.list b

  count_most : (c : Call) (es : List Event) → swept_count c es ≤ sweeps es
  unfolding swept_count
  count_most (bind d) es = omega arith
  count_most (destroy d) es = omega arith
  count_most (alloc d size align offset offer) es = omega arith
  count_most prepare es = omega arith
  count_most (mark place b) es = omega arith
  count_most (release d) es = omega arith
  count_most shared_release es = omega arith

  span_sweeps : (us : List Turn) (s : State) → Runs s us → alloc_sweeps p s us ≤ queue_in s
  unfolding alloc_sweeps
  span_sweeps [] s R = omega arith
  span_sweeps (u ∷ us) s R =
      omega (arith, (turn_works s u us R).few, span_sweeps us (turned p s u) (runs_next s u us R), count_most u.call (step_of p s u).events)

  span_eager : p.eager ≡ true → (us : List Turn) (s : State) → Runs s us → alloc_sweeps p s us ≡ 0
  unfolding alloc_sweeps
  span_eager on [] s R = refl
  span_eager on (u ∷ us) s R =
      omega (arith, (turn_works s u us R).eager on, span_eager on us (turned p s u) (runs_next s u us R), count_most u.call (step_of p s u).events)

  span_passes : (b : ℕ) (us : List Turn) (s : State) → Runs s us → passes p b s us ≤ outside_in s b
  unfolding passes
  span_passes b [] s R = omega arith
  span_passes b (u ∷ us) s R = omega (arith, (turn_works s u us R).once b, span_passes b us (turned p s u) (runs_next s u us R))

  start_at : (l : Lent) (us : List Turn) → fits p l ≡ true → HoldersWrite p (begun p l) us → At (begun p l) us
  unfolding begun
  start_at l us f H =
      let e : begun p l ≡ standing p fine rows (fresh_tables p) l.heap empty_book =
      ap (λ (x : Returned). record { lent = x.lent; book = empty_book }) (set_up_is p l f rows) in
      record {
        tables = fresh_tables p;
        heap = l.heap;
        shadow = replicate p.blocks [];
        book = empty_book;
        is = e;
        inv = fresh_inv p fine rows l.heap (fits_parts p l f).1;
        holders = subst (λ (x : State). HoldersWrite p x us) e H;
      }

-- what the model's definitions say, by state bytes and list words
waiting_is : (p : Params) (t : Tables) → waiting p t ≡ queue p t.states t.words.list
unfolding waiting awaits state_of set_named list_named queue waits_on
waiting_is p t = refl

consumed_is : (t : Tables) (b : ℕ) → is_consumed t b ≡ full_on (get_or t.words.list b 0)
unfolding is_consumed set_named list_named full_on
consumed_is t b = refl

flag_most : (x : Bool) → flag x ≤ 1
unfolding flag
flag_most true = omega arith
flag_most false = omega arith

-- n is 1 where x fails and y holds
once_if : (x y : Bool) (n : ℕ) → n + flag (not y) ≡ flag (not x) → n ≡ flag (not x && y)
unfolding flag
once_if true true n e = omega (arith, e)
once_if true false n e = absurd (omega (arith, e))
once_if false true n e = omega (arith, e)
once_if false false n e = omega (arith, e)

after_append : (p : Params) (us vs : List Turn) (s : State) → after_turns p s (us ++ vs) ≡ after_turns p (after_turns p s us) vs
unfolding after_turns
after_append p [] vs s = refl
after_append p (u ∷ us) vs s = after_append p us vs (turned p s u)

module _ (p : Params) (l : Lent) (us vs : List Turn) (P : Span p l us vs) where
  fit : fits p l ≡ true
  fit = answered_fits p l P.set_ups

  fine : good_params p ≡ true
  fine = (fits_parts p l fit).0

  rows : classes_fit p ≡ true
  rows = answered_classes p l P.set_ups

  runs : Runs p fine rows (after_turns p (begun p l) us) vs
  runs = record { at = later p fine rows us vs (begun p l) (start_at p fine rows l (us ++ vs) fit P.holders); running = P.starts; prepares = P.prepares }

-- ---- the theorems

pub sweeps_bound : SweepsBound
unfolding SweepsBound
sweeps_bound p l us vs P =
    subst (λ (n : ℕ). alloc_sweeps p (after_turns p (begun p l) us) vs ≤ n) (sym (waiting_is p (tables_in (after_turns p (begun p l) us).lent)))
    (span_sweeps p (fine p l us vs P) (rows p l us vs P) vs (after_turns p (begun p l) us) (runs p l us vs P))

pub eager_sweeps_none : EagerSweepsNone
unfolding EagerSweepsNone
eager_sweeps_none p l us vs P on =
    span_eager p (fine p l us vs P) (rows p l us vs P) on vs (after_turns p (begun p l) us) (runs p l us vs P)

pub pass_once : PassOnce
unfolding PassOnce
pass_once p l us vs b P =
    let s : State = after_turns p (begun p l) us in
    omega (arith, span_passes p (fine p l us vs P) (rows p l us vs P) b vs s (runs p l us vs P), flag_most (not (full_on (get_or (tables_in s.lent).words.list b 0))))

pub pass_seen : PassSeen
unfolding PassSeen
pass_seen p l us vs u us' b P =
    subst (λ (x : State). times_spent b (step_of p x u).events ≡ flag (not (is_consumed (tables_in x.lent) b) && is_consumed (tables_in (turned p x u).lent) b))
    (sym (after_append p us vs (begun p l)))
    (rw (consumed_is (tables_in s.lent) b, consumed_is (tables_in (turned p s u).lent) b)
    (once_if (full_on (get_or (tables_in s.lent).words.list b 0)) (full_on (get_or (tables_in (turned p s u).lent).words.list b 0)) _ ((turn_works p (fine p l us _ P) (rows p l us _ P) s u us' R).once b)))
  where
    s : State
    s = after_turns p (after_turns p (begun p l) us) vs

    R : Runs p (fine p l us (vs ++ (u ∷ us')) P) (rows p l us (vs ++ (u ∷ us')) P) s (u ∷ us')
    R = runs_later p _ _ vs (u ∷ us') (after_turns p (begun p l) us) (runs p l us (vs ++ (u ∷ us')) P)
