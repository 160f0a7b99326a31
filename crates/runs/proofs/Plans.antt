-- Every call's plan keeps the invariant of a run. Alloc's is in AllocPlan.antt.
use Rattle.std.specs.Prelude.{if◌then◌else◌}
use mathlib.Core.Path.{◌≡◌, refl, sym, ap, ◌∙◌, subst}
use mathlib.Core.Logic.{◌≢◌, inl, inr, ⊎_elim}
use mathlib.Core.Bool.{Bool, true, false, not, ◌&&◌, ◌||◌}
use mathlib.Core.List.{List, [], ◌∷◌, map}
use Prim.Native.Nat.{ℕ, ◌+◌, ◌-◌, ◌*◌, ◌/◌, ◌%◌, ◌≤◌, ◌<◌}
use native.Mathlib.Omega.{arith}
use native.Mathlib.Decide.{ℕ_discrete, dec_lt}
use lib.Dec.{eqb, ltb, leb}
use lib.ListN.{length, get_or, set, length-set, length-map, get_or-eq_default, get_or-map, replicate}
use lib.Seq.{get_or-set_same, get_or-set_other}
use borrow.Author.Tests.{eqb-true, eqb-false, eq-eqb, ne_eqb, not-true, ltb-true, leb-true}
use Rattle.model.specs.declared.Params.{Params}
use Rattle.model.specs.declared.Refusal.{Refusal}
use Rattle.model.specs.declared.Refusal.TheVariants.{BadSetup, BadTables, WrongPhase, BadHolder, BadRequest, TooBig, BadOffer, BadLink, Exhausted, BadObject, BadLine, BadClasses}
use Rattle.model.specs.Base.{In, Pairwise, member, each_below, flag}
use Rattle.model.specs.Params.{start, block_at, in_heap, minus_lower, list_word, local_sets, abandoned, in_gc, available, unswept, consumed, bins}
use Rattle.model.specs.Memory.{marked}
use Rattle.model.specs.Tables.{Words, Tables, set_first, set_last, set_bound, set_released, set_phase, with_released, set_free, set_size, set_next, set_prev, set_list, set_tls, set_cells}
use Rattle.model.specs.SizeClasses.{align_allocation}
use Rattle.model.specs.BlockList.{append, remove, relabel, link}
use Rattle.model.specs.Block.{state_marked, swept_words, clear_block}
use Rattle.model.specs.Events.{Event, released, event_heap, events_heap}
use Rattle.model.specs.FreeListAllocator.{sweep_of}
use Rattle.model.specs.Global.{bind_holder, destroy_holder, abandon_bin, abandon_blocks, unmarked_state, prepared, mark_place, Freed, freed, release_blocks, append_to, release_bin, release_holder, sweep_later_bin, sweep_later, recycle_blocks, eagerly, part_released, all_released}
use Rattle.model.specs.Calls.{refusal_number, Reply, refused, Call, bind, destroy, alloc, prepare, mark, release, shared_release, End, says, takes, Plan, refuses, changes, good_object, may_release, release_plan}
use Rattle.model.specs.Sound.{state_of, sound}
use Rattle.model.specs.Runs.{Cell, Book, aged, book_event, book_events, book_answer, taker_of, frees, entered, hits, unmarked}
use Rattle.laws.proofs.Base.{and_left, and_right, in_filter, if_false, if_cases, member_in, or_left, or_cases, Bool_cases, not_both}
use Rattle.laws.proofs.Params.{Bounds, block_at_within}
use Rattle.laws.proofs.Tables.{Sized, sized_same, kept_lengths}
use Rattle.laws.proofs.Marks.{marked_cleared, length_set_mark, length_cleared, bytes_set_mark, bytes_cleared, marked_set_mark}
use Rattle.laws.proofs.Frame.{LinksOnly, links_refl, push_links, append_links, remove_links, each_keeps, FirstsBut, link_list, append_first, append_none, relabel_keeps}
use Rattle.laws.proofs.Walks.{released_one, blocks_keep_any, bins_keep_any, later_keeps_any, swept_one, all_keeps, recycle_keeps_any, eagerly_keeps}
use Rattle.soundness.proofs.Owners.{unswept_numbered, abandon_links, abandon_framed, holder_framed, holder_empties, shared_framed, eagerly_framed}
use Rattle.runs.proofs.Links.{Occupied}
use Rattle.runs.proofs.Inv.{Held, Placed, Core, sweep_core, in_range, release_core, release_unmarked}
use Rattle.soundness.proofs.Chains.{set_cases, shadow_event, shadow_events}
use Rattle.runs.proofs.Steps.{is_taken, EventOk, EventsOk, no_events, events_behind, behind}
use Rattle.runs.proofs.Search.{Settled, Idle, available_settled, consumed_settled, unswept_unsettled, class_of, swept_ok}

-- no refusal has the number 0
pub refusal_some : (r : Refusal) → eqb (refusal_number r) 0 ≡ false
unfolding refusal_number
refusal_some BadSetup = refl
refusal_some BadTables = refl
refusal_some WrongPhase = refl
refusal_some BadHolder = refl
refusal_some BadRequest = refl
refusal_some TooBig = refl
refusal_some BadOffer = refl
refusal_some BadLink = refl
refusal_some Exhausted = refl
refusal_some BadObject = refl
refusal_some BadLine = refl
refusal_some BadClasses = refl

-- ---- cells made old

in_aged : (cs : List Cell) (c : Cell) → In c (map aged cs) → (d : Cell) × In d cs × (c ≡ aged d)
unfolding In
in_aged [] c m = absurd m
in_aged (x ∷ cs) c (inl e) = (x, inl refl, e)
in_aged (x ∷ cs) c (inr m) = let z = in_aged cs c m in (z.0, inr z.1, z.2)

apart_aged : (cs : List Cell) → Pairwise (λ c d. c.start ≢ d.start) cs → Pairwise (λ c d. c.start ≢ d.start) (map aged cs)
unfolding Pairwise
apart_aged [] a = tt
apart_aged (x ∷ cs) a =
    ((λ y m. let z = in_aged cs y m in λ e. a.0 z.0 z.1 (e ∙ ap (λ (c : Cell). c.start) z.2)), apart_aged cs a.1)

-- a block that is occupied stays so
still_occupied : (st : List ℕ) (b : ℕ) → get_or st b 0 ≢ 0 → get_or (map unmarked_state st) b 0 ≢ 0
unfolding unmarked_state
still_occupied st b ne e =
    absurd (omega (arith, sym e ∙ get_or-map unmarked_state st b 0 ∙ if_false (eqb (get_or st b 0) 0) 0 255 (ne_eqb _ _ ne)))

-- the book after a call that ends so
unfoldable pub book_for : Call → End → Book → Book
book_for c (says r) bk = if eqb r.number 0 then book_answer c bk else bk
book_for c (takes b align offset fresh) bk = bk

-- of an alloc: a reply that is said refuses; a cell that is taken has room for what was asked. No other call takes one
unfoldable pub Serves : Call → Words → End → Type 0
Serves (bind h) w (says r) = Unit {0}
Serves (bind h) w (takes b align offset fresh) = ⊥
Serves (destroy h) w (says r) = Unit {0}
Serves (destroy h) w (takes b align offset fresh) = ⊥
Serves (alloc h size align offset offer) w (says r) = eqb r.number 0 ≡ false
Serves (alloc h size align offset offer) w (takes b align' offset' fresh) =
    ((align' ≡ align) × (offset' ≡ offset)
    × ((x : ℕ) → x % 8 ≡ 0 → align_allocation x align offset + size ≤ x + get_or w.size b 0))
Serves prepare w (says r) = Unit {0}
Serves prepare w (takes b align offset fresh) = ⊥
Serves (mark place a) w (says r) = Unit {0}
Serves (mark place a) w (takes b align offset fresh) = ⊥
Serves (release h) w (says r) = Unit {0}
Serves (release h) w (takes b align offset fresh) = ⊥
Serves shared_release w (says r) = Unit {0}
Serves shared_release w (takes b align offset fresh) = ⊥

refused_serves : (c : Call) (w : Words) (r : Refusal) → Serves c w (says (refused r))
unfolding Serves
refused_serves (bind h) w r = tt
refused_serves (destroy h) w r = tt
refused_serves (alloc h size align offset offer) w r = refusal_some r
refused_serves prepare w r = tt
refused_serves (mark place b) w r = tt
refused_serves (release h) w r = tt
refused_serves shared_release w r = tt

module _ (p : Params) (B : Bounds p) where
  pub record Inv (t : Tables) (h : List ℕ) (sh : List (List ℕ)) (bk : Book) : Type 0 where
    pub core : Core p t.words.free t.words.size t.words.cells t.states t.marks h sh bk
    pub sized : Sized p.blocks t.words
    -- a cell that is not old: no collection runs, and its block waits for no sweep
    pub young : (c : Cell) → In c bk.cells → c.old ≡ false
        → (t.words.phase ≡ 0) × Settled (get_or t.words.list (block_at p c.start) 0)
    pub idle : Idle t.words

  -- what a call that takes a cell needs: a block with a free one that waits for no sweep
  pub record Taking (t : Tables) (sh : List (List ℕ)) (b : ℕ) : Type 0 where
    pub inside : b < p.blocks
    pub occupied : get_or t.states b 0 ≢ 0
    pub settled : Settled (get_or t.words.list b 0)
    pub running : t.words.phase ≡ 0
    pub cell : ℕ
    pub rest : List ℕ
    pub chain : get_or sh b [] ≡ cell ∷ rest

  unfoldable pub EndOk : Tables → List (List ℕ) → End → Type 0
  EndOk t sh (says r) = Unit {0}
  EndOk t sh (takes b align offset fresh) = Taking t sh b

  pub record Planned (t : Tables) (h : List ℕ) (sh : List (List ℕ)) (bk : Book) (c : Call) (q : Plan) : Type 0 where
    pub events : EventsOk p B (taker_of c) q.events h bk
    pub inv : Inv q.tables (events_heap p q.events h) (shadow_events q.events sh)
        (book_for c q.end (book_events p (taker_of c) q.events bk))
    pub end : EndOk q.tables (shadow_events q.events sh) q.end
    pub serves : Serves c q.tables.words q.end

  module _ (t : Tables) (h : List ℕ) (sh : List (List ℕ)) (bk : Book) (I : Inv t h sh bk) where
    -- ---- refused

    pub refuses_planned : (c : Call) (r : Refusal) → Planned t h sh bk c (refuses t r)
    unfolding EndOk book_for events_heap shadow_events book_events
    refuses_planned c r =
        record {
          events = no_events p B (taker_of c) h bk;
          inv = rw (refusal_some r) I;
          end = tt;
          serves = refused_serves c _ r;
        }

    -- ---- bind

    pub bind_planned : (d : ℕ) → Planned t h sh bk (bind d) (changes (bind_holder d t) [])
    unfolding EndOk Serves book_for book_answer events_heap shadow_events book_events bind_holder set_bound
    bind_planned d =
        record {
          events = no_events p B _ h bk;
          inv = record { core = I.core; sized = sized_same (simp kept_lengths) I.sized; young = I.young; idle = I.idle };
          end = tt;
          serves = tt;
        }

    -- ---- prepare: every cell is old, no place and no mark is left

    pub prepare_planned : Planned t h sh bk prepare (changes (prepared t) [])
    unfolding EndOk Serves book_for book_answer events_heap shadow_events book_events prepared set_phase member In
    prepare_planned =
        record {
          events = no_events p B _ h bk;
          inv =
              record {
                core =
                    record {
                      chains = I.core.chains;
                      states = length-map t.states unmarked_state ∙ I.core.states;
                      markings = length_cleared t.marks ∙ I.core.markings;
                      bytes = bytes_cleared t.marks;
                      words = I.core.words;
                      held = λ c m. held_of c (in_aged bk.cells c m);
                      off = λ c m k. off_of c (in_aged bk.cells c m) k;
                      apart = apart_aged bk.cells I.core.apart;
                      marks = λ a e. marked_cleared p t.marks a;
                      places = λ q m. absurd m;
                    };
                sized = sized_same (simp kept_lengths) I.sized;
                young = λ c m o. absurd (not_young c (in_aged bk.cells c m) o);
                idle = I.idle;
              };
          end = tt;
          serves = tt;
        }
      where
        held_of : (c : Cell) → (d : Cell) × In d bk.cells × (c ≡ aged d) → Held p t.words.size (map unmarked_state t.states) c
        held_of c z =
            let H = I.core.held z.0 z.1 in
            subst (Held p t.words.size (map unmarked_state t.states)) (sym z.2)
            (record { low = H.low; occupied = still_occupied t.states _ H.occupied; whole = H.whole; size = H.size })

        off_of : (c : Cell) → (d : Cell) × In d bk.cells × (c ≡ aged d) → In c.start (get_or sh (block_at p c.start) []) → ⊥
        off_of c z k = I.core.off z.0 z.1 (subst (λ (x : Cell). In x.start (get_or sh (block_at p x.start) [])) z.2 k)

        not_young : (c : Cell) → (d : Cell) × In d bk.cells × (c ≡ aged d) → c.old ≡ false → ⊥
        not_young c z o = not_both true refl (sym (ap (λ (x : Cell). x.old) z.2) ∙ o)

    -- ---- mark

    module _ (place b : ℕ) (good : good_object p t place b ≡ true) where
      abbrev A : Bool
      A = in_heap p place && eqb (place % 8) 0

      abbrev C : Bool
      C = ltb b p.blocks && not (eqb (state_of t b) 0)

      abbrev E : Bool
      E = leb (start p b) (minus_lower p place) && ltb (minus_lower p place) (start p b + p.bytes)

      inside : in_heap p place ≡ true
      unfolding good_object
      inside = and_left (in_heap p place) (eqb (place % 8) 0) (and_left A C (and_left (A && C) E good))

      whole : place % 8 ≡ 0
      unfolding good_object
      whole = eqb-true _ _ (and_right (in_heap p place) (eqb (place % 8) 0) (and_left A C (and_left (A && C) E good)))

      low : b < p.blocks
      unfolding good_object
      low = ltb-true _ _ (and_left (ltb b p.blocks) (not (eqb (state_of t b) 0)) (and_right A C (and_left (A && C) E good)))

      occ : get_or t.states b 0 ≢ 0
      unfolding good_object state_of
      occ = eqb-false _ _ (not-true _ (and_right (ltb b p.blocks) (not (eqb (state_of t b) 0)) (and_right A C (and_left (A && C) E good))))

      block_is : block_at p (minus_lower p place) ≡ b
      unfolding good_object
      block_is =
          let e = and_right (A && C) E good in
          let lo : start p b ≤ minus_lower p place = leb-true _ _ (and_left (leb (start p b) (minus_lower p place)) (ltb (minus_lower p place) (start p b + p.bytes)) e) in
          let hi : minus_lower p place < start p b + p.bytes = ltb-true _ _ (and_right (leb (start p b) (minus_lower p place)) (ltb (minus_lower p place) (start p b + p.bytes)) e) in
          ap (block_at p) (omega arith) ∙ block_at_within p B b (minus_lower p place - start p b) low (omega arith)

      pub mark_planned : Planned t h sh bk (mark place b) (changes (mark_place p place b t) (flag (not (marked p t.marks place)) ∷ []))
      unfolding EndOk Serves book_for book_answer events_heap shadow_events book_events mark_place member In
      mark_planned =
          record {
            events = no_events p B _ h bk;
            inv = ⊎_elim old_mark new_mark (Bool_cases (marked p t.marks place));
            end = tt;
            serves = tt;
          }
        where
          Bk : Book
          Bk = record { cells = bk.cells; places = place ∷ bk.places }

          old_mark : marked p t.marks place ≡ true → Inv (mark_place p place b t) h sh Bk
          old_mark e =
              rw e (record {
                core = record {
                  chains = I.core.chains;
                  states = I.core.states;
                  markings = I.core.markings;
                  bytes = I.core.bytes;
                  words = I.core.words;
                  held = I.core.held;
                  off = I.core.off;
                  apart = I.core.apart;
                  marks = λ a w. marks_old a w (ℕ_discrete a place);
                  places = λ q m. ⊎_elim (λ z. subst (Placed p t.states) (sym z) (I.core.places place known)) (I.core.places q) m;
                };
                sized = I.sized;
                young = I.young;
                idle = I.idle;
              })
            where
              known : In place bk.places
              known = member_in place bk.places (sym (I.core.marks place whole) ∙ e)

              marks_old : (a : ℕ) → a % 8 ≡ 0 → Dec (a ≡ place) → marked p t.marks a ≡ (eqb a place || member a bk.places)
              marks_old a w (yes y) = ap (marked p t.marks) y ∙ e ∙ sym (or_left _ (eq-eqb _ _ y))
              marks_old a w (no n) = rw (ne_eqb a place n) (I.core.marks a w)

          new_mark : marked p t.marks place ≡ false → Inv (mark_place p place b t) h sh Bk
          new_mark e =
              rw e (record {
                core = record {
                  chains = I.core.chains;
                  states = length-set t.states b state_marked ∙ I.core.states;
                  markings = length_set_mark p t.marks place ∙ I.core.markings;
                  bytes = bytes_set_mark p t.marks place I.core.bytes;
                  words = I.core.words;
                  held = λ c m. held_of c (I.core.held c m);
                  off = I.core.off;
                  apart = I.core.apart;
                  marks = λ a w. marked_set_mark p B t.marks place I.core.bytes I.core.markings inside whole a w ∙ ap (λ (x : Bool). eqb a place || x) (I.core.marks a w);
                  places = λ q m. ⊎_elim
                      (λ z. subst (Placed p (set t.states b state_marked)) (sym z)
                      (record { inside = inside; whole = whole; state = ap (λ (x : ℕ). get_or (set t.states b state_marked) x 0) block_is ∙ get_or-set_same t.states b state_marked 0 room }))
                      (λ z. place_of q (I.core.places q z)) m;
                };
                sized = I.sized;
                young = I.young;
                idle = I.idle;
              })
            where
              room : b < length t.states
              room = omega (arith, low, I.core.states)

              held_of : (c : Cell) → Held p t.words.size t.states c → Held p t.words.size (set t.states b state_marked) c
              held_of c H =
                  record {
                    low = H.low;
                    occupied = ⊎_elim (λ z y. absurd (omega (arith, sym z.1 ∙ y))) (λ z. rw z.1 H.occupied) (set_cases t.states b state_marked 0 (block_at p c.start) room);
                    whole = H.whole;
                    size = H.size;
                  }

              place_of : (q : ℕ) → Placed p t.states q → Placed p (set t.states b state_marked) q
              place_of q P =
                  record {
                    inside = P.inside;
                    whole = P.whole;
                    state = ⊎_elim (λ z. z.1) (λ z. z.1 ∙ P.state) (set_cases t.states b state_marked 0 (block_at p (minus_lower p q)) room);
                  }

  -- ---- blocks are released, and with eager sweeping swept: every cell is old by then

  -- the invariant on the way through a release
  pub record Freeing (hd : ℕ) (ms h : List ℕ) (sh : List (List ℕ)) (bk : Book) (f : Freed) : Type 0 where
    pub events : EventsOk p B hd f.events h bk
    pub core : Core p f.words.free f.words.size f.words.cells f.states ms (events_heap p f.events h) (shadow_events f.events sh) (book_events p hd f.events bk)
    pub sized : Sized p.blocks f.words
    -- cells that a sweep frees have room for a link
    pub wide : (b : ℕ) → Occupied p f.states b → 8 ≤ get_or f.words.size b 0
    pub old : (c : Cell) → In c (book_events p hd f.events bk).cells → c.old ≡ true

  -- recycling changes the links and list words of blocks, and the ends of lists
  recycle_links : (owner : ℕ) (w : Words) → LinksOnly w (recycle_blocks p owner w)
  recycle_links owner w =
      recycle_keeps_any p (LinksOnly w) (λ avail full b v L. push_links p avail b (remove p full b v) (remove_links p full b v L)) owner w (links_refl w)

  module _ (hd : ℕ) (ms : List ℕ) where
    -- a release frees out every cell of its block, all of them unmarked and old
    released_ok : (free size cells st h : List ℕ) (sh : List (List ℕ)) (bk : Book) → Core p free size cells st ms h sh bk → (b : ℕ) → get_or st b 0 ≡ 255
        → ((c : Cell) → In c bk.cells → c.old ≡ true) → EventOk p B hd (released b) h bk
    unfolding event_heap frees hits
    released_ok free size cells st h sh bk I b un old =
        record {
          lost = λ c m. (both c m (ℕ_discrete (block_at p c.start) b), λ s. old c m);
          bytes = λ c m out k v. refl;
        }
      where
        both : (c : Cell) → In c bk.cells → Dec (block_at p c.start ≡ b) → eqb (block_at p c.start) b ≡ (eqb (block_at p c.start) b && unmarked p bk c)
        both c m (yes e) = rw (eq-eqb _ _ e, release_unmarked p B free size cells st ms h sh bk I b un hd c m e)
        both c m (no f) = rw (ne_eqb _ _ f)

    -- cells that were old are old after an event that enters none
    old_after : (e : Event) → ((cs : List Cell) → entered hd e cs ≡ cs) → (bk : Book) → ((c : Cell) → In c bk.cells → c.old ≡ true)
        → (c : Cell) → In c (book_event p hd e bk).cells → c.old ≡ true
    unfolding book_event
    old_after e same bk old c m = old c (in_filter (λ (x : Cell). not (frees p e x)) c bk.cells (subst (In c) (same _) m)).0

    nothing_freed : (w : Words) (st h : List ℕ) (sh : List (List ℕ)) (bk : Book) → Core p w.free w.size w.cells st ms h sh bk → Sized p.blocks w
        → ((b : ℕ) → Occupied p st b → 8 ≤ get_or w.size b 0) → ((c : Cell) → In c bk.cells → c.old ≡ true) → Freeing hd ms h sh bk (freed w st)
    unfolding events_heap shadow_events book_events
    nothing_freed w st h sh bk I z wide old = record { events = no_events p B hd h bk; core = I; sized = z; wide = wide; old = old }

    -- ---- rows of releases and appends

    module _ (h : List ℕ) (sh : List (List ℕ)) (bk : Book) where
      one_freed : (l b : ℕ) (f : Freed) → Freeing hd ms h sh bk f → get_or f.states b 0 ≡ 255 → Freeing hd ms h sh bk (released_one p l b f)
      unfolding is_taken entered event_heap shadow_event clear_block set_cells set_tls set_list set_size set_free set_prev set_next
      one_freed l b f F un =
          let L : LinksOnly f.words (remove p l b f.words) = remove_links p l b f.words (links_refl f.words) in
          record {
            events = events_behind p B hd f.events (released b) h bk F.events refl (released_ok f.words.free f.words.size f.words.cells f.states _ _ _ F.core b un F.old);
            core = behind p B hd (Core p R.free R.size R.cells (set f.states b 0) ms) f.events (released b) h sh bk
                (rw (L.free, L.size, L.cells) (release_core p B f.words.free f.words.size f.words.cells f.states ms _ _ _ F.core b un hd));
            sized = sized_same (simp kept_lengths L.lengths) F.sized;
            wide = λ d od. rw L.size (wide_of d od);
            old = behind p B hd (λ g c k. (d : Cell) → In d k.cells → d.old ≡ true) f.events (released b) h sh bk (old_after (released b) (λ cs. refl) _ F.old);
          }
        where
          R : Words
          R = clear_block b (remove p l b f.words)

          -- a block that is occupied still is another
          wide_of : (d : ℕ) → Occupied p (set f.states b 0) d → 8 ≤ get_or (set f.words.size b 0) d 0
          wide_of d od = ⊎_elim
              (λ e. absurd (od.1 e.1))
              (λ e. rw (get_or-set_other f.words.size b d 0 0 e.0) (F.wide d (od.0, λ z. od.1 (e.1 ∙ z))))
              (set_cases f.states b 0 0 d (omega (arith, od.0, F.core.states, in_range p B f.words.free f.words.size f.words.cells f.states ms _ _ _ F.core b un hd)))

      pub release_freeing : (l : ℕ) (f : Freed) → Freeing hd ms h sh bk f → Freeing hd ms h sh bk (release_blocks p l f)
      release_freeing l = blocks_keep_any p l (Freeing hd ms h sh bk) (λ b f F un. one_freed l b f F un)

      -- only links and list words change
      links_freeing : (f : Freed) (w : Words) → LinksOnly f.words w → Freeing hd ms h sh bk f → Freeing hd ms h sh bk (record { words = w; states = f.states; events = f.events })
      links_freeing f w L F =
          record {
            events = F.events;
            core = rw (L.free, L.size, L.cells) F.core;
            sized = sized_same L.lengths F.sized;
            wide = λ b ob. rw L.size (F.wide b ob);
            old = F.old;
          }

      pub append_freeing : (l o : ℕ) (f : Freed) → Freeing hd ms h sh bk f → Freeing hd ms h sh bk (append_to p l o f)
      unfolding append_to
      append_freeing l o f F = links_freeing f _ (append_links p l o f.words (links_refl f.words)) F

      -- the holder's lists, and the abandoned ones
      holder_freeing : (owner : ℕ) (f : Freed) → Freeing hd ms h sh bk f → Freeing hd ms h sh bk (each_below bins (release_bin p owner) f)
      holder_freeing = bins_keep_any p (Freeing hd ms h sh bk) release_freeing append_freeing

      shared_freeing : (f : Freed) → Freeing hd ms h sh bk f → Freeing hd ms h sh bk (each_below bins (sweep_later_bin p) f)
      shared_freeing = later_keeps_any p (Freeing hd ms h sh bk) release_freeing append_freeing

      -- ---- the end of a collection with eager sweeping

      one_swept : (b : ℕ) → b < p.blocks → (f : Freed) → Freeing hd ms h sh bk f → get_or f.states b 0 ≢ 0 → Freeing hd ms h sh bk (swept_one p ms b f)
      unfolding is_taken entered event_heap shadow_event swept_words set_free set_cells
      one_swept b low f F occ =
          let word : 8 ≤ get_or f.words.size b 0 = F.wide b (low, occ) in
          let e : Event = sweep_of p ms b f.words in
          record {
            events = events_behind p B hd f.events e h bk F.events refl (swept_ok p B f.states ms hd f.words _ _ _ F.core b (low, occ) word (λ c m q. F.old c m));
            core = behind p B hd (Core p R.free R.size R.cells f.states ms) f.events e h sh bk
                (sweep_core p B f.words.free f.words.size f.words.cells f.states ms _ _ _ F.core b low _ occ word refl hd);
            sized = sized_same (simp kept_lengths) F.sized;
            wide = F.wide;
            old = behind p B hd (λ g c k. (d : Cell) → In d k.cells → d.old ≡ true) f.events e h sh bk (old_after e (λ cs. refl) _ F.old);
          }
        where
          R : Words
          R = swept_words p ms b f.words

      eager_freeing : (part : ℕ) (f : Freed) → Freeing hd ms h sh bk f → Freeing hd ms h sh bk (eagerly p ms part f)
      eager_freeing part =
          eagerly_keeps p ms part (Freeing hd ms h sh bk) (λ f F on. all_keeps p ms (Freeing hd ms h sh bk) one_swept f F)
          (λ f owner F on o. links_freeing f _ (recycle_links owner f.words) F)

  -- ---- destroy: available and consumed blocks go over; there are no unswept ones

  -- list words that name no unswept list still do not
  unfoldable pub Steady : Words → Words → Type 0
  Steady w w' = (b : ℕ) → Settled (get_or w.list b 0) → Settled (get_or w'.list b 0)

  pub set_steady : (l : List ℕ) (i v z : ℕ) → Settled v → Settled (get_or l z 0) → Settled (get_or (set l i v) z 0)
  set_steady l i v z sv sl = go (ℕ_discrete z i) (dec_lt i (length l))
    where
      go : Dec (z ≡ i) → Dec (i < length l) → Settled (get_or (set l i v) z 0)
      go (no f) d = rw (get_or-set_other l i z v 0 f) sl
      go (yes e) (yes low) = subst (λ (x : ℕ). Settled (get_or (set l i v) x 0)) (sym e) (rw (get_or-set_same l i v 0 low) sv)
      go (yes e) (no f) =
          subst Settled
          (get_or-eq_default l 0 {n = z} (omega (arith, e)) ∙ sym (get_or-eq_default (set l i v) 0 {n = z} (omega (arith, length-set l i v, e)))) sl

  relabel_steady : (k l a : ℕ) (w : Words) → Settled (list_word l) → Steady w (relabel k p l a w)
  unfolding Steady set_list
  relabel_steady k l a w sl = λ b s.
      relabel_keeps p (λ (x : Words). Settled (get_or x.list b 0)) l (λ i u. set_steady u.list i (list_word l) b sl) k a w s

  append_steady : (l o : ℕ) (w : Words) → Settled (list_word l) → Steady w (append p l o w)
  unfolding Steady append set_first set_last
  append_steady l o w sl = λ b s. if_cases (λ (x : Words). Settled (get_or x.list b 0)) (eqb (get_or w.first o 0) 0) (λ e. s)
      (λ e. relabel_steady p.blocks l (get_or w.first o 0) (link p l o w) sl b (subst (λ (x : List ℕ). Settled (get_or x b 0)) (sym (link_list p l o w)) s))

  pub record Leaving (w w' : Words) : Type 0 where
    pub links : LinksOnly w w'
    pub steady : Steady w w'
    pub idle : Idle w'

  -- one list of an owner, none of them unswept, goes behind another
  pub append_leaving : (w w' : Words) (l o : ℕ) → Settled (list_word l) → Settled (list_word o) → Leaving w w' → Leaving w (append p l o w')
  unfolding Steady FirstsBut
  append_leaving w w' l o sl so L =
      record {
        links = append_links p l o w' L.links;
        steady = λ b s. append_steady l o w' sl b (L.steady b s);
        idle = λ j n lj ln.
            append_first p l o w' (unswept (3 * j) n)
            (λ e. unswept_unsettled j n (omega arith) ln (subst (λ (x : ℕ). Settled (list_word x)) (sym e) sl))
            (λ e. unswept_unsettled j n (omega arith) ln (subst (λ (x : ℕ). Settled (list_word x)) (sym e) so))
            ∙ L.idle j n lj ln;
      }

  bin_leaving : (w : Words) (j : ℕ) → j < 8 → (bin : ℕ) → bin < 49 → (w' : Words) → Leaving w w' → Leaving w (abandon_bin p abandoned (3 * j) bin w')
  unfolding abandon_bin
  bin_leaving w j lj bin lb w' L =
      let M = append_leaving w w' (available abandoned bin) (available (3 * j) bin) (available_settled 8 bin (omega arith) lb) (available_settled j bin (omega arith) lb) L in
      let N = append_leaving w _ (consumed abandoned bin) (consumed (3 * j) bin) (consumed_settled 8 bin (omega arith) lb) (consumed_settled j bin (omega arith) lb) M in
      subst (Leaving w) (sym (append_none p (unswept abandoned bin) (unswept (3 * j) bin) _ (N.idle j bin lj lb))) N

  module _ (t : Tables) (h : List ℕ) (sh : List (List ℕ)) (bk : Book) (I : Inv t h sh bk) where
    pub destroy_planned : (d : ℕ) → 1 ≤ d → d ≤ 8 → (vs : List ℕ) → Planned t h sh bk (destroy d) (changes (destroy_holder p d t) vs)
    unfolding EndOk Serves book_for book_answer events_heap shadow_events book_events destroy_holder set_bound abandon_blocks local_sets Steady
    destroy_planned d lo hi vs =
        let L : Leaving t.words (each_below bins (abandon_bin p abandoned (3 * (d - 1))) t.words) =
        each_keeps (Leaving t.words) bins (abandon_bin p abandoned (3 * (d - 1)))
        (λ bin lb x X. bin_leaving t.words (d - 1) (omega arith) bin lb x X) t.words
        (record { links = links_refl t.words; steady = λ b s. s; idle = I.idle }) in
        record {
          events = no_events p B _ h bk;
          inv = record {
            core = rw (L.links.free, L.links.size, L.links.cells) I.core;
            sized = sized_same (simp kept_lengths L.links.lengths) I.sized;
            young = λ c m o. let y = I.young c m o in (L.links.phase ∙ y.0, L.steady _ y.1);
            idle = L.idle;
          };
          end = tt;
          serves = tt;
        }

  -- ---- release and shared release

  -- a holder's unswept lists are none of those that the end of a collection changes
  eager_idle : (ms : List ℕ) (part : ℕ) (f : Freed) → Idle f.words → Idle (eagerly p ms part f).words
  eager_idle ms part f idle = λ j n lj ln.
      let o : unswept (3 * j) n / 147 ≡ j = (unswept_numbered j n (omega arith) ln).owner in
      (eagerly_framed p ms part f).first (unswept (3 * j) n) (omega arith) (omega arith) ∙ idle j n lj ln

  -- ---- a part has released

  pub record Ended (w w' : Words) : Type 0 where
    pub free : w'.free ≡ w.free
    pub size : w'.size ≡ w.size
    pub cells : w'.cells ≡ w.cells
    pub sized : Sized p.blocks w'
    pub idle : Idle w'

  part_ended : (part : ℕ) (w : Words) → Sized p.blocks w → Idle w → Ended w (part_released p part w)
  unfolding part_released set_phase set_released with_released
  part_ended part w z idle = if_cases (Ended w) (all_released w₁) (λ e. last) (λ e. more)
    where
      w₁ : Words
      w₁ = set_released part 1 (set_phase 2 w)

      more : Ended w w₁
      more = record { free = refl; size = refl; cells = refl; sized = sized_same (simp kept_lengths) z; idle = idle }

      last : Ended w (set_phase 0 (with_released (replicate 9 0) (abandon_blocks p abandoned in_gc w₁)))
      last =
          let L : LinksOnly w₁ (abandon_blocks p abandoned in_gc w₁) = abandon_links p abandoned in_gc w₁ in
          let Z : Sized p.blocks (abandon_blocks p abandoned in_gc w₁) = sized_same L.lengths more.sized in
          record {
            free = L.free;
            size = L.size;
            cells = L.cells;
            sized = record { first = Z.first; last = Z.last; bound = Z.bound; released = refl; next = Z.next; prev = Z.prev; free = Z.free; size = Z.size; list = Z.list; tls = Z.tls; cells = Z.cells };
            idle = λ j n lj ln.
                let o : unswept (3 * j) n / 147 ≡ j = (unswept_numbered j n (omega arith) ln).owner in
                (abandon_framed p 9 8 (omega arith) (omega arith) w₁).first (unswept (3 * j) n) (omega arith) (omega arith) ∙ idle j n lj ln;
          }

  module _ (t : Tables) (h : List ℕ) (sh : List (List ℕ)) (bk : Book) (I : Inv t h sh bk)
      (good : sound p t ≡ true) (late : may_release t.words ≡ true) where
    -- a collection runs, so every cell is old
    all_old : (c : Cell) → In c bk.cells → c.old ≡ true
    unfolding may_release
    all_old c m = go c.old refl
      where
        go : (b : Bool) → c.old ≡ b → c.old ≡ true
        go true e = e
        go false e =
            let z = (I.young c m e).0 in
            absurd (⊎_elim (λ y. omega (arith, eqb-true t.words.phase 1 y, z)) (λ y. omega (arith, eqb-true t.words.phase 2 y, z)) (or_cases (eqb t.words.phase 1) (eqb t.words.phase 2) late))

    -- nothing is released yet
    starting : (hd : ℕ) → Freeing hd t.marks h sh bk (freed t.words t.states)
    starting hd = nothing_freed hd t.marks t.words t.states h sh bk I.core I.sized (λ b ob. (class_of p t good b ob).0) all_old

    -- blocks were released, and with eager sweeping in the last part all swept, and a part is done
    part_planned : (c : Call) (part : ℕ) (f : Freed) → ((k : Book) → book_answer c k ≡ k)
        → Freeing (taker_of c) t.marks h sh bk f → Idle f.words → ((w : Words) (r : Reply) → Serves c w (says r)) → Planned t h sh bk c (release_plan p part t f)
    unfolding EndOk release_plan book_for
    part_planned c part f same F₀ idle serves =
        let g : Freed = eagerly p t.marks part f in
        let F : Freeing (taker_of c) t.marks h sh bk g = eager_freeing (taker_of c) t.marks h sh bk part f F₀ in
        let E : Ended g.words (part_released p part g.words) = part_ended part g.words F.sized (eager_idle t.marks part f idle) in
        record {
          events = F.events;
          inv = rw (same (book_events p (taker_of c) g.events bk)) (record {
            core = rw (E.free, E.size, E.cells) F.core;
            sized = E.sized;
            young = λ d m o. absurd (not_both true refl (sym (F.old d m) ∙ o));
            idle = E.idle;
          });
          end = tt;
          serves = serves _ _;
        }

    pub release_planned : (d : ℕ) → 1 ≤ d → d ≤ 8 → Planned t h sh bk (release d) (release_plan p d t (release_holder p d t.words t.states))
    unfolding EndOk Serves book_answer release_holder local_sets
    release_planned d lo hi =
        part_planned (release d) d (release_holder p d t.words t.states) (λ k. refl)
        (links_freeing (taker_of (release d)) t.marks h sh bk f _ (abandon_links p in_gc (local_sets d) f.words) F)
        (λ j n lj ln. idle_of j n lj ln (ℕ_discrete j (d - 1)))
        (λ w e. tt)
      where
        f : Freed
        f = each_below bins (release_bin p (local_sets d)) (freed t.words t.states)

        F : Freeing (taker_of (release d)) t.marks h sh bk f
        F = holder_freeing (taker_of (release d)) t.marks h sh bk (local_sets d) _ (starting (taker_of (release d)))

        -- the holder's own lists are empty now, those of others stay
        idle_of : (j n : ℕ) → j < 8 → n < 49 → Dec (j ≡ d - 1) → get_or (abandon_blocks p in_gc (3 * (d - 1)) f.words).first (unswept (3 * j) n) 0 ≡ 0
        idle_of j n lj ln (yes e) =
            holder_empties p t.words t.states d lo hi I.sized (unswept (3 * j) n) ((unswept_numbered j n (omega arith) ln).owner ∙ e)
        idle_of j n lj ln (no f') =
            let o : unswept (3 * j) n / 147 ≡ j = (unswept_numbered j n (omega arith) ln).owner in
            (holder_framed p t.words t.states d lo hi).first (unswept (3 * j) n) (λ e. f' (sym o ∙ e)) (omega arith) ∙ I.idle j n lj ln

    pub shared_planned : Planned t h sh bk shared_release (release_plan p 0 t (sweep_later p t.words t.states))
    unfolding EndOk Serves book_answer sweep_later
    shared_planned =
        part_planned shared_release 0 (sweep_later p t.words t.states) (λ k. refl)
        (shared_freeing (taker_of shared_release) t.marks h sh bk _ (starting (taker_of shared_release)))
        (λ j n lj ln.
        let o : unswept (3 * j) n / 147 ≡ j = (unswept_numbered j n (omega arith) ln).owner in
        (shared_framed p t.words t.states).first (unswept (3 * j) n) (omega arith) (omega arith) ∙ I.idle j n lj ln)
        (λ w e. tt)
