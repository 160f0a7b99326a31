-- Alloc's plan keeps the invariant of a run, and takes the first free cell of a block that waits for no sweep.
use Rattle.std.specs.Prelude.{Option, None, Some}
use mathlib.Core.Path.{◌≡◌, refl, sym, ap, ◌∙◌, subst}
use mathlib.Core.Logic.{◌≢◌, ◌⊎◌, inl, inr, ⊎_elim}
use mathlib.Core.Bool.{true, false}
use mathlib.Core.List.{List, [], ◌∷◌}
use Prim.Native.Nat.{ℕ, zero, suc, ◌+◌, ◌-◌, ◌*◌, ◌/◌, ◌%◌, ◌≤◌, ◌<◌}
use native.Mathlib.Omega.{arith}
use native.Mathlib.Nat.{le-div_iff_mul-le}
use lib.Dec.{eqb, ltb}
use lib.ListN.{length, get_or, set}
use lib.Seq.{get_or-set_same, get_or-set_other}
use borrow.Author.Tests.{eqb-true, eq-eqb, ne_eqb, ltb-true}
use Rattle.model.specs.declared.Params.{Params}
use Rattle.model.specs.declared.Block.{Block}
use Rattle.model.specs.declared.Refusal.TheVariants.{Exhausted}
use Rattle.model.specs.Params.{start, block_at, list_word, local_sets, available, unswept}
use Rattle.model.specs.Tables.{Words, Tables, tables_of, with_words, set_free, set_size, set_tls, set_cells}
use Rattle.model.specs.SizeClasses.{cell_bytes, align_allocation}
use Rattle.model.specs.BlockList.{push, blocks_on}
use Rattle.model.specs.Block.{state_unmarked, link_all, init_chain, init_block, cells_down, cell_count, ChainStands}
use Rattle.model.specs.Events.{Event, initialised, event_heap, events_heap}
use Rattle.model.specs.FreeListAllocator.{Found, Search, in_found, acquire_fresh, find_block}
use Rattle.model.specs.Calls.{alloc, good_offer, take_plan}
use Rattle.model.specs.Sound.{state_of, sound}
use Rattle.model.specs.Runs.{Book, book_event, book_events, book_answer, taker_of, entered, frees, hits}
use Rattle.laws.proofs.Base.{and_left, and_right, not_both}
use Rattle.laws.proofs.Params.{Bounds, some_start, block_at_start}
use Rattle.laws.proofs.Classes.{cell_bytes_words}
use Rattle.laws.proofs.Tables.{sized_same, kept_lengths}
use Rattle.laws.proofs.Frame.{LinksOnly, links_refl, push_links, push_list, push_first}
use Rattle.laws.proofs.Walks.{find_keeps}
use Rattle.soundness.proofs.SoundLists.{sound_lists}
use Rattle.runs.proofs.Inv.{was_held, init_core, init_bytes}
use Rattle.soundness.proofs.Chains.{shadow_event, shadow_events}
use Rattle.runs.proofs.Steps.{is_taken, EventOk, EventsOk, no_events, events_behind, behind, same_bytes}
use Rattle.runs.proofs.Search.{Settled, class_of, available_settled, unswept_unsettled, Searching, Ready, Going, Gone, steps}
use Rattle.runs.proofs.Plans.{refusal_some, book_for, Inv, EndOk, Planned, Serves, set_steady}

module _ (p : Params) (B : Bounds p) (t : Tables) (h : List ℕ) (sh : List (List ℕ)) (bk : Book) (I : Inv p B t h sh bk)
    (good : sound p t ≡ true) (running : t.words.phase ≡ 0) (hd : ℕ) (lo : 1 ≤ hd) (hi : hd ≤ 8)
    (bin : ℕ) (some : 1 ≤ bin) (low : bin < 49) (word : 8 ≤ cell_bytes p bin) (room : cell_bytes p bin ≤ p.bytes) where
  own : local_sets hd ≡ 3 * (hd - 1)
  unfolding local_sets
  own = refl

  -- the search starts from sound tables
  pub starting : Searching p B t.states t.marks hd t.words h sh bk
  starting =
      record {
        linked = record { lists = λ l. blocks_on p l t.words; linked = sound_lists p B t good };
        lengths = I.sized;
        core = I.core;
        young = λ c m o. (I.young c m o).1;
        wide = λ b ob. (class_of p t good b ob).0;
        class = λ b ob. (class_of p t good b ob).1;
        idle = I.idle;
        phase = running;
      }

  -- ---- what the search ends with

  -- a block with a first free cell, on the tables and the shadow after
  pub record Cellful (t' : Tables) (sh' : List (List ℕ)) (a : ℕ) : Type 0 where
    pub block : ℕ
    pub inside : block < p.blocks
    pub at : a ≡ start p block
    pub occupied : get_or t'.states block 0 ≢ 0
    pub settled : Settled (get_or t'.words.list block 0)
    pub size : get_or t'.words.size block 0 ≡ cell_bytes p bin
    pub cell : ℕ
    pub rest : List ℕ
    pub chain : get_or sh' block [] ≡ cell ∷ rest

  pub record SearchEnds (s : Search) : Type 0 where
    pub events : EventsOk p B hd s.events h bk
    pub inv : Inv p B s.tables (events_heap p s.events h) (shadow_events s.events sh) (book_events p hd s.events bk)
    pub phase : s.tables.words.phase ≡ 0
    pub result : (s.at ≡ 0) ⊎ Cellful s.tables (shadow_events s.events sh) s.at

  -- a chain from an address that is not 0 has a first cell
  first_cell_lem : (h : List ℕ) (a : ℕ) (l : List ℕ) → ChainStands p h a l → a ≢ 0 → (x : ℕ) × (r : List ℕ) × (l ≡ x ∷ r)
  unfolding ChainStands
  first_cell_lem h a [] c ne = absurd (ne c)
  first_cell_lem h a (x ∷ r) c ne = (x, r, refl)

  found_inv : (w : Words) (h' : List ℕ) (sh' : List (List ℕ)) (bk' : Book) → Searching p B t.states t.marks hd w h' sh' bk' → Inv p B (with_words w t) h' sh' bk'
  found_inv w h' sh' bk' S = record { core = S.core; sized = S.lengths; young = λ c m o. (S.phase, S.young c m o); idle = S.idle }

  abbrev On : List Event → Words → Type 0
  On = Going p B t.states t.marks hd h sh bk

  found_searched : (f : Found) → On f.events f.words → (f.at ≡ 0) ⊎ Ready p B t.states t.marks hd bin f.words f.at → SearchEnds (in_found f t)
  found_searched f A result =
      record {
        events = A.events;
        inv = found_inv f.words _ _ _ A.searching;
        phase = A.searching.phase;
        result = ⊎_elim inl (λ r. inr (ready r)) result;
      }
    where
      ready : Ready p B t.states t.marks hd bin f.words f.at → Cellful (with_words f.words t) (shadow_events f.events sh) f.at
      ready r =
          let k = first_cell_lem _ _ _ (A.searching.core.chains.blocks r.block r.occupied.0).stands r.free in
          record {
            block = r.block;
            inside = r.occupied.0;
            at = r.at;
            occupied = r.occupied.1;
            settled = r.settled;
            size = r.size;
            cell = k.0;
            rest = k.1;
            chain = k.2;
          }

  -- ---- the offer

  -- a class that fits has a cell
  init_some : (b : ℕ) → (x : ℕ) × (r : List ℕ) × (init_chain p b (cell_bytes p bin) ≡ x ∷ r)
  unfolding init_chain cell_count cells_down
  init_some b = go (p.bytes / cell_bytes p bin) ((le-div_iff_mul-le {k = cell_bytes p bin} {x = 1} {y = p.bytes} (omega (arith, word))).1 (omega arith))
    where
      go : (n : ℕ) → 1 ≤ n → (x : ℕ) × (r : List ℕ) × (cells_down (λ a. false) (start p b) (cell_bytes p bin) n ≡ x ∷ r)
      go zero le = absurd (omega arith)
      go (suc n) le = (start p b + n * cell_bytes p bin, cells_down (λ a. false) (start p b) (cell_bytes p bin) n, refl)

  module _ (b : ℕ) (lb : b < p.blocks) (none : get_or t.states b 0 ≡ 0) (f : Found) (A : On f.events f.words) where
    S : Searching p B t.states t.marks hd f.words (events_heap p f.events h) (shadow_events f.events sh) (book_events p hd f.events bk)
    S = A.searching

    abbrev cell : ℕ
    cell = cell_bytes p bin

    abbrev chain : List ℕ
    chain = init_chain p b (cell_bytes p bin)

    abbrev list : ℕ
    list = available (local_sets hd) bin

    abbrev heap : List ℕ
    heap = events_heap p f.events h

    abbrev shadow : List (List ℕ)
    shadow = shadow_events f.events sh

    abbrev book : Book
    book = book_events p hd f.events bk

    abbrev tables : Tables
    tables = tables_of (init_block p b (cell_bytes p bin) hd (push p (available (local_sets hd) bin) b f.words)) (set t.states b state_unmarked) t.marks

    links : LinksOnly f.words (push p list b f.words)
    links = push_links p list b f.words (links_refl f.words)

    settled : Settled (list_word list)
    settled = rw own (available_settled (hd - 1) bin (omega arith) low)

    init_ok : EventOk p B hd (initialised b chain) heap book
    unfolding event_heap frees hits
    init_ok =
        record {
          lost = λ c m. (refl, λ s. absurd (not_both true refl (sym s)));
          bytes = λ c m out. same_bytes p B hd f.words.size t.states heap (link_all p chain heap) c (S.core.held c m)
              (init_bytes p B f.words.free f.words.size f.words.cells t.states t.marks heap shadow book S.core b lb chain none cell
              word (cell_bytes_words p bin) refl hd c m);
        }

    init_inv : Inv p B tables (link_all p chain heap) (set shadow b chain) (book_event p hd (initialised b chain) book)
    unfolding init_block set_cells set_tls set_size set_free entered
    init_inv =
        record {
          core = rw (links.free, links.size, links.cells)
              (init_core p B f.words.free f.words.size f.words.cells t.states t.marks heap shadow book S.core b lb chain none cell
              word (cell_bytes_words p bin) refl hd);
          sized = sized_same (simp kept_lengths links.lengths) S.lengths;
          young = λ c m o. (
            links.phase ∙ S.phase,
            subst (λ (x : List ℕ). Settled (get_or x (block_at p c.start) 0)) (sym (push_list p list b f.words))
                (set_steady p B f.words.list b (list_word list) (block_at p c.start) settled
                (S.young c (was_held p B f.words.free f.words.size f.words.cells t.states t.marks heap shadow book S.core b lb chain hd (initialised b chain) (λ cs. refl) c m).0 o)),
          );
          idle = λ j n lj ln.
              ap (λ (x : List ℕ). get_or x (unswept (3 * j) n) 0) (push_first p list b f.words)
              ∙ get_or-set_other f.words.first list (unswept (3 * j) n) (start p b) 0
              (λ q. unswept_unsettled j n (omega arith) ln (subst (λ (x : ℕ). Settled (list_word x)) (sym q) settled))
              ∙ S.idle j n lj ln;
        }

    fresh_cellful : Cellful tables (set shadow b chain) (start p b)
    unfolding init_block set_cells set_tls set_size set_free
    fresh_cellful =
        let k = init_some b in
        record {
          block = b;
          inside = lb;
          at = refl;
          occupied = λ z. absurd (omega (arith, sym (get_or-set_same t.states b state_unmarked 0 (omega (arith, lb, I.core.states))) ∙ z));
          settled = subst Settled
              (sym (ap (λ (x : List ℕ). get_or x b 0) (push_list p list b f.words) ∙ get_or-set_same f.words.list b (list_word list) 0 (omega (arith, lb, S.lengths.list)))) settled;
          size = get_or-set_same (push p list b f.words).size b cell 0 (omega (arith, lb, ap length links.size, S.lengths.size));
          cell = k.0;
          rest = k.1;
          chain = get_or-set_same shadow b chain [] (omega (arith, lb, S.core.chains.shadow)) ∙ k.2;
        }

    fresh_searched : SearchEnds (acquire_fresh p hd bin (Some (record { 0 = b })) f t)
    unfolding acquire_fresh event_heap shadow_event init_block set_cells set_tls set_size set_free is_taken
    fresh_searched =
        record {
          events = events_behind p B hd f.events (initialised b chain) h bk A.events refl init_ok;
          inv = behind p B hd (Inv p B tables) f.events (initialised b chain) h sh bk init_inv;
          phase = links.phase ∙ S.phase;
          result = inr (behind p B hd (λ x y z. Cellful tables y (start p b)) f.events (initialised b chain) h sh bk fresh_cellful);
        }

  offered : (offer : Option Block) → good_offer p t offer ≡ true → (f : Found) → f.at ≡ 0 → On f.events f.words → SearchEnds (acquire_fresh p hd bin offer f t)
  unfolding acquire_fresh good_offer state_of
  offered None fine f e A = found_searched f A (inl e)
  offered (Some b) fine f e A =
      fresh_searched b.0
      (ltb-true _ _ (and_left (ltb b.0 p.blocks) (eqb (get_or t.states b.0 0) 0) fine))
      (eqb-true _ _ (and_right (ltb b.0 p.blocks) (eqb (get_or t.states b.0 0) 0) fine)) f A

  -- ---- the whole search

  pub find_searched : (offer : Option Block) → good_offer p t offer ≡ true → SearchEnds (find_block p hd bin offer t)
  unfolding events_heap shadow_events book_events
  find_searched offer fine =
      find_keeps p hd bin t On (Gone p B t.states t.marks hd h sh bk bin)
      (steps p B t.states t.marks hd h sh bk bin (hd - 1) low (omega arith) own) SearchEnds offer
      (λ f e A. offered offer fine f e A) (λ f e A. found_searched f A.going (inr A.ready)) (record { events = no_events p B hd h bk; searching = starting })

  -- ---- the plan

  pub alloc_planned : (size align offset : ℕ) (offer : Option Block) → good_offer p t offer ≡ true
      → ((x : ℕ) → x % 8 ≡ 0 → align_allocation x align offset + size ≤ x + cell_bytes p bin)
      → Planned p B t h sh bk (alloc hd size align offset offer) (take_plan p align offset (find_block p hd bin offer t))
  unfolding take_plan taker_of book_for book_answer Serves EndOk
  alloc_planned size align offset offer fine fits = go S.result
    where
      s : Search
      s = find_block p hd bin offer t

      S : SearchEnds s
      S = find_searched offer fine

      go : (s.at ≡ 0) ⊎ Cellful s.tables (shadow_events s.events sh) s.at → Planned p B t h sh bk (alloc hd size align offset offer) (take_plan p align offset s)
      go (inl e) =
          rw (eq-eqb _ _ e) (record {
            events = S.events;
            inv = rw (refusal_some Exhausted) S.inv;
            end = tt;
            serves = refusal_some Exhausted;
          })
      go (inr k) =
          rw (k.at, ne_eqb (start p k.block) 0 (some_start p B k.block k.inside), block_at_start p B k.block k.inside) (record {
            events = S.events;
            inv = S.inv;
            end = record { inside = k.inside; occupied = k.occupied; settled = k.settled; running = S.phase; cell = k.cell; rest = k.rest; chain = k.chain };
            serves = (refl, refl, λ x e. rw k.size (fits x e));
          })
