-- The search of an alloc keeps the invariant, and what it finds is a block with a free cell that waits for no sweep.
use mathlib.Core.Path.{◌≡◌, refl, sym, ap, ◌∙◌, subst}
use mathlib.Core.Logic.{◌≢◌, ⊎_elim}
use mathlib.Core.Bool.{Bool, true, false, ◌&&◌}
use mathlib.Core.List.{List, [], ◌∷◌, ◌++◌}
use Prim.Native.Nat.{ℕ, ◌-◌, ◌*◌, ◌/◌, ◌%◌, ◌≤◌, ◌<◌}
use native.Mathlib.Omega.{arith}
use native.Mathlib.Decide.{ℕ_discrete}
use lib.Dec.{eqb, ltb, leb}
use lib.ListN.{get_or}
use lib.Seq.{get_or-set_other}
use borrow.Author.Tests.{eqb-true, ltb-true}
use Rattle.model.specs.declared.Params.{Params}
use Rattle.model.specs.Base.{In}
use Rattle.model.specs.Params.{start, block_at, list_word, list_of, available, unswept, consumed, local_sets}
use Rattle.model.specs.Tables.{Words, Tables, set_free, set_tls, set_cells}
use Rattle.model.specs.SizeClasses.{cell_bytes}
use Rattle.model.specs.BlockList.{Popped, push, pop}
use Rattle.model.specs.Block.{link_all, sweep_chain, swept_words}
use Rattle.model.specs.Events.{Event, spent, event_heap, events_heap}
use Rattle.model.specs.FreeListAllocator.{sweep_of}
use Rattle.model.specs.Sound.{state_of, sound, size_ok, bin_named, list_named}
use Rattle.model.specs.Runs.{Cell, Book, book_event, book_events, frees, entered, hits, unmarked}
use Rattle.laws.proofs.Base.{and_left}
use Rattle.laws.proofs.Below.{and_three}
use Rattle.laws.proofs.Classes.{cell_bytes_some}
use Rattle.laws.proofs.Tables.{Sized, sized_same, kept_lengths}
use Rattle.laws.proofs.Params.{Bounds, some_start, block_at_start}
use Rattle.laws.proofs.Frame.{LinksOnly, links_refl, push_links, pop_links, FirstsBut, pop_firsts, push_first}
use Rattle.laws.proofs.Walks.{Files, Steps}
use Rattle.soundness.proofs.Owners.{available_numbered, unswept_numbered, consumed_numbered}
use Rattle.soundness.proofs.SoundLists.{sound_parts, block_parts}
use Rattle.runs.proofs.Links.{Occupied, Linked, Loose, linked_same, loose_same, Pop, pop_cases, Pushed, push_pushed}
use Rattle.runs.proofs.Inv.{Core, was_held, sweep_core, sweep_bytes, sweep_frees}
use Rattle.soundness.proofs.Chains.{shadow_event, shadow_events}
use Rattle.runs.proofs.Steps.{is_taken, EventOk, EventsOk, spent_book, spent_ok, events_behind, behind, same_bytes}

-- ---- list words

-- a list word that names no unswept list
unfoldable pub Settled : ℕ → Type 0
Settled word = (word - 1) / 49 % 3 ≢ 1

-- the bin of a list word
unfoldable pub word_bin : ℕ → ℕ
word_bin word = (word - 1) % 49

-- the lists of the owner whose first set is 3j
module _ (j bin : ℕ) (few : j ≤ 9) (low : bin < 49) where
  pub available_settled : Settled (list_word (available (3 * j) bin))
  unfolding Settled available list_of list_word
  available_settled e = omega (arith, e)

  pub consumed_settled : Settled (list_word (consumed (3 * j) bin))
  unfolding Settled consumed list_of list_word
  consumed_settled e = omega (arith, e)

  pub available_bin : word_bin (list_word (available (3 * j) bin)) ≡ bin
  unfolding word_bin available list_of list_word
  available_bin = omega arith

  pub unswept_bin : word_bin (list_word (unswept (3 * j) bin)) ≡ bin
  unfolding word_bin unswept list_of list_word
  unswept_bin = omega arith

  pub consumed_bin : word_bin (list_word (consumed (3 * j) bin)) ≡ bin
  unfolding word_bin consumed list_of list_word
  consumed_bin = omega arith

  pub unswept_unsettled : Settled (list_word (unswept (3 * j) bin)) → ⊥
  unfolding Settled unswept list_of list_word
  unswept_unsettled s = s (omega arith)

-- no holder has an unswept list: releases hand them over at once
abbrev pub Idle : Words → Type 0
Idle w = (j bin : ℕ) → j < 8 → bin < 49 → get_or w.first (unswept (3 * j) bin) 0 ≡ 0

-- in sound tables an occupied block has the cell size of the bin of its list, and room for a link in each cell
pub class_of : (p : Params) (t : Tables) → sound p t ≡ true → (b : ℕ) → Occupied p t.states b
    → (8 ≤ get_or t.words.size b 0) × (get_or t.words.size b 0 ≡ cell_bytes p (word_bin (get_or t.words.list b 0)))
unfolding size_ok bin_named list_named word_bin state_of
class_of p t good b ob =
    let s : ℕ = get_or t.words.size b 0 in
    let n : ℕ = (get_or t.words.list b 0 - 1) % 49 in
    let q = and_three (leb 1 n) (ltb 0 s) (eqb s (cell_bytes p n)) (block_parts p t b ((sound_parts p t good).blocks b ob.0) ob.1).size in
    let e : s ≡ cell_bytes p n = eqb-true _ _ q.2 in
    (rw e (cell_bytes_some p n (rw e at (ltb-true 0 s q.1))), e)

module _ (p : Params) (B : Bounds p) (st ms : List ℕ) (hd : ℕ) where
  -- a sweep of an occupied block frees its unmarked cells and no other, where all that are held of it are old
  module _ (w : Words) (h : List ℕ) (sh : List (List ℕ)) (bk : Book) (I : Core p w.free w.size w.cells st ms h sh bk)
      (b : ℕ) (ob : Occupied p st b) (word : 8 ≤ get_or w.size b 0) (aged : (c : Cell) → In c bk.cells → block_at p c.start ≡ b → c.old ≡ true) where
    pub swept_ok : EventOk p B hd (sweep_of p ms b w) h bk
    unfolding event_heap entered hits
    swept_ok =
        record {
          lost = λ c m. (strike c m, λ s. aged c m (eqb-true _ _ (and_left (eqb (block_at p c.start) b) _ (sym (strike c m) ∙ s))));
          bytes = λ c m out. same_bytes p B hd w.size st h (link_all p (sweep_chain p ms b (get_or w.size b 0)) h) c (I.held c m)
              (sweep_bytes p B w.free w.size w.cells st ms h sh bk I b ob.0 _ ob.1 word refl hd c m out);
        }
      where
        strike : (c : Cell) → In c bk.cells → frees p (sweep_of p ms b w) c ≡ (hits p (sweep_of p ms b w) c && unmarked p bk c)
        strike = sweep_frees p B w.free w.size w.cells st ms h sh bk I b ob.0 _ ob.1 word refl hd

  -- cells handed out since the last prepare stand in blocks that wait for no sweep
  abbrev pub Young : Words → Book → Type 0
  Young w bk = (c : Cell) → In c bk.cells → c.old ≡ false → Settled (get_or w.list (block_at p c.start) 0)

  pub record Searching (w : Words) (h : List ℕ) (sh : List (List ℕ)) (bk : Book) : Type 0 where
    pub linked : Linked p st w
    pub lengths : Sized p.blocks w
    pub core : Core p w.free w.size w.cells st ms h sh bk
    pub young : Young w bk
    pub wide : (b : ℕ) → Occupied p st b → 8 ≤ get_or w.size b 0
    -- a block has the cell size of the bin of its list
    pub class : (b : ℕ) → Occupied p st b → get_or w.size b 0 ≡ cell_bytes p (word_bin (get_or w.list b 0))
    pub idle : Idle w
    pub phase : w.phase ≡ 0

  -- a block with a free cell that waits for no sweep, at the address a
  pub record Ready (bin : ℕ) (w : Words) (a : ℕ) : Type 0 where
    pub block : ℕ
    pub occupied : Occupied p st block
    pub at : a ≡ start p block
    pub free : get_or w.free block 0 ≢ 0
    pub settled : Settled (get_or w.list block 0)
    pub size : get_or w.size block 0 ≡ cell_bytes p bin

  module _ (w : Words) (h : List ℕ) (sh : List (List ℕ)) (bk : Book) (S : Searching w h sh bk) where
    -- a block is popped
    pub popped_searching : (l b : ℕ) (P : Pop p st B w S.lengths S.linked l b) → Searching P.words h sh bk
    unfolding FirstsBut
    popped_searching l b P =
        let L : LinksOnly w P.words = subst (λ (x : Popped). LinksOnly w x.words) P.is (pop_links p l w (links_refl w)) in
        record {
          linked = P.popping.linked;
          lengths = P.popping.lengths;
          core = rw (L.free, L.size, L.cells) S.core;
          young = λ c m o. subst Settled (sym (P.popping.lists (block_at p c.start))) (S.young c m o);
          wide = λ d od. rw L.size (S.wide d od);
          class = λ d od. rw L.size (S.class d od ∙ ap (λ (x : ℕ). cell_bytes p (word_bin x)) (sym (P.popping.lists d)));
          phase = L.phase ∙ S.phase;
          idle = λ j n lj ln.
              let ne : unswept (3 * j) n ≢ l = λ e. some_start p B b P.popping.occupied.0 (sym P.first ∙ ap (λ (x : ℕ). get_or w.first x 0) (sym e) ∙ S.idle j n lj ln) in
              subst (λ (x : Popped). FirstsBut l l w x.words) P.is (pop_firsts p l w) (unswept (3 * j) n) ne ne ∙ S.idle j n lj ln;
        }

    pub popped_size : (l b bin : ℕ) (P : Pop p st B w S.lengths S.linked l b) → word_bin (list_word l) ≡ bin → get_or P.words.size b 0 ≡ cell_bytes p bin
    popped_size l b bin P e =
        let L : LinksOnly w P.words = subst (λ (x : Popped). LinksOnly w x.words) P.is (pop_links p l w (links_refl w)) in
        ap (λ (x : List ℕ). get_or x b 0) L.size ∙ S.class b P.popping.occupied
        ∙ ap (λ (x : ℕ). cell_bytes p (word_bin x)) P.popping.word ∙ ap (cell_bytes p) e

    -- a block is pushed, to which no link leads
    module _ (b c : ℕ) (ob : Occupied p st b) (loose : Loose p st w b) (low : c < 1470) (set : Settled (list_word c))
        (bin : ℕ) (cell : get_or w.size b 0 ≡ cell_bytes p bin) (into : word_bin (list_word c) ≡ bin) where
      pushing : Pushed p st B w S.lengths S.linked c b (push p c b w)
      pushing = push_pushed p st B w S.lengths S.linked c b low ob loose

      pushed_links : LinksOnly w (push p c b w)
      pushed_links = push_links p c b w (links_refl w)

      pub pushed_searching : Searching (push p c b w) h sh bk
      pushed_searching =
          record {
            linked = pushing.linked;
            lengths = pushing.lengths;
            core = rw (pushed_links.free, pushed_links.size, pushed_links.cells) S.core;
            young = λ d m o. young_of d m o (ℕ_discrete (block_at p d.start) b);
            wide = λ d od. rw pushed_links.size (S.wide d od);
            class = λ d od. rw pushed_links.size (class_of d od (ℕ_discrete d b));
            phase = pushed_links.phase ∙ S.phase;
            idle = λ j n lj ln.
                ap (λ (x : List ℕ). get_or x (unswept (3 * j) n) 0) (push_first p c b w)
                ∙ get_or-set_other w.first c (unswept (3 * j) n) (start p b) 0
                (λ e. unswept_unsettled j n (omega arith) ln (subst (λ (x : ℕ). Settled (list_word x)) (sym e) set))
                ∙ S.idle j n lj ln;
          }
        where
          class_of : (d : ℕ) → Occupied p st d → Dec (d ≡ b) → get_or w.size d 0 ≡ cell_bytes p (word_bin (get_or (push p c b w).list d 0))
          class_of d od (yes e) =
              ap (λ (x : ℕ). get_or w.size x 0) e ∙ cell ∙ ap (cell_bytes p) (sym into)
              ∙ ap (λ (x : ℕ). cell_bytes p (word_bin x)) (sym (ap (λ (x : ℕ). get_or (push p c b w).list x 0) e ∙ pushing.word))
          class_of d od (no f) = S.class d od ∙ ap (λ (x : ℕ). cell_bytes p (word_bin x)) (sym (pushing.others d f))

          young_of : (d : Cell) → In d bk.cells → d.old ≡ false → Dec (block_at p d.start ≡ b)
              → Settled (get_or (push p c b w).list (block_at p d.start) 0)
          young_of d m o (yes e) = subst Settled (sym (ap (λ (x : ℕ). get_or (push p c b w).list x 0) e ∙ pushing.word)) set
          young_of d m o (no f) = subst Settled (sym (pushing.others (block_at p d.start) f)) (S.young d m o)

      -- where it has a free cell, it is ready
      pub pushed_ready : get_or w.free b 0 ≢ 0 → Ready bin (push p c b w) (start p b)
      pushed_ready f =
          record {
            block = b;
            occupied = ob;
            at = refl;
            free = subst (λ (x : List ℕ). get_or x b 0 ≢ 0) (sym pushed_links.free) f;
            settled = subst Settled (sym pushing.word) set;
            size = ap (λ (x : List ℕ). get_or x b 0) pushed_links.size ∙ cell;
          }

    -- a block gets a holder
    pub tls_searching : (b v : ℕ) → Searching (set_tls b v w) h sh bk
    unfolding set_tls
    tls_searching b v =
        record {
          linked = linked_same p st _ refl S.linked;
          lengths = sized_same (simp kept_lengths) S.lengths;
          core = S.core;
          young = S.young;
          wide = S.wide;
          class = S.class;
          idle = S.idle;
          phase = S.phase;
        }

    -- a block is swept
    module _ (b : ℕ) (ob : Occupied p st b) where
      abbrev chain : List ℕ
      chain = sweep_chain p ms b (get_or w.size b 0)

      pub swept_searching :
          Searching (swept_words p ms b w) (event_heap p (sweep_of p ms b w) h) (shadow_event (sweep_of p ms b w) sh) (book_event p hd (sweep_of p ms b w) bk)
      unfolding swept_words set_free set_cells event_heap shadow_event entered
      swept_searching =
          record {
            linked = linked_same p st _ refl S.linked;
            lengths = sized_same (simp kept_lengths) S.lengths;
            core = sweep_core p B w.free w.size w.cells st ms h sh bk S.core b ob.0 chain ob.1 (S.wide b ob) refl hd;
            young = λ c m o. S.young c (was_held p B w.free w.size w.cells st ms h sh bk S.core b ob.0 chain hd (sweep_of p ms b w) (λ cs. refl) c m).0 o;
            wide = S.wide;
            class = S.class;
            idle = S.idle;
            phase = S.phase;
          }

  -- ---- the search on its way: es happened so far

  module _ (h : List ℕ) (sh : List (List ℕ)) (bk : Book) where
    pub record Going (es : List Event) (w : Words) : Type 0 where
      pub events : EventsOk p B hd es h bk
      pub searching : Searching w (events_heap p es h) (shadow_events es sh) (book_events p hd es bk)

    -- and at its end
    pub record Gone (bin : ℕ) (es : List Event) (a : ℕ) (w : Words) : Type 0 where
      pub going : Going es w
      pub ready : Ready bin w a

    -- the holder's sets are 3j, 3j + 1, 3j + 2
    module _ (bin j : ℕ) (low : bin < 49) (few : j < 8) (own : local_sets hd ≡ 3 * j) where
      av_low : available (local_sets hd) bin < 1470
      av_low = rw own (available_numbered j bin (omega arith) low).low

      co_low : consumed (local_sets hd) bin < 1470
      co_low = rw own (consumed_numbered j bin (omega arith) low).low

      av_settled : Settled (list_word (available (local_sets hd) bin))
      av_settled = rw own (available_settled j bin (omega arith) low)

      co_settled : Settled (list_word (consumed (local_sets hd) bin))
      co_settled = rw own (consumed_settled j bin (omega arith) low)

      av_bin : word_bin (list_word (available (local_sets hd) bin)) ≡ bin
      av_bin = rw own (available_bin j bin (omega arith) low)

      co_bin : word_bin (list_word (consumed (local_sets hd) bin)) ≡ bin
      co_bin = rw own (consumed_bin j bin (omega arith) low)

      -- a block that goes to a consumed list is an event
      spent_going : (es : List Event) (w : Words) (b : ℕ) → Going es w → Going (es ++ (spent b ∷ [])) w
      unfolding is_taken event_heap shadow_event
      spent_going es w b G =
          record {
            events = events_behind p B hd es (spent b) h bk G.events refl (spent_ok p B hd b _ _);
            searching = behind p B hd (Searching w) es (spent b) h sh bk (rw (spent_book p B hd b (book_events p hd es bk)) G.searching);
          }

      -- a block that is no link's goes to the holder: to available if it has a free cell, else to consumed
      files : (es : List Event) (w : Words) (b : ℕ) → Going es w → Occupied p st b → Loose p st w b → get_or w.size b 0 ≡ cell_bytes p bin
          → Files p ms hd bin Going (Gone bin) es (start p b) w
      files es w b G ob loose cell =
          let S = G.searching in
          record {
            full = λ q.
                rw is (spent_going es (push p (consumed (local_sets hd) bin) b w) b
                (record { events = G.events; searching = pushed_searching w _ _ _ S b _ ob loose co_low co_settled bin cell co_bin }));
            has = λ f. rw is (record {
              going = record { events = G.events; searching = pushed_searching w _ _ _ S b _ ob loose av_low av_settled bin cell av_bin };
              ready = pushed_ready w _ _ _ S b _ ob loose av_low av_settled bin cell av_bin (rw is at f);
            });
          }
        where
          is : block_at p (start p b) ≡ b
          is = block_at_start p B b ob.0

      tls_loose : (w : Words) (b v c : ℕ) → Loose p st w c → Loose p st (set_tls b v w) c
      unfolding set_tls
      tls_loose w b v c L = loose_same p st _ refl L

      tls_size : (w : Words) (b v c : ℕ) → get_or (set_tls b v w).size c 0 ≡ get_or w.size c 0
      unfolding set_tls
      tls_size w b v c = refl

      swept_size : (w : Words) (b c : ℕ) → get_or (swept_words p ms b w).size c 0 ≡ get_or w.size c 0
      unfolding swept_words set_free set_cells
      swept_size w b c = refl

      swept_loose : (w : Words) (b c : ℕ) → Loose p st w c → Loose p st (swept_words p ms b w) c
      unfolding swept_words set_free set_cells
      swept_loose w b c L = loose_same p st _ refl L

      module _ (es : List Event) (w : Words) (G : Going es w) where
        S : Searching w (events_heap p es h) (shadow_events es sh) (book_events p hd es bk)
        S = G.searching

        -- the head of a list
        abbrev At : ℕ → ℕ → Type 0
        At l b = Pop p st B w S.lengths S.linked l b

        head_of : (l : ℕ) → l < 1470 → get_or w.first l 0 ≢ 0 → (b : ℕ) × At l b
        head_of l ll some = ⊎_elim (λ E. absurd (some E.first)) (λ z. z) (pop_cases p st B w S.lengths S.linked l ll)

        module _ (l b : ℕ) (P : At l b) where
          is_head : block_at p (get_or w.first l 0) ≡ b
          is_head = ap (block_at p) P.first ∙ block_at_start p B b P.popping.occupied.0

          move_full : word_bin (list_word l) ≡ bin
              → Going (es ++ (spent (block_at p (get_or w.first l 0)) ∷ []))
              (push p (consumed (local_sets hd) bin) (block_at p (get_or w.first l 0)) (pop p l w).words)
          move_full e =
              rw (is_head, P.is) (spent_going es (push p (consumed (local_sets hd) bin) b P.words) b
              (record {
                events = G.events;
                searching = pushed_searching P.words _ _ _ (popped_searching w _ _ _ S l b P) b _ P.popping.occupied P.popping.loose co_low co_settled bin
                    (popped_size w _ _ _ S l b bin P e) co_bin;
              }))

          see : word_bin (list_word l) ≡ bin → Settled (list_word l) → get_or w.free (block_at p (get_or w.first l 0)) 0 ≢ 0 → Gone bin es (get_or w.first l 0) w
          see e s f =
              record {
                going = G;
                ready = record {
                  block = b;
                  occupied = P.popping.occupied;
                  at = P.first;
                  free = rw is_head at f;
                  settled = subst Settled (sym P.popping.word) s;
                  size = S.class b P.popping.occupied ∙ ap (λ (x : ℕ). cell_bytes p (word_bin x)) P.popping.word ∙ ap (cell_bytes p) e;
                };
              }

          -- it becomes the holder's
          W : Words
          W = set_tls b hd P.words

          T : Searching W (events_heap p es h) (shadow_events es sh) (book_events p hd es bk)
          unfolding W
          T = tls_searching P.words _ _ _ (popped_searching w _ _ _ S l b P) b hd

          take_over : word_bin (list_word l) ≡ bin
              → Files p ms hd bin Going (Gone bin) es (get_or w.first l 0) (set_tls (block_at p (get_or w.first l 0)) hd (pop p l w).words)
          unfolding W
          take_over e =
              rw (is_head, P.is, P.first)
              (files es W b (record { events = G.events; searching = T }) P.popping.occupied (tls_loose P.words b hd b P.popping.loose)
              (tls_size P.words b hd b ∙ popped_size w _ _ _ S l b bin P e))

          -- and is swept: its list word says that its cells are old
          take_swept : word_bin (list_word l) ≡ bin → (Settled (list_word l) → ⊥)
              → let u : Words = set_tls (block_at p (get_or w.first l 0)) hd (pop p l w).words in
              Files p ms hd bin Going (Gone bin) (es ++ (sweep_of p ms (block_at p (get_or w.first l 0)) u ∷ [])) (get_or w.first l 0)
              (swept_words p ms (block_at p (get_or w.first l 0)) u)
          unfolding W is_taken
          take_swept e un =
              rw (is_head, P.is, P.first)
              (files _ (swept_words p ms b W) b
              (record {
                events = events_behind p B hd es (sweep_of p ms b W) h bk G.events refl (swept_ok W _ _ _ T.core b P.popping.occupied (T.wide b P.popping.occupied) aged);
                searching = behind p B hd (Searching (swept_words p ms b W)) es (sweep_of p ms b W) h sh bk (swept_searching W _ _ _ T b P.popping.occupied);
              })
              P.popping.occupied (swept_loose W b b (tls_loose P.words b hd b P.popping.loose))
              (swept_size W b b ∙ tls_size P.words b hd b ∙ popped_size w _ _ _ S l b bin P e))
            where
              aged : (c : Cell) → In c (book_events p hd es bk).cells → block_at p c.start ≡ b → c.old ≡ true
              aged c m q = go c.old refl
                where
                  go : (t : Bool) → c.old ≡ t → c.old ≡ true
                  go true o = o
                  go false o = absurd (un (subst Settled (ap (λ (x : ℕ). get_or w.list x 0) q ∙ P.popping.word) (S.young c m o)))

      -- every step keeps the invariant
      pub steps : Steps p ms hd bin Going (Gone bin)
      steps =
          record {
            moved = λ es w G some q. let z = head_of es w G _ av_low some in move_full es w G _ z.0 z.1 av_bin;
            seen = λ es w G some f. let z = head_of es w G _ av_low some in see es w G _ z.0 z.1 av_bin av_settled f;
            recycled = λ es w G some. absurd (some (rw own (G.searching.idle j bin few low)));
            over = λ es w G some.
                let z = head_of es w G _ (available_numbered 8 bin (omega arith) low).low some in
                take_over es w G _ z.0 z.1 (available_bin 8 bin (omega arith) low);
            swept = λ es w G none some.
                let z = head_of es w G _ (unswept_numbered 8 bin (omega arith) low).low some in
                take_swept es w G _ z.0 z.1 (unswept_bin 8 bin (omega arith) low) (unswept_unsettled 8 bin (omega arith) low);
          }
