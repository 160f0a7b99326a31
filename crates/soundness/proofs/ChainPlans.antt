-- Every call's plan keeps the chains: links and list words leave them, and each event does to the heap and the words what it does
-- to the shadow. A plan that takes a cell takes one of a block that has some. Rides on what Alloc.antt shows of each step of a search.
-- Assumes nothing.
use Rattle.std.specs.Prelude.{Option, None, Some}
use mathlib.Core.Path.{◌≡◌, refl, sym, ap, ◌∙◌, subst}
use mathlib.Core.Logic.{◌≢◌, ◌⊎◌, inl, inr, ⊎_elim}
use mathlib.Core.Bool.{true, false, ◌&&◌}
use mathlib.Core.List.{List, [], ◌∷◌, ◌++◌}
use Prim.Native.Nat.{ℕ, zero, suc, ◌+◌, ◌*◌, ◌/◌, ◌<◌, ◌≤◌}
use native.Mathlib.Omega.{arith}
use native.Mathlib.Nat.{le-div_iff_mul-le}
use native.Mathlib.Decide.{dec_lt, ℕ_discrete}
use lib.Dec.{eqb, ltb}
use lib.ListN.{get_or, set, length, length-set, get_or-eq_default}
use lib.Seq.{get_or-set_same}
use borrow.Author.Tests.{ltb-true, eq-eqb, ne_eqb, eqb-true, eqb-false}
use Rattle.model.specs.declared.Params.{Params}
use Rattle.model.specs.declared.Block.{Block}
use Rattle.model.specs.Base.{In, each_below}
use Rattle.model.specs.Params.{start, block_at, local_sets, abandoned, in_gc, available, unswept, consumed, bins}
use Rattle.model.specs.Tables.{Words, Tables, set_free, set_size, set_tls, set_cells, set_next, set_prev, set_list, set_phase, set_released, with_released}
use Rattle.model.specs.SizeClasses.{cell_bytes}
use Rattle.model.specs.BlockList.{push, pop, remove}
use Rattle.model.specs.Block.{cell_count, cells_down, sweep_chain, swept_words, init_chain, init_block, clear_block, ChainStands}
use Rattle.model.specs.Events.{Event, initialised, spent, event_heap, events_heap}
use Rattle.model.specs.FreeListAllocator.{sweep_of, Found, Search, acquire_fresh, find_block}
use Rattle.model.specs.Global.{Freed, freed, append_to, release_blocks, release_bin, release_holder, sweep_later, part_released, all_released, is_last, sweep_block, sweep_all, recycle_blocks, swept_eagerly, eagerly}
use Rattle.model.specs.Calls.{good_offer, End, says, takes, take_plan}
use Rattle.laws.proofs.Base.{and_left, if_cases, if_true}
use Rattle.laws.proofs.Below.{and_both}
use Rattle.laws.proofs.Params.{Bounds, some_start, block_at_start}
use Rattle.laws.proofs.Frame.{LinksOnly, links_refl, push_links, pop_links, remove_links, append_links, each_grows}
use Rattle.laws.proofs.Walks.{available_numbered, unswept_numbered, Files, Steps, find_keeps, released_one, blocks_keep_any, bins_keep_any, later_keeps_any, swept_one, recycle_keeps_any}
use Rattle.soundness.proofs.Owners.{abandon_links, framed_refl}
use Rattle.soundness.proofs.Lists.{AllOn}
use Rattle.soundness.proofs.GoodTables.{GoodTables}
use Rattle.soundness.proofs.Chains.{set_cases, shadow_event, shadow_events, heap_behind, shadow_behind, heap_spent, shadow_spent, Chains, sweep_chains, init_chains, release_chains}
use Rattle.soundness.proofs.Alloc.{my_available, my_unswept, SearchedSoFar, steps}
use Rattle.soundness.proofs.Searches.{Head, head_of}

-- a block that has a free cell, by the shadow
pub record Top (p : Params) (sh : List (List ℕ)) (b : ℕ) : Type 0 where
  pub low : b < p.blocks
  pub cell : ℕ
  pub rest : List ℕ
  pub is : get_or sh b [] ≡ cell ∷ rest

-- what a call that ends so needs
unfoldable pub EndsOn : Params → List (List ℕ) → End → Type 0
EndsOn p sh (says r) = Unit {0}
EndsOn p sh (takes b align offset fresh) = Top p sh b

-- the cells of a block in use have a word
pub good_wide : (p : Params) {ms : List ℕ} {w : Words} {st : List ℕ} → GoodTables p ms w st → (b : ℕ) → b < p.blocks → get_or st b 0 ≢ 0 → 8 ≤ get_or w.size b 0
unfolding AllOn
good_wide p H b low occ = let m = H.good.on b low occ in (H.good.fit m.0 b m.1 m.2).word

-- from the heap h and the shadow sh on
module _ (p : Params) (B : Bounds p) (h : List ℕ) (sh : List (List ℕ)) where
  -- the chains, after these events, of these words
  abbrev pub After : List Event → Words → Type 0
  After es w = Chains p w.free w.size w.cells (events_heap p es h) (shadow_events es sh)

  -- links and list words leave them
  pub links_after : (es : List Event) {w w' : Words} → LinksOnly w w' → After es w → After es w'
  links_after es L C = rw (L.free, L.size, L.cells) C

  -- one event behind
  behind : (es : List Event) (e : Event) (w : Words)
      → Chains p w.free w.size w.cells (event_heap p e (events_heap p es h)) (shadow_event e (shadow_events es sh)) → After (es ++ (e ∷ [])) w
  behind es e w C = rw (heap_behind p es e h, shadow_behind es e sh) C

  -- a sweep of a block
  swept_after : (ms : List ℕ) (es : List Event) (w : Words) (b : ℕ) → b < p.blocks → 8 ≤ get_or w.size b 0 → After es w
      → After (es ++ (sweep_of p ms b w ∷ [])) (swept_words p ms b w)
  unfolding swept_words set_free set_cells event_heap shadow_event
  swept_after ms es w b lb wide C =
      behind es (sweep_of p ms b w) (swept_words p ms b w)
      (sweep_chains p B w.free w.size w.cells (events_heap p es h) (shadow_events es sh) C b lb ms (sweep_chain p ms b (get_or w.size b 0)) wide refl)

  spent_after : (es : List Event) (b : ℕ) (w : Words) → After es w → After (es ++ (spent b ∷ [])) w
  spent_after es b w C = rw (heap_spent p es b h, shadow_spent es b sh) C

  -- a chain from an address that is not 0 has a first cell
  first_cell_lem : (g : List ℕ) (a : ℕ) (l : List ℕ) → ChainStands p g a l → a ≢ 0 → (x : ℕ) × (r : List ℕ) × (l ≡ x ∷ r)
  unfolding ChainStands
  first_cell_lem g a [] c ne = absurd (ne c)
  first_cell_lem g a (x ∷ r) c ne = (x, r, refl)

  has_top : (es : List Event) (w : Words) (b : ℕ) → b < p.blocks → After es w → get_or w.free b 0 ≢ 0 → Top p (shadow_events es sh) b
  has_top es w b low C some =
      let k = first_cell_lem _ _ _ (C.blocks b low).stands some in
      record { low = low; cell = k.0; rest = k.1; is = k.2 }

  -- ---- the search of an alloc

  module _ (st ms : List ℕ) (hd bin : ℕ) (lo : 1 ≤ hd) (hi : hd ≤ 8) (low : bin < 49) (w₀ : Words) where
    abbrev Good : Words → Type 0
    Good = SearchedSoFar p B st ms hd bin lo hi low w₀

    abbrev On : List Event → Words → Type 0
    On es w = Good w × After es w

    abbrev Got : List Event → ℕ → Words → Type 0
    Got es a w = Good w × After es w × Top p (shadow_events es sh) (block_at p a)

    -- the head of a list, with its place and the size of its cells
    record Front (l : ℕ) (w : Words) : Type 0 where
      inside : block_at p (get_or w.first l 0) < p.blocks
      wide : 8 ≤ get_or w.size (block_at p (get_or w.first l 0)) 0

    front : (l : ℕ) (w : Words) → l < 1470 → Good w → get_or w.first l 0 ≢ 0 → Front l w
    unfolding In
    front l w ll G some =
        let H : GoodTables p ms w st = G.good in
        let X : Head p st w H.lists l = head_of p B st w H.lists H.good.lists l ll some in
        record {
          inside = X.on.low;
          wide = (H.good.fit l (block_at p (get_or w.first l 0)) ll (rw X.is (inl refl))).word;
        }

    -- a block is filed: a search that rides on the one that keeps tables good
    files : (es : List Event) (a : ℕ) (w : Words) → block_at p a < p.blocks → Files p ms hd bin (λ es w. Good w) (λ es a w. Good w) es a w → After es w
        → Files p ms hd bin On Got es a w
    files es a w lb F C =
        record {
          full = λ e. (
            F.full e,
            spent_after es (block_at p a) (push p (consumed (local_sets hd) bin) (block_at p a) w) (links_after es (push_links p _ _ w (links_refl w)) C),
          );
          has = λ e.
              let L = push_links p (available (local_sets hd) bin) (block_at p a) w (links_refl w) in
              let D = links_after es L C in
              (F.has e, D, has_top es (push p (available (local_sets hd) bin) (block_at p a) w) (block_at p a) lb D (subst (λ (x : List ℕ). get_or x (block_at p a) 0 ≢ 0) (sym L.free) e));
        }

    mine : (es : List Event) (w : Words) (b v : ℕ) → After es w → After es (set_tls b v w)
    unfolding set_tls
    mine es w b v C = C

    mine_size : (w : Words) (b v d : ℕ) → get_or (set_tls b v w).size d 0 ≡ get_or w.size d 0
    unfolding set_tls
    mine_size w b v d = refl

    abbrev S : Steps p ms hd bin (λ es w. Good w) (λ es a w. Good w)
    S = steps p B st ms hd bin lo hi low w₀

    av_low : available (local_sets hd) bin < 1470
    av_low = (my_available p B st ms hd bin lo hi low w₀).low

    un_low : unswept (local_sets hd) bin < 1470
    un_low = (my_unswept p B st ms hd bin lo hi low w₀).low

    -- the words of a block that was popped
    popped : (es : List Event) (l : ℕ) (w : Words) → After es w → After es (pop p l w).words
    popped es l w C = links_after es (pop_links p l w (links_refl w)) C

    popped_wide : (l : ℕ) (w : Words) (d : ℕ) → 8 ≤ get_or w.size d 0 → 8 ≤ get_or (pop p l w).words.size d 0
    popped_wide l w d e = rw (pop_links p l w (links_refl w)).size e

    chain_steps : Steps p ms hd bin On Got
    chain_steps =
        record {
          moved = λ es w o some e.
              let l = available (local_sets hd) bin in
              let b = block_at p (get_or w.first l 0) in (
                S.moved es w o.0 some e,
                spent_after es b (push p (consumed (local_sets hd) bin) b (pop p l w).words) (links_after es (push_links p _ _ _ (pop_links p l w (links_refl w))) o.1),
              );
          seen = λ es w o some e.
              let X = front (available (local_sets hd) bin) w av_low o.0 some in
              (S.seen es w o.0 some e, o.1, has_top es w _ X.inside o.1 e);
          recycled = λ es w o some.
              let l = unswept (local_sets hd) bin in
              let X = front l w un_low o.0 some in
              files _ _ _ X.inside (S.recycled es w o.0 some)
              (swept_after ms es _ _ X.inside (popped_wide l w _ X.wide) (popped es l w o.1));
          over = λ es w o some.
              let l = available abandoned bin in
              let X = front l w (available_numbered 8 bin (omega arith) low).low o.0 some in
              files _ _ _ X.inside (S.over es w o.0 some) (mine es _ _ hd (popped es l w o.1));
          swept = λ es w o none some.
              let l = unswept abandoned bin in
              let X = front l w (unswept_numbered 8 bin (omega arith) low).low o.0 some in
              files _ _ _ X.inside (S.swept es w o.0 none some)
              (swept_after ms es _ _ X.inside (rw (mine_size (pop p l w).words (block_at p (get_or w.first l 0)) hd (block_at p (get_or w.first l 0))) (popped_wide l w _ X.wide))
              (mine es _ _ hd (popped es l w o.1)));
        }

  -- what a search ends with
  pub record Found' (s : Search) : Type 0 where
    pub chains : After s.events s.tables.words
    pub at : (s.at ≡ 0) ⊎ ((s.at ≢ 0) × Top p (shadow_events s.events sh) (block_at p s.at))

  module _ (t : Tables) (H : GoodTables p t.marks t.words t.states) (C : Chains p t.words.free t.words.size t.words.cells h sh)
      (hd bin : ℕ) (lo : 1 ≤ hd) (hi : hd ≤ 8) (low : bin < 49) (word : 8 ≤ cell_bytes p bin) (room : cell_bytes p bin ≤ p.bytes) where
    -- a class that fits has a cell
    init_some : (b : ℕ) → (x : ℕ) × (r : List ℕ) × (init_chain p b (cell_bytes p bin) ≡ x ∷ r)
    unfolding init_chain cell_count cells_down
    init_some b = go (p.bytes / cell_bytes p bin) ((le-div_iff_mul-le {k = cell_bytes p bin} {x = 1} {y = p.bytes} (omega (arith, word))).1 (omega arith))
      where
        go : (n : ℕ) → 1 ≤ n → (x : ℕ) × (r : List ℕ) × (cells_down (λ a. false) (start p b) (cell_bytes p bin) n ≡ x ∷ r)
        go zero le = absurd (omega arith)
        go (suc n) le = (start p b + n * cell_bytes p bin, cells_down (λ a. false) (start p b) (cell_bytes p bin) n, refl)

    -- the offer is initialised
    init_after : (f : Found) (b : ℕ) → b < p.blocks → After f.events f.words
        → After (f.events ++ (initialised b (init_chain p b (cell_bytes p bin)) ∷ [])) (init_block p b (cell_bytes p bin) hd (push p (available (local_sets hd) bin) b f.words))
    unfolding init_block set_tls set_size set_free set_cells event_heap shadow_event
    init_after f b lb D =
        let u : Words = push p (available (local_sets hd) bin) b f.words in
        let E : After f.events u = links_after f.events (push_links p _ b f.words (links_refl f.words)) D in
        behind f.events (initialised b (init_chain p b (cell_bytes p bin))) (init_block p b (cell_bytes p bin) hd u)
        (init_chains p B u.free u.size u.cells (events_heap p f.events h) (shadow_events f.events sh) E b lb (init_chain p b (cell_bytes p bin)) (cell_bytes p bin)
        word refl)

    fresh_found : (offer : Option Block) → good_offer p t offer ≡ true → (f : Found) → f.at ≡ 0 → After f.events f.words → Found' (acquire_fresh p hd bin offer f t)
    unfolding acquire_fresh good_offer shadow_event
    fresh_found None fine f e D = record { chains = D; at = inl e }
    fresh_found (Some b) fine f e D =
        let lb : b.0 < p.blocks = ltb-true _ _ (and_left (ltb b.0 p.blocks) _ fine) in
        let k = init_some b.0 in
        record {
          chains = init_after f b.0 lb D;
          at = inr (
            some_start p B b.0 lb,
            rw (block_at_start p B b.0 lb, shadow_behind f.events (initialised b.0 (init_chain p b.0 (cell_bytes p bin))) sh)
                (record { low = lb; cell = k.0; rest = k.1; is = get_or-set_same (shadow_events f.events sh) b.0 _ [] (omega (arith, D.shadow)) ∙ k.2 }),
          );
        }

    pub find_after : (offer : Option Block) → good_offer p t offer ≡ true → Found' (find_block p hd bin offer t)
    unfolding events_heap shadow_events
    find_after offer fine =
        find_keeps p hd bin t (On t.states t.marks hd bin lo hi low t.words) (Got t.states t.marks hd bin lo hi low t.words)
        (chain_steps t.states t.marks hd bin lo hi low t.words) Found' offer
        (λ f e o. fresh_found offer fine f e o.1) (λ f e o. record { chains = o.1; at = inr (e, o.2) })
        (record { good = H; frame = framed_refl t.words }, C)

    -- and its plan
    pub take_ends : (align offset : ℕ) (s : Search) → Found' s → EndsOn p (shadow_events s.events sh) (take_plan p align offset s).end
    unfolding take_plan EndsOn
    take_ends align offset s F = ⊎_elim (λ e. rw (eq-eqb s.at 0 e) tt) (λ k. rw (ne_eqb s.at 0 k.0) k.1) F.at

  -- ---- releases

  record Freeing (f : Freed) : Type 0 where
    chains : After f.events f.words
    states : length f.states ≡ p.blocks

  one_freed : (l b : ℕ) (f : Freed) → Freeing f → get_or f.states b 0 ≡ 255 → Freeing (released_one p l b f)
  unfolding event_heap shadow_event clear_block set_cells set_tls set_list set_size set_free set_prev set_next
  one_freed l b f F un =
      let R : Words = remove p l b f.words in
      let D : After f.events R = links_after f.events (remove_links p l b f.words (links_refl f.words)) F.chains in
      record {
        chains = behind f.events _ (clear_block b R) (release_chains p B R.free R.size R.cells (events_heap p f.events h) (shadow_events f.events sh) D b (inside (dec_lt b p.blocks)));
        states = length-set f.states b 0 ∙ F.states;
      }
    where
      inside : Dec (b < p.blocks) → b < p.blocks
      inside (yes k) = k
      inside (no k) = absurd (omega (arith, un, get_or-eq_default f.states 0 {n = b} (omega (arith, F.states))))

  blocks_freed : (l : ℕ) (f : Freed) → Freeing f → Freeing (release_blocks p l f)
  blocks_freed l = blocks_keep_any p l Freeing (λ b f F un. one_freed l b f F un)

  append_freed : (l o : ℕ) (f : Freed) → Freeing f → Freeing (append_to p l o f)
  unfolding append_to
  append_freed l o f F =
      record { chains = links_after f.events (append_links p l o f.words (links_refl f.words)) F.chains; states = F.states }

  -- ---- the end of a collection with eager sweeping

  module _ (ms : List ℕ) (f : Freed) (wide : (b : ℕ) → b < p.blocks → get_or f.states b 0 ≢ 0 → 8 ≤ get_or f.words.size b 0) where
    record Ending (g : Freed) : Type 0 where
      chains : After g.events g.words
      states : g.states ≡ f.states
      size : g.words.size ≡ f.words.size

    -- the shadow has the chain that the sweep of b built
    abbrev pub SweptIn : Freed → ℕ → Type 0
    SweptIn g b = get_or (shadow_events g.events sh) b [] ≡ sweep_chain p ms b (get_or f.words.size b 0)

    abbrev SweptBelow : ℕ → Freed → Type 0
    SweptBelow n g = Ending g × ((b : ℕ) → b < n → get_or f.states b 0 ≢ 0 → SweptIn g b)

    one_swept : (i : ℕ) → i < p.blocks → (g : Freed) → SweptBelow i g → SweptBelow (suc i) (sweep_block p ms i g)
    unfolding sweep_block swept_words set_free set_cells shadow_event
    one_swept i li g X = if_cases (SweptBelow (suc i)) (eqb (get_or g.states i 0) 0) (λ e. (X.0, unused (eqb-true _ _ e))) (λ e. (sweeps (eqb-false _ _ e), used))
      where
        unused : get_or g.states i 0 ≡ 0 → (b : ℕ) → b < suc i → get_or f.states b 0 ≢ 0 → SweptIn g b
        unused z b lb occ = go (ℕ_discrete b i)
          where
            go : Dec (b ≡ i) → SweptIn g b
            go (yes q) = absurd (occ (ap (λ (x : ℕ). get_or f.states x 0) q ∙ ap (λ (x : List ℕ). get_or x i 0) (sym X.0.states) ∙ z))
            go (no ne) = X.1 b (omega (arith, ne)) occ

        sweeps : get_or g.states i 0 ≢ 0 → Ending (swept_one p ms i g)
        sweeps occ =
            record {
              chains = swept_after ms g.events g.words i li (rw X.0.size (wide i li (rw X.0.states at occ))) X.0.chains;
              states = X.0.states;
              size = X.0.size;
            }

        used : (b : ℕ) → b < suc i → get_or f.states b 0 ≢ 0 → SweptIn (swept_one p ms i g) b
        used b lb occ = rw (shadow_behind g.events (sweep_of p ms i g.words) sh) (go (set_cases (shadow_events g.events sh) i _ [] b (omega (arith, li, X.0.chains.shadow))))
          where
            chain : List ℕ
            chain = sweep_chain p ms i (get_or g.words.size i 0)

            go : ((b ≡ i) × (get_or (set (shadow_events g.events sh) i chain) b [] ≡ chain))
                ⊎ ((b ≢ i) × (get_or (set (shadow_events g.events sh) i chain) b [] ≡ get_or (shadow_events g.events sh) b []))
                → get_or (set (shadow_events g.events sh) i chain) b [] ≡ sweep_chain p ms b (get_or f.words.size b 0)
            go (inl q) = q.1 ∙ ap (λ (z : List ℕ). sweep_chain p ms i (get_or z i 0)) X.0.size ∙ ap (λ (x : ℕ). sweep_chain p ms x (get_or f.words.size x 0)) (sym q.0)
            go (inr q) = q.1 ∙ X.1 b (omega (arith, q.0)) occ

    all_swept : After f.events f.words → SweptBelow p.blocks (sweep_all p ms f)
    unfolding sweep_all
    all_swept C = each_grows SweptBelow p.blocks (sweep_block p ms) one_swept f (record { chains = C; states = refl; size = refl }, λ b low occ. absurd (omega arith))

    again_ends : (owner : ℕ) (es : List Event) (w : Words) → After es w → After es (recycle_blocks p owner w)
    again_ends owner es w C =
        recycle_keeps_any p (After es)
        (λ avail full b v X. links_after es (push_links p avail b (remove p full b v) (remove_links p full b v (links_refl v))) X) owner w C

    pub eagerly_after : (part : ℕ) → After f.events f.words → After (eagerly p ms part f).events (eagerly p ms part f).words
    unfolding eagerly swept_eagerly
    eagerly_after part C =
        if_cases (λ (g : Freed). After g.events g.words) (p.eager && is_last part f.words)
        (λ e. again_ends in_gc _ _ (again_ends abandoned _ _ (all_swept C).0.chains)) (λ e. C)

    -- after the last part, with the choice on
    pub eagerly_swept : (part : ℕ) → After f.events f.words → p.eager ≡ true → is_last part f.words ≡ true
        → (b : ℕ) → b < p.blocks → get_or f.states b 0 ≢ 0 → SweptIn (eagerly p ms part f) b
    unfolding eagerly swept_eagerly
    eagerly_swept part C on last b low occ =
        subst (λ (g : Freed). SweptIn g b) (sym (if_true (p.eager && is_last part f.words) (swept_eagerly p ms f) f (and_both on last))) ((all_swept C).1 b low occ)

  module _ (t : Tables) (st : length t.states ≡ p.blocks) (C : Chains p t.words.free t.words.size t.words.cells h sh) where
    start_freed : Freeing (freed t.words t.states)
    unfolding events_heap shadow_events
    start_freed = record { chains = C; states = st }

    -- the releases of a part
    pub holder_chains : (d : ℕ) → let f : Freed = release_holder p d t.words t.states in After f.events f.words
    unfolding release_holder
    holder_chains d =
        let f : Freed = each_below bins (release_bin p (local_sets d)) (freed t.words t.states) in
        links_after f.events (abandon_links p in_gc (local_sets d) f.words) (bins_keep_any p Freeing blocks_freed append_freed (local_sets d) _ start_freed).chains

    pub shared_chains : let f : Freed = sweep_later p t.words t.states in After f.events f.words
    unfolding sweep_later
    shared_chains = (later_keeps_any p Freeing blocks_freed append_freed _ start_freed).chains

  -- a part has released
  pub part_chains : (part : ℕ) (es : List Event) (w : Words) → After es w → After es (part_released p part w)
  unfolding part_released set_phase set_released with_released
  part_chains part es w D =
      if_cases (After es) (all_released w₁) (λ e. links_after es {w = w₁} (abandon_links p abandoned in_gc w₁) D) (λ e. D)
    where
      w₁ : Words
      w₁ = set_released part 1 (set_phase 2 w)

  -- the plan of a release, after its releases
  pub part_after : (ms : List ℕ) (part : ℕ) (f : Freed) → GoodTables p ms f.words f.states → After f.events f.words
      → let g : Freed = eagerly p ms part f in After g.events (part_released p part g.words)
  part_after ms part f H D = part_chains part _ _ (eagerly_after ms f (good_wide p H) part D)
