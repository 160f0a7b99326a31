-- The invariant of a run, and what each event does to it.
--
-- The shadow is each block's free chain, as a list of addresses (soundness Chains). No held cell is on it. Held cells are whole
-- cells of occupied blocks. The mark bits say what the book's places say, and a block with a place is Marked.
use Rattle.std.specs.Prelude.{if◌then◌else◌}
use mathlib.Core.Path.{◌≡◌, refl, sym, ap, ◌∙◌, subst}
use mathlib.Core.Logic.{◌≢◌, ◌⊎◌, inl, inr, ⊎_elim}
use mathlib.Core.Bool.{Bool, true, false, not, ◌&&◌}
use mathlib.Core.List.{List, [], ◌∷◌, head_d}
use Prim.Native.Nat.{ℕ, ◌+◌, ◌-◌, ◌*◌, ◌/◌, ◌%◌, ◌≤◌, ◌<◌}
use native.Mathlib.Omega.{arith}
use native.Mathlib.Decide.{ℕ_discrete, dec_lt}
use lib.Dec.{eqb}
use lib.ListN.{length, get_or, set, length-set, get_or-eq_default}
use lib.Seq.{get_or-set_other}
use borrow.Author.Tests.{eqb-false, eq-eqb, ne_eqb, not-true}
use Rattle.model.specs.declared.Params.{Params}
use Rattle.model.specs.Base.{In, Pairwise, member, any_below}
use Rattle.model.specs.Params.{block_at, in_heap, heap_bytes, plus_lower, minus_lower, biased}
use Rattle.model.specs.Memory.{zeroed, marked}
use Rattle.model.specs.SizeClasses.{words_in}
use Rattle.model.specs.Block.{link_all, keeps, simple, sweep_chain, init_chain, state_marked}
use Rattle.model.specs.Events.{Event, initialised, swept, released}
use Rattle.model.specs.Runs.{Cell, Book, frees, entered, book_event, unmarked, hits}
use Rattle.laws.proofs.Base.{in_filter, pairwise_filter, in_member, member_in, same_test, any_same, not_both, below_none_any, and_right}
use Rattle.laws.proofs.Params.{Bounds, start_in}
use Rattle.laws.proofs.Memory as Mem
use Rattle.laws.proofs.Cells.{Whole, whole_from_lem, whole_block, whole_block_at, chain_in, same_link_all}
use Rattle.soundness.proofs.Chains.{set_cases, Chains, cells_apart, word_apart, swept_cell, sweep_chains, init_cell, init_chains, release_chains, first_whole, rest_other, take_chains}

module _ (p : Params) where
  -- a held cell
  pub record Held (sz st : List ℕ) (c : Cell) : Type 0 where
    pub low : block_at p c.start < p.blocks
    pub occupied : get_or st (block_at p c.start) 0 ≢ 0
    pub whole : Whole p (block_at p c.start) c.size c.start
    pub size : c.size ≡ get_or sz (block_at p c.start) 0

  -- a place of the book
  pub record Placed (st : List ℕ) (q : ℕ) : Type 0 where
    pub inside : in_heap p q ≡ true
    pub whole : q % 8 ≡ 0
    pub state : get_or st (block_at p (minus_lower p q)) 0 ≡ state_marked

  pub record Core (free size cells st ms h : List ℕ) (sh : List (List ℕ)) (bk : Book) : Type 0 where
    pub chains : Chains p free size cells h sh
    pub states : length st ≡ p.blocks
    pub markings : length ms ≡ heap_bytes p / 64
    pub bytes : Mem.Bytes ms
    pub words : (b : ℕ) → get_or size b 0 % 8 ≡ 0
    pub held : (c : Cell) → In c bk.cells → Held size st c
    pub off : (c : Cell) → In c bk.cells → In c.start (get_or sh (block_at p c.start) []) → ⊥
    pub apart : Pairwise (λ c d. c.start ≢ d.start) bk.cells
    pub marks : (a : ℕ) → a % 8 ≡ 0 → marked p ms a ≡ member a bk.places
    pub places : (q : ℕ) → In q bk.places → Placed st q

module _ (p : Params) (B : Bounds p) where
  -- cells of whole words start at multiples of 8
  times_eight : (k s : ℕ) → s % 8 ≡ 0 → (k * s) % 8 ≡ 0
  times_eight k s e =
      let q : s ≡ 8 * (s / 8) = omega (arith, e) in
      let r : k * s ≡ 8 * (k * (s / 8)) = ap (λ (x : ℕ). k * x) q ∙ omega arith in
      omega (arith, r)

  pub whole_eight : (b s a : ℕ) → b < p.blocks → s % 8 ≡ 0 → Whole p b s a → a % 8 ≡ 0
  whole_eight b s a lb e W =
      omega (arith, W.at, start_in p b lb, times_eight W.k s e, times_eight b p.bytes B.bytes_words, B.base_words)

  -- ---- a block's chain is built anew: a sweep, or an init with another size and state

  module _ (free size cells st ms h : List ℕ) (sh : List (List ℕ)) (bk : Book) (I : Core p free size cells st ms h sh bk)
      (b : ℕ) (lb : b < p.blocks) (chain : List ℕ) where
    -- the bytes of a held cell that is not on the new chain
    kept_bytes : (s : ℕ) → ((x : ℕ) → In x chain → Whole p b s x) → (c : Cell) → Held p size st c → (block_at p c.start ≡ b → c.size ≡ s)
        → (In c.start chain → ⊥) → Mem.Same h (link_all p chain h) (c.start - p.base) c.size
    kept_bytes s cells c H same out =
        same_link_all p chain h (c.start - p.base) c.size
        (λ x k. word_apart p B b s x (block_at p c.start) c.size c.start lb H.low (cells x k) H.whole
        (λ e. sym (same (sym e))) (λ e. out (subst (λ (z : ℕ). In z chain) e k)))

    -- the mark bits and the book's places keep the same cells
    pub keeps_same : (s a : ℕ) → a % 8 ≡ 0 → 64 ≤ a → keeps p (marked p ms) s a ≡ keeps p (λ (x : ℕ). member x bk.places) s a
    unfolding keeps plus_lower
    keeps_same s a e low = go (simple p)
      where
        go : (t : Bool)
            → (if t then marked p ms a else any_below (words_in s) (λ k. marked p ms (((a + 8 * k) + biased p.lower) - 64)))
            ≡ (if t then member a bk.places else any_below (words_in s) (λ k. member (((a + 8 * k) + biased p.lower) - 64) bk.places))
        go true = I.marks a e
        go false = any_same (words_in s) _ _ (λ k l. I.marks (((a + 8 * k) + biased p.lower) - 64) (omega (arith, B.lower_words)))

    -- what an event leaves in the book was there
    pub was_held : (hd : ℕ) (e : Event) → ((cs : List Cell) → entered hd e cs ≡ cs) → (c : Cell) → In c (book_event p hd e bk).cells
        → In c bk.cells × (frees p e c ≡ false)
    unfolding book_event
    was_held hd e same c m =
        let k = in_filter (λ (x : Cell). not (frees p e x)) c bk.cells (subst (In c) (same _) m) in
        (k.0, not-true _ k.1)

    still_apart : (hd : ℕ) (e : Event) → ((cs : List Cell) → entered hd e cs ≡ cs) → Pairwise (λ c d. c.start ≢ d.start) (book_event p hd e bk).cells
    unfolding book_event
    still_apart hd e same = subst (Pairwise (λ c d. c.start ≢ d.start)) (sym (same _)) (pairwise_filter _ _ bk.cells I.apart)

    -- ---- a sweep

    module _ (occ : get_or st b 0 ≢ 0) (word : 8 ≤ get_or size b 0) (is : chain ≡ sweep_chain p ms b (get_or size b 0)) (hd : ℕ) where
      cell_swept : (x : ℕ) → In x chain → Whole p b (get_or size b 0) x × (keeps p (marked p ms) (get_or size b 0) x ≡ false)
      cell_swept = swept_cell p B free size cells h sh I.chains b lb ms chain word is

      pub sweep_core : Core p (set free b (head_d chain 0)) size (set cells b (length chain)) st ms (link_all p chain h) (set sh b chain) (book_event p hd (swept b chain) bk)
      unfolding book_event entered frees
      sweep_core =
          record {
            chains = sweep_chains p B free size cells h sh I.chains b lb ms chain word is;
            states = I.states;
            markings = I.markings;
            bytes = I.bytes;
            words = I.words;
            held = λ c m. I.held c (was c m).0;
            off = off_of;
            apart = still_apart hd (swept b chain) (λ cs. refl);
            marks = I.marks;
            places = I.places;
          }
        where
          was : (c : Cell) → In c (book_event p hd (swept b chain) bk).cells → In c bk.cells × (member c.start chain ≡ false)
          was = was_held hd (swept b chain) (λ cs. refl)

          off_of : (c : Cell) → In c (book_event p hd (swept b chain) bk).cells → In c.start (get_or (set sh b chain) (block_at p c.start) []) → ⊥
          off_of c m k = ⊎_elim
              (λ e. not_both _ (in_member c.start chain (subst (In c.start) e.1 k)) (was c m).1)
              (λ e. I.off c (was c m).0 (subst (In c.start) e.1 k))
              (set_cases sh b chain [] (block_at p c.start) (omega (arith, I.chains.shadow)))

      -- a held cell that the sweep leaves keeps its bytes
      pub sweep_bytes : (c : Cell) → In c bk.cells → frees p (swept b chain) c ≡ false → Mem.Same h (link_all p chain h) (c.start - p.base) c.size
      unfolding frees
      sweep_bytes c m out =
          kept_bytes (get_or size b 0) (λ x k. (cell_swept x k).0) c (I.held c m)
          (λ e. (I.held c m).size ∙ ap (λ (z : ℕ). get_or size z 0) e)
          (λ k. not_both _ (in_member c.start chain k) out)

      -- a sweep frees the held cells of its block that are unmarked, and no other
      pub sweep_frees : (c : Cell) → In c bk.cells → frees p (swept b chain) c ≡ (hits p (swept b chain) c && unmarked p bk c)
      unfolding frees hits unmarked sweep_chain
      sweep_frees c m = go (ℕ_discrete (block_at p c.start) b)
        where
          H : Held p size st c
          H = I.held c m

          go : Dec (block_at p c.start ≡ b) → member c.start chain ≡ (eqb (block_at p c.start) b && not (keeps p (λ a. member a bk.places) c.size c.start))
          go (yes e) =
              let z : c.size ≡ get_or size b 0 = H.size ∙ ap (λ (x : ℕ). get_or size x 0) e in
              let W : Whole p b (get_or size b 0) c.start =
              subst (λ (x : ℕ). Whole p b x c.start) z (subst (λ (x : ℕ). Whole p x c.size c.start) e H.whole) in
              let k : keeps p (marked p ms) (get_or size b 0) c.start ≡ keeps p (λ (x : ℕ). member x bk.places) c.size c.start =
              keeps_same (get_or size b 0) c.start (whole_eight b (get_or size b 0) c.start lb (I.words b) W)
              (omega (arith, whole_from_lem p B b (get_or size b 0) c.start lb W, B.base_low))
              ∙ ap (λ (x : ℕ). keeps p (λ (y : ℕ). member y bk.places) x c.start) (sym z) in
              rw (eq-eqb _ _ e) (same_test _ _
              (λ m'. ap not (sym k ∙ (cell_swept c.start (member_in _ _ m')).1))
              (λ n. in_member _ _ (subst (In c.start) (sym is)
              (chain_in p (keeps p (marked p ms) (get_or size b 0)) b (get_or size b 0) c.start W (k ∙ not-true _ n)))))
          go (no f) = rw (ne_eqb _ _ f) (same_test _ _ (λ k. absurd (f (whole_block_at p B b (get_or size b 0) c.start lb (cell_swept c.start (member_in _ _ k)).0))) (λ k. absurd (not_both _ k refl)))

    -- ---- an init: the block was Unallocated, so no cell of it is held and it has no place

    module _ (none : get_or st b 0 ≡ 0) (s : ℕ) (word : 8 ≤ s) (whole : s % 8 ≡ 0)
        (is : chain ≡ init_chain p b s) (hd : ℕ) where
      cell_init : (x : ℕ) → In x chain → Whole p b s x
      cell_init = init_cell p B free size cells h sh I.chains b lb chain s word is

      not_here : (c : Cell) → In c bk.cells → block_at p c.start ≢ b
      not_here c m e = (I.held c m).occupied (ap (λ (x : ℕ). get_or st x 0) e ∙ none)

      pub init_core : Core p (set free b (head_d chain 0)) (set size b s) (set cells b (length chain)) (set st b 255) ms (link_all p chain h) (set sh b chain) (book_event p hd (initialised b chain) bk)
      unfolding book_event entered frees
      init_core =
          record {
            chains = init_chains p B free size cells h sh I.chains b lb chain s word is;
            states = length-set st b 255 ∙ I.states;
            markings = I.markings;
            bytes = I.bytes;
            words = λ d. word_of d;
            held = λ c m. held_of c (was c m).0;
            off = off_of;
            apart = still_apart hd (initialised b chain) (λ cs. refl);
            marks = I.marks;
            places = λ q m. place_of q (I.places q m);
          }
        where
          was : (c : Cell) → In c (book_event p hd (initialised b chain) bk).cells → In c bk.cells × (false ≡ false)
          was = was_held hd (initialised b chain) (λ cs. refl)

          word_of : (d : ℕ) → get_or (set size b s) d 0 % 8 ≡ 0
          word_of d = ⊎_elim (λ e. rw e.1 whole) (λ e. rw e.1 (I.words d)) (set_cases size b s 0 d (omega (arith, I.chains.sizes)))

          held_of : (c : Cell) → In c bk.cells → Held p (set size b s) (set st b 255) c
          held_of c m =
              let H = I.held c m in
              record {
                low = H.low;
                occupied = rw (get_or-set_other st b (block_at p c.start) 255 0 (not_here c m)) H.occupied;
                whole = H.whole;
                size = H.size ∙ sym (get_or-set_other size b (block_at p c.start) s 0 (not_here c m));
              }

          off_of : (c : Cell) → In c (book_event p hd (initialised b chain) bk).cells → In c.start (get_or (set sh b chain) (block_at p c.start) []) → ⊥
          off_of c m k = I.off c (was c m).0 (rw (get_or-set_other sh b (block_at p c.start) chain [] (not_here c (was c m).0)) at k)

          place_of : (q : ℕ) → Placed p st q → Placed p (set st b 255) q
          place_of q P =
              record {
                inside = P.inside;
                whole = P.whole;
                state = get_or-set_other st b _ 255 0 (λ e. absurd (omega (arith, P.state, ap (λ (x : ℕ). get_or st x 0) e ∙ none))) ∙ P.state;
              }

      pub init_bytes : (c : Cell) → In c bk.cells → Mem.Same h (link_all p chain h) (c.start - p.base) c.size
      init_bytes c m =
          kept_bytes s cell_init c (I.held c m) (λ e. absurd (not_here c m e))
          (λ k. not_here c m (whole_block_at p B b s c.start lb (cell_init c.start k)))

  -- ---- a release: the block was Unmarked, so it has no place and none of its cells is marked

  module _ (free size cells st ms h : List ℕ) (sh : List (List ℕ)) (bk : Book) (I : Core p free size cells st ms h sh bk)
      (b : ℕ) (un : get_or st b 0 ≡ 255) (hd : ℕ) where
    pub in_range : b < p.blocks
    in_range = go (dec_lt b p.blocks)
      where
        go : Dec (b < p.blocks) → b < p.blocks
        go (yes l) = l
        go (no f) = absurd (omega (arith, un, get_or-eq_default st 0 {n = b} (omega (arith, I.states))))

    pub release_core : Core p (set free b 0) (set size b 0) (set cells b 0) (set st b 0) ms h (set sh b []) (book_event p hd (released b) bk)
    unfolding book_event entered frees
    release_core =
        record {
          chains = release_chains p B free size cells h sh I.chains b in_range;
          states = length-set st b 0 ∙ I.states;
          markings = I.markings;
          bytes = I.bytes;
          words = word_of;
          held = λ c m. held_of c (was c m).0 (eqb-false _ _ (was c m).1);
          off = off_of;
          apart = still_apart free size cells st ms h sh bk I b in_range [] hd (released b) (λ cs. refl);
          marks = I.marks;
          places = λ q m. place_of q (I.places q m);
        }
      where
        was : (c : Cell) → In c (book_event p hd (released b) bk).cells → In c bk.cells × (eqb (block_at p c.start) b ≡ false)
        was = was_held free size cells st ms h sh bk I b in_range [] hd (released b) (λ cs. refl)

        word_of : (d : ℕ) → get_or (set size b 0) d 0 % 8 ≡ 0
        word_of d = ⊎_elim (λ e. rw e.1) (λ e. rw e.1 (I.words d)) (set_cases size b 0 0 d (omega (arith, I.chains.sizes, in_range)))

        held_of : (c : Cell) → In c bk.cells → block_at p c.start ≢ b → Held p (set size b 0) (set st b 0) c
        held_of c m ne =
            let H = I.held c m in
            record {
              low = H.low;
              occupied = rw (get_or-set_other st b (block_at p c.start) 0 0 ne) H.occupied;
              whole = H.whole;
              size = H.size ∙ sym (get_or-set_other size b (block_at p c.start) 0 0 ne);
            }

        off_of : (c : Cell) → In c (book_event p hd (released b) bk).cells → In c.start (get_or (set sh b []) (block_at p c.start) []) → ⊥
        off_of c m k = I.off c (was c m).0 (rw (get_or-set_other sh b (block_at p c.start) [] [] (eqb-false _ _ (was c m).1)) at k)

        place_of : (q : ℕ) → Placed p st q → Placed p (set st b 0) q
        place_of q P =
            record {
              inside = P.inside;
              whole = P.whole;
              state = get_or-set_other st b _ 0 0 (λ e. absurd (omega (arith, P.state, ap (λ (x : ℕ). get_or st x 0) e ∙ un))) ∙ P.state;
            }

    -- a place keeps cells of Marked blocks only
    no_place : (a q : ℕ) → block_at p a ≡ b → 64 ≤ a → q ≡ plus_lower p a → In q bk.places → ⊥
    unfolding minus_lower plus_lower
    no_place a q e low is m =
        let P = I.places q m in
        let back : ((q + 64) - biased p.lower) ≡ a = omega (arith, is, B.lower_high) in
        absurd (omega (arith, P.state, ap (λ (x : ℕ). get_or st (block_at p x) 0) back ∙ ap (λ (x : ℕ). get_or st x 0) e ∙ un))

    -- so every held cell of the block is unmarked
    pub release_unmarked : (c : Cell) → In c bk.cells → block_at p c.start ≡ b → unmarked p bk c ≡ true
    unfolding unmarked keeps simple plus_lower words_in
    release_unmarked c m e = ap not (go (simple p) refl)
      where
        H : Held p size st c
        H = I.held c m

        low : 64 ≤ c.start
        low = omega (arith, whole_from_lem p B _ _ _ H.low H.whole, B.base_low)

        none : (q : ℕ) → (In q bk.places → ⊥) → member q bk.places ≡ false
        none q f = same_test _ _ (λ k. absurd (f (member_in q _ k))) (λ k. absurd (not_both _ k refl))

        still : simple p ≡ true → c.start ≡ plus_lower p c.start
        still s = let u = B.lower_unified (and_right (not p.offsets && eqb p.min p.max) p.unified s) in omega (arith, u)

        inside : (k : ℕ) → k < words_in c.size → block_at p (c.start + 8 * k) ≡ b
        inside k l = whole_block p B _ _ _ H.low H.whole (8 * k) (omega (arith, l)) ∙ e

        go : (t : Bool) → simple p ≡ t
            → (if t then member c.start bk.places else any_below (words_in c.size) (λ k. member (plus_lower p (c.start + 8 * k)) bk.places)) ≡ false
        go true s = none c.start (λ i. no_place c.start c.start e low (still s) i)
        go false s = below_none_any (words_in c.size) _ (λ k l. none _ (λ i. no_place (c.start + 8 * k) _ (inside k l) (omega (arith, low)) refl i))

  -- ---- the first cell of a block's chain is taken

  module _ (free size cells st ms h : List ℕ) (sh : List (List ℕ)) (bk : Book) (I : Core p free size cells st ms h sh bk)
      (b : ℕ) (lb : b < p.blocks) (occ : get_or st b 0 ≢ 0) (x : ℕ) (l : List ℕ) (top : get_or sh b [] ≡ x ∷ l) (hd : ℕ) where
    -- the first cell
    pub top_whole : Whole p b (get_or size b 0) x
    top_whole = first_whole p B free size cells h sh I.chains b lb x l top

    -- no held cell starts there
    pub not_held : (c : Cell) → In c bk.cells → x ≢ c.start
    unfolding In
    not_held c m e =
        let at : block_at p c.start ≡ b = ap (block_at p) (sym e) ∙ whole_block_at p B b _ x lb top_whole in
        I.off c m (subst (In c.start) (sym (ap (λ (d : ℕ). get_or sh d []) at ∙ top)) (inl (sym e)))

    pub take_bytes : (c : Cell) → In c bk.cells → Mem.Same h (zeroed p h x (get_or size b 0)) (c.start - p.base) c.size
    take_bytes c m =
        let H = I.held c m in
        Mem.same_zeroed p h x (get_or size b 0) (c.start - p.base) c.size
        (cells_apart p B b (get_or size b 0) x (block_at p c.start) c.size c.start lb H.low top_whole H.whole
        (λ e. ap (λ (d : ℕ). get_or size d 0) e ∙ sym H.size) (not_held c m))

    -- the new cell
    abbrev pub new : Cell
    new = record { start = x; size = get_or size b 0; holder = hd; old = false }

    pub take_core : Core p (set free b (head_d l 0)) size (set cells b (get_or cells b 0 - 1)) st ms (zeroed p h x (get_or size b 0)) (set sh b l)
        (record { cells = new ∷ bk.cells; places = bk.places })
    unfolding In Pairwise
    take_core =
        record {
          chains = take_chains p B free size cells h sh I.chains b lb x l top;
          states = I.states;
          markings = I.markings;
          bytes = I.bytes;
          words = I.words;
          held = held_of;
          off = off_of;
          apart = ((λ c m. not_held c m), I.apart);
          marks = I.marks;
          places = I.places;
        }
      where
        at : block_at p x ≡ b
        at = whole_block_at p B b _ x lb top_whole

        held_of : (c : Cell) → (c ≡ new) ⊎ In c bk.cells → Held p size st c
        held_of c (inl e) = subst (Held p size st) (sym e)
            (record {
              low = subst (λ (z : ℕ). z < p.blocks) (sym at) lb;
              occupied = subst (λ (z : ℕ). get_or st z 0 ≢ 0) (sym at) occ;
              whole = subst (λ (z : ℕ). Whole p z (get_or size b 0) x) (sym at) top_whole;
              size = ap (λ (z : ℕ). get_or size z 0) (sym at);
            })
        held_of c (inr m) = I.held c m

        -- what is on a chain now was on it before, and is not x
        shorter : (d y : ℕ) → In y (get_or (set sh b l) d []) → In y (get_or sh d []) × ((d ≡ b) → x ≢ y)
        shorter d y m = ⊎_elim
            (λ e. let m' : In y l = subst (In y) e.1 m in
            (subst (In y) (sym (ap (λ (z : ℕ). get_or sh z []) e.0 ∙ top)) (inr m'), λ q. rest_other p B free size cells h sh I.chains b lb x l top y m'))
            (λ e. (subst (In y) e.1 m, λ q. absurd (e.0 q)))
            (set_cases sh b l [] d (omega (arith, I.chains.shadow)))

        off_of : (c : Cell) → (c ≡ new) ⊎ In c bk.cells → In c.start (get_or (set sh b l) (block_at p c.start) []) → ⊥
        off_of c (inl e) k =
            (shorter (block_at p c.start) c.start k).1 (ap (λ (z : Cell). block_at p z.start) e ∙ at) (ap (λ (z : Cell). z.start) (sym e))
        off_of c (inr m) k = I.off c m (shorter (block_at p c.start) c.start k).0
