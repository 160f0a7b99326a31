-- The chains of free cells of all blocks, by a shadow: each block's chain as a list of addresses. It stands in the heap, its cells
-- are whole cells of their block, and none is repeated. What each event does to it. Assumes nothing.
use mathlib.Core.Path.{◌≡◌, refl, sym, ap, ◌∙◌, subst}
use mathlib.Core.Logic.{◌≢◌, ◌⊎◌, inl, inr}
use mathlib.Core.Bool.{false}
use mathlib.Core.List.{List, [], ◌∷◌, ◌++◌, head_d}
use Prim.Native.Nat.{ℕ, suc, ◌+◌, ◌-◌, ◌≤◌, ◌<◌}
use native.Mathlib.Omega.{arith}
use native.Mathlib.Decide.{ℕ_discrete}
use lib.ListN.{length, get_or, set, length-set}
use lib.Seq.{get_or-set_same, get_or-set_other, set-get_or}
use Rattle.model.specs.declared.Params.{Params}
use Rattle.model.specs.Base.{In, Pairwise}
use Rattle.model.specs.Params.{start, block_at, heap_bytes}
use Rattle.model.specs.Memory.{load, zeroed, marked}
use Rattle.model.specs.Block.{link_all, keeps, cell_count, sweep_chain, init_chain, ChainStands}
use Rattle.model.specs.Events.{Event, initialised, swept, released, taken, spent, event_heap, events_heap}
use Rattle.laws.proofs.Base.{pairwise_more}
use Rattle.laws.proofs.Params.{Bounds}
use Rattle.laws.proofs.Memory as Mem
use Rattle.laws.proofs.Cells.{Whole, whole_apart, whole_from_lem, whole_block_at, Desc, in_chain, desc_cells_down, desc_less, length_link_all, same_link_all, stands_frame, stands_link_all, whole_placed}

-- ---- stores

-- a list's entry after a store, for any element
pub set_cases : {A : Type 0} (l : List A) (i : ℕ) (v d : A) (j : ℕ) → i < length l
    → ((j ≡ i) × (get_or (set l i v) j d ≡ v)) ⊎ ((j ≢ i) × (get_or (set l i v) j d ≡ get_or l j d))
set_cases l i v d j h = go (ℕ_discrete j i)
  where
    go : Dec (j ≡ i) → ((j ≡ i) × (get_or (set l i v) j d ≡ v)) ⊎ ((j ≢ i) × (get_or (set l i v) j d ≡ get_or l j d))
    go (yes e) = inl (e, ap (λ (x : ℕ). get_or (set l i v) x d) e ∙ get_or-set_same l i v d h)
    go (no f) = inr (f, get_or-set_other l i j v d f)

-- ---- the shadow

unfoldable pub shadow_event : Event → List (List ℕ) → List (List ℕ)
shadow_event (initialised b chain) sh = set sh b chain
shadow_event (swept b chain) sh = set sh b chain
shadow_event (released b) sh = set sh b []
shadow_event (taken a s) sh = sh
shadow_event (spent b) sh = sh

unfoldable pub shadow_events : List Event → List (List ℕ) → List (List ℕ)
shadow_events [] sh = sh
shadow_events (e ∷ es) sh = shadow_events es (shadow_event e sh)

-- one event behind others
pub heap_behind : (p : Params) (es : List Event) (e : Event) (h : List ℕ) → events_heap p (es ++ (e ∷ [])) h ≡ event_heap p e (events_heap p es h)
unfolding events_heap
heap_behind p [] e h = refl
heap_behind p (x ∷ es) e h = heap_behind p es e (event_heap p x h)

pub shadow_behind : (es : List Event) (e : Event) (sh : List (List ℕ)) → shadow_events (es ++ (e ∷ [])) sh ≡ shadow_event e (shadow_events es sh)
unfolding shadow_events
shadow_behind [] e sh = refl
shadow_behind (x ∷ es) e sh = shadow_behind es e (shadow_event x sh)

-- a block that goes to a consumed list changes neither
pub heap_spent : (p : Params) (es : List Event) (b : ℕ) (h : List ℕ) → events_heap p (es ++ (spent b ∷ [])) h ≡ events_heap p es h
unfolding event_heap
heap_spent p es b h = heap_behind p es (spent b) h

pub shadow_spent : (es : List Event) (b : ℕ) (sh : List (List ℕ)) → shadow_events (es ++ (spent b ∷ [])) sh ≡ shadow_events es sh
unfolding shadow_event
shadow_spent es b sh = shadow_behind es (spent b) sh

-- no element is repeated
abbrev pub Distinct : List ℕ → Type 0
Distinct l = Pairwise (λ x y. x ≢ y) l

module _ (p : Params) where
  -- the chain of the block b, from its free head on; its free count is its length
  pub record BlockChain (h : List ℕ) (b head size n : ℕ) (chain : List ℕ) : Type 0 where
    pub stands : ChainStands p h head chain
    pub cells : (x : ℕ) → In x chain → Whole p b size x
    pub once : Distinct chain
    pub count : n ≡ length chain

  pub record Chains (free size cells h : List ℕ) (sh : List (List ℕ)) : Type 0 where
    pub heap : length h ≡ heap_bytes p
    pub heads : length free ≡ p.blocks
    pub sizes : length size ≡ p.blocks
    pub counts : length cells ≡ p.blocks
    pub shadow : length sh ≡ p.blocks
    pub blocks : (b : ℕ) → b < p.blocks → BlockChain h b (get_or free b 0) (get_or size b 0) (get_or cells b 0) (get_or sh b [])

module _ (p : Params) (B : Bounds p) where
  -- first words, and whole ranges, of two cells that are not one
  module _ (b s x b' s' y : ℕ) (lb : b < p.blocks) (lb' : b' < p.blocks) (X : Whole p b s x) (Y : Whole p b' s' y)
      (same : b ≡ b' → s ≡ s') (ne : x ≢ y) where
    pub cells_apart : Mem.Apart (x - p.base) s (y - p.base) s'
    cells_apart =
        Mem.apart_places p.base x s y s' (whole_from_lem p B b s x lb X) (whole_from_lem p B b' s' y lb' Y)
        (whole_apart p b s x b' s' y lb lb' X Y same ne)

    pub word_apart : Mem.Apart (x - p.base) 8 (y - p.base) s'
    word_apart = Mem.apart_in _ _ _ _ _ _ _ _ cells_apart (omega arith) (omega (arith, X.word)) (omega arith) (omega arith)

    pub words_apart : Mem.Apart (x - p.base) 8 (y - p.base) 8
    words_apart = Mem.apart_in _ _ _ _ _ _ _ _ word_apart (omega arith) (omega arith) (omega arith) (omega (arith, Y.word))

    pub wide_apart : Mem.Apart (x - p.base) s (y - p.base) 8
    wide_apart = Mem.apart_in _ _ _ _ _ _ _ _ cells_apart (omega arith) (omega arith) (omega arith) (omega (arith, Y.word))

  -- a chain's first address
  stands_head : (h : List ℕ) (a : ℕ) (l : List ℕ) → ChainStands p h a l → a ≡ head_d l 0
  unfolding ChainStands head_d
  stands_head h a [] c = c
  stands_head h a (x ∷ l) c = c.0

  -- cells that descend are not repeated
  desc_once : (l : List ℕ) → Desc 8 l → Distinct l
  desc_once l d = pairwise_more (λ x y. y + 8 ≤ x) (λ x y. x ≢ y) l (λ x y r e. omega (arith, e)) d

  -- cells of no block, and of other blocks, in one
  same_cell : (b s x d t y : ℕ) → b < p.blocks → d < p.blocks → Whole p b s x → Whole p d t y → x ≡ y → d ≡ b
  same_cell b s x d t y lb ld X Y e = sym (whole_block_at p B d t y ld Y) ∙ ap (block_at p) (sym e) ∙ whole_block_at p B b s x lb X

  module _ (free size cells h : List ℕ) (sh : List (List ℕ)) (I : Chains p free size cells h sh) (b : ℕ) (lb : b < p.blocks) where
    -- ---- the block b has another chain in another heap, in which the first words of other blocks' free cells stay

    restored : (h' : List ℕ) (v s n : ℕ) (chain : List ℕ) → length h' ≡ length h → BlockChain p h' b v s n chain
        → ((d : ℕ) → d < p.blocks → d ≢ b → (y : ℕ) → In y (get_or sh d []) → Mem.Same h h' (y - p.base) 8)
        → Chains p (set free b v) (set size b s) (set cells b n) h' (set sh b chain)
    restored h' v s n chain len new same =
        record {
          heap = len ∙ I.heap;
          heads = length-set free b v ∙ I.heads;
          sizes = length-set size b s ∙ I.sizes;
          counts = length-set cells b n ∙ I.counts;
          shadow = length-set sh b chain ∙ I.shadow;
          blocks = λ d ld. block_of d ld (ℕ_discrete d b);
        }
      where
        block_of : (d : ℕ) → d < p.blocks → Dec (d ≡ b)
            → BlockChain p h' d (get_or (set free b v) d 0) (get_or (set size b s) d 0) (get_or (set cells b n) d 0) (get_or (set sh b chain) d [])
        block_of d ld (yes e) =
            subst (λ (x : ℕ). BlockChain p h' x (get_or (set free b v) x 0) (get_or (set size b s) x 0) (get_or (set cells b n) x 0) (get_or (set sh b chain) x [])) (sym e)
            (rw (
              get_or-set_same free b v 0 (omega (arith, I.heads)),
              get_or-set_same size b s 0 (omega (arith, I.sizes)),
              get_or-set_same cells b n 0 (omega (arith, I.counts)),
              get_or-set_same sh b chain [] (omega (arith, I.shadow)),
            ) new)
        block_of d ld (no f) =
            let K = I.blocks d ld in
            rw (get_or-set_other free b d v 0 f, get_or-set_other size b d s 0 f, get_or-set_other cells b d n 0 f, get_or-set_other sh b d chain [] f)
            (record { stands = stands_frame p h h' (get_or free d 0) (get_or sh d []) (same d ld f) K.stands; cells = K.cells; once = K.once; count = K.count })

    -- and its cell size stays
    restored_size : (h' : List ℕ) (v n : ℕ) (chain : List ℕ) → length h' ≡ length h → BlockChain p h' b v (get_or size b 0) n chain
        → ((d : ℕ) → d < p.blocks → d ≢ b → (y : ℕ) → In y (get_or sh d []) → Mem.Same h h' (y - p.base) 8)
        → Chains p (set free b v) size (set cells b n) h' (set sh b chain)
    restored_size h' v n chain len new same =
        subst (λ (z : List ℕ). Chains p (set free b v) z (set cells b n) h' (set sh b chain)) (set-get_or size b 0)
        (restored h' v (get_or size b 0) n chain len new same)

    -- ---- a block's chain is built anew, by a sweep or an init

    module _ (chain : List ℕ) (s : ℕ) (whole : (x : ℕ) → In x chain → Whole p b s x) (desc : Desc 8 chain) where
      new_chain : BlockChain p (link_all p chain h) b (head_d chain 0) s (length chain) chain
      new_chain =
          record {
            stands = stands_link_all p chain h (whole_placed p h b s chain B I.heap lb whole) desc;
            cells = whole;
            once = desc_once chain desc;
            count = refl;
          }

      -- others stay
      others_linked : (d : ℕ) → d < p.blocks → d ≢ b → (y : ℕ) → In y (get_or sh d []) → Mem.Same h (link_all p chain h) (y - p.base) 8
      others_linked d ld ne y m =
          let Y = (I.blocks d ld).cells y m in
          same_link_all p chain h (y - p.base) 8
          (λ x k. words_apart b s x d (get_or size d 0) y lb ld (whole x k) Y (λ e. absurd (ne (sym e)))
          (λ e. ne (same_cell b s x d (get_or size d 0) y lb ld (whole x k) Y e)))

    -- a sweep: the cell size stays
    module _ (ms chain : List ℕ) (word : 8 ≤ get_or size b 0) (is : chain ≡ sweep_chain p ms b (get_or size b 0)) where
      pub swept_cell : (x : ℕ) → In x chain → Whole p b (get_or size b 0) x × (keeps p (marked p ms) (get_or size b 0) x ≡ false)
      unfolding sweep_chain
      swept_cell x m = in_chain p (keeps p (marked p ms) (get_or size b 0)) b (get_or size b 0) x word (subst (In x) is m)

      swept_desc : Desc 8 chain
      unfolding sweep_chain
      swept_desc = subst (Desc 8) (sym is) (desc_less (get_or size b 0) 8 _ word (desc_cells_down _ (start p b) (get_or size b 0) (cell_count p (get_or size b 0))))

      pub sweep_chains : Chains p (set free b (head_d chain 0)) size (set cells b (length chain)) (link_all p chain h) (set sh b chain)
      sweep_chains =
          let whole : (x : ℕ) → In x chain → Whole p b (get_or size b 0) x = λ x m. (swept_cell x m).0 in
          restored_size (link_all p chain h) (head_d chain 0) (length chain) chain (length_link_all p chain h)
          (new_chain chain (get_or size b 0) whole swept_desc) (others_linked chain (get_or size b 0) whole swept_desc)

    -- an init
    module _ (chain : List ℕ) (s : ℕ) (word : 8 ≤ s) (is : chain ≡ init_chain p b s) where
      pub init_cell : (x : ℕ) → In x chain → Whole p b s x
      unfolding init_chain
      init_cell x m = (in_chain p (λ a. false) b s x word (subst (In x) is m)).0

      init_desc : Desc 8 chain
      unfolding init_chain
      init_desc = subst (Desc 8) (sym is) (desc_less s 8 _ word (desc_cells_down (λ a. false) (start p b) s (cell_count p s)))

      pub init_chains : Chains p (set free b (head_d chain 0)) (set size b s) (set cells b (length chain)) (link_all p chain h) (set sh b chain)
      init_chains =
          restored (link_all p chain h) (head_d chain 0) s (length chain) chain (length_link_all p chain h)
          (new_chain chain s init_cell init_desc) (others_linked chain s init_cell init_desc)

    -- ---- a release: the block has no chain

    pub release_chains : Chains p (set free b 0) (set size b 0) (set cells b 0) h (set sh b [])
    unfolding ChainStands In Pairwise
    release_chains =
        restored h 0 0 0 [] refl (record { stands = refl; cells = λ x m. absurd m; once = tt; count = refl }) (λ d ld ne y m k lo hi. refl)

    -- ---- the first cell of a block's chain is taken

    module _ (x : ℕ) (l : List ℕ) (top : get_or sh b [] ≡ x ∷ l) where
      here : BlockChain p h b (get_or free b 0) (get_or size b 0) (get_or cells b 0) (x ∷ l)
      here = subst (λ (c : List ℕ). BlockChain p h b (get_or free b 0) (get_or size b 0) (get_or cells b 0) c) top (I.blocks b lb)

      pub first_whole : Whole p b (get_or size b 0) x
      unfolding In
      first_whole = here.cells x (inl refl)

      pub first_head : get_or free b 0 ≡ x
      unfolding ChainStands
      first_head = here.stands.0

      -- the link read is the rest's head
      pub first_link : load p h x ≡ head_d l 0
      unfolding ChainStands
      first_link = stands_head h (load p h x) l here.stands.1

      pub first_count : get_or cells b 0 ≡ suc (length l)
      first_count = here.count

      pub rest_cell : (y : ℕ) → In y l → Whole p b (get_or size b 0) y
      unfolding In
      rest_cell y m = here.cells y (inr m)

      pub rest_other : (y : ℕ) → In y l → x ≢ y
      unfolding Pairwise
      rest_other y m = here.once.0 y m

      -- other cells keep their first words
      zero_word : (d : ℕ) → d < p.blocks → (y : ℕ) → Whole p d (get_or size d 0) y → x ≢ y → Mem.Same h (zeroed p h x (get_or size b 0)) (y - p.base) 8
      zero_word d ld y Y ne =
          Mem.same_zeroed p h x (get_or size b 0) (y - p.base) 8
          (wide_apart b (get_or size b 0) x d (get_or size d 0) y lb ld first_whole Y (λ e. ap (λ (z : ℕ). get_or size z 0) e) ne)

      pub take_chains : Chains p (set free b (head_d l 0)) size (set cells b (get_or cells b 0 - 1)) (zeroed p h x (get_or size b 0)) (set sh b l)
      unfolding Pairwise ChainStands
      take_chains =
          restored_size H (head_d l 0) (get_or cells b 0 - 1) l (Mem.length_zeroed p h x (get_or size b 0))
          (record {
            stands = stands_frame p h H (head_d l 0) l (λ y m. zero_word b lb y (rest_cell y m) (rest_other y m))
                (subst (λ (v : ℕ). ChainStands p h v l) first_link here.stands.1);
            cells = rest_cell;
            once = here.once.1;
            count = omega (arith, first_count);
          })
          (λ d ld ne y m.
          let Y = (I.blocks d ld).cells y m in
          zero_word d ld y Y (λ q. ne (same_cell b _ x d _ y lb ld first_whole Y q)))
        where
          H : List ℕ
          H = zeroed p h x (get_or size b 0)
