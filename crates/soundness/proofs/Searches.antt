-- What the search of an alloc moves, block by block, while it finds nothing: a block stays, or had no cell to give and is on the
-- holder's consumed list. It sweeps no cell free, so the heap stays; the first sweep that frees one ends the search. Rides on what
-- Alloc.antt shows of each step. Assumes nothing.
use mathlib.Core.Path.{◌≡◌, refl, sym, ap, ◌∙◌}
use mathlib.Core.Logic.{◌≢◌, ◌⊎◌, inl, inr, ⊎_elim}
use mathlib.Core.Bool.{Bool, true, false, ◌||◌}
use mathlib.Core.List.{List, [], ◌∷◌, ◌++◌, head_d}
use Prim.Native.Nat.{ℕ, ◌-◌, ◌<◌, ◌≤◌}
use native.Mathlib.Omega.{arith}
use native.Mathlib.Decide.{ℕ_discrete}
use lib.Dec.{eqb}
use lib.ListN.{get_or, length}
use borrow.Author.Tests.{eq-eqb}
use Rattle.model.specs.declared.Params.{Params}
use Rattle.model.specs.Base.{In}
use Rattle.model.specs.Memory.{marked}
use Rattle.model.specs.Params.{start, block_at, list_of, list_word, local_sets, abandoned, available, unswept, consumed}
use Rattle.model.specs.Tables.{Words, tables_of, set_first, set_last, set_next, set_prev, set_free, set_list, set_tls, set_cells}
use Rattle.model.specs.BlockList.{push, pop, pop_head, Popped}
use Rattle.model.specs.Block.{cell_count, cells_down, link_all, keeps, sweep_chain, swept_words}
use Rattle.model.specs.Events.{Event, spent, event_heap, events_heap}
use Rattle.model.specs.FreeListAllocator.{sweep_of}
use Rattle.model.specs.Refusals.{OnList, searches, HadNone, Unmoved, PassedOver}
use Rattle.laws.proofs.Base.{if_cases, not_both, or_left, or_right}
use Rattle.laws.proofs.Params.{Bounds, block_at_start, word_same}
use Rattle.laws.proofs.Stores.{set_at, set_off}
use Rattle.laws.proofs.Cells.{whole_nonzero, in_chain}
use Rattle.laws.proofs.Walks.{Numbered, available_numbered, unswept_numbered, Files, Steps}
use Rattle.laws.proofs.Tables.{Sized, lengths, sized_same, lengths_set_free, lengths_set_tls, lengths_set_cells}
use Rattle.laws.proofs.Frame.{LinksOnly, links_refl, push_links, pop_links, push_list, push_first, FirstsBut, pop_firsts}
use Rattle.soundness.proofs.Lists.{Lists, On, Same, put, Links, on_list, lists_same, first_none, first_some}
use Rattle.soundness.proofs.Moves.{push_stays, pop_words, pop_stays, pop_lists}
use Rattle.soundness.proofs.GoodTables.{GoodTables}
use Rattle.soundness.proofs.Chains.{heap_behind, heap_spent}
use Rattle.soundness.proofs.SoundLists.{Fit}
use Rattle.soundness.proofs.Alloc.{Tweaked, tweak_free, tweak_tls, my_available, my_unswept, my_consumed, SearchedSoFar, steps}

-- ---- one block moved

-- the lasts of other lists stay
push_last : (p : Params) (l b : ℕ) (w : Words) (n : ℕ) → n ≢ l → get_or (push p l b w).last n 0 ≡ get_or w.last n 0
unfolding push set_first set_last set_next set_prev set_list
push_last p l b w n f =
    if_cases (λ (x : Words). get_or x.last n 0 ≡ get_or w.last n 0) (eqb (get_or w.first l 0) 0)
    (λ e. set_off w.last l (start p b) n f) (λ e. refl)

pop_last : (p : Params) (l : ℕ) (w : Words) (n : ℕ) → n ≢ l → get_or (pop p l w).words.last n 0 ≡ get_or w.last n 0
unfolding pop pop_head set_first set_last set_next set_prev set_list
pop_last p l w n f =
    if_cases (λ (x : Popped). get_or x.words.last n 0 ≡ get_or w.last n 0) (eqb (get_or w.first l 0) 0) (λ e. refl)
    (λ e. if_cases (λ (x : Words). get_or x.last n 0 ≡ get_or w.last n 0)
    (eqb (get_or w.next (block_at p (get_or w.first l 0)) 0) 0) (λ g. set_off w.last l 0 n f) (λ g. refl))

-- the block x goes from the list l to the list c; u are the words after
pub record Move (l c x : ℕ) (w u : Words) : Type 0 where
  pub from : OnList w l x
  pub to : OnList u c x
  pub others : (b : ℕ) → b ≢ x → Unmoved w u b
  pub first : (n : ℕ) → n ≢ l → n ≢ c → get_or u.first n 0 ≡ get_or w.first n 0
  pub last : (n : ℕ) → n ≢ l → n ≢ c → get_or u.last n 0 ≡ get_or w.last n 0
  pub next : (b : ℕ) → (OnList w l b → ⊥) → (OnList w c b → ⊥) → get_or u.next b 0 ≡ get_or w.next b 0
  pub prev : (b : ℕ) → (OnList w l b → ⊥) → (OnList w c b → ⊥) → get_or u.prev b 0 ≡ get_or w.prev b 0

-- the head of a list
pub record Head (p : Params) (st : List ℕ) (w : Words) (L : ℕ → List ℕ) (l : ℕ) : Type 0 where
  pub rest : List ℕ
  pub is : L l ≡ block_at p (get_or w.first l 0) ∷ rest
  pub on : On p st w (list_word l) (block_at p (get_or w.first l 0))

pub head_of : (p : Params) (B : Bounds p) (st : List ℕ) (w : Words) (L : ℕ → List ℕ) → Lists p st w L → (l : ℕ) → l < 1470
    → get_or w.first l 0 ≢ 0 → Head p st w L l
unfolding In
head_of p B st w L K l low some = go (L l) refl
  where
    go : (xs : List ℕ) → L l ≡ xs → Head p st w L l
    go [] e = absurd (some (first_none p B K l low e))
    go (x ∷ xs) e =
        let i = first_some p B K l low x xs e in
        let q : block_at p (get_or w.first l 0) ≡ x = ap (block_at p) i.at ∙ block_at_start p B x i.low in
        record { rest = xs; is = e ∙ ap (λ (y : ℕ). y ∷ xs) (sym q); on = rw q (on_list p K l x low (rw e (inl refl))) }

-- the head of the list l is popped, gets other words v of its own, and is pushed on the list c
module _ (p : Params) (B : Bounds p) (st : List ℕ) (w : Words) (Z : Sized p.blocks w) (L : ℕ → List ℕ) (K : Lists p st w L)
    (l c : ℕ) (ll : l < 1470) (lc : c < 1470) (H : Head p st w L l) where
  abbrev x : ℕ
  x = block_at p (get_or w.first l 0)

  abbrev w₁ : Words
  w₁ = (pop p l w).words

  pub move : (v : Words) → Tweaked x w₁ v → lengths v ≡ lengths w₁ → Move l c x w (push p c x v)
  unfolding In FirstsBut
  move v T len =
      record {
        from = H.on.names;
        to = ap (λ (y : List ℕ). get_or y x 0) (push_list p c x v) ∙ set_at v.list x (list_word c) (omega (arith, Z₂.list, H.on.low));
        others = λ b f.
            record {
              list = list b f;
              free = ap (λ (y : List ℕ). get_or y b 0) P.free ∙ (T.words b f).free ∙ ap (λ (y : List ℕ). get_or y b 0) Q.free;
              tls = ap (λ (y : List ℕ). get_or y b 0) P.tls ∙ (T.words b f).tls ∙ ap (λ (y : List ℕ). get_or y b 0) Q.tls;
              cells = ap (λ (y : List ℕ). get_or y b 0) P.cells ∙ (T.words b f).cells ∙ ap (λ (y : List ℕ). get_or y b 0) Q.cells;
            };
        first = λ n f g.
            ap (λ (y : List ℕ). get_or y n 0) (push_first p c x v) ∙ set_off v.first c (start p x) n g
            ∙ ap (λ (y : Links). get_or y.first n 0) T.links ∙ pop_firsts p l w n f f;
        last = λ n f g. push_last p c x v n g ∙ ap (λ (y : Links). get_or y.last n 0) T.links ∙ pop_last p l w n f;
        next = λ b f g. (onto b f g).next ∙ ap (λ (y : Links). get_or y.next b 0) T.links ∙ (out b f).next;
        prev = λ b f g. (onto b f g).prev ∙ ap (λ (y : Links). get_or y.prev b 0) T.links ∙ (out b f).prev;
      }
    where
      Q : LinksOnly w w₁
      Q = pop_links p l w (links_refl w)

      P : LinksOnly v (push p c x v)
      P = push_links p c x v (links_refl v)

      Z₂ : Sized p.blocks v
      Z₂ = sized_same (len ∙ Q.lengths) Z

      K₁ : Lists p st w₁ (put l H.rest L)
      K₁ = pop_lists p B st w Z L K l x H.rest ll H.is

      K₂ : Lists p st v (put l H.rest L)
      K₂ = lists_same p K₁ T.links (λ n b ln i. (on_list p K₁ n b ln i).occupied)

      was : (b : ℕ) → get_or v.list b 0 ≡ get_or w.list b 0
      was b = ap (λ (y : Links). get_or y.list b 0) T.links ∙ pop_words p B st w Z L K l x H.rest ll H.is b

      list : (b : ℕ) → b ≢ x → get_or (push p c x v).list b 0 ≡ get_or w.list b 0
      list b f = ap (λ (y : List ℕ). get_or y b 0) (push_list p c x v) ∙ set_off v.list x (list_word c) b f ∙ was b

      -- off the list l
      out : (b : ℕ) → (OnList w l b → ⊥) → Same st st w w₁ b
      out b f = pop_stays p B st w Z L K l x H.rest ll H.is b (λ i. f (on_list p K l b ll i).names)

      -- and off the list c
      onto : (b : ℕ) → (OnList w l b → ⊥) → (OnList w c b → ⊥) → Same st st v (push p c x v) b
      onto b f g =
          push_stays p B st v Z₂ (put l H.rest L) K₂ c x lc b (λ q. f (ap (λ (y : ℕ). get_or w.list y 0) q ∙ H.on.names))
          (λ i. g (sym (was b) ∙ (on_list p K₂ c b lc i).names))

-- ---- chains that init and sweeps build

headed : (l : List ℕ) → ((a : ℕ) → In a l → 0 < a) → head_d l 0 ≡ 0 → l ≡ []
unfolding In head_d
headed [] f e = refl
headed (a ∷ l) f e = absurd (omega (arith, f a (inl refl), e))

module _ (p : Params) (B : Bounds p) (kept : ℕ → Bool) (x s : ℕ) (low : x < p.blocks) (word : 8 ≤ s) where
  abbrev chain : List ℕ
  chain = cells_down kept (start p x) s (cell_count p s)

  pub chain_none : head_d chain 0 ≡ 0 → chain ≡ []
  chain_none = headed chain (λ a i. whole_nonzero p B x s a low (in_chain p kept x s a word i).0)

-- ---- what the search leaves

-- each of the five
module _ (h bin : ℕ) where
  abbrev A : ℕ
  A = available (local_sets h) bin

  abbrev U : ℕ
  U = unswept (local_sets h) bin

  abbrev C : ℕ
  C = consumed (local_sets h) bin

  abbrev A' : ℕ
  A' = available abandoned bin

  abbrev U' : ℕ
  U' = unswept abandoned bin

  pub searches_available : searches h bin A ≡ true
  unfolding searches
  searches_available = or_left (eqb A U') (or_left (eqb A A') (or_left (eqb A C) (or_left (eqb A U) (eq-eqb A A refl))))

  pub searches_unswept : searches h bin U ≡ true
  unfolding searches
  searches_unswept = or_left (eqb U U') (or_left (eqb U A') (or_left (eqb U C) (or_right (eqb U A) (eq-eqb U U refl))))

  pub searches_consumed : searches h bin C ≡ true
  unfolding searches
  searches_consumed = or_left (eqb C U') (or_left (eqb C A') (or_right (eqb C A || eqb C U) (eq-eqb C C refl)))

  pub searches_abandoned : searches h bin A' ≡ true
  unfolding searches
  searches_abandoned = or_left (eqb A' U') (or_right (eqb A' A || eqb A' U || eqb A' C) (eq-eqb A' A' refl))

  pub searches_last : searches h bin U' ≡ true
  unfolding searches
  searches_last = or_right (eqb U' A || eqb U' U || eqb U' C || eqb U' A') (eq-eqb U' U' refl)

module _ (h bin : ℕ) (w₀ : Words) where
  -- a block on none of the lists
  abbrev pub Aside : ℕ → Type 0
  Aside b = (n : ℕ) → searches h bin n ≡ true → OnList w₀ n b → ⊥

  pub record Quiet (w : Words) : Type 0 where
    pub size : w.size ≡ w₀.size
    pub first : (n : ℕ) → searches h bin n ≡ false → get_or w.first n 0 ≡ get_or w₀.first n 0
    pub last : (n : ℕ) → searches h bin n ≡ false → get_or w.last n 0 ≡ get_or w₀.last n 0
    pub list : (b : ℕ) → Aside b → get_or w.list b 0 ≡ get_or w₀.list b 0
    pub next : (b : ℕ) → Aside b → get_or w.next b 0 ≡ get_or w₀.next b 0
    pub prev : (b : ℕ) → Aside b → get_or w.prev b 0 ≡ get_or w₀.prev b 0

  pub quiet_start : Quiet w₀
  quiet_start =
      record { size = refl; first = λ n e. refl; last = λ n e. refl; list = λ b f. refl; next = λ b f. refl; prev = λ b f. refl }

  -- a block moves from one of the lists to another
  quiet_moved : (l c x : ℕ) (w u : Words) → Quiet w → searches h bin l ≡ true → searches h bin c ≡ true → u.size ≡ w.size → Move l c x w u → Quiet u
  quiet_moved l c x w u Q sl sc z M =
      record {
        size = z ∙ Q.size;
        first = λ n e. M.first n (ne l n sl e) (ne c n sc e) ∙ Q.first n e;
        last = λ n e. M.last n (ne l n sl e) (ne c n sc e) ∙ Q.last n e;
        list = λ b f. (M.others b (other b f)).list ∙ Q.list b f;
        next = λ b f. M.next b (off l b sl f) (off c b sc f) ∙ Q.next b f;
        prev = λ b f. M.prev b (off l b sl f) (off c b sc f) ∙ Q.prev b f;
      }
    where
      ne : (m n : ℕ) → searches h bin m ≡ true → searches h bin n ≡ false → n ≢ m
      ne m n a e q = not_both (searches h bin m) a (ap (searches h bin) (sym q) ∙ e)

      off : (m b : ℕ) → searches h bin m ≡ true → Aside b → OnList w m b → ⊥
      off m b a f o = f m a (sym (Q.list b f) ∙ o)

      other : (b : ℕ) → Aside b → b ≢ x
      other b f q = off l b sl f (ap (λ (y : ℕ). get_or w.list y 0) q ∙ M.from)

tweak_refl : (x : ℕ) (w : Words) → Tweaked x w w
tweak_refl x w = record { links = refl; words = λ b f. record { free = refl; size = refl; tls = refl; cells = refl } }

tweak_trans : (x : ℕ) (w u v : Words) → Tweaked x w u → Tweaked x u v → Tweaked x w v
tweak_trans x w u v T U =
    record {
      links = U.links ∙ T.links;
      words = λ b f.
          record {
            free = (U.words b f).free ∙ (T.words b f).free;
            size = (U.words b f).size ∙ (T.words b f).size;
            tls = (U.words b f).tls ∙ (T.words b f).tls;
            cells = (U.words b f).cells ∙ (T.words b f).cells;
          };
    }

-- the search of the holder h for the bin, from the words w₀ and the heap on; a block without a free head there counts no free cell
module _ (p : Params) (B : Bounds p) (st ms : List ℕ) (h bin : ℕ) (lo : 1 ≤ h) (hi : h ≤ 8) (low : bin < 49) (w₀ : Words)
    (heap : List ℕ) (bare : (b : ℕ) → get_or w₀.free b 0 ≡ 0 → get_or w₀.cells b 0 ≡ 0) where
  -- tables are good still
  abbrev Good : Words → Type 0
  Good = SearchedSoFar p B st ms h bin lo hi low w₀

  -- nothing is found yet
  pub record Going (es : List Event) (w : Words) : Type 0 where
    pub good : Good w
    pub quiet : Quiet h bin w₀ w
    pub idle : events_heap p es heap ≡ heap
    pub blocks : (b : ℕ) → PassedOver p ms h bin w₀ w b

  -- or a block is, and the alloc is served
  abbrev Stopped : List Event → ℕ → Words → Type 0
  Stopped es a w = Good w

  pass_on : (b : ℕ) (w u : Words) → PassedOver p ms h bin w₀ w b → Unmoved w u b → PassedOver p ms h bin w₀ u b
  pass_on b w u (inl U) K = inl (record { list = K.list ∙ U.list; free = K.free ∙ U.free; tls = K.tls ∙ U.tls; cells = K.cells ∙ U.cells })
  pass_on b w u (inr M) K = inr (record { was = M.was; list = K.list ∙ M.list; free = K.free ∙ M.free; tls = K.tls ∙ M.tls; cells = K.cells ∙ M.cells })

  -- a list that blocks are taken from
  record Tried (l : ℕ) : Type 0 where
    number : l < 1470
    listed : searches h bin l ≡ true
    other : l ≢ consumed (local_sets h) bin

  -- its head
  module _ (es : List Event) (w : Words) (G : Going es w) (l : ℕ) (R : Tried l) (some : get_or w.first l 0 ≢ 0) where
    abbrev Hw : GoodTables p ms w st
    Hw = G.good.good

    abbrev y : ℕ
    y = block_at p (get_or w.first l 0)

    abbrev u₁ : Words
    u₁ = (pop p l w).words

    head : Head p st w Hw.lists l
    head = head_of p B st w Hw.lists Hw.good.lists l R.number some

    fit : Fit p (tables_of w st ms) l y
    unfolding In
    fit = Hw.good.fit l y R.number (rw head.is (inl refl))

    -- it has not been moved before
    still : Unmoved w₀ w y
    still = ⊎_elim (λ U. U) (λ M. absurd (R.other (word_same l (consumed (local_sets h) bin) (sym head.on.names ∙ M.list)))) (G.blocks y)

    was : OnList w₀ l y
    was = sym still.list ∙ head.on.names

    popped_size : u₁.size ≡ w.size
    popped_size = (pop_links p l w (links_refl w)).size

    moves : (c : ℕ) → c < 1470 → (v : Words) → Tweaked y u₁ v → lengths v ≡ lengths u₁ → Move l c y w (push p c y v)
    moves c lc v T e = move p B st w Hw.sized Hw.lists Hw.good.lists l c R.number lc head v T e

    -- where its words are v, it has no cell, and it goes to consumed
    goes_full : (v : Words) → Tweaked y u₁ v → lengths v ≡ lengths u₁ → v.size ≡ w.size → (es' : List Event)
        → Good (push p (consumed (local_sets h) bin) y v) → events_heap p es' heap ≡ heap → HadNone p ms h bin w₀ y
        → get_or v.free y 0 ≡ 0 → get_or v.tls y 0 ≡ h → get_or v.cells y 0 ≡ 0
        → Going (es' ++ (spent y ∷ [])) (push p (consumed (local_sets h) bin) y v)
    goes_full v T e z es' S i n ef et ec =
        record {
          good = S;
          quiet = quiet_moved h bin w₀ l c y w (push p c y v) G.quiet R.listed (searches_consumed h bin) (P.size ∙ z) M;
          idle = heap_spent p es' y heap ∙ i;
          blocks = λ b. at b (ℕ_discrete b y);
        }
      where
        c : ℕ
        c = consumed (local_sets h) bin

        P : LinksOnly v (push p c y v)
        P = push_links p c y v (links_refl v)

        M : Move l c y w (push p c y v)
        M = moves c (my_consumed p B st ms h bin lo hi low w₀).low v T e

        at : (b : ℕ) → Dec (b ≡ y) → PassedOver p ms h bin w₀ (push p c y v) b
        at b (yes q) =
            rw q (inr (record {
              was = n;
              list = M.to;
              free = ap (λ (x : List ℕ). get_or x y 0) P.free ∙ ef;
              tls = ap (λ (x : List ℕ). get_or x y 0) P.tls ∙ et;
              cells = ap (λ (x : List ℕ). get_or x y 0) P.cells ∙ ec;
            }))
        at b (no f) = pass_on b w (push p c y v) (G.blocks b) (M.others b f)

    -- it is swept, with these words, and filed
    module _ (u : Words) (T : Tweaked y u₁ u) (e : lengths u ≡ lengths u₁) (z : u.size ≡ w.size) (et : get_or u.tls y 0 ≡ h)
        (from : OnList w₀ (unswept (local_sets h) bin) y ⊎ OnList w₀ (unswept abandoned bin) y)
        (F : Files p ms h bin (λ es w. Good w) (λ es a w. Good w)
        (es ++ (sweep_of p ms y u ∷ [])) (get_or w.first l 0) (swept_words p ms y u)) where
      abbrev s : ℕ
      s = get_or u.size y 0

      abbrev v : Words
      v = swept_words p ms y u

      word : 8 ≤ s
      word = rw (ap (λ (x : List ℕ). get_or x y 0) z) fit.word

      T' : Tweaked y u₁ v
      unfolding swept_words
      T' = tweak_trans y u₁ u v T (tweak_free y _ _ u)

      Zu : Sized p.blocks u
      Zu = sized_same (e ∙ (pop_links p l w (links_refl w)).lengths) Hw.sized

      now : get_or v.free y 0 ≡ head_d (sweep_chain p ms y s) 0
      unfolding swept_words set_free set_cells
      now = set_at u.free y _ (omega (arith, Zu.free, head.on.low))

      now_cells : get_or v.cells y 0 ≡ length (sweep_chain p ms y s)
      unfolding swept_words set_free set_cells
      now_cells = set_at u.cells y _ (omega (arith, Zu.cells, head.on.low))

      written : events_heap p (es ++ (sweep_of p ms y u ∷ [])) heap ≡ link_all p (sweep_chain p ms y s) heap
      unfolding event_heap
      written = heap_behind p es (sweep_of p ms y u) heap ∙ ap (link_all p (sweep_chain p ms y s)) G.idle

      none : head_d (sweep_chain p ms y s) 0 ≡ 0 → sweep_chain p ms y s ≡ []
      unfolding sweep_chain
      none = chain_none p B (keeps p (marked p ms) s) y s head.on.low word

      unswept_none : get_or v.free y 0 ≡ 0 → HadNone p ms h bin w₀ y
      unfolding HadNone
      unswept_none q = inr (from, sym (ap (λ (x : List ℕ). sweep_chain p ms y (get_or x y 0)) (z ∙ G.quiet.size)) ∙ none (sym now ∙ q))

      files_swept : Files p ms h bin Going Stopped (es ++ (sweep_of p ms y u ∷ [])) (get_or w.first l 0) v
      unfolding swept_words set_free set_cells link_all
      files_swept =
          record {
            full = λ q.
                let bare : sweep_chain p ms y s ≡ [] = none (sym now ∙ q) in
                goes_full v T' (lengths_set_cells y _ _ ∙ lengths_set_free y _ u ∙ e) z _ (F.full q)
                (written ∙ ap (λ (x : List ℕ). link_all p x heap) bare) (unswept_none q) q et (now_cells ∙ ap length bare);
            has = λ q. F.has q;
          }

  abbrev S : Steps p ms h bin (λ es w. Good w) (λ es a w. Good w)
  S = steps p B st ms h bin lo hi low w₀

  abbrev av : ℕ
  av = available (local_sets h) bin

  abbrev un : ℕ
  un = unswept (local_sets h) bin

  my_av : Numbered av (h - 1) bin
  my_av = my_available p B st ms h bin lo hi low w₀

  my_un : Numbered un (h - 1) bin
  my_un = my_unswept p B st ms h bin lo hi low w₀

  -- the four lists
  first_tried : Tried av
  unfolding available consumed list_of
  first_tried = record { number = my_av.low; listed = searches_available h bin; other = λ q. omega (arith, q) }

  second_tried : Tried un
  unfolding unswept consumed list_of
  second_tried = record { number = my_un.low; listed = searches_unswept h bin; other = λ q. omega (arith, q) }

  third_tried : Tried (available abandoned bin)
  unfolding available consumed local_sets list_of
  third_tried =
      record { number = (available_numbered 8 bin (omega arith) low).low; listed = searches_abandoned h bin; other = λ q. omega (arith, q) }

  fourth_tried : Tried (unswept abandoned bin)
  unfolding unswept consumed local_sets list_of
  fourth_tried =
      record { number = (unswept_numbered 8 bin (omega arith) low).low; listed = searches_last h bin; other = λ q. omega (arith, q) }

  -- a block on a local list is the holder's
  local_h : (l x : ℕ) (w : Words) → Numbered l (h - 1) bin → Fit p (tables_of w st ms) l x → get_or w.tls x 0 ≡ h
  local_h l x w N F = F.local (omega (arith, N.owner)) ∙ omega (arith, N.owner)

  pub search_steps : Steps p ms h bin Going Stopped
  unfolding HadNone set_tls
  search_steps =
      record {
        moved = λ es w G some q.
            let u = (pop p av w).words in
            let P = pop_links p av w (links_refl w) in
            let x = block_at p (get_or w.first av 0) in
            let R = first_tried in
            goes_full es w G av R some u (tweak_refl x u) refl P.size es (S.moved es w G.good some q) G.idle
            (inl (inl (was es w G av R some), sym (still es w G av R some).free ∙ q))
            (ap (λ (y : List ℕ). get_or y x 0) P.free ∙ q)
            (ap (λ (y : List ℕ). get_or y x 0) P.tls ∙ local_h av x w my_av (fit es w G av R some))
            (ap (λ (y : List ℕ). get_or y x 0) P.cells ∙ (still es w G av R some).cells ∙ bare x (sym (still es w G av R some).free ∙ q));
        seen = λ es w G some q. G.good;
        recycled = λ es w G some.
            let u = (pop p un w).words in
            let P = pop_links p un w (links_refl w) in
            let x = block_at p (get_or w.first un 0) in
            let R = second_tried in
            files_swept es w G un R some u (tweak_refl x u) refl P.size
            (ap (λ (y : List ℕ). get_or y x 0) P.tls ∙ local_h un x w my_un (fit es w G un R some))
            (inl (was es w G un R some)) (S.recycled es w G.good some);
        over = λ es w G some. over_files es w G some;
        swept = λ es w G none some.
            let l = unswept abandoned bin in
            let u = (pop p l w).words in
            let P = pop_links p l w (links_refl w) in
            let x = block_at p (get_or w.first l 0) in
            let R = fourth_tried in
            files_swept es w G l R some (set_tls x h u) (tweak_tls x h u) (lengths_set_tls x h u) P.size
            (set_at u.tls x h (omega (arith, (sized_same P.lengths G.good.good.sized).tls, (head es w G l R some).on.low)))
            (inr (was es w G l R some)) (S.swept es w G.good none some);
      }
    where
      over_files : (es : List Event) (w : Words) (G : Going es w) → get_or w.first (available abandoned bin) 0 ≢ 0
          → let a : ℕ = get_or w.first (available abandoned bin) 0 in
          Files p ms h bin Going Stopped es a (set_tls (block_at p a) h (pop p (available abandoned bin) w).words)
      over_files es w G some =
          record {
            full = λ q.
                goes_full es w G l R some v (tweak_tls x h u) (lengths_set_tls x h u) P.size es (F.full q) G.idle
                (inl (inr from, gone q)) q mine (ap (λ (y : List ℕ). get_or y x 0) P.cells ∙ U.cells ∙ bare x (gone q));
            has = λ q. F.has q;
          }
        where
          l : ℕ
          l = available abandoned bin

          R : Tried l
          R = third_tried

          x : ℕ
          x = block_at p (get_or w.first l 0)

          u : Words
          u = (pop p l w).words

          v : Words
          v = set_tls x h u

          P : LinksOnly w u
          P = pop_links p l w (links_refl w)

          F : Files p ms h bin (λ es w. Good w) (λ es a w. Good w) es (get_or w.first l 0) v
          F = S.over es w G.good some

          U : Unmoved w₀ w x
          U = still es w G l R some

          from : OnList w₀ l x
          from = was es w G l R some

          mine : get_or v.tls x 0 ≡ h
          mine = set_at u.tls x h (omega (arith, (sized_same P.lengths G.good.good.sized).tls, (head es w G l R some).on.low))

          gone : get_or v.free x 0 ≡ 0 → get_or w₀.free x 0 ≡ 0
          gone q = sym U.free ∙ sym (ap (λ (y : List ℕ). get_or y x 0) P.free) ∙ q
