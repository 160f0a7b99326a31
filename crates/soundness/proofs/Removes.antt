-- Remove, append and clearing a block, on lists of block numbers: each leaves block lists, and which. What a remove or an
-- append does to a link is to put one link for another (`swap`), so the lists after are proved along the lists before.
-- Assumes nothing.
use Rattle.std.specs.Prelude.{if◌then◌else◌}
use mathlib.Core.Path.{◌≡◌, refl, sym, ap, ◌∙◌, subst}
use mathlib.Core.Logic.{◌≢◌, ◌⊎◌, inl, inr, ⊎_elim}
use mathlib.Core.Bool.{false, not}
use mathlib.Core.List.{List, [], ◌∷◌, ◌++◌, append-nil}
use Prim.Native.Nat.{ℕ, zero, suc, ◌≤◌, ◌<◌}
use native.Mathlib.Decide.{ℕ_discrete}
use native.Mathlib.Omega.{arith}
use lib.Dec.{eqb}
use lib.ListN.{length, get_or, set, length-set}
use borrow.Author.Tests.{eq-eqb, ne_eqb, eqb-true, eqb-false, not-true}
use Rattle.model.specs.declared.Params.{Params}
use Rattle.model.specs.Base.{In, filter, member}
use Rattle.model.specs.Params.{start, block_at, list_word}
use Rattle.model.specs.Tables.{Words, set_first, set_last, set_next, set_prev, set_free, set_size, set_list, set_tls, set_cells}
use Rattle.model.specs.BlockList.{remove_between, remove, relabel, link, append}
use Rattle.model.specs.Block.{clear_block}
use Rattle.laws.proofs.Base.{if_true, if_false, if_cases, not_both, or_none_left, or_none_right, in_filter, filter_in}
use Rattle.laws.proofs.Stores.{set_at, set_off, set_keeps, set_again}
use Rattle.laws.proofs.Params.{Bounds, some_start, start_same, block_at_start}
use Rattle.laws.proofs.Tables.{Sized}
use Rattle.laws.proofs.Frame.{link_list, append_none, append_empties}
use Rattle.laws.proofs.Pigeon.{Distinct, Under}
use Rattle.soundness.proofs.Lists.{Seg, Run, Lists, Off, put, put_all, Same, seg_under, seg_map, seg_same, seg_short, on_list, one_list, lists_off, lists_put, none_first}

-- ---- a list without one of its blocks

unfoldable pub without : ℕ → List ℕ → List ℕ
without b xs = filter (λ x. not (eqb x b)) xs

-- what is in it is in the list, and is not b
pub in_without : (b x : ℕ) (xs : List ℕ) → In x (without b xs) → In x xs × (x ≢ b)
unfolding without
in_without b x xs m =
    let r = in_filter (λ z. not (eqb z b)) x xs m in
    (r.0, eqb-false x b (not-true (eqb x b) r.1))

-- every other element of the list is in it
pub without_in : (b x : ℕ) (xs : List ℕ) → In x xs → x ≢ b → In x (without b xs)
unfolding without
without_in b x xs m f = filter_in (λ z. not (eqb z b)) x xs m (ap not (ne_eqb x b f))

-- what is in front of b stays in front; b itself goes
without_other : (b x : ℕ) (xs : List ℕ) → x ≢ b → without b (x ∷ xs) ≡ x ∷ without b xs
unfolding without filter
without_other b x xs f = if_true (not (eqb x b)) _ _ (ap not (ne_eqb x b f))

without_here : (b x : ℕ) (xs : List ℕ) → x ≡ b → without b (x ∷ xs) ≡ without b xs
unfolding without filter
without_here b x xs e = if_false (not (eqb x b)) _ _ (ap not (eq-eqb x b e))

-- what is not there need not be taken out
pub without_none : (b : ℕ) (xs : List ℕ) → member b xs ≡ false → without b xs ≡ xs
unfolding without filter member
without_none b [] e = refl
without_none b (x ∷ xs) e =
    let ne : x ≢ b = λ q. not_both (eqb b x) (eq-eqb b x (sym q)) (or_none_left (eqb b x) (member b xs) e) in
    without_other b x xs ne ∙ ap (λ (k : List ℕ). x ∷ k) (without_none b xs (or_none_right (eqb b x) (member b xs) e))

-- the head taken out
pub without_head : (b : ℕ) (xs : List ℕ) → Distinct (b ∷ xs) → without b (b ∷ xs) ≡ xs
unfolding Distinct
without_head b xs d = without_here b b xs refl ∙ without_none b xs d.0

-- ---- one link put for another

swap : ℕ → ℕ → ℕ → ℕ
swap n m a = if eqb a n then m else a

swap_at : (n m a : ℕ) → a ≡ n → swap n m a ≡ m
unfolding swap
swap_at n m a e = if_true (eqb a n) m a (eq-eqb a n e)

swap_off : (n m a : ℕ) → a ≢ n → swap n m a ≡ a
unfolding swap
swap_off n m a f = if_false (eqb a n) m a (ne_eqb a n f)

-- what was put stays
swap_put : (n m : ℕ) → swap n m m ≡ m
swap_put n m = go (ℕ_discrete m n)
  where
    go : Dec (m ≡ n) → swap n m m ≡ m
    go (yes e) = swap_at n m m e
    go (no f) = swap_off n m m f

-- a link put for itself
swap_same : (n a : ℕ) → swap n n a ≡ a
swap_same n a = go (ℕ_discrete a n)
  where
    go : Dec (a ≡ n) → swap n n a ≡ a
    go (yes e) = swap_at n n a e ∙ sym e
    go (no f) = swap_off n n a f

-- the links n are v now: at the end l of a list's row F, or in the row N at a block of xs; nothing else is stored
record Redirect (n v l : ℕ) (xs F F' N N' : List ℕ) : Type 0 where
  first : get_or F' l 0 ≡ swap n v (get_or F l 0)
  firsts : (m : ℕ) → m ≢ l → get_or F' m 0 ≡ get_or F m 0
  next : (x : ℕ) → In x xs → get_or N' x 0 ≡ swap n v (get_or N x 0)
  nexts : (x : ℕ) → (In x xs → ⊥) → get_or N' x 0 ≡ get_or N x 0

module _ (n v l : ℕ) (xs F F' N N' : List ℕ) where
  redirect_first : F' ≡ set F l v → N' ≡ N → l < length F → get_or F l 0 ≡ n → ((x : ℕ) → In x xs → get_or N x 0 ≢ n)
      → Redirect n v l xs F F' N N'
  redirect_first ef en h e f =
      record {
        first = rw ef (set_at F l v h) ∙ sym (swap_at n v (get_or F l 0) e);
        firsts = λ m g. rw ef (set_off F l v m g);
        next = λ x i. rw en (sym (swap_off n v (get_or N x 0) (f x i)));
        nexts = λ x i. rw en;
      }

  redirect_next : (q : ℕ) → F' ≡ F → N' ≡ set N q v → q < length N → In q xs → get_or F l 0 ≢ n → get_or N q 0 ≡ n
      → ((x : ℕ) → In x xs → get_or N x 0 ≡ n → x ≡ q) → Redirect n v l xs F F' N N'
  redirect_next q ef en h iq ne e f =
      record {
        first = rw ef (sym (swap_off n v (get_or F l 0) ne));
        firsts = λ m g. rw ef;
        next = λ x i. rw en (go x i (ℕ_discrete x q));
        nexts = λ x i. rw en (set_off N q v x (λ y. i (subst (λ (k : ℕ). In k xs) (sym y) iq)));
      }
    where
      go : (x : ℕ) → In x xs → Dec (x ≡ q) → get_or (set N q v) x 0 ≡ swap n v (get_or N x 0)
      go x i (yes y) =
          ap (λ (k : ℕ). get_or (set N q v) k 0) y ∙ set_at N q v h
          ∙ sym (swap_at n v (get_or N x 0) (ap (λ (k : ℕ). get_or N k 0) y ∙ e))
      go x i (no g) = set_off N q v x g ∙ sym (swap_off n v (get_or N x 0) (λ y. g (f x i y)))

-- ---- runs of blocks

module _ (p : Params) (B : Bounds p) where
  -- a segment by other names of its links
  seg_to : (st : List ℕ) (w : Words) (word : ℕ) {last last' before before' a a' : ℕ} {xs xs' : List ℕ}
      → last ≡ last' → before ≡ before' → a ≡ a' → xs ≡ xs'
      → Seg p st w word last before a xs → Seg p st w word last' before' a' xs'
  seg_to st w word {last} {last'} {before} {before'} {a} {a'} {xs} {xs'} e₁ e₂ e₃ e₄ s =
      subst (λ (k : ℕ). Seg p st w word k before' a' xs') e₁
      (subst (λ (k : ℕ). Seg p st w word last k a' xs') e₂
      (subst (λ (k : ℕ). Seg p st w word last before k xs') e₃
      (subst (λ (k : List ℕ). Seg p st w word last before a k) e₄ s)))

  -- where the links of a segment lead: by its words alone
  module _ (st : List ℕ) (w : Words) (word last : ℕ) where
    -- the link that a segment begins with leads to a block whose prev is what stands before
    seg_head : (before a : ℕ) (xs : List ℕ) → Seg p st w word last before a xs → (b : ℕ) → b < p.blocks → a ≡ start p b
        → get_or w.prev b 0 ≡ before
    unfolding Seg
    seg_head before a [] s b h e = absurd (some_start p B b h (sym e ∙ s.0))
    seg_head before a (x ∷ xs) s b h e =
        ap (λ (c : ℕ). get_or w.prev c 0) (start_same p B b x h s.0.low (sym e ∙ s.0.at)) ∙ s.0.prev

    -- a block that a block of the segment leads to leads back
    seg_back : (before a : ℕ) (xs : List ℕ) → Seg p st w word last before a xs → (x b : ℕ) → In x xs → b < p.blocks
        → get_or w.next x 0 ≡ start p b → get_or w.prev b 0 ≡ start p x
    unfolding Seg In
    seg_back before a [] s x b m h e = absurd m
    seg_back before a (y ∷ ys) s x b (inl q) h e =
        seg_head (start p y) (get_or w.next y 0) ys s.1 b h (ap (λ (c : ℕ). get_or w.next c 0) (sym q) ∙ e)
        ∙ ap (start p) (sym q)
    seg_back before a (y ∷ ys) s x b (inr m) h e = seg_back (start p y) (get_or w.next y 0) ys s.1 x b m h e

    -- b stands behind another block
    record Behind (xs : List ℕ) (b : ℕ) : Type 0 where
      block : ℕ
      is_on : In block xs
      back : get_or w.prev b 0 ≡ start p block
      on : get_or w.next block 0 ≡ start p b

    -- a block is the first, or stands behind another
    seg_before : (before a : ℕ) (xs : List ℕ) → Seg p st w word last before a xs → (b : ℕ) → In b xs
        → ((a ≡ start p b) × (get_or w.prev b 0 ≡ before)) ⊎ Behind xs b
    unfolding Seg In
    seg_before before a [] s b m = absurd m
    seg_before before a (x ∷ xs) s b (inl e) =
        inl (s.0.at ∙ ap (start p) (sym e), ap (λ (c : ℕ). get_or w.prev c 0) e ∙ s.0.prev)
    seg_before before a (x ∷ xs) s b (inr m) = ⊎_elim
        (λ z. inr (record { block = x; is_on = inl refl; back = z.1; on = z.0 }))
        (λ z. inr (record { block = z.block; is_on = inr z.is_on; back = z.back; on = z.on }))
        (seg_before (start p x) (get_or w.next x 0) xs s.1 b m)

    -- a last block
    record Last (xs : List ℕ) : Type 0 where
      block : ℕ
      is_on : In block xs
      is : last ≡ start p block
      end : get_or w.next block 0 ≡ 0

    -- a segment is empty, or has a last block
    seg_last : (before a : ℕ) (xs : List ℕ) → Seg p st w word last before a xs → ((a ≡ 0) × (last ≡ before)) ⊎ Last xs
    unfolding Seg In
    seg_last before a [] s = inl s
    seg_last before a (x ∷ xs) s = ⊎_elim
        (λ z. inr (record { block = x; is_on = inl refl; is = z.1; end = z.0 }))
        (λ z. inr (record { block = z.block; is_on = inr z.is_on; is = z.is; end = z.end }))
        (seg_last (start p x) (get_or w.next x 0) xs s.1)

    -- another block stands behind b
    record Ahead (xs : List ℕ) (b : ℕ) : Type 0 where
      block : ℕ
      is_on : In block xs
      on : get_or w.next b 0 ≡ start p block
      back : get_or w.prev block 0 ≡ start p b

    -- a segment is empty, or its link leads to a first block
    seg_first : (before a : ℕ) (xs : List ℕ) → Seg p st w word last before a xs
        → ((a ≡ 0) × (last ≡ before)) ⊎ ((y : ℕ) × In y xs × (a ≡ start p y) × (get_or w.prev y 0 ≡ before))
    unfolding Seg In
    seg_first before a [] s = inl s
    seg_first before a (x ∷ xs) s = inr (x, inl refl, s.0.at, s.0.prev)

    -- a block is the last, or another stands behind it
    seg_after : (before a : ℕ) (xs : List ℕ) → Seg p st w word last before a xs → (b : ℕ) → In b xs
        → ((get_or w.next b 0 ≡ 0) × (last ≡ start p b)) ⊎ Ahead xs b
    unfolding Seg In
    seg_after before a [] s b m = absurd m
    seg_after before a (x ∷ xs) s b (inl e) = ⊎_elim
        (λ z. inl (ap (λ (c : ℕ). get_or w.next c 0) e ∙ z.0, z.1 ∙ ap (start p) (sym e)))
        (λ z. inr (record {
          block = z.0;
          is_on = inr z.1;
          on = ap (λ (c : ℕ). get_or w.next c 0) e ∙ z.2;
          back = z.3 ∙ ap (start p) (sym e);
        }))
        (seg_first (start p x) (get_or w.next x 0) xs s.1)
    seg_after before a (x ∷ xs) s b (inr m) = ⊎_elim
        (λ z. inl z)
        (λ z. inr (record { block = z.block; is_on = inr z.is_on; on = z.on; back = z.back }))
        (seg_after (start p x) (get_or w.next x 0) xs s.1 b m)

  -- ---- a segment without one of its blocks

  -- how the words w' have a block x behind, or before, which b was taken out
  record Closed (b : ℕ) (w w' : Words) (x : ℕ) : Type 0 where
    names : get_or w'.list x 0 ≡ get_or w.list x 0
    prev : get_or w'.prev x 0 ≡ swap (start p b) (get_or w.prev b 0) (get_or w.prev x 0)
    next : get_or w'.next x 0 ≡ swap (start p b) (get_or w.next b 0) (get_or w.next x 0)

  module _ (st : List ℕ) (w w' : Words) (word last b : ℕ) (low : b < p.blocks) where
    before_b : ℕ → ℕ
    before_b a = swap (start p b) (get_or w.prev b 0) a

    after_b : ℕ → ℕ
    after_b a = swap (start p b) (get_or w.next b 0) a

    -- a block taken out: the links around it lead past it
    seg_without : (before a : ℕ) (xs : List ℕ) → ((x : ℕ) → In x xs → x ≢ b → Closed b w w' x)
        → Seg p st w word last before a xs
        → Seg p st w' word (before_b last) (before_b before) (after_b a) (without b xs)
    unfolding Seg In before_b after_b without filter
    seg_without before a [] k s =
        (swap_off (start p b) (get_or w.next b 0) a (λ e. some_start p B b low (sym e ∙ s.0)) ∙ s.0, ap before_b s.1)
    seg_without before a (x ∷ xs) k s =
        go (ℕ_discrete x b) (seg_without (start p x) (get_or w.next x 0) xs (λ z i. k z (inr i)) s.1)
      where
        go : Dec (x ≡ b)
            → Seg p st w' word (before_b last) (before_b (start p x)) (after_b (get_or w.next x 0)) (without b xs)
            → Seg p st w' word (before_b last) (before_b before) (after_b a) (without b (x ∷ xs))
        go (yes e) r =
            let prev_b : get_or w.prev b 0 ≡ before = ap (λ (c : ℕ). get_or w.prev c 0) (sym e) ∙ s.0.prev in
            seg_to st w' word
            refl
            (swap_at (start p b) (get_or w.prev b 0) (start p x) (ap (start p) e)
            ∙ sym (swap_put (start p b) (get_or w.prev b 0)) ∙ ap before_b prev_b)
            (ap (λ (c : ℕ). after_b (get_or w.next c 0)) e ∙ swap_put (start p b) (get_or w.next b 0)
            ∙ sym (swap_at (start p b) (get_or w.next b 0) a (s.0.at ∙ ap (start p) e)))
            (sym (without_here b x xs e))
            r
        go (no f) r =
            let K = k x (inl refl) f in
            let off : start p x ≢ start p b = λ e. f (start_same p B x b s.0.low low e) in
            rw (without_other b x xs f) (
              record {
                at = swap_off (start p b) (get_or w.next b 0) a (λ e. off (sym s.0.at ∙ e)) ∙ s.0.at;
                low = s.0.low;
                occupied = s.0.occupied;
                names = K.names ∙ s.0.names;
                prev = K.prev ∙ ap before_b s.0.prev;
              },
              seg_to st w' word {xs = without b xs} refl (swap_off (start p b) (get_or w.prev b 0) (start p x) off) (sym K.next) refl r,
            )

  -- the link a leads to a block that names the list l
  abbrev Named : Words → ℕ → ℕ → Type 0
  Named w l a = ((block_at p a < length w.list) × (get_or w.list (block_at p a) 0 ≡ list_word l))

  -- ---- remove, field by field: q is the link before, n the link behind

  module _ (w : Words) (l q n : ℕ) where
    abbrev Stores : (Words → List ℕ) → (Words → List ℕ) → List ℕ → List ℕ → Words → Type 0
    Stores f g x y u = (f u ≡ x) × (g u ≡ y)

    -- nothing before: the first is stored; or the next of the block before
    front_none : q ≡ 0 → Stores (λ u. u.first) (λ u. u.next) (set w.first l n) w.next (remove_between p l q n w)
    unfolding remove_between set_first set_last set_next set_prev set_list
    front_none e =
        rw (eq-eqb q 0 e) (if_cases (Stores (λ u. u.first) (λ u. u.next) (set w.first l n) w.next) (eqb n 0)
        (λ f. (ap (set w.first l) (sym (eqb-true n 0 f)), refl)) (λ f. (refl, refl)))

    front_some : q ≢ 0 → Stores (λ u. u.first) (λ u. u.next) w.first (set w.next (block_at p q) n) (remove_between p l q n w)
    unfolding remove_between set_first set_last set_next set_prev set_list
    front_some e =
        rw (ne_eqb q 0 e) (if_cases (Stores (λ u. u.first) (λ u. u.next) w.first (set w.next (block_at p q) n)) (eqb n 0)
        (λ f. (refl, ap (set w.next (block_at p q)) (sym (eqb-true n 0 f)))) (λ f. (refl, refl)))

    -- nothing behind: the last is stored; or the prev of the block behind
    back_none : n ≡ 0 → Stores (λ u. u.last) (λ u. u.prev) (set w.last l q) w.prev (remove_between p l q n w)
    unfolding remove_between set_first set_last set_next set_prev set_list
    back_none e =
        rw (eq-eqb n 0 e) (if_cases (Stores (λ u. u.last) (λ u. u.prev) (set w.last l q) w.prev) (eqb q 0)
        (λ f. (ap (set w.last l) (sym (eqb-true q 0 f)), refl)) (λ f. (refl, refl)))

    back_some : n ≢ 0 → Stores (λ u. u.last) (λ u. u.prev) w.last (set w.prev (block_at p n) q) (remove_between p l q n w)
    unfolding remove_between set_first set_last set_next set_prev set_list
    back_some e =
        rw (ne_eqb n 0 e) (if_cases (Stores (λ u. u.last) (λ u. u.prev) w.last (set w.prev (block_at p n) q)) (eqb q 0)
        (λ f. (refl, ap (set w.prev (block_at p n)) (sym (eqb-true q 0 f)))) (λ f. (refl, refl)))

    -- list words stay where the blocks before and behind name the list already
    between_list : (q ≢ 0 → Named w l q) → (n ≢ 0 → Named w l n)
        → (z : ℕ) → get_or (remove_between p l q n w).list z 0 ≡ get_or w.list z 0
    unfolding remove_between set_first set_last set_next set_prev set_list
    between_list hq hn z =
        if_cases Stay (eqb q 0)
        (λ e. if_cases Stay (eqb n 0) (λ f. refl) (λ f. again n (hn (eqb-false n 0 f))))
        (λ e. if_cases Stay (eqb n 0) (λ f. again q (hq (eqb-false q 0 e))) (λ f. refl))
      where
        Stay : Words → Type 0
        Stay u = get_or u.list z 0 ≡ get_or w.list z 0

        again : (a : ℕ) → Named w l a → get_or (set w.list (block_at p a) (list_word l)) z 0 ≡ get_or w.list z 0
        again a N = set_again w.list (block_at p a) (list_word l) N.1 N.0 z

  -- ---- relabel: along the blocks of a segment, as many as there are

  -- from the link a on the links N lead to the blocks xs and no further
  Chain : List ℕ → ℕ → List ℕ → Type 0
  Chain N a [] = a ≡ 0
  Chain N a (x ∷ xs) = (a ≡ start p x) × (x < p.blocks) × Chain N (get_or N x 0) xs

  -- a segment leads along its blocks, by any nexts that agree there
  seg_chain : (st : List ℕ) (w : Words) (word last before a : ℕ) (xs N : List ℕ)
      → ((x : ℕ) → In x xs → get_or N x 0 ≡ get_or w.next x 0) → Seg p st w word last before a xs → Chain N a xs
  unfolding Chain Seg In
  seg_chain st w word last before a [] N h s = s.0
  seg_chain st w word last before a (x ∷ xs) N h s = (
    s.0.at,
    s.0.low,
    rw (h x (inl refl)) (seg_chain st w word last (start p x) (get_or w.next x 0) xs N (λ z i. h z (inr i)) s.1),
  )

  -- the blocks xs get the list word of l
  labels : ℕ → List ℕ → List ℕ → List ℕ
  labels l [] r = r
  labels l (x ∷ xs) r = labels l xs (set r x (list_word l))

  with_list : List ℕ → Words → Words
  with_list r t = record { first = t.first; last = t.last; phase = t.phase; bound = t.bound; released = t.released; next = t.next; prev = t.prev; free = t.free; size = t.size; list = r; tls = t.tls; cells = t.cells }

  -- with enough fuel `relabel` does that
  relabel_labels : (k l a : ℕ) (xs : List ℕ) (t : Words) → Chain t.next a xs → length xs ≤ k
      → relabel k p l a t ≡ with_list (labels l xs t.list) t
  unfolding relabel labels with_list Chain set_list
  relabel_labels zero l a [] t c h = refl
  relabel_labels zero l a (x ∷ xs) t c h = absurd (omega arith)
  relabel_labels (suc k) l a [] t c h = rw (eq-eqb a 0 c)
  relabel_labels (suc k) l a (x ∷ xs) t c h =
      let at : block_at p a ≡ x = ap (block_at p) c.0 ∙ block_at_start p B x c.1 in
      rw (ne_eqb a 0 (λ e. some_start p B x c.1 (sym c.0 ∙ e)), at)
      (relabel_labels k l (get_or t.next x 0) xs (set_list x (list_word l) t) c.2 (omega arith))

  -- the list words of other blocks stay
  labels_off : (l : ℕ) (xs r : List ℕ) (z : ℕ) → (In z xs → ⊥) → get_or (labels l xs r) z 0 ≡ get_or r z 0
  unfolding labels In
  labels_off l [] r z f = refl
  labels_off l (x ∷ xs) r z f = labels_off l xs _ z (λ i. f (inr i)) ∙ set_off r x (list_word l) z (λ e. f (inl e))

  -- each of the blocks has the list word of l, and so has one that had it
  labels_in : (l : ℕ) (xs r : List ℕ) (z : ℕ) → Under (length r) xs → In z xs ⊎ (get_or r z 0 ≡ list_word l)
      → get_or (labels l xs r) z 0 ≡ list_word l
  unfolding labels Under In
  labels_in l [] r z u m = ⊎_elim (λ i. absurd i) (λ e. e) m
  labels_in l (x ∷ xs) r z u m =
      labels_in l xs (set r x (list_word l)) z (subst (λ (k : ℕ). Under k xs) (sym (length-set r x (list_word l))) u.1) (go m)
    where
      go : In z (x ∷ xs) ⊎ (get_or r z 0 ≡ list_word l) → In z xs ⊎ (get_or (set r x (list_word l)) z 0 ≡ list_word l)
      go (inl (inl e)) = inr (ap (λ (c : ℕ). get_or (set r x (list_word l)) c 0) e ∙ set_at r x (list_word l) u.0)
      go (inl (inr i)) = inl i
      go (inr e) = inr (set_keeps r x (list_word l) z (list_word l) refl e u.0)

  -- ---- two segments in one

  -- how the words w' have a block x of the first of them, where the second begins with the link n
  record Front (n : ℕ) (w w' : Words) (x : ℕ) : Type 0 where
    names : get_or w'.list x 0 ≡ get_or w.list x 0
    prev : get_or w'.prev x 0 ≡ get_or w.prev x 0
    next : get_or w'.next x 0 ≡ swap 0 n (get_or w.next x 0)

  -- the second segment put behind the first
  seg_join : (st : List ℕ) (w w' : Words) (word last last' n : ℕ) (ys : List ℕ) (before a : ℕ) (xs : List ℕ)
      → ((x : ℕ) → In x xs → Front n w w' x) → Seg p st w' word last' last n ys → Seg p st w word last before a xs
      → Seg p st w' word last' before (swap 0 n a) (xs ++ ys)
  unfolding Seg In
  seg_join st w w' word last last' n ys before a [] k r s =
      seg_to st w' word {last = last'} {xs = ys} refl s.1 (sym (swap_at 0 n a s.0)) refl r
  seg_join st w w' word last last' n ys before a (x ∷ xs) k r s =
      let K = k x (inl refl) in (
        record {
          at = swap_off 0 n a (λ e. some_start p B x s.0.low (sym s.0.at ∙ e)) ∙ s.0.at;
          low = s.0.low;
          occupied = s.0.occupied;
          names = K.names ∙ s.0.names;
          prev = K.prev ∙ s.0.prev;
        },
        rw K.next (seg_join st w w' word last last' n ys (start p x) (get_or w.next x 0) xs (λ z i. k z (inr i)) r s.1),
      )

  -- ---- link

  module _ (w : Words) (l o : ℕ) where
    link_none : get_or w.first l 0 ≡ 0 → link p l o w ≡ set_last l (get_or w.last o 0) (set_first l (get_or w.first o 0) w)
    unfolding link
    link_none e = if_true (eqb (get_or w.first l 0) 0) _ _ (eq-eqb _ _ e)

    link_some : get_or w.first l 0 ≢ 0 → link p l o w ≡ set_last l (get_or w.last o 0)
        (set_prev (block_at p (get_or w.first o 0)) (get_or w.last l 0)
        (set_next (block_at p (get_or w.last l 0)) (get_or w.first o 0) w))
    unfolding link
    link_some f = if_false (eqb (get_or w.first l 0) 0) _ _ (ne_eqb _ _ f)

    link_last : (link p l o w).last ≡ set w.last l (get_or w.last o 0)
    unfolding link set_first set_last set_next set_prev
    link_last = if_cases (λ (t : Words). t.last ≡ set w.last l (get_or w.last o 0)) (eqb (get_or w.first l 0) 0) (λ e. refl) (λ e. refl)

  -- ---- remove

  module _ (st : List ℕ) (w : Words) (Z : Sized p.blocks w) (L : ℕ → List ℕ) (K : Lists p st w L) where
    module _ (l b : ℕ) (hl : l < 1470) (mb : In b (L l)) where
      S : Run p st w l (L l)
      S = K.seg l hl

      low_on : (x : ℕ) → In x (L l) → x < p.blocks
      low_on x i = (on_list p K l x hl i).low

      low_b : b < p.blocks
      low_b = low_on b mb

      -- the block at a link, which leads to a block of the list
      at_on : (a x : ℕ) → In x (L l) → a ≡ start p x → block_at p a ≡ x
      at_on a x i e = ap (block_at p) e ∙ block_at_start p B x (low_on x i)

      is_before : ((get_or w.first l 0 ≡ start p b) × (get_or w.prev b 0 ≡ 0)) ⊎ Behind st w (list_word l) (get_or w.last l 0) (L l) b
      is_before = seg_before st w (list_word l) _ _ _ (L l) S b mb

      is_after : ((get_or w.next b 0 ≡ 0) × (get_or w.last l 0 ≡ start p b)) ⊎ Ahead st w (list_word l) (get_or w.last l 0) (L l) b
      is_after = seg_after st w (list_word l) _ _ _ (L l) S b mb

      -- what led to b leads to the block behind b
      firsts_led : Redirect (start p b) (get_or w.next b 0) l (L l) w.first (remove p l b w).first w.next (remove p l b w).next
      unfolding remove
      firsts_led = ⊎_elim
          (λ z. let T = front_none w l (get_or w.prev b 0) (get_or w.next b 0) z.1 in
          redirect_first _ _ l (L l) _ _ _ _ T.0 T.1
          (omega (arith, Z.first, hl))
          z.0
          (λ x i e. some_start p B x (low_on x i) (sym (back x b i low_b e) ∙ z.1)))
          (λ z. let T = front_some w l (get_or w.prev b 0) (get_or w.next b 0) (some z) in
          redirect_next _ _ l (L l) _ _ _ _ z.block T.0
          (T.1 ∙ ap (λ (c : ℕ). set w.next c (get_or w.next b 0)) (at_on _ z.block z.is_on z.back))
          (omega (arith, Z.next, low_on _ z.is_on))
          z.is_on
          (λ e. some z (seg_head st w (list_word l) _ _ _ (L l) S b low_b e))
          z.on
          (λ x i e. start_same p B x z.block (low_on x i) (low_on _ z.is_on) (sym (back x b i low_b e) ∙ z.back)))
          is_before
        where
          back : (x c : ℕ) → In x (L l) → c < p.blocks → get_or w.next x 0 ≡ start p c → get_or w.prev c 0 ≡ start p x
          back = seg_back st w (list_word l) _ _ _ (L l) S

          some : Behind st w (list_word l) (get_or w.last l 0) (L l) b → get_or w.prev b 0 ≢ 0
          some z e = some_start p B z.block (low_on _ z.is_on) (sym z.back ∙ e)

      -- a block whose prev is b stands behind b
      forth : (x : ℕ) → In x (L l) → get_or w.prev x 0 ≡ start p b → get_or w.next b 0 ≡ start p x
      forth x i e = ⊎_elim
          (λ z. absurd (some_start p B b low_b (sym e ∙ z.1)))
          (λ z. ap (λ (c : ℕ). get_or w.next c 0) (start_same p B b z.block low_b (low_on _ z.is_on) (sym e ∙ z.back)) ∙ z.on)
          (seg_before st w (list_word l) _ _ _ (L l) S x i)

      -- nothing stands behind the last
      ended : get_or w.last l 0 ≡ start p b → get_or w.next b 0 ≡ 0
      ended e = ⊎_elim
          (λ z. absurd (some_start p B b low_b (sym e ∙ z.1)))
          (λ z. ap (λ (c : ℕ). get_or w.next c 0) (start_same p B b z.block low_b (low_on _ z.is_on) (sym e ∙ z.is)) ∙ z.end)
          (seg_last st w (list_word l) _ _ _ (L l) S)

      -- what led back to b leads to the block before b
      lasts_led : Redirect (start p b) (get_or w.prev b 0) l (L l) w.last (remove p l b w).last w.prev (remove p l b w).prev
      unfolding remove
      lasts_led = ⊎_elim
          (λ z. let T = back_none w l (get_or w.prev b 0) (get_or w.next b 0) z.0 in
          redirect_first _ _ l (L l) _ _ _ _ T.0 T.1
          (omega (arith, Z.last, hl))
          z.1
          (λ x i e. some_start p B x (low_on x i) (sym (forth x i e) ∙ z.0)))
          (λ z. let T = back_some w l (get_or w.prev b 0) (get_or w.next b 0) (some z) in
          redirect_next _ _ l (L l) _ _ _ _ z.block T.0
          (T.1 ∙ ap (λ (c : ℕ). set w.prev c (get_or w.prev b 0)) (at_on _ z.block z.is_on z.on))
          (omega (arith, Z.prev, low_on _ z.is_on))
          z.is_on
          (λ e. some z (ended e))
          z.back
          (λ x i e. start_same p B x z.block (low_on x i) (low_on _ z.is_on) (sym (forth x i e) ∙ z.on)))
          is_after
        where
          some : Ahead st w (list_word l) (get_or w.last l 0) (L l) b → get_or w.next b 0 ≢ 0
          some z e = some_start p B z.block (low_on _ z.is_on) (sym z.on ∙ e)

      -- the link a to a block of the list leads to a block that names it
      named_on : (a x : ℕ) → In x (L l) → a ≡ start p x → Named w l a
      named_on a x i e = rw (at_on a x i e) (omega (arith, low_on x i, Z.list), (on_list p K l x hl i).names)

      -- list words stay
      pub words_same : (z : ℕ) → get_or (remove p l b w).list z 0 ≡ get_or w.list z 0
      unfolding remove
      words_same = between_list w l (get_or w.prev b 0) (get_or w.next b 0)
          (λ f. ⊎_elim (λ z. absurd (f z.1)) (λ z. named_on _ z.block z.is_on z.back) is_before)
          (λ f. ⊎_elim (λ z. absurd (f z.0)) (λ z. named_on _ z.block z.is_on z.on) is_after)

      -- the list l after
      seg_shorter : Run p st (remove p l b w) l (without b (L l))
      unfolding before_b after_b
      seg_shorter =
          seg_to st (remove p l b w) (list_word l) (sym lasts_led.first)
          (swap_off (start p b) (get_or w.prev b 0) 0 (λ e. some_start p B b low_b (sym e))) (sym firsts_led.first) refl
          (seg_without st w (remove p l b w) (list_word l) (get_or w.last l 0) b low_b 0 (get_or w.first l 0) (L l)
          (λ x i f. record { names = words_same x; prev = lasts_led.next x i; next = firsts_led.next x i }) S)

      -- a block that is not on the list stays as it is
      pub remove_stays : (x : ℕ) → (In x (L l) → ⊥) → Same st st w (remove p l b w) x
      remove_stays x f =
          record { occupied = λ o. o; next = firsts_led.nexts x f; prev = lasts_led.nexts x f; list = words_same x }

      -- a remove takes the block out of its list
      pub remove_lists : Lists p st (remove p l b w) (put l (without b (L l)) L)
      remove_lists =
          lists_put p K (remove p l b w) l (without b (L l)) seg_shorter firsts_led.firsts lasts_led.firsts
          (λ m x hm f i. remove_stays x (λ j. f (one_list p K m l x hm hl i j)))

    -- ---- append

    -- a list whose first is none has no block
    none_on : (l : ℕ) → l < 1470 → get_or w.first l 0 ≡ 0 → (x : ℕ) → In x (L l) → ⊥
    unfolding In
    none_on l h e x i = subst (In x) (none_first p B K l h e) i

    module _ (l o : ℕ) (hl : l < 1470) (ho : o < 1470) (ne : l ≢ o) where
      -- nothing to append
      append_nothing : get_or w.first o 0 ≡ 0 → Lists p st (append p l o w) (put o [] (put l (L l ++ L o) L))
      append_nothing e =
          let none : L o ≡ [] = none_first p B K o ho e in
          let all : L l ≡ L l ++ L o = sym (append-nil (L l)) ∙ ap (λ (k : List ℕ). L l ++ k) (sym none) in
          let P : ℕ → List ℕ → Type 0 = λ m xs. (m < 1470 → Run p st w m xs) in
          rw (append_none p l o w e)
          (record {
            seg = put_all o [] (put l (L l ++ L o) L) P (subst (P o) none (K.seg o))
                (λ m f. put_all l (L l ++ L o) L P (subst (P l) all (K.seg l)) (λ k g. K.seg k) m);
          })

      -- the two lists have no block in common
      apart : (x : ℕ) → In x (L l) → In x (L o) → ⊥
      apart x i j = ne (one_list p K l o x hl ho i j)

      module _ (some : get_or w.first o 0 ≢ 0) where
        -- the next of the last block of l, or the first of l, is the first of o now
        nexts_led : Redirect 0 (get_or w.first o 0) l (L l) w.first (link p l o w).first w.next (link p l o w).next
        unfolding set_first set_last set_next set_prev
        nexts_led = ⊎_elim
            (λ z. let T = link_none w l o z.0 in
            redirect_first _ _ l (L l) _ _ _ _ (ap (λ (t : Words). t.first) T) (ap (λ (t : Words). t.next) T)
            (omega (arith, Z.first, hl))
            z.0
            (λ x i. absurd (none_on l hl z.0 x i)))
            (λ z.
            let low : z.block < p.blocks = (on_list p K l z.block hl z.is_on).low in
            let first : get_or w.first l 0 ≢ 0 = λ e. none_on l hl e z.block z.is_on in
            let T = link_some w l o first in
            redirect_next _ _ l (L l) _ _ _ _ z.block (ap (λ (t : Words). t.first) T)
            (ap (λ (t : Words). t.next) T ∙ ap (λ (c : ℕ). set w.next c (get_or w.first o 0)) (ap (block_at p) z.is ∙ block_at_start p B z.block low))
            (omega (arith, Z.next, low))
            z.is_on
            first
            z.end
            (λ x i e. start_same p B x z.block (on_list p K l x hl i).low low (sym (ends x i e) ∙ z.is)))
            (seg_last st w (list_word l) _ _ _ (L l) (K.seg l hl))
          where
            ends : (x : ℕ) → In x (L l) → get_or w.next x 0 ≡ 0 → get_or w.last l 0 ≡ start p x
            ends x i e = ⊎_elim
                (λ z. z.1)
                (λ z. absurd (some_start p B z.block (on_list p K l _ hl z.is_on).low (sym z.on ∙ e)))
                (seg_after st w (list_word l) _ _ _ (L l) (K.seg l hl) x i)

        -- the other list has a last block
        last_some : get_or w.last o 0 ≢ 0
        last_some e = ⊎_elim
            (λ z. some z.0)
            (λ z. some_start p B z.block (on_list p K o _ ho z.is_on).low (sym z.is ∙ e))
            (seg_last st w (list_word o) _ _ _ (L o) (K.seg o ho))

        -- the prev of the first block of o is the last of l now
        prevs_led : Redirect 0 (get_or w.last l 0) o (L o) w.last w.last w.prev (link p l o w).prev
        unfolding set_first set_last set_next set_prev
        prevs_led = ⊎_elim
            (λ z.
            let same : (link p l o w).prev ≡ w.prev = ap (λ (t : Words). t.prev) (link_none w l o z.0) in
            let still : (a : ℕ) → a ≡ swap 0 (get_or w.last l 0) a = λ a. sym (ap (λ (v : ℕ). swap 0 v a) z.1 ∙ swap_same 0 a) in
            record {
              first = still (get_or w.last o 0);
              firsts = λ m f. refl;
              next = λ x i. ap (λ (k : List ℕ). get_or k x 0) same ∙ still (get_or w.prev x 0);
              nexts = λ x i. ap (λ (k : List ℕ). get_or k x 0) same;
            })
            (λ z. behind (λ e. none_on l hl e z.block z.is_on) (seg_first st w (list_word o) _ _ _ (L o) (K.seg o ho)))
            (seg_last st w (list_word l) _ _ _ (L l) (K.seg l hl))
          where
            begins : (x : ℕ) → In x (L o) → get_or w.prev x 0 ≡ 0 → get_or w.first o 0 ≡ start p x
            begins x i e = ⊎_elim
                (λ z. z.0)
                (λ z. absurd (some_start p B z.block (on_list p K o _ ho z.is_on).low (sym z.back ∙ e)))
                (seg_before st w (list_word o) _ _ _ (L o) (K.seg o ho) x i)

            behind : get_or w.first l 0 ≢ 0
                → ((get_or w.first o 0 ≡ 0) × (get_or w.last o 0 ≡ 0))
                ⊎ ((y : ℕ) × In y (L o) × (get_or w.first o 0 ≡ start p y) × (get_or w.prev y 0 ≡ 0))
                → Redirect 0 (get_or w.last l 0) o (L o) w.last w.last w.prev (link p l o w).prev
            behind first (inl z) = absurd (some z.0)
            behind first (inr z) =
                let low : z.0 < p.blocks = (on_list p K o z.0 ho z.1).low in
                redirect_next _ _ o (L o) _ _ _ _ z.0
                refl
                (ap (λ (t : Words). t.prev) (link_some w l o first)
                ∙ ap (λ (c : ℕ). set w.prev c (get_or w.last l 0)) (ap (block_at p) z.2 ∙ block_at_start p B z.0 low))
                (omega (arith, Z.prev, low))
                z.1
                last_some
                z.3
                (λ x i e. start_same p B x z.0 (on_list p K o x ho i).low low (sym (begins x i e) ∙ z.2))

        -- the words after: list words are stored, and o has no block
        W : Words
        W = set_last o 0 (set_first o 0 (with_list (labels l (L o) (link p l o w).list) (link p l o w)))

        after_is : append p l o w ≡ W
        unfolding append W
        after_is =
            if_false (eqb (get_or w.first o 0) 0) w _ (ne_eqb _ _ some)
            ∙ ap (λ (t : Words). set_last o 0 (set_first o 0 t))
            (relabel_labels p.blocks l (get_or w.first o 0) (L o) (link p l o w)
            (seg_chain st w (list_word o) _ _ _ (L o) (link p l o w).next (λ x i. nexts_led.nexts x (λ j. apart x j i)) (K.seg o ho))
            (seg_short p B st w (list_word o) _ _ _ (L o) (K.seg o ho)))

        last_at : (m : ℕ) → m ≢ o → get_or W.last m 0 ≡ get_or (set w.last l (get_or w.last o 0)) m 0
        unfolding W set_first set_last with_list
        last_at m f = set_off (link p l o w).last o 0 m f ∙ ap (λ (k : List ℕ). get_or k m 0) (link_last w l o)

        last_gone : get_or W.last o 0 ≡ 0
        unfolding W set_first set_last with_list
        last_gone =
            set_at (link p l o w).last o 0
            (omega (arith, ap length (link_last w l o), length-set w.last l (get_or w.last o 0), Z.last, ho))

        list_off : (x : ℕ) → (In x (L o) → ⊥) → get_or W.list x 0 ≡ get_or w.list x 0
        unfolding W set_first set_last with_list
        list_off x f = labels_off l (L o) (link p l o w).list x f ∙ ap (λ (k : List ℕ). get_or k x 0) (link_list p l o w)

        list_in : (x : ℕ) → In x (L o) → get_or W.list x 0 ≡ list_word l
        unfolding W set_first set_last with_list
        list_in x i =
            labels_in l (L o) (link p l o w).list x
            (subst (λ (k : ℕ). Under k (L o)) (sym (ap length (link_list p l o w) ∙ Z.list))
            (seg_under p st w (list_word o) _ _ _ (L o) (K.seg o ho)))
            (inl i)

        -- the blocks of o, behind the last of l
        seg_moved : Seg p st W (list_word l) (get_or W.last l 0) (get_or w.last l 0) (get_or w.first o 0) (L o)
        unfolding W set_first set_last with_list
        seg_moved =
            seg_to st W (list_word l)
            (swap_off 0 (get_or w.last l 0) (get_or w.last o 0) last_some
            ∙ sym (last_at l ne ∙ set_at w.last l (get_or w.last o 0) (omega (arith, Z.last, hl))))
            (swap_at 0 (get_or w.last l 0) 0 refl) refl refl
            (seg_map p (swap 0 (get_or w.last l 0)) st st w W (list_word o) (list_word l) (get_or w.last o 0) 0 (get_or w.first o 0) (L o)
            (λ b h. swap_off 0 (get_or w.last l 0) (start p b) (some_start p B b h))
            (λ x i. record {
              occupied = λ h. h;
              names = list_in x i;
              prev = prevs_led.next x i;
              next = nexts_led.nexts x (λ j. apart x j i);
            })
            (K.seg o ho))

        -- the list l with the blocks of o behind its own
        seg_longer : Run p st W l (L l ++ L o)
        unfolding W set_first set_last with_list
        seg_longer =
            seg_to st W (list_word l) {xs = L l ++ L o} refl refl (sym (set_off (link p l o w).first o 0 l ne ∙ nexts_led.first)) refl
            (seg_join st w W (list_word l) (get_or w.last l 0) (get_or W.last l 0) (get_or w.first o 0) (L o) 0 (get_or w.first l 0) (L l)
            (λ x i. record {
              names = list_off x (apart x i);
              prev = prevs_led.nexts x (apart x i);
              next = nexts_led.next x i;
            })
            seg_moved (K.seg l hl))

        -- a block that is on neither list stays as it is
        some_stays : (x : ℕ) → (In x (L l) → ⊥) → (In x (L o) → ⊥) → Same st st w W x
        unfolding W set_first set_last with_list
        some_stays x f g =
            record { occupied = λ h. h; next = nexts_led.nexts x f; prev = prevs_led.nexts x g; list = list_off x g }

        -- and every other list
        seg_apart : (m : ℕ) → m ≢ l → m ≢ o → m < 1470 → Run p st W m (L m)
        unfolding W set_first set_last with_list
        seg_apart m f g hm =
            seg_to st W (list_word m) (sym (last_at m g ∙ set_off w.last l (get_or w.last o 0) m f)) refl
            (sym (set_off (link p l o w).first o 0 m g ∙ nexts_led.firsts m f)) refl
            (seg_same p st st w W (list_word m) (get_or w.last m 0) 0 (get_or w.first m 0) (L m)
            (λ x i. some_stays x (λ j. f (one_list p K m l x hm hl i j)) (λ j. g (one_list p K m o x hm ho i j)))
            (K.seg m hm))

        append_some : Lists p st W (put o [] (put l (L l ++ L o) L))
        unfolding Seg
        append_some =
            record {
              seg = put_all o [] (put l (L l ++ L o) L) (λ m xs. m < 1470 → Run p st W m xs)
                  (λ h. (subst (λ (t : Words). get_or t.first o 0 ≡ 0) after_is (append_empties p l o w (omega (arith, Z.first))), last_gone))
                  (put_all l (L l ++ L o) L (λ m xs. m ≢ o → m < 1470 → Run p st W m xs) (λ f h. seg_longer) seg_apart);
            }

      -- an append puts the blocks of o behind those of l, and leaves o empty
      pub append_lists : Lists p st (append p l o w) (put o [] (put l (L l ++ L o) L))
      append_lists = go (ℕ_discrete (get_or w.first o 0) 0)
        where
          go : Dec (get_or w.first o 0 ≡ 0) → Lists p st (append p l o w) (put o [] (put l (L l ++ L o) L))
          go (yes e) = append_nothing e
          go (no f) = rw (after_is f) (append_some f)

      pub append_stays : (x : ℕ) → (In x (L l) → ⊥) → (In x (L o) → ⊥) → Same st st w (append p l o w) x
      append_stays x f g = go (ℕ_discrete (get_or w.first o 0) 0)
        where
          go : Dec (get_or w.first o 0 ≡ 0) → Same st st w (append p l o w) x
          go (yes e) = rw (append_none p l o w e) (record { occupied = λ h. h; next = refl; prev = refl; list = refl })
          go (no n) = rw (after_is n) (some_stays n x f g)

-- ---- clearing a block that is on no list

-- the words and the state of such a block are on no list's way
pub clear_lists : (p : Params) {st : List ℕ} {w : Words} {L : ℕ → List ℕ} → Lists p st w L → (b : ℕ) → Off L b
    → Lists p (set st b 0) (clear_block b w) L
unfolding clear_block set_next set_prev set_free set_size set_list set_tls set_cells
clear_lists p {st} {w} K b off =
    lists_off p K b off refl refl
    (λ x ne. record {
      occupied = λ f e. f (sym (set_off st b 0 x ne) ∙ e);
      next = set_off w.next b 0 x ne;
      prev = set_off w.prev b 0 x ne;
      list = set_off w.list b 0 x ne;
    })
