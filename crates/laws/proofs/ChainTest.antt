-- The test of a block's chain is R-7's sentence: the walk that counts the block's free cells and then meets 0 has passed whole cells,
-- none of them twice; and a chain of distinct whole cells is no longer than the block has cells, so the walk's bound refuses nothing.
-- Assumes nothing.
use Prim.Native.Nat.{ℕ, zero, suc, ◌+◌, ◌-◌, ◌*◌, ◌/◌, ◌%◌, ◌≤◌, ◌<◌}
use mathlib.Core.Path.{◌≡◌, refl, sym, ap, ◌∙◌}
use mathlib.Core.Logic.{◌≢◌, inl, inr, ⊎_elim}
use mathlib.Core.Bool.{true, false}
use mathlib.Core.List.{List, [], ◌∷◌, map}
use native.Mathlib.Nat.{suc-mul, div-add-mod', le-div_iff_mul-le}
use native.Mathlib.Omega.{arith}
use lib.Dec.{eqb, ltb, leb}
use lib.ListN.{length, get_or, length-map}
use borrow.Author.Tests.{eqb-true, eq-eqb, ne_eqb, ltb-true, leb-true, le-leb}
use Rattle.model.specs.declared.Params.{Params}
use Rattle.model.specs.Base.{In, Pairwise, member}
use Rattle.model.specs.Params.{start}
use Rattle.model.specs.Memory.{load}
use Rattle.model.specs.Tables.{Words}
use Rattle.model.specs.Block.{cell_count, is_cell, ChainStands, chain_from}
use Rattle.model.specs.Sound.{ChainSound, chain_counts, chain_ok}
use Rattle.model.specs.Refusals.{ChainsTested}
use Rattle.laws.proofs.Below.{and_four, and_both}
use Rattle.laws.proofs.Base.{and_left, and_right, not_both}
use Rattle.laws.proofs.Params.{Bounds, good_bounds, some_start}
use Rattle.laws.proofs.Cells.{no_cell}
use Rattle.laws.proofs.Pigeon.{Distinct, Under, distinct_short}

-- ---- a walk that counts, and the cells it passes; 0 is no cell

module _ (p : Params) (h : List ℕ) (b s : ℕ) (none : is_cell p b s 0 ≡ false) where
  abbrev Counts : ℕ → ℕ → Type 0
  Counts k a = chain_counts k p h b s a ≡ true

  abbrev passed : ℕ → ℕ → List ℕ
  passed k a = chain_from k p h b s a

  count_cell : (k a : ℕ) → Counts (suc k) a → is_cell p b s a ≡ true
  unfolding chain_counts
  count_cell k a e = and_left (is_cell p b s a) _ e

  count_rest : (k a : ℕ) → Counts (suc k) a → Counts k (load p h a)
  unfolding chain_counts
  count_rest k a e = and_right (is_cell p b s a) _ e

  count_end : (a : ℕ) → Counts 0 a → a ≡ 0
  unfolding chain_counts
  count_end a e = eqb-true a 0 e

  -- from one address only one count is right
  not_ended : (k a : ℕ) → Counts 0 a → Counts (suc k) a → ⊥
  not_ended k a x y = not_both (is_cell p b s a) (count_cell k a y) (ap (is_cell p b s) (count_end a x) ∙ none)

  one_count : (k m a : ℕ) → Counts k a → Counts m a → k ≡ m
  one_count zero zero a x y = refl
  one_count zero (suc m) a x y = absurd (not_ended m a x y)
  one_count (suc k) zero a x y = absurd (not_ended k a y x)
  one_count (suc k) (suc m) a x y = ap suc (one_count k m (load p h a) (count_rest k a x) (count_rest m a y))

  pub counts_stands : (k a : ℕ) → Counts k a → ChainStands p h a (passed k a)
  unfolding ChainStands chain_from
  counts_stands zero a e = count_end a e
  counts_stands (suc k) a e = rw (count_cell k a e) (refl, counts_stands k (load p h a) (count_rest k a e))

  pub counts_length : (k a : ℕ) → Counts k a → length (passed k a) ≡ k
  unfolding chain_from
  counts_length zero a e = refl
  counts_length (suc k) a e = rw (count_cell k a e) (ap suc (counts_length k (load p h a) (count_rest k a e)))

  -- from each cell passed a smaller count is right
  record Later (k x : ℕ) : Type 0 where
    count : ℕ
    low : suc count ≤ k
    right : Counts (suc count) x

  later : (k a : ℕ) → Counts k a → (x : ℕ) → In x (passed k a) → Later k x
  unfolding chain_from In
  later zero a e x m = absurd m
  later (suc k) a e x m =
      let here : In x (a ∷ passed k (load p h a)) = rw (count_cell k a e) at m in
      ⊎_elim (λ q. record { count = k; low = omega arith; right = ap (λ (y : ℕ). chain_counts (suc k) p h b s y) q ∙ e })
      (λ i. let z = later k (load p h a) (count_rest k a e) x i in record { count = z.count; low = omega (arith, z.low); right = z.right }) here

  pub counts_whole : (k a : ℕ) → Counts k a → (x : ℕ) → In x (passed k a) → is_cell p b s x ≡ true
  counts_whole k a e x m = let z = later k a e x m in count_cell z.count x z.right

  pub counts_once : (k a : ℕ) → Counts k a → Pairwise (λ x y. x ≢ y) (passed k a)
  unfolding chain_from Pairwise
  counts_once zero a e = tt
  counts_once (suc k) a e =
      rw (count_cell k a e) (
        (λ y m q.
            let z = later k (load p h a) (count_rest k a e) y m in
            omega (arith, z.low, one_count (suc k) (suc z.count) a e (ap (λ (x : ℕ). chain_counts (suc z.count) p h b s x) q ∙ z.right))),
        counts_once k (load p h a) (count_rest k a e),
      )

-- ---- and back

-- a chain of whole cells that stands is what a walk with room for it passes
pub stands_passed : (p : Params) (h : List ℕ) (b s : ℕ) → is_cell p b s 0 ≡ false → (k a : ℕ) (l : List ℕ) → ChainStands p h a l
    → ((x : ℕ) → In x l → is_cell p b s x ≡ true) → length l ≤ k → chain_from k p h b s a ≡ l
unfolding ChainStands chain_from In
stands_passed p h b s none zero a [] c f le = refl
stands_passed p h b s none (suc k) a [] c f le = rw (c, none)
stands_passed p h b s none zero a (x ∷ l) c f le = absurd (omega arith)
stands_passed p h b s none (suc k) a (x ∷ l) c f le =
    rw (c.0, f x (inl refl)) (ap (λ (y : List ℕ). x ∷ y) (stands_passed p h b s none k (load p h x) l c.1 (λ y m. f y (inr m)) (omega arith)))

module _ (p : Params) (h : List ℕ) (b s : ℕ) where
  pub stands_counts : (a : ℕ) (l : List ℕ) → ChainStands p h a l → ((x : ℕ) → In x l → is_cell p b s x ≡ true) → chain_counts (length l) p h b s a ≡ true
  unfolding ChainStands chain_counts In
  stands_counts a [] c f = eq-eqb a 0 c
  stands_counts a (x ∷ l) c f =
      rw (c.0, f x (inl refl)) (stands_counts (load p h x) l c.1 (λ y m. f y (inr m)))

  -- which cell of the block it is
  abbrev index : ℕ → ℕ
  index a = (a - start p b) / s

  cell_at : (a : ℕ) → is_cell p b s a ≡ true → (a ≡ start p b + index a * s) × (index a < cell_count p s)
  unfolding is_cell cell_count
  cell_at a e =
      let r = and_four (ltb 0 s) (leb (start p b) a) (eqb ((a - start p b) % s) 0) (leb ((a - start p b) + s) p.bytes) e in
      let some : 0 < s = ltb-true 0 s r.0 in
      let l : start p b ≤ a = leb-true (start p b) a r.1 in
      let z : (a - start p b) % s ≡ 0 = eqb-true ((a - start p b) % s) 0 r.2 in
      let f : (a - start p b) + s ≤ p.bytes = leb-true ((a - start p b) + s) p.bytes r.3 in
      let d : (a - start p b) / s * s + (a - start p b) % s ≡ a - start p b = div-add-mod' (a - start p b) s in
      let room : suc ((a - start p b) / s) * s ≤ p.bytes = omega (arith, suc-mul ((a - start p b) / s) s) in
      (omega arith, (le-div_iff_mul-le {k = s} some).1 room)

  same_index : (x y : ℕ) → is_cell p b s x ≡ true → is_cell p b s y ≡ true → index x ≡ index y → x ≡ y
  same_index x y X Y q = (cell_at x X).0 ∙ ap (λ (k : ℕ). start p b + k * s) q ∙ sym (cell_at y Y).0

  other_index : (x : ℕ) (l : List ℕ) → is_cell p b s x ≡ true → ((y : ℕ) → In y l → is_cell p b s y ≡ true) → ((y : ℕ) → In y l → x ≢ y)
      → member (index x) (map index l) ≡ false
  unfolding member In
  other_index x [] X f g = refl
  other_index x (y ∷ l) X f g =
      rw (ne_eqb (index x) (index y) (λ q. g y (inl refl) (same_index x y X (f y (inl refl)) q)))
      (other_index x l X (λ z m. f z (inr m)) (λ z m. g z (inr m)))

  indices_distinct : (l : List ℕ) → ((x : ℕ) → In x l → is_cell p b s x ≡ true) → Pairwise (λ x y. x ≢ y) l → Distinct (map index l)
  unfolding Distinct Pairwise In
  indices_distinct [] f d = tt
  indices_distinct (x ∷ l) f d =
      (other_index x l (f x (inl refl)) (λ y m. f y (inr m)) d.0, indices_distinct l (λ y m. f y (inr m)) d.1)

  indices_under : (l : List ℕ) → ((x : ℕ) → In x l → is_cell p b s x ≡ true) → Under (cell_count p s) (map index l)
  unfolding Under In
  indices_under [] f = tt
  indices_under (x ∷ l) f = ((cell_at x (f x (inl refl))).1, indices_under l (λ y m. f y (inr m)))

  pub cells_few : (l : List ℕ) → ((x : ℕ) → In x l → is_cell p b s x ≡ true) → Pairwise (λ x y. x ≢ y) l → length l ≤ cell_count p s
  cells_few l f d =
      omega (arith, sym (length-map l index), distinct_short (cell_count p s) (map index l) (indices_distinct l f d) (indices_under l f))

-- ---- test and sentence

module _ (p : Params) (h : List ℕ) (w : Words) (b : ℕ) where
  pub tested_sound : is_cell p b (get_or w.size b 0) 0 ≡ false → chain_ok p h w b ≡ true → ChainSound p h w b
  unfolding chain_ok
  tested_sound none e =
      let s : ℕ = get_or w.size b 0 in
      let k : ℕ = get_or w.cells b 0 in
      let a : ℕ = get_or w.free b 0 in
      let c : chain_counts k p h b s a ≡ true = and_right (leb k (cell_count p s)) _ e in
      record {
        chain = chain_from k p h b s a;
        stands = counts_stands p h b s none k a c;
        word = sym (counts_length p h b s none k a c);
        whole = counts_whole p h b s none k a c;
        once = counts_once p h b s none k a c;
      }

  pub sound_tested : ChainSound p h w b → chain_ok p h w b ≡ true
  unfolding chain_ok
  sound_tested S =
      let s : ℕ = get_or w.size b 0 in
      rw S.word
      (and_both (le-leb _ _ (cells_few p h b s S.chain S.whole S.once)) (stands_counts p h b s (get_or w.free b 0) S.chain S.stands S.whole))

pub chains_tested : ChainsTested
unfolding ChainsTested
chains_tested p h w b fine low =
    let B : Bounds p = good_bounds p fine in
    (tested_sound p h w b (no_cell p b (get_or w.size b 0) (omega (arith, some_start p B b low))), sound_tested p h w b)
