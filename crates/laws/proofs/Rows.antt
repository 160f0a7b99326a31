-- Laws of a customer's class table (02, R-5): the least number that passes a test (`least_from`), a sum that is 1, what the checker names
-- (`names_the_first`), and what accepted rows cover (`accepted_covers`). Assumes nothing.
use Prim.Native.Nat.{ℕ, zero, suc, ◌+◌, ◌-◌, ◌*◌, ◌/◌, ◌<◌, ◌≤◌}
use mathlib.Core.Path.{◌≡◌, refl, sym, ap, ◌∙◌}
use mathlib.Core.Bool.{Bool, true, false, not, ◌&&◌}
use mathlib.Core.Logic.{◌⊎◌, inl, inr, ⊎_elim, ◌≢◌}
use native.Mathlib.Nat.{not-suc-le-zero, eq-or-lt_of_le, lt-suc_self, le_step}
use native.Mathlib.Omega.{arith}
use lib.Dec.{eqb, ltb, leb}
use borrow.Author.Tests.{eqb-true, ltb-true, leb-true, lt-ltb, le-leb}
use Rattle.model.specs.declared.Params.{Params}
use Rattle.model.specs.declared.Row.{Row}
use Rattle.model.specs.Base.{sum_below, least_from, flag}
use Rattle.model.specs.SizeClasses.{row_at, covers}
use Rattle.model.specs.Classes.{block_words, rows_over, is_bad_count, row_fits, is_bad_row, bad_count, bad_row, classes_fit, NamesTheFirst, OnlyRow, AcceptedCovers}
use Rattle.laws.proofs.Below.{and_left, and_right, and_three, and_four, or_cases, test, true_not_false}
use Rattle.laws.proofs.Base.{if_true, if_false, below_last}

-- ---- the least number that passes

-- n is one of i, i + 1, .. (k of them) and the least of them that passes
pub record First (k i : ℕ) (f : ℕ → Bool) (n : ℕ) : Type 0 where
  pub from : i ≤ n
  pub to : n < i + k
  pub passes : f n ≡ true
  pub before : (m : ℕ) → i ≤ m → m < n → f m ≡ false

module _ (f : ℕ → Bool) where
  pub least_hit : (k i : ℕ) → f i ≡ true → least_from (suc k) i f ≡ i
  unfolding least_from
  least_hit k i e = if_true (f i) _ _ e

  pub least_miss : (k i : ℕ) → f i ≡ false → least_from (suc k) i f ≡ least_from k (suc i) f
  unfolding least_from
  least_miss k i e = if_false (f i) _ _ e

  pub least_end : (i : ℕ) → least_from 0 i f ≡ 0
  unfolding least_from
  least_end i = refl

  -- one that doesn't pass stands before
  first_after : {k i n : ℕ} → f i ≡ false → First k (suc i) f n → First (suc k) i f n
  first_after {k} {i} {n} t r =
      record { from = omega (arith, r.from); to = omega (arith, r.to); passes = r.passes; before = λ m a b. at m b (eq-or-lt_of_le a) }
    where
      at : (m : ℕ) → m < n → (i ≡ m) ⊎ (i < m) → f m ≡ false
      at m b (inl e) = ap f (sym e) ∙ t
      at m b (inr a) = r.before m a b

  -- what is named is the first
  pub least_first : (k i : ℕ) → least_from k i f ≢ 0 → First k i f (least_from k i f)
  least_first zero i h = absurd (h (least_end i))
  least_first (suc k) i h =
      ⊎_elim
      (λ t. rw (least_hit k i t) (record { from = omega arith; to = omega arith; passes = t; before = λ m a b. absurd (omega arith) }))
      (λ t. let e : least_from (suc k) i f ≡ least_from k (suc i) f = least_miss k i t in rw e (first_after t (least_first k (suc i) (λ z. h (e ∙ z)))))
      (test (f i))

  -- where nothing is named, nothing passes
  pub least_none : (k i : ℕ) → 1 ≤ i → least_from k i f ≡ 0 → (m : ℕ) → i ≤ m → m < i + k → f m ≡ false
  least_none zero i h e m a b = absurd (omega arith)
  least_none (suc k) i h e m a b =
      ⊎_elim (λ t. absurd (omega (arith, sym (least_hit k i t) ∙ e)))
      (λ t. ⊎_elim (λ q. ap f (sym q) ∙ t) (λ l. least_none k (suc i) (omega arith) (sym (least_miss k i t) ∙ e) m l (omega arith)) (eq-or-lt_of_le a))
      (test (f i))

  pub none_least : (k i : ℕ) → ((m : ℕ) → i ≤ m → m < i + k → f m ≡ false) → least_from k i f ≡ 0
  none_least zero i h = least_end i
  none_least (suc k) i h = least_miss k i (h i (omega arith) (omega arith)) ∙ none_least k (suc i) (λ m a b. h m (omega arith) (omega arith))

  -- the first is named
  pub first_least : (k i n : ℕ) → First k i f n → least_from k i f ≡ n
  first_least zero i n r = absurd (omega (arith, r.from, r.to))
  first_least (suc k) i n r =
      ⊎_elim (λ e. least_hit k i (ap f e ∙ r.passes) ∙ e)
      (λ l.
      least_miss k i (r.before i (omega arith) l)
      ∙ first_least k (suc i) n (record { from = l; to = omega (arith, r.to); passes = r.passes; before = λ m a b. r.before m (omega arith) b }))
      (eq-or-lt_of_le r.from)

  -- some that don't pass are skipped
  pub least_skip : (d k i : ℕ) → ((m : ℕ) → i ≤ m → m < i + d → f m ≡ false) → least_from (d + k) i f ≡ least_from k (i + d) f
  least_skip zero k i h = ap (λ (x : ℕ). least_from x i f) (z k) ∙ ap (λ (x : ℕ). least_from k x f) (y i)
    where
      z : (k : ℕ) → 0 + k ≡ k
      z k = omega arith

      y : (i : ℕ) → i ≡ i + 0
      y i = omega arith
  least_skip (suc d) k i h =
      ap (λ (x : ℕ). least_from x i f) (z d k) ∙ least_miss (d + k) i (h i (omega arith) (omega arith))
      ∙ least_skip d k (suc i) (λ m a b. h m (omega arith) (omega arith)) ∙ ap (λ (x : ℕ). least_from k x f) (y d i)
    where
      z : (d k : ℕ) → suc d + k ≡ suc (d + k)
      z d k = omega arith

      y : (d i : ℕ) → suc i + d ≡ i + suc d
      y d i = omega arith

  -- and so up to an end w, from a on to b
  pub least_jump : (w a b : ℕ) → a ≤ b → b ≤ w + 1 → ((m : ℕ) → a ≤ m → m < b → f m ≡ false)
      → least_from ((w + 1) - a) a f ≡ least_from ((w + 1) - b) b f
  least_jump w a b l k h =
      let e : (w + 1) - a ≡ (b - a) + ((w + 1) - b) = omega arith in
      let c : a + (b - a) ≡ b = omega arith in
      ap (λ (x : ℕ). least_from x a f) e ∙ least_skip (b - a) ((w + 1) - b) a (λ m x y. h m x (omega arith))
      ∙ ap (λ (x : ℕ). least_from ((w + 1) - b) x f) c

-- ---- how many pass

module _ (f : ℕ → Bool) where
  abbrev passing : ℕ → ℕ
  passing n = sum_below n (λ i. flag (f i))

  passing_yes : (n : ℕ) → f n ≡ true → passing (suc n) ≡ 1 + passing n
  unfolding sum_below flag
  passing_yes n t = rw t

  passing_no : (n : ℕ) → f n ≡ false → passing (suc n) ≡ passing n
  unfolding sum_below flag
  passing_no n t = rw t (omega arith)

  pub count_none : (n : ℕ) → passing n ≡ 0 → (j : ℕ) → j < n → f j ≡ false
  count_none zero e j l = absurd (not-suc-le-zero l)
  count_none (suc n) e j l =
      ⊎_elim (λ t. absurd (omega (arith, passing_yes n t)))
      (λ t. ⊎_elim (λ q. ap f q ∙ t) (λ k. count_none n (sym (passing_no n t) ∙ e) j k) (below_last j n l))
      (test (f n))

  -- one alone
  pub record Alone (n : ℕ) : Type 0 where
    pub at : ℕ
    pub low : at < n
    pub passes : f at ≡ true
    pub only : (j : ℕ) → j < n → f j ≡ true → j ≡ at

  last_alone : (n : ℕ) → f n ≡ true → passing n ≡ 0 → Alone (suc n)
  last_alone n t z = record { at = n; low = lt-suc_self n; passes = t; only = λ j l p. at j p (below_last j n l) }
    where
      at : (j : ℕ) → f j ≡ true → (j ≡ n) ⊎ (j < n) → j ≡ n
      at j p (inl q) = q
      at j p (inr k) = absurd (true_not_false (sym p ∙ count_none n z j k))

  earlier_alone : (n : ℕ) → f n ≡ false → Alone n → Alone (suc n)
  earlier_alone n t r = record { at = r.at; low = le_step r.low; passes = r.passes; only = λ j l p. at j p (below_last j n l) }
    where
      at : (j : ℕ) → f j ≡ true → (j ≡ n) ⊎ (j < n) → j ≡ r.at
      at j p (inl q) = absurd (true_not_false (sym p ∙ ap f q ∙ t))
      at j p (inr k) = r.only j k p

  pub count_one : (n : ℕ) → passing n ≡ 1 → Alone n
  unfolding sum_below
  count_one zero e = absurd (omega arith)
  count_one (suc n) e =
      ⊎_elim (λ t. last_alone n t (omega (arith, passing_yes n t))) (λ t. earlier_alone n t (count_one n (sym (passing_no n t) ∙ e))) (test (f n))

-- ---- what the checker names

pub names_the_first : (p : Params) → NamesTheFirst p
unfolding bad_count bad_row
names_the_first p =
    record {
      count = λ h.
          let r = least_first (is_bad_count p) (block_words p) 1 h in
          (r.from, omega (arith, r.to), r.passes, r.before);
      no_count = λ e n a b. least_none (is_bad_count p) (block_words p) 1 (omega arith) e n a (omega arith);
      row = λ h.
          let r = least_first (is_bad_row p) p.count 1 h in
          (r.from, omega (arith, r.to), r.passes, r.before);
      no_row = λ e n a b. least_none (is_bad_row p) p.count 1 (omega arith) e n a (omega arith);
    }

-- ---- accepted rows

not_bad : (b : Bool) → not b ≡ false → b ≡ true
not_bad true e = refl
not_bad false e = absurd (true_not_false e)

pub record FitRow (p : Params) (r : Row) : Type 0 where
  pub from : 1 ≤ r.from
  pub to : r.from ≤ r.to
  pub holds : r.to ≤ r.cell
  pub words : r.cell ≤ block_words p
  pub room : 8 * r.cell ≤ p.bytes

pub fit_row : (p : Params) (r : Row) → row_fits p r ≡ true → FitRow p r
unfolding row_fits block_words
fit_row p r e =
    let q = and_four (ltb 0 r.from) (leb r.from r.to) (leb r.to r.cell) (leb r.cell (p.bytes / 8)) e in
    let w : r.cell ≤ p.bytes / 8 = leb-true _ _ q.3 in
    record { from = ltb-true _ _ q.0; to = leb-true _ _ q.1; holds = leb-true _ _ q.2; words = w; room = omega arith }

module _ (p : Params) (fit : classes_fit p ≡ true) (some : p.count ≢ 0) where
  both : (bad_count p ≡ 0) × (bad_row p ≡ 0)
  unfolding classes_fit
  both =
      ⊎_elim (λ e. absurd (some (eqb-true p.count 0 e)))
      (λ e. (eqb-true _ _ (and_left (eqb (bad_count p) 0) (eqb (bad_row p) 0) e), eqb-true _ _ (and_right (eqb (bad_count p) 0) (eqb (bad_row p) 0) e)))
      (or_cases (eqb p.count 0) (eqb (bad_count p) 0 && eqb (bad_row p) 0) fit)

  pub accepted_row : (n : ℕ) → 1 ≤ n → n ≤ p.count → FitRow p (row_at p n)
  unfolding is_bad_row
  accepted_row n a b = fit_row p (row_at p n) (not_bad _ ((names_the_first p).no_row both.1 n a b))

  pub once : (count : ℕ) → 1 ≤ count → count ≤ block_words p → rows_over p count ≡ 1
  unfolding is_bad_count
  once count a b = eqb-true _ _ (not_bad _ ((names_the_first p).no_count both.0 count a b))

-- what covering a count says
pub record Covering (r : Row) (count : ℕ) : Type 0 where
  pub some : 1 ≤ r.from
  pub from : r.from ≤ count
  pub to : count ≤ r.to

pub covering : (r : Row) (count : ℕ) → covers r count ≡ true → Covering r count
unfolding covers
covering r count e =
    let q = and_three (ltb 0 r.from) (leb r.from count) (leb count r.to) e in
    record { some = ltb-true _ _ q.0; from = leb-true _ _ q.1; to = leb-true _ _ q.2 }

pub accepted_covers : AcceptedCovers
unfolding AcceptedCovers rows_over
accepted_covers p fit some count a b =
    let o = count_one (λ i. covers (row_at p (suc i)) count) p.count (once p fit some count a b) in
    let n : ℕ = suc o.at in
    let r : FitRow p (row_at p n) = accepted_row p fit some n (omega arith) (omega (arith, o.low)) in
    let c : Covering (row_at p n) count = covering (row_at p n) count o.passes in (
      n,
      record {
        from = omega arith;
        to = omega (arith, o.low);
        covering = o.passes;
        only = λ m x y e.
            let i : ℕ = m - 1 in
            let q : suc i ≡ m = omega arith in
            let z : i ≡ o.at = o.only i (omega arith) (ap (λ (j : ℕ). covers (row_at p j) count) q ∙ e) in
            omega arith;
        holds = omega (arith, c.to, r.holds);
        room = r.room;
      },
    )

-- the one row that a count falls in is the first
pub only_least : (p : Params) (count : ℕ) {n : ℕ} → OnlyRow p count n → least_from p.count 1 (λ m. covers (row_at p m) count) ≡ n
only_least p count {n} o =
    first_least (λ m. covers (row_at p m) count) p.count 1 n
    (record { from = o.from; to = omega (arith, o.to); passes = o.covering; before = λ m a b. missed m a b (test (covers (row_at p m) count)) })
  where
    missed : (m : ℕ) → 1 ≤ m → m < n → (covers (row_at p m) count ≡ true) ⊎ (covers (row_at p m) count ≡ false) → covers (row_at p m) count ≡ false
    missed m a b (inl t) = absurd (omega (arith, o.only m a (omega (arith, o.to)) t))
    missed m a b (inr t) = t

pub covers_no : (r : Row) (count : ℕ) → (Covering r count → ⊥) → covers r count ≡ false
covers_no r count h = ⊎_elim (λ t. absurd (h (covering r count t))) (λ t. t) (test (covers r count))

pub covers_yes : (r : Row) (count : ℕ) → 1 ≤ r.from → r.from ≤ count → count ≤ r.to → covers r count ≡ true
unfolding covers
covers_yes r count s x y = rw (lt-ltb 0 r.from s, le-leb r.from count x, le-leb count r.to y)
