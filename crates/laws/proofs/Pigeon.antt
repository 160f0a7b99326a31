-- Counting: sums below a bound, and the pigeonhole in the form of sums (`sum_squeeze`): where no term is larger than its
-- counterpart and the sums are equal, all terms are. And a list without repetition has as many elements as there are members.
-- Assumes nothing.
use Prim.Native.Nat.{ℕ, zero, suc, ◌+◌, ◌<◌, ◌≤◌}
use mathlib.Core.Path.{◌≡◌, refl, sym, ap, ◌∙◌, subst}
use mathlib.Core.Bool.{Bool, true, false, not, ◌||◌}
use mathlib.Core.List.{List, [], ◌∷◌}
use mathlib.Core.Logic.{◌⊎◌, inl, inr, ⊎_elim}
use native.Mathlib.Nat.{not-suc-le-zero, eq-or-lt_of_le, le_of_suc-le-suc, lt-suc_self, le_step}
use native.Mathlib.Numerals.{add-one}
use native.Mathlib.Omega.{arith}
use lib.Dec.{eqb}
use lib.ListN.{length}
use borrow.Author.Tests.{eqb-true, eq-eqb, ne_eqb}
use Rattle.model.specs.Base.{member, sum_below, flag}
use Rattle.laws.proofs.Below.{test}

-- ---- sums

pub sum_same : (n : ℕ) (f g : ℕ → ℕ) → ((i : ℕ) → i < n → f i ≡ g i) → sum_below n f ≡ sum_below n g
unfolding sum_below
sum_same zero f g h = refl
sum_same (suc n) f g h = rw (h n (lt-suc_self n), sum_same n f g (λ i l. h i (le_step l)))

pub sum_zero : (n : ℕ) → sum_below n (λ i. 0) ≡ 0
unfolding sum_below
sum_zero zero = refl
sum_zero (suc n) = rw (sum_zero n)

pub sum_add : (n : ℕ) (f g : ℕ → ℕ) → sum_below n (λ i. f i + g i) ≡ sum_below n f + sum_below n g
unfolding sum_below
sum_add zero f g = refl
sum_add (suc n) f g = omega (arith, sum_add n f g)

pub sum_swap : (m n : ℕ) (f : ℕ → ℕ → ℕ) → sum_below m (λ i. sum_below n (λ j. f i j)) ≡ sum_below n (λ j. sum_below m (λ i. f i j))
unfolding sum_below
sum_swap zero n f = sym (sum_zero n)
sum_swap (suc m) n f =
    ap (λ (x : ℕ). sum_below n (λ j. f m j) + x) (sum_swap m n f)
    ∙ sym (sum_add n (λ j. f m j) (λ j. sum_below m (λ i. f i j)))

-- one term alone is not 0
pub sum_one : (n : ℕ) (f : ℕ → ℕ) (j : ℕ) → j < n → ((i : ℕ) → i < n → (i ≡ j → ⊥) → f i ≡ 0) → sum_below n f ≡ f j
unfolding sum_below
sum_one zero f j l h = absurd (not-suc-le-zero l)
sum_one (suc n) f j l h =
    ⊎_elim
    (λ e.
    let z : sum_below n f ≡ 0 = sum_same n f (λ i. 0) (λ i k. h i (le_step k) (λ q. omega arith)) ∙ sum_zero n in
    let y : f n ≡ f j = ap f (sym e) in
    omega arith)
    (λ k.
    let z : sum_below n f ≡ f j = sum_one n f j k (λ i m. h i (le_step m)) in
    let y : f n ≡ 0 = h n (lt-suc_self n) (λ q. omega arith) in
    omega arith)
    (eq-or-lt_of_le (le_of_suc-le-suc l))

module _ (f g : ℕ → ℕ) where
  pub sum_le : (n : ℕ) → ((i : ℕ) → i < n → f i ≤ g i) → sum_below n f ≤ sum_below n g
  unfolding sum_below
  sum_le zero h = omega arith
  sum_le (suc n) h = omega (arith, h n (lt-suc_self n), sum_le n (λ i l. h i (le_step l)))

  -- the pigeonhole
  pub sum_squeeze : (n : ℕ) → ((i : ℕ) → i < n → f i ≤ g i) → sum_below n f ≡ sum_below n g → (i : ℕ) → i < n → f i ≡ g i
  unfolding sum_below
  sum_squeeze zero h e i l = absurd (not-suc-le-zero l)
  sum_squeeze (suc n) h e i l =
      let a : f n ≤ g n = h n (lt-suc_self n) in
      let b : sum_below n f ≤ sum_below n g = sum_le n (λ i l. h i (le_step l)) in
      let same : f n ≡ g n = omega arith in
      let less : sum_below n f ≡ sum_below n g = omega arith in
      ⊎_elim (λ q. ap f q ∙ same ∙ ap g (sym q)) (λ k. sum_squeeze n (λ i l. h i (le_step l)) less i k)
      (eq-or-lt_of_le (le_of_suc-le-suc l))

-- ---- tests as 0 and 1

pub flag_one : {b : Bool} → b ≡ true → flag b ≡ 1
unfolding flag
flag_one e = rw e

pub flag_none : {b : Bool} → b ≡ false → flag b ≡ 0
unfolding flag
flag_none e = rw e

pub flag_yes : (b : Bool) → flag b ≡ 1 → b ≡ true
unfolding flag
flag_yes true e = refl
flag_yes false e = absurd (omega arith)

pub flag_le : (a b : Bool) → (a ≡ true → b ≡ true) → flag a ≤ flag b
unfolding flag
flag_le true b h = rw (h refl) (omega arith)
flag_le false b h = omega arith

-- yes and no together are all
pub flag_not : (b : Bool) → flag b + flag (not b) ≡ 1
unfolding flag
flag_not true = refl
flag_not false = refl

pub sum_ones : (n : ℕ) → sum_below n (λ i. 1) ≡ n
unfolding sum_below
sum_ones zero = refl
sum_ones (suc n) = omega (arith, sum_ones n)

pub sum_not : (n : ℕ) (f : ℕ → Bool) → sum_below n (λ i. flag (f i)) + sum_below n (λ i. flag (not (f i))) ≡ n
sum_not n f =
    sym (sum_add n (λ i. flag (f i)) (λ i. flag (not (f i))))
    ∙ sum_same n (λ i. flag (f i) + flag (not (f i))) (λ i. 1) (λ i l. flag_not (f i)) ∙ sum_ones n

-- ---- lists without repetition

unfoldable pub Distinct : List ℕ → Type 0
Distinct [] = Unit {0}
Distinct (x ∷ l) = (member x l ≡ false) × Distinct l

unfoldable pub Under : ℕ → List ℕ → Type 0
Under n [] = Unit {0}
Under n (x ∷ l) = (x < n) × Under n l

-- one more element is one more member
one_more : (x : ℕ) (l : List ℕ) → member x l ≡ false → (b : ℕ) → flag (member b (x ∷ l)) ≡ flag (eqb b x) + flag (member b l)
unfolding member
one_more x l e b = go (test (eqb b x))
  where
    go : (eqb b x ≡ true) ⊎ (eqb b x ≡ false) → flag (eqb b x || member b l) ≡ flag (eqb b x) + flag (member b l)
    go (inl y) =
        let m : member b l ≡ false = ap (λ (z : ℕ). member z l) (eqb-true b x y) ∙ e in
        rw (y, m) (omega (arith, flag_one {b = true} refl, flag_none {b = false} refl))
    go (inr z) = rw z (omega (arith, flag_none {b = false} refl))

pub members_count : (n : ℕ) (l : List ℕ) → Distinct l → Under n l → length l ≡ sum_below n (λ b. flag (member b l))
unfolding Distinct Under member
members_count n [] d u = sym (sum_same n (λ b. flag false) (λ b. 0) (λ b k. flag_none refl) ∙ sum_zero n)
members_count n (x ∷ l) d u =
    let rest : length l ≡ sum_below n (λ b. flag (member b l)) = members_count n l d.1 u.1 in
    let one : sum_below n (λ b. flag (eqb b x)) ≡ 1 =
    sum_one n (λ b. flag (eqb b x)) x u.0 (λ i k q. flag_none (ne_eqb i x q)) ∙ flag_one (eq-eqb x x refl) in
    let all : sum_below n (λ b. flag (member b (x ∷ l))) ≡ sum_below n (λ b. flag (eqb b x)) + sum_below n (λ b. flag (member b l)) =
    sum_same n (λ b. flag (member b (x ∷ l))) (λ b. flag (eqb b x) + flag (member b l)) (λ b k. one_more x l d.0 b)
    ∙ sum_add n (λ b. flag (eqb b x)) (λ b. flag (member b l)) in
    let suc_length : length (x ∷ l) ≡ length l + 1 = sym (add-one (length l)) in
    omega arith

-- a list without repetition of numbers below n is at most n long
pub distinct_short : (n : ℕ) (l : List ℕ) → Distinct l → Under n l → length l ≤ n
distinct_short n l d u =
    omega (
      arith,
      members_count n l d u,
      sum_ones n,
      sum_le (λ x. flag (member x l)) (λ x. 1) n
          (λ i h. subst (λ (k : ℕ). flag (member i l) ≤ k) (flag_one {b = true} refl) (flag_le (member i l) true (λ e. refl))),
    )
