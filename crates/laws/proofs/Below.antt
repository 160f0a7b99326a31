-- Laws of the tests and sums of model/specs/Base.antt: `&&`, `||`, every i below n, some i below n, a sum below n. Assumes nothing.
use Prim.Native.Nat.{ℕ, zero, suc, ◌+◌, ◌<◌, ◌≤◌}
use mathlib.Core.Path.{◌≡◌, refl, sym, ap, ◌∙◌}
use mathlib.Core.Bool.{Bool, true, false, ◌&&◌, ◌||◌}
use mathlib.Core.Logic.{◌⊎◌, inl, inr, ⊎_elim}
use native.Mathlib.Nat.{not-suc-le-zero, eq-or-lt_of_le, le_of_suc-le-suc, lt-suc_self, le_step}
use native.Mathlib.Numerals.{add-one}
use native.Mathlib.Omega.{arith}
use Rattle.model.specs.Base.{all_below, any_below, sum_below}

pub true_not_false : true ≡ false → ⊥
true_not_false e = let z : ◌≡◌ {A = ℕ} 0 1 = cc in omega arith

-- ---- `&&`, `||`, `not`

pub and_left : (a b : Bool) → (a && b) ≡ true → a ≡ true
and_left true b e = refl
and_left false b e = e

pub and_right : (a b : Bool) → (a && b) ≡ true → b ≡ true
and_right true b e = e
and_right false b e = absurd (true_not_false (sym e))

pub and_both : {a b : Bool} → a ≡ true → b ≡ true → (a && b) ≡ true
and_both p q = rw (p, q)

pub and_first : {a : Bool} (b : Bool) → a ≡ false → (a && b) ≡ false
and_first b p = rw p

pub and_second : (a : Bool) {b : Bool} → b ≡ false → (a && b) ≡ false
and_second true p = p
and_second false p = refl

pub or_cases : (a b : Bool) → (a || b) ≡ true → (a ≡ true) ⊎ (b ≡ true)
or_cases true b e = inl refl
or_cases false b e = inr e

pub or_left : {a : Bool} (b : Bool) → a ≡ true → (a || b) ≡ true
or_left b p = rw p

pub or_right : (a : Bool) {b : Bool} → b ≡ true → (a || b) ≡ true
or_right true p = refl
or_right false p = p

pub or_neither : {a b : Bool} → a ≡ false → b ≡ false → (a || b) ≡ false
or_neither p q = rw (p, q)

-- three parts, in the order in which `&&` joins them
pub and_three : (a b c : Bool) → (a && b && c) ≡ true → (a ≡ true) × (b ≡ true) × (c ≡ true)
and_three a b c e =
    let l : (a && b) ≡ true = and_left (a && b) c e in
    (and_left a b l, and_right a b l, and_right (a && b) c e)

pub and_four : (a b c d : Bool) → (a && b && c && d) ≡ true → (a ≡ true) × (b ≡ true) × (c ≡ true) × (d ≡ true)
and_four a b c d e =
    let r = and_three a b c (and_left (a && b && c) d e) in
    (r.0, r.1, r.2, and_right (a && b && c) d e)

pub and_five : (a b c d e : Bool) → (a && b && c && d && e) ≡ true
    → (a ≡ true) × (b ≡ true) × (c ≡ true) × (d ≡ true) × (e ≡ true)
and_five a b c d e h =
    let r = and_four a b c d (and_left (a && b && c && d) e h) in
    (r.0, r.1, r.2, r.3, and_right (a && b && c && d) e h)

pub and_seven : (a b c d e f g : Bool) → (a && b && c && d && e && f && g) ≡ true
    → (a ≡ true) × (b ≡ true) × (c ≡ true) × (d ≡ true) × (e ≡ true) × (f ≡ true) × (g ≡ true)
and_seven a b c d e f g h =
    let six : (a && b && c && d && e && f) ≡ true = and_left (a && b && c && d && e && f) g h in
    let r = and_five a b c d e (and_left (a && b && c && d && e) f six) in
    (r.0, r.1, r.2, r.3, r.4, and_right (a && b && c && d && e) f six, and_right (a && b && c && d && e && f) g h)

-- a test is one or the other
pub test : (a : Bool) → (a ≡ true) ⊎ (a ≡ false)
test true = inl refl
test false = inr refl

-- two tests that say yes alike are equal
pub same_test : (a b : Bool) → (a ≡ true → b ≡ true) → (b ≡ true → a ≡ true) → a ≡ b
same_test true b f g = sym (f refl)
same_test false true f g = g refl
same_test false false f g = refl

-- ---- every i below n

pub all_below_at : (n : ℕ) (f : ℕ → Bool) → all_below n f ≡ true → (i : ℕ) → i < n → f i ≡ true
unfolding all_below
all_below_at zero f e i l = absurd (not-suc-le-zero l)
all_below_at (suc n) f e i l =
    ⊎_elim (λ q. ap f q ∙ and_left (f n) _ e) (λ k. all_below_at n f (and_right (f n) _ e) i k)
    (eq-or-lt_of_le (le_of_suc-le-suc l))

pub all_below_from : (n : ℕ) (f : ℕ → Bool) → ((i : ℕ) → i < n → f i ≡ true) → all_below n f ≡ true
unfolding all_below
all_below_from zero f h = refl
all_below_from (suc n) f h = and_both (h n (lt-suc_self n)) (all_below_from n f (λ i l. h i (le_step l)))

-- one i that fails
pub all_below_off : (n : ℕ) (f : ℕ → Bool) (i : ℕ) → i < n → f i ≡ false → all_below n f ≡ false
unfolding all_below
all_below_off zero f i l e = absurd (not-suc-le-zero l)
all_below_off (suc n) f i l e =
    ⊎_elim (λ q. and_first _ (ap f (sym q) ∙ e)) (λ k. and_second (f n) (all_below_off n f i k e))
    (eq-or-lt_of_le (le_of_suc-le-suc l))

-- ---- some i below n

pub any_below_from : (n : ℕ) (f : ℕ → Bool) (i : ℕ) → i < n → f i ≡ true → any_below n f ≡ true
unfolding any_below
any_below_from zero f i l e = absurd (not-suc-le-zero l)
any_below_from (suc n) f i l e =
    ⊎_elim (λ q. or_left _ (ap f (sym q) ∙ e)) (λ k. or_right (f n) (any_below_from n f i k e))
    (eq-or-lt_of_le (le_of_suc-le-suc l))

pub any_below_at : (n : ℕ) (f : ℕ → Bool) → any_below n f ≡ true → (i : ℕ) × (i < n) × (f i ≡ true)
unfolding any_below
any_below_at zero f e = absurd (true_not_false (sym e))
any_below_at (suc n) f e =
    ⊎_elim (λ h. (n, lt-suc_self n, h)) (λ h. let r = any_below_at n f h in (r.0, le_step r.1, r.2))
    (or_cases (f n) _ e)

pub any_below_none : (n : ℕ) (f : ℕ → Bool) → ((i : ℕ) → i < n → f i ≡ false) → any_below n f ≡ false
unfolding any_below
any_below_none zero f h = refl
any_below_none (suc n) f h = or_neither (h n (lt-suc_self n)) (any_below_none n f (λ i l. h i (le_step l)))

-- ---- a loop that counts down: what is left of all or of some

module _ (f : ℕ → Bool) where
  pub all_end : (k : ℕ) → k ≤ 0 → all_below k f ≡ true
  unfolding all_below
  all_end zero h = refl
  all_end (suc k) h = absurd (not-suc-le-zero h)

-- ---- a loop that counts up: r is the test of the i-th, which settles all; and the sum of those passed

module _ (n : ℕ) (f : ℕ → Bool) (i : ℕ) {r : Bool} (l : i < n) (e : r ≡ f i) where
  pub all_fails : r ≡ false → false ≡ all_below n f
  all_fails z = sym (all_below_off n f i l (sym e ∙ z))

pub sum_start : (f : ℕ → ℕ) → sum_below 0 f ≡ 0
unfolding sum_below
sum_start f = refl

pub sum_up : (k : ℕ) (f : ℕ → ℕ) → sum_below (k + 1) f ≡ f k + sum_below k f
unfolding sum_below
sum_up k f = rw add-one
