-- Laws of tests, of what holds below a bound, and of lists as sets; those of Below.antt are passed on. Assumes nothing.
use Rattle.std.specs.Prelude.{if◌then◌else◌}
use mathlib.Core.Path.{◌≡◌, refl, sym, ap, ◌∙◌}
use mathlib.Core.Logic.{◌⊎◌, inl, inr, ⊎_elim}
use mathlib.Core.Bool.{Bool, true, false, ◌||◌}
use mathlib.Core.List.{List, [], ◌∷◌, ◌++◌}
use Prim.Native.Nat.{ℕ, zero, suc, ◌<◌}
use native.Mathlib.Decide.{dec_lt}
use native.Mathlib.Omega.{arith}
use lib.Dec.{eqb}
use borrow.Author.Tests.{eqb-true, eq-eqb}
use Rattle.laws.proofs.Below.{true_not_false}
pub use Rattle.laws.proofs.Below.{and_left, and_right, or_cases, or_left, or_right, same_test, test as Bool_cases, all_below_at as all_below_lem, all_below_from as below_all, any_below_from as below_any, any_below_none as below_none_any}
use Rattle.model.specs.Base.{any_below, member, filter, In, Pairwise}

-- ---- tests

pub or_none_left : (a b : Bool) → (a || b) ≡ false → a ≡ false
or_none_left true b e = e
or_none_left false b e = refl

pub or_none_right : (a b : Bool) → (a || b) ≡ false → b ≡ false
or_none_right true true e = e
or_none_right true false e = refl
or_none_right false b e = e

pub not_both : (a : Bool) → a ≡ true → a ≡ false → ⊥
not_both a e f = true_not_false (sym e ∙ f)

-- a property of `if` from both ways
pub if_cases {ℓ} : {A : Type 0} (P : A → Type ℓ) (b : Bool) {x y : A} → (b ≡ true → P x) → (b ≡ false → P y)
    → P (if b then x else y)
if_cases P true f g = f refl
if_cases P false f g = g refl

pub if_true : {A : Type 0} (b : Bool) (x y : A) → b ≡ true → (if b then x else y) ≡ x
if_true b x y e = rw e

pub if_false : {A : Type 0} (b : Bool) (x y : A) → b ≡ false → (if b then x else y) ≡ y
if_false b x y e = rw e

-- ---- below a bound

pub below_last : (i n : ℕ) → i < suc n → (i ≡ n) ⊎ (i < n)
below_last i n l = go (dec_lt i n)
  where
    go : Dec (i < n) → (i ≡ n) ⊎ (i < n)
    go (yes y) = inr y
    go (no f) = inl (omega arith)

pub any_same : (n : ℕ) (f g : ℕ → Bool) → ((i : ℕ) → i < n → f i ≡ g i) → any_below n f ≡ any_below n g
unfolding any_below
any_same zero f g h = refl
any_same (suc n) f g h = rw (h n (omega arith), any_same n f g (λ i l. h i (omega arith)))

-- ---- membership

pub in_member : (x : ℕ) (l : List ℕ) → In x l → member x l ≡ true
unfolding member In
in_member x [] m = absurd m
in_member x (y ∷ l) (inl e) = or_left (member x l) (eq-eqb x y e)
in_member x (y ∷ l) (inr m) = or_right (eqb x y) (in_member x l m)

pub member_in : (x : ℕ) (l : List ℕ) → member x l ≡ true → In x l
unfolding member In
member_in x [] e = not_both false e refl
member_in x (y ∷ l) e =
    ⊎_elim (λ q. inl (eqb-true x y q)) (λ m. inr (member_in x l m)) (or_cases (eqb x y) (member x l) e)

pub member_out : (x : ℕ) (l : List ℕ) → member x l ≡ false → In x l → ⊥
member_out x l e m = not_both (member x l) (in_member x l m) e

pub in_append_left : {A : Type 0} (x : A) (l m : List A) → In x l → In x (l ++ m)
unfolding In
in_append_left x [] m i = absurd i
in_append_left x (y ∷ l) m (inl e) = inl e
in_append_left x (y ∷ l) m (inr i) = inr (in_append_left x l m i)

pub in_append_right : {A : Type 0} (x : A) (l m : List A) → In x m → In x (l ++ m)
unfolding In
in_append_right x [] m i = i
in_append_right x (y ∷ l) m i = inr (in_append_right x l m i)

pub in_append : {A : Type 0} (x : A) (l m : List A) → In x (l ++ m) → In x l ⊎ In x m
unfolding In
in_append x [] m i = inr i
in_append x (y ∷ l) m (inl e) = inl (inl e)
in_append x (y ∷ l) m (inr i) = ⊎_elim (λ a. inl (inr a)) (λ b. inr b) (in_append x l m i)

-- ---- filter

pub in_filter : {A : Type 0} (f : A → Bool) (x : A) (l : List A) → In x (filter f l) → In x l × (f x ≡ true)
unfolding filter In
in_filter f x [] m = absurd m
in_filter f x (y ∷ l) m = go (f y) refl m (in_filter f x l)
  where
    go : (b : Bool) → f y ≡ b → In x (if b then (y ∷ filter f l) else filter f l)
        → (In x (filter f l) → In x l × (f x ≡ true)) → In x (y ∷ l) × (f x ≡ true)
    go true e (inl r) ih = (inl r, ap f r ∙ e)
    go true e (inr m') ih = (inr (ih m').0, (ih m').1)
    go false e m' ih = (inr (ih m').0, (ih m').1)

pub filter_in : {A : Type 0} (f : A → Bool) (x : A) (l : List A) → In x l → f x ≡ true → In x (filter f l)
unfolding filter In
filter_in f x [] m e = absurd m
filter_in f x (y ∷ l) (inl q) e = rw (ap f (sym q) ∙ e) (inl q)
filter_in {A} f x (y ∷ l) (inr m) e =
    if_cases (λ (k : List A). In x k) (f y) (λ t. inr (filter_in f x l m e)) (λ t. filter_in f x l m e)

pub pairwise_filter : {A : Type 0} (R : A → A → Type 0) (f : A → Bool) (l : List A) → Pairwise R l → Pairwise R (filter f l)
unfolding filter Pairwise
pairwise_filter R f [] w = w
pairwise_filter {A} R f (x ∷ l) w =
    if_cases (λ (k : List A). Pairwise R k) (f x)
    (λ t. ((λ y m. w.0 y (in_filter f y l m).0), pairwise_filter R f l w.1))
    (λ t. pairwise_filter R f l w.1)

pub pairwise_more : {A : Type 0} (R S : A → A → Type 0) (l : List A) → ((x y : A) → R x y → S x y) → Pairwise R l → Pairwise S l
unfolding Pairwise
pairwise_more R S [] f w = w
pairwise_more R S (x ∷ l) f w = ((λ y m. f x y (w.0 y m)), pairwise_more R S l f w.1)

pub filter_append : {A : Type 0} (f : A → Bool) (l m : List A) → filter f (l ++ m) ≡ filter f l ++ filter f m
unfolding filter
filter_append f [] m = refl
filter_append {A} f (x ∷ l) m = go (f x) (filter_append f l m)
  where
    go : (b : Bool) → filter f (l ++ m) ≡ filter f l ++ filter f m
        → (if b then (x ∷ filter f (l ++ m)) else filter f (l ++ m)) ≡ (if b then (x ∷ filter f l) else filter f l) ++ filter f m
    go true e = ap (λ (k : List A). x ∷ k) e
    go false e = e
