-- Tests and small list functions that the definitions share. A test is a Bool, so that each definition computes.
use Rattle.std.specs.Prelude.{if◌then◌else◌, ◌≡◌, ◌⊎◌, Bool, true, false, ◌&&◌, ◌||◌, List, [], ◌∷◌, ℕ, zero, suc, ◌+◌, eqb}

-- every i below n passes; some i below n passes
unfoldable pub all_below : ℕ → (ℕ → Bool) → Bool
all_below zero test = true
all_below (suc n) test = test n && all_below n test

unfoldable pub any_below : ℕ → (ℕ → Bool) → Bool
any_below zero test = false
any_below (suc n) test = test n || any_below n test

-- x is an element of the list
unfoldable pub member : ℕ → List ℕ → Bool
member x [] = false
member x (y ∷ xs) = eqb x y || member x xs

unfoldable pub filter : {A : Type 0} → (A → Bool) → List A → List A
filter test [] = []
filter test (x ∷ xs) = if test x then (x ∷ filter test xs) else filter test xs

unfoldable pub sum_below : ℕ → (ℕ → ℕ) → ℕ
sum_below zero number = 0
sum_below (suc n) number = number n + sum_below n number

-- the step for 0, then for 1, and so on up to n − 1, each on what the one before left
unfoldable pub each_below : {A : Type 0} → ℕ → (ℕ → A → A) → A → A
each_below zero step x = x
each_below (suc n) step x = step n (each_below n step x)

-- the least of i, i + 1, and so on, k of them, that passes; 0 for none
unfoldable pub least_from : ℕ → ℕ → (ℕ → Bool) → ℕ
least_from zero i f = 0
least_from (suc k) i f = if f i then i else least_from k (suc i) f

-- a yes as 1
unfoldable pub flag : Bool → ℕ
flag = elim [ true ↦ 1 | false ↦ 0 ]

-- x is an element of the list, as a type
unfoldable pub In : {A : Type 0} → A → List A → Type 0
In x [] = ⊥
In x (y ∷ xs) = (x ≡ y) ⊎ In x xs

-- the relation holds of each element and each later one
unfoldable pub Pairwise : {A : Type 0} → (A → A → Type 0) → List A → Type 0
Pairwise R [] = Unit {0}
Pairwise R (x ∷ xs) = (((y : _) → In y xs → R x y) × Pairwise R xs)

-- some element passes
unfoldable pub any : {A : Type 0} → (A → Bool) → List A → Bool
any test [] = false
any test (x ∷ xs) = test x || any test xs
