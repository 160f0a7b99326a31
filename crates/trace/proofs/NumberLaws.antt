-- A word's number as the code answers it, tied to the model's `is_number` and `value_of`. Assumes nothing.
use Rattle.std.specs.Prelude.{if◌then◌else◌, Option, Some, None, Result, Ok, Err, IsUtf8}
use Rattle.std.proofs.lemmas.Str.{IsUtf8-from_ascii}
use Rattle.std.proofs.lemmas.Fmt.{IsAscii-from_digits}
use Rattle.std.specs.Int.{IsInRange}
use Rattle.std.specs.Result.{OkIff, result_ok}
use Rattle.std.specs.Str.Parse.{ParsesUnsigned}
use Rattle.std.proofs.lemmas.Str.Parse.{IsNumeralModel, numerals_by_fold, parse_plain}
use mathlib.Core.Path.{◌≡◌, refl, ap, ◌∙◌}
use mathlib.Core.Bool.{Bool, true, false, not, ◌&&◌, ◌||◌}
use mathlib.Core.Logic.{◌≢◌, ◌⊎◌, inl, inr, ⊎_elim}
use mathlib.Core.List.{List, [], ◌∷◌}
use Prim.Native.Nat.{ℕ, ◌+◌, ◌-◌, ◌*◌, ◌^◌, ◌<◌}
use native.Mathlib.Omega.{arith}
use lib.Dec.{eqb, ltb, leb}
use lib.ListN.{length, get_or}
use borrow.Author.Tests.{ltb-true, lt-ltb, eq-eqb, ne_eqb, le-leb, leb-true}
use Rattle.model.specs.Base.{all_below}
use Rattle.model.specs.Census.{is_digit, value_of, is_number}
use Rattle.laws.proofs.Below.{test, and_left, and_right, and_both, and_second, or_right}
use Rattle.laws.proofs.Text.{all_digits, all_digits_lem, value_from}
use Rattle.trace.specs.Number.{number_of}

-- the library's words for digits and their value are these
in_range : (c : ℕ) → is_digit c ≡ true → IsInRange 48 57 c
unfolding is_digit
in_range c h = (leb-true _ _ (and_left (leb 48 c) _ h), leb-true _ _ (and_right (leb 48 c) _ h))

from_range : (c : ℕ) → IsInRange 48 57 c → is_digit c ≡ true
unfolding is_digit
from_range c r = rw (le-leb 48 c r.0, le-leb c 57 r.1)

own : IsNumeralModel (λ ds. all_digits ds ≡ true) (value_from 0)
unfolding all_digits
own =
    numerals_by_fold _
    (record {
      empty = refl;
      parts = λ c cs h. (in_range c (and_left (is_digit c) _ h), and_right (is_digit c) _ h);
      more = λ c cs r h. and_both (from_range c r) h;
    })
    value_from
    (record { empty = λ n. refl; more = λ n c cs r. let e : 10 * n + (c - 48) ≡ n * 10 + (c - 48) = omega arith in ap (λ (m : ℕ). value_from m cs) e })

-- digits, and below 2^64
whole : List ℕ → Option ℕ
whole cs = if all_digits cs && ltb (value_from 0 cs) (2 ^ 64) then Some (value_from 0 cs) else None

-- what the library reads, but for a plus
parsed : {E : Type 0} (cs : List ℕ) (r : Result ℕ E) → 0 < length cs → get_or cs 0 0 ≢ 43 → ParsesUnsigned 64 10 cs r → result_ok r ≡ whole cs
unfolding whole
parsed cs r l p h = go r (parse_plain own 64 cs r h p)
  where
    go : {E : Type 0} (r : Result ℕ E) → OkIff r ((all_digits cs ≡ true) × (0 < length cs) × (value_from 0 cs < 2 ^ 64)) (value_from 0 cs)
        → result_ok r ≡ (if all_digits cs && ltb (value_from 0 cs) (2 ^ 64) then Some (value_from 0 cs) else None)
    go (Ok x) o = rw (o.0.0, lt-ltb (value_from 0 cs) (2 ^ 64) o.0.2, o.1)
    go (Err e) o = none (test (all_digits cs)) (test (ltb (value_from 0 cs) (2 ^ 64)))
      where
        none : (all_digits cs ≡ true) ⊎ (all_digits cs ≡ false)
            → (ltb (value_from 0 cs) (2 ^ 64) ≡ true) ⊎ (ltb (value_from 0 cs) (2 ^ 64) ≡ false)
            → None ≡ (if all_digits cs && ltb (value_from 0 cs) (2 ^ 64) then Some (value_from 0 cs) else None)
        none (inl y) (inl m) = absurd (o (y, l, ltb-true _ _ m))
        none (inl y) (inr m) = rw (y, m)
        none (inr z) m = rw z

and_true : (a : Bool) → (a && true) ≡ a
and_true true = refl
and_true false = refl

pub number_blank : (cs : List ℕ) → length cs ≡ 0 → None ≡ number_of cs
unfolding number_of is_number
number_blank cs e = rw e

-- a zero in front of more
number_zero : (cs : List ℕ) → (length cs ≡ 1 → ⊥) → get_or cs 0 0 ≡ 48 → None ≡ number_of cs
unfolding number_of is_number
number_zero cs n e = rw (ne_eqb (length cs) 1 n, e, and_second (leb 1 (length cs) && all_below (length cs) (λ i. is_digit (get_or cs i 0))) {b = false} refl)

number_whole : (cs : List ℕ) → 0 < length cs → (length cs ≡ 1) ⊎ (get_or cs 0 0 ≢ 48) → whole cs ≡ number_of cs
unfolding number_of is_number value_of whole
number_whole cs n e =
    let k : leb 1 (length cs) ≡ true = le-leb 1 (length cs) (omega (arith, n)) in
    let f : (eqb (length cs) 1 || not (eqb (get_or cs 0 0) 48)) ≡ true =
    ⊎_elim (λ (o : length cs ≡ 1). rw (eq-eqb (length cs) 1 o)) (λ z. or_right (eqb (length cs) 1) (rw (ne_eqb (get_or cs 0 0) 48 z))) e in
    rw (k, all_digits_lem cs, f, and_true)

no_digits : (cs : List ℕ) → all_digits cs ≡ false → None ≡ whole cs
unfolding whole
no_digits cs z = rw z

plus_first : (cs : List ℕ) → get_or cs 0 0 ≡ 43 → all_digits cs ≡ false
unfolding all_digits is_digit
plus_first [] e = absurd (omega (arith, e))
plus_first (c ∷ cs) e = rw e

-- by the first byte: a plus, a zero in front of more, or neither
module _ (cs : List ℕ) {first : ℕ} (l : 0 < length cs) (f : first ≡ get_or cs 0 0) where
  pub number_plus : first ≡ 43 → None ≡ number_of cs
  number_plus e = no_digits cs (plus_first cs (omega (arith, f, e))) ∙ number_whole cs l (inr (λ q. omega (arith, f, e, q)))

  pub number_led : first ≡ 48 → (length cs ≡ 1 → ⊥) → None ≡ number_of cs
  number_led e n = number_zero cs n (omega (arith, f, e))

  module _ (either : ((first ≡ 48) × (length cs ≡ 1)) ⊎ (first ≡ 48 → ⊥)) where
    no_zero : (length cs ≡ 1) ⊎ (get_or cs 0 0 ≢ 48)
    no_zero = ⊎_elim (λ y. inl y.1) (λ n. inr (λ q. n (omega (arith, f, q)))) either

    -- bytes that are no text
    pub number_none : (IsUtf8 cs → ⊥) → None ≡ number_of cs
    number_none u = go (test (all_digits cs)) ∙ number_whole cs l no_zero
      where
        go : (all_digits cs ≡ true) ⊎ (all_digits cs ≡ false) → None ≡ whole cs
        go (inl y) = absurd (u (IsUtf8-from_ascii cs (IsAscii-from_digits cs (own.to cs y))))
        go (inr z) = no_digits cs z

    pub number_parsed : {E : Type 0} (r : Result ℕ E) {text : List ℕ} {o : Option ℕ} → (first ≡ 43 → ⊥) → text ≡ cs
        → ParsesUnsigned 64 10 text r → o ≡ result_ok r → o ≡ number_of cs
    number_parsed r p t h e = e ∙ parsed cs r l (λ q. p (omega (arith, f, q))) (rw t at h) ∙ number_whole cs l no_zero

-- what an answer says of the word
pub is_number_lem : (w : List ℕ) (n : ℕ) → number_of w ≡ Some n → (is_number w ≡ true) × (value_of w ≡ n)
unfolding number_of
is_number_lem w n e = go (is_number w) e
  where
    go : (b : Bool) → (if b then Some (value_of w) else None) ≡ Some n → (b ≡ true) × (value_of w ≡ n)
    go true e' = (refl, cc)
    go false e' = absurd (let z : ◌≡◌ {A = ℕ} 0 1 = cc in omega arith)

pub no_number : (w : List ℕ) → number_of w ≡ None → is_number w ≡ false
unfolding number_of
no_number w e = go (is_number w) e
  where
    go : (b : Bool) → (if b then Some (value_of w) else None) ≡ None → b ≡ false
    go true e' = absurd (let z : ◌≡◌ {A = ℕ} 0 1 = cc in omega arith)
    go false e' = refl
