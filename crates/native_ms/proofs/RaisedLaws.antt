-- The raised size as the code answers it: what it is where a block holds it, and else that it is too big. And the shifted
-- address: what it is in the ranges of a request, and else that it is off.
use Rattle.std.specs.Prelude.{Some, None}
use Prim.Native.Nat.{ℕ, ◌+◌, ◌-◌, ◌%◌, ◌^◌, ◌<◌, ◌≤◌}
use mathlib.Core.Path.{◌≡◌, sym, ◌∙◌}
use mathlib.Core.Bool.{Bool, true, false, ◌&&◌}
use mathlib.Core.Logic.{◌⊎◌, inl, inr, ⊎_elim}
use native.Mathlib.Nat.{mod-lt, mod_self, mod-eq_of_lt}
use native.Mathlib.Omega.{arith}
use lib.Dec.{eqb, leb, ltb}
use borrow.Author.Tests.{leb-true, ltb-true, ltb-false, lt-ltb, le-ltb, eq-eqb, ne_eqb, eqb-true}
use Rattle.model.specs.declared.Address.{Address}
use Rattle.model.specs.declared.Params.{Params}
use Rattle.model.specs.SizeClasses.{raised, shift, align_allocation}
use Rattle.model.specs.Calls.{too_big}
use Rattle.laws.proofs.Below.{test, and_four}
use Rattle.laws.proofs.Requests.{raised_size, raised_more}
use Rattle.native_ms.specs.Raised.{raised_to, shifted_to}

module _ (p : Params) (size align : ℕ) where
  raised_sum : raised p size align ≡ size + (align - p.min)
  raised_sum = ⊎_elim (λ t. raised_more p size align (ltb-true p.min align t)) (λ t. raised_size p size align (ltb-false p.min align t) ∙ omega (arith, ltb-false p.min align t)) (test (ltb p.min align))

  pub raised_past : p.bytes < size + (align - p.min) → None ≡ raised_to p size align
  unfolding raised_to too_big
  raised_past h = rw (lt-ltb p.bytes (raised p size align) (omega (arith, h, raised_sum)))

  pub raised_in : {r : ℕ} → r ≡ size + (align - p.min) → r ≤ p.bytes → Some r ≡ raised_to p size align
  unfolding raised_to too_big
  raised_in e h = rw (le-ltb p.bytes (raised p size align) (omega (arith, e, h, raised_sum)), e, ← raised_sum)

module _ (region align offset : ℕ) {may : Bool} (e : may ≡ (leb 1 align && leb align 64 && ltb region (2 ^ 47) && leb offset 65536)) where
  pub shifted_none : may ≡ false → None ≡ shifted_to region align offset
  unfolding shifted_to
  shifted_none z = rw (sym e ∙ z)

  pub shift_ranges : may ≡ true → (0 < align) × (align ≤ 64) × (region < 2 ^ 47) × (offset ≤ 65536)
  shift_ranges z =
      let r = and_four (leb 1 align) (leb align 64) (ltb region (2 ^ 47)) (leb offset 65536) (sym e ∙ z) in
      (leb-true 1 align r.0, leb-true align 64 r.1, ltb-true region (2 ^ 47) r.2, leb-true offset 65536 r.3)

  pub shifted_at : may ≡ true → {r : Address} → r.0 ≡ align_allocation region align offset → Some r ≡ shifted_to region align offset
  unfolding shifted_to
  shifted_at z q = rw (sym e ∙ z, ← q)

-- ---- whether MIN divides

module _ (x m : ℕ) where
  pub divides_words : (m ≡ 4) ⊎ (m ≡ 8) → x % 8 ≡ 0 → true ≡ eqb (x % m) 0
  divides_words (inl e) z = rw e (sym (eq-eqb (x % 4) 0 (omega arith)))
  divides_words (inr e) z = rw e (sym (eq-eqb (x % 8) 0 z))

  pub divides_eight : (x % 8 ≡ 0 → ⊥) → m ≡ 8 → false ≡ eqb (x % m) 0
  divides_eight n e = rw e (sym (ne_eqb (x % 8) 0 n))

  pub divides_four : (m ≡ 4) ⊎ (m ≡ 8) → (m ≡ 8 → ⊥) → eqb (x % 4) 0 ≡ eqb (x % m) 0
  divides_four (inl e) n = rw e
  divides_four (inr e) n = absurd (n e)

-- what the answer says
pub divides_no : {q : Bool} {y : ℕ} → q ≡ eqb y 0 → q ≡ false → y ≡ 0 → ⊥
divides_no {y = y} e n z =
    let f : ◌≡◌ {A = Bool} true false = sym (eq-eqb y 0 z) ∙ sym e ∙ n in
    let g : ◌≡◌ {A = ℕ} 0 1 = cc in
    omega arith

pub divides_yes : {q : Bool} {y : ℕ} → q ≡ eqb y 0 → q ≡ true → y ≡ 0
divides_yes {y = y} e t = eqb-true y 0 (sym e ∙ t)

-- ---- the shift of an address: none where the align leaves no rest, else what the rest lacks

module _ (region align offset : ℕ) (pos : 0 < align) {rest : ℕ} (e : rest ≡ (region + offset) % align) where
  low : rest < align
  low = omega (arith, e, mod-lt (region + offset) pos)

  pub rest_within : rest ≤ align
  rest_within = omega (arith, low)

  pub shift_none : rest ≡ 0 → region ≡ align_allocation region align offset
  unfolding align_allocation shift
  shift_none z =
      let whole : align - rest ≡ align = omega (arith, z) in
      rw (← e, whole, mod_self align) (omega arith)

  pub shift_up : (rest ≡ 0 → ⊥) → region + (align - rest) ≡ align_allocation region align offset
  unfolding align_allocation shift
  shift_up some =
      let part : align - rest < align = omega (arith, some, pos, low) in
      rw (← e, mod-eq_of_lt part)
