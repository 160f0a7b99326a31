-- A power of two has a single one bit, and a number with a single one bit is a power of two. Assumes nothing.
use Prim.Native.Nat.{ℕ, zero, suc, ◌+◌, ◌-◌, ◌*◌, ◌/◌, ◌%◌, ◌^◌, ◌<◌, ◌≤◌}
use mathlib.Core.Path.{◌≡◌, sym, ap, ◌∙◌}
use mathlib.Core.Bool.{true, false}
use mathlib.Core.Logic.{⊎_elim}
use native.Mathlib.Omega.{arith}
use lib.Count.{ones_step, ones_cat}
use lib.Dec.{eqb}
use lib.Pow.{pow_pos, pow_mono}
use borrow.Author.Tests.{eq-eqb, ne_eqb, eqb-true, eqb-false}
use Rattle.std.specs.Int.RustNames.{count_ones, bit_and}
use Rattle.std.proofs.lemmas.Nat.{zero_from_ones, and_mask}
use Rattle.model.specs.Params.{power_of_two}
use Rattle.laws.proofs.Below.{test, any_below_from, any_below_none}

ones_power : (k : ℕ) → count_ones (2 ^ k) ≡ 1
unfolding count_ones
ones_power k =
    let e : 2 ^ k ≡ 1 * 2 ^ k + 0 = omega arith in
    ap count_ones e ∙ ones_cat k 1 0 (pow_pos k)

-- the place of its one bit, if n is below 2^d
one_place : (d n : ℕ) → n < 2 ^ d → count_ones n ≡ 1 → (k : ℕ) × (k < d) × (n ≡ 2 ^ k)
unfolding count_ones
one_place zero n l e = let z : n ≡ 0 = omega arith in absurd (let q : count_ones 0 ≡ 1 = ap count_ones (sym z) ∙ e in omega arith)
one_place (suc d) n l e =
    let s = ones_step n in
    ⊎_elim
    (λ t.
    let odd : n % 2 ≡ 1 = eqb-true _ _ t in
    let none : n / 2 ≡ 0 = zero_from_ones (n / 2) (omega arith) in
    (0, omega arith, omega arith))
    (λ t.
    let even : n % 2 ≡ 0 = omega (arith, eqb-false _ _ t) in
    let r = one_place d (n / 2) (omega arith) (omega arith) in
    (suc r.0, omega (arith, r.1), omega (arith, r.2)))
    (test (eqb (n % 2) 1))

power_most : (i : ℕ) → i < 17 → 2 ^ i ≤ 65536
power_most i l = pow_mono {i = i} {j = 16} (omega arith)

module _ (n : ℕ) where
  pub power_high : 65536 < n → false ≡ power_of_two n
  unfolding power_of_two
  power_high h = sym (any_below_none 17 (λ i. eqb n (2 ^ i)) (λ i l. ne_eqb n (2 ^ i) (λ q. absurd (omega (arith, power_most i l)))))

  pub power_low : n ≤ 65536 → eqb (count_ones n) 1 ≡ power_of_two n
  unfolding power_of_two
  power_low h =
      ⊎_elim
      (λ t.
      let r = one_place 17 n (omega arith) (eqb-true _ _ t) in
      t ∙ sym (any_below_from 17 (λ i. eqb n (2 ^ i)) r.0 r.1 (eq-eqb n (2 ^ r.0) r.2)))
      (λ t. t ∙ sym (any_below_none 17 (λ i. eqb n (2 ^ i)) (λ i l. ne_eqb n (2 ^ i) (λ q. eqb-false _ _ t (ap count_ones q ∙ ones_power i)))))
      (test (eqb (count_ones n) 1))

-- the rest by a power of two is a mask
pub mask_rest : (a n : ℕ) → n < 2 ^ 64 → eqb (count_ones n) 1 ≡ true → bit_and a (n - 1) ≡ a % n
mask_rest a n l e =
    let r = one_place 64 n l (eqb-true _ _ e) in
    ap (λ (m : ℕ). bit_and a (m - 1)) r.2 ∙ and_mask a r.0 ∙ ap (λ (m : ℕ). a % m) (sym r.2)
