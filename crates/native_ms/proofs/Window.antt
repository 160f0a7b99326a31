-- Mark bits in a window of two bytes. Leans on the laws of runs of bits; assumes nothing.
use mathlib.Core.Path.{◌≡◌, refl, sym, ap, ◌∙◌}
use mathlib.Core.Logic.{⊎_elim}
use mathlib.Core.Bool.{Bool, true, false, not}
use mathlib.Core.List.{List}
use Prim.Native.Nat.{ℕ, zero, suc, ◌+◌, ◌-◌, ◌*◌, ◌/◌, ◌%◌, ◌^◌, ◌≤◌, ◌<◌}
use native.Mathlib.Nat.{pow-suc, pow-succ', pow-le-pow_right, div-div-eq-div-mul, add-mul-div_left, mul_assoc, mul_comm, not-suc-le-zero, mod-one}
use lib.Arith.{mod-mul}
use lib.Pow.{pow-add, pow_pos}
use native.Mathlib.Decide.{dec_lt}
use native.Mathlib.Omega.{arith}
use lib.Bits.{bit_and, and_mask}
use lib.Dec.{eqb}
use lib.ListN.{get_or}
use borrow.Author.Tests.{eqb-false, ne_eqb}
use Rattle.model.specs.Memory.{bit_of}
use Rattle.laws.proofs.Base.{Bool_cases, not_both}
use Rattle.native_ms.specs.Bits.{bit_at, any_bit}
use Rattle.native_ms.proofs.Span.{bit_some, bits_none, byte_some, bytes_none}

-- ---- the n low bits of a number

-- bit k of y
abbrev digit : ℕ → ℕ → ℕ
digit y k = y / 2 ^ k % 2

half_digit : (y k : ℕ) → digit (y / 2) k ≡ digit y (suc k)
half_digit y k = ap (λ (x : ℕ). x % 2) (div-div-eq-div-mul y 2 (2 ^ k)) ∙ ap (λ (x : ℕ). y / x % 2) (sym (pow-succ' 2 k))

digit_first : (y : ℕ) → digit y 0 ≡ y % 2
digit_first y = omega arith

halves : (n y : ℕ) → y % 2 ^ suc n ≡ (y / 2 % 2 ^ n) * 2 + y % 2
halves n y = ap (λ (x : ℕ). y % x) (pow-suc 2 n) ∙ mod-mul y (pow_pos n) (omega arith)

-- they are 0 together
low_zero : (n y : ℕ) → ((k : ℕ) → k < n → digit y k ≡ 0) → y % 2 ^ n ≡ 0
low_zero zero y f = mod-one y
low_zero (suc n) y f =
    let high : y / 2 % 2 ^ n ≡ 0 = low_zero n (y / 2) (λ k l. half_digit y k ∙ f (suc k) (omega arith)) in
    omega (arith, halves n y, high, digit_first y, f 0 (omega arith))

zero_low : (n y : ℕ) → y % 2 ^ n ≡ 0 → (k : ℕ) → k < n → digit y k ≡ 0
zero_low zero y e k l = absurd (not-suc-le-zero l)
zero_low (suc n) y e zero l = omega (arith, halves n y, e, digit_first y)
zero_low (suc n) y e (suc k) l =
    sym (half_digit y k) ∙ zero_low n (y / 2) (omega (arith, halves n y, e)) k (omega arith)

-- a test for 0, turned round
pub not_zero : (x : ℕ) {b : Bool} → (x ≡ 0 → false ≡ b) → ((x ≡ 0 → ⊥) → true ≡ b) → not (eqb x 0) ≡ b
not_zero zero none some = none refl
not_zero (suc x) none some = rw (ne_eqb (suc x) 0 (λ e. cc)) (some (λ e. cc))

-- ---- a mask of at most eight bits

mask_is : (n : ℕ) → n ≤ 8 → 1 * 2 ^ n % 2 ^ 64 ≡ 2 ^ n
mask_is n l =
    let top : 2 ^ n ≤ 2 ^ 8 = pow-le-pow_right {n = 2} (omega arith) {i = n} {j = 8} l in
    omega (arith, top)

-- ---- two bytes in one number

-- a bit of the low byte
pair_low : (a b t : ℕ) → t < 8 → digit (a + 256 * b) t ≡ digit a t
pair_low a b t l =
    let eight : t + (8 - t) ≡ 8 = omega arith in
    let low : 2 ^ t * 2 ^ (8 - t) ≡ 256 = sym (pow-add 2 t (8 - t)) ∙ ap (λ (x : ℕ). 2 ^ x) eight in
    let less : 8 - t ≡ suc (7 - t) = omega arith in
    let even : 2 ^ (8 - t) ≡ 2 ^ (7 - t) * 2 = ap (λ (x : ℕ). 2 ^ x) less ∙ pow-suc 2 (7 - t) in
    let parts : a + 256 * b ≡ a + 2 ^ t * (2 ^ (8 - t) * b) = ap (λ (x : ℕ). a + x * b) (sym low) ∙ ap (λ (x : ℕ). a + x) (mul_assoc (2 ^ t) (2 ^ (8 - t)) b) in
    let whole : 2 ^ (8 - t) * b ≡ 2 ^ (7 - t) * b * 2 = rw even (omega (arith, mul_assoc (2 ^ (7 - t)) 2 b, mul_comm 2 b, mul_assoc (2 ^ (7 - t)) b 2)) in
    let quot : (a + 256 * b) / 2 ^ t ≡ a / 2 ^ t + 2 ^ (7 - t) * b * 2 = ap (λ (x : ℕ). x / 2 ^ t) parts ∙ add-mul-div_left a (2 ^ (8 - t) * b) (pow_pos t) ∙ ap (λ (x : ℕ). a / 2 ^ t + x) whole in
    omega (arith, quot)

-- and of the high byte
pair_high : (a b u : ℕ) → a < 256 → digit (a + 256 * b) (8 + u) ≡ digit b u
pair_high a b u l =
    let q : (a + 256 * b) / 256 ≡ b = omega arith in
    let e : (a + 256 * b) / 2 ^ (8 + u) ≡ b / 2 ^ u = ap (λ (x : ℕ). (a + 256 * b) / x) (pow-add 2 8 u) ∙ sym (div-div-eq-div-mul (a + 256 * b) 256 (2 ^ u)) ∙ ap (λ (x : ℕ). x / 2 ^ u) q in
    ap (λ (x : ℕ). x % 2) e

shifted : (x q k : ℕ) → digit (x / 2 ^ q) k ≡ digit x (q + k)
shifted x q k = ap (λ (y : ℕ). y % 2) (div-div-eq-div-mul x (2 ^ q) (2 ^ k)) ∙ ap (λ (y : ℕ). x / y % 2) (sym (pow-add 2 q k))

module _ (ms : List ℕ) (g : ℕ) {x : ℕ} (e : x ≡ get_or ms (g / 8) 0 + 256 * get_or ms (g / 8 + 1) 0) (byte : get_or ms (g / 8) 0 < 256) where
  -- bit k of the window is mark bit g + k
  window_digit : (k : ℕ) → k < 8 → digit (x / 2 ^ (g % 8)) k ≡ digit (get_or ms ((g + k) / 8) 0) ((g + k) % 8)
  window_digit k l = shifted x (g % 8) k ∙ ap (λ (y : ℕ). digit y (g % 8 + k)) e ∙ go (dec_lt (g % 8 + k) 8)
    where
      a : ℕ
      a = get_or ms (g / 8) 0

      b : ℕ
      b = get_or ms (g / 8 + 1) 0

      go : Dec (g % 8 + k < 8) → digit (a + 256 * b) (g % 8 + k) ≡ digit (get_or ms ((g + k) / 8) 0) ((g + k) % 8)
      go (yes y) =
          let at : (g + k) / 8 ≡ g / 8 = omega (arith, y) in
          let off : (g + k) % 8 ≡ g % 8 + k = omega (arith, y) in
          pair_low a b (g % 8 + k) y ∙ sym (rw (at, off))
      go (no y) =
          let at : (g + k) / 8 ≡ g / 8 + 1 = omega (arith, y, l) in
          let off : (g + k) % 8 ≡ g % 8 + k - 8 = omega (arith, y, l) in
          let sum : g % 8 + k ≡ 8 + (g % 8 + k - 8) = omega (arith, y) in
          ap (λ (t : ℕ). digit (a + 256 * b) t) sum ∙ pair_high a b (g % 8 + k - 8) byte ∙ sym (rw (at, off))

  module _ (n : ℕ) (few : n ≤ 8) where
    seen_is : bit_and (x / 2 ^ (g % 8)) (1 * 2 ^ n % 2 ^ 64 - 1) ≡ x / 2 ^ (g % 8) % 2 ^ n
    seen_is = ap (λ (y : ℕ). bit_and (x / 2 ^ (g % 8)) (y - 1)) (mask_is n few) ∙ and_mask (x / 2 ^ (g % 8)) n

    pub few_none : bit_and (x / 2 ^ (g % 8)) (1 * 2 ^ n % 2 ^ 64 - 1) ≡ 0 → false ≡ any_bit ms g n
    unfolding bit_at bit_of
    few_none z =
        sym (bits_none ms g n (λ k l.
        let d : digit (get_or ms ((g + k) / 8) 0) ((g + k) % 8) ≡ 0 = sym (window_digit k (omega arith)) ∙ zero_low n (x / 2 ^ (g % 8)) (sym seen_is ∙ z) k l in
        ap (λ (y : ℕ). eqb y 1) d))

    pub few_some : (bit_and (x / 2 ^ (g % 8)) (1 * 2 ^ n % 2 ^ 64 - 1) ≡ 0 → ⊥) → true ≡ any_bit ms g n
    unfolding bit_at bit_of
    few_some z = ⊎_elim sym (λ none. absurd (z (seen_is ∙ low_zero n (x / 2 ^ (g % 8)) (λ k l. window_digit k (omega arith) ∙ clear none k l)))) (Bool_cases (any_bit ms g n))
      where
        clear : any_bit ms g n ≡ false → (k : ℕ) → k < n → digit (get_or ms ((g + k) / 8) 0) ((g + k) % 8) ≡ 0
        clear none k l =
            ⊎_elim (λ y. absurd (not_both (any_bit ms g n) (bit_some ms g n k l y) none))
            (λ y. omega (arith, eqb-false (digit (get_or ms ((g + k) / 8) 0) ((g + k) % 8)) 1 y))
            (Bool_cases (eqb (digit (get_or ms ((g + k) / 8) 0) ((g + k) % 8)) 1))

-- ---- eight bits

-- those of two bytes, with what is shifted out known
module _ (ms : List ℕ) (g q : ℕ) (eq : g % 8 ≡ q) {a b : ℕ} (ea : a ≡ get_or ms (g / 8) 0) (eb : b ≡ get_or ms (g / 8 + 1) 0) (byte : get_or ms (g / 8) 0 < 256) where
  pub window_none : bit_and ((a + b * 256) / 2 ^ q) 255 ≡ 0 → false ≡ any_bit ms g 8
  window_none z = few_none ms g {x = a + b * 256} (omega (arith, ea, eb)) byte 8 (omega arith) (rw eq z)

  pub window_some : (bit_and ((a + b * 256) / 2 ^ q) 255 ≡ 0 → ⊥) → true ≡ any_bit ms g 8
  window_some z = few_some ms g {x = a + b * 256} (omega (arith, ea, eb)) byte 8 (omega arith) (λ y. z (rw eq at y))

-- those of one
module _ (ms : List ℕ) (g : ℕ) (whole : g % 8 ≡ 0) where
  starts : g ≡ 8 * (g / 8)
  starts = omega (arith, whole)

  first : g / 8 + 0 ≡ g / 8
  first = omega arith

  pub whole_none : get_or ms (g / 8) 0 ≡ 0 → false ≡ any_bit ms g 8
  whole_none z =
      sym (ap (λ (x : ℕ). any_bit ms x 8) starts
      ∙ bytes_none ms (g / 8) 1 (λ k l. let e : g / 8 + k ≡ g / 8 = omega (arith, l) in ap (λ (x : ℕ). get_or ms x 0) e ∙ z))

  pub whole_some : get_or ms (g / 8) 0 < 256 → (get_or ms (g / 8) 0 ≡ 0 → ⊥) → true ≡ any_bit ms g 8
  whole_some byte z =
      sym (ap (λ (x : ℕ). any_bit ms x 8) starts ∙ byte_some ms (g / 8) 1 0 (omega arith) (rw first byte) (λ y. z (rw first at y)))
