-- Laws of the tests that code makes of a size, an align and an offset: one for each way out. Assumes nothing.
use Prim.Native.Nat.{ℕ, suc, ◌+◌, ◌-◌, ◌*◌, ◌/◌, ◌%◌, ◌^◌, ◌<◌, ◌≤◌}
use mathlib.Core.Path.{◌≡◌, refl, sym, ◌∙◌}
use mathlib.Core.Bool.{Bool, true, false, ◌&&◌}
use mathlib.Core.Logic.{◌⊎◌, ⊎_elim}
use native.Mathlib.Nat.{mul_comm, pow-le-pow_right, lt_of_lt_of_le}
use native.Mathlib.Omega.{arith}
use lib.Bits.{bit_and, and_mask}
use lib.Count.{count_leading_zeros, leading_top}
use lib.Dec.{ltb, leb, lit<}
use borrow.Author.Tests.{ltb-true, ltb-false, leb-true, leb-false, eq-eqb, ne_eqb, lt-ltb, le-ltb, le-leb, lt-leb}
use Rattle.model.specs.declared.Params.{Params}
use Rattle.model.specs.Params.{power_of_two}
use Rattle.model.specs.SizeClasses.{words_in, highest_bit, bin_in_octave, mi_bin, raised}
use Rattle.model.specs.Calls.{good_request, too_big}
use Rattle.laws.proofs.Below.{test}

-- ---- bins

-- the highest one bit of 8 to 8,191
pub record Octave (n : ℕ) : Type 0 where
  pub zeros_from : 51 ≤ count_leading_zeros 64 n
  pub zeros_to : count_leading_zeros 64 n ≤ 60

pub octave : (n : ℕ) → 8 ≤ n → n < 8192 → Octave n
octave n h l = record { zeros_from = from (test (leb 51 z)); zeros_to = to (test (leb z 60)) }
  where
    z : ℕ
    z = count_leading_zeros 64 n

    top : (j : ℕ) × (z + suc j ≡ 64) × (2 ^ j ≤ n) × (n < 2 ^ suc j)
    top = leading_top 64 n (omega arith) (lt_of_lt_of_le l (pow-le-pow_right {n = 2} (lit< tt) {i = 13} {j = 64} (leb-true 13 64 refl)))

    j : ℕ
    j = top.0

    sum : z + suc j ≡ 64
    sum = top.1

    from : (leb 51 z ≡ true) ⊎ (leb 51 z ≡ false) → 51 ≤ z
    from t =
        ⊎_elim (λ y. leb-true 51 z y)
        (λ y.
        let k : 13 ≤ j = omega (arith, sum, leb-false 51 z y) in
        let p : 2 ^ 13 ≤ 2 ^ j = pow-le-pow_right {n = 2} (lit< tt) k in
        absurd (omega (arith, top.2)))
        t

    to : (leb z 60 ≡ true) ⊎ (leb z 60 ≡ false) → z ≤ 60
    to t =
        ⊎_elim (λ y. leb-true z 60 y)
        (λ y.
        let k : suc j ≤ 3 = omega (arith, sum, leb-false z 60 y) in
        let p : 2 ^ suc j ≤ 2 ^ 3 = pow-le-pow_right {n = 2} (lit< tt) k in
        absurd (omega (arith, top.3)))
        t

pub octave_bin : (n : ℕ) {b : ℕ} → b ≡ 63 - count_leading_zeros 64 n → (b * 4 + bit_and (n / 2 ^ (b - 2)) 3) - 3 ≡ bin_in_octave n
unfolding bin_in_octave highest_bit
octave_bin n {b} e = rw (and_mask (n / 2 ^ (b - 2)) 2, e, mul_comm)

module _ (size : ℕ) where
  pub bin_none : 65536 < size → 0 ≡ mi_bin size
  unfolding mi_bin
  bin_none h = rw (lt-ltb 65536 size h)

  module _ (h : size ≤ 65536) {words : ℕ} (e : words ≡ words_in size) where
    pub bin_one : words ≤ 1 → 1 ≡ mi_bin size
    unfolding mi_bin
    bin_one k = rw (le-ltb 65536 size h, ← e, le-leb words 1 k)

    pub bin_few : 1 < words → words ≤ 8 → words ≡ mi_bin size
    unfolding mi_bin
    bin_few j k = rw (le-ltb 65536 size h, ← e, lt-leb words 1 j, le-leb words 8 k)

    pub bin_many : {r : ℕ} → 1 < words → 8 < words → r ≡ bin_in_octave (words - 1) → r ≡ mi_bin size
    unfolding mi_bin
    bin_many j k q = q ∙ rw (le-ltb 65536 size h, ← e, lt-leb words 1 j, lt-leb words 8 k)

-- ---- raised sizes

module _ (p : Params) (size align : ℕ) where
  pub raised_size : align ≤ p.min → raised p size align ≡ size
  unfolding raised
  raised_size h = rw (le-ltb p.min align h)

  pub raised_more : p.min < align → raised p size align ≡ size + (align - p.min)
  unfolding raised
  raised_more h = rw (lt-ltb p.min align h)

  size_raised : size ≤ raised p size align
  size_raised = ⊎_elim (λ t. omega (arith, raised_more (ltb-true p.min align t))) (λ t. omega (arith, raised_size (ltb-false p.min align t))) (test (ltb p.min align))

  pub too_big_lem : p.bytes < size → too_big p size align ≡ true
  unfolding too_big
  too_big_lem h = lt-ltb p.bytes (raised p size align) (omega (arith, size_raised))

-- ---- good requests

module _ (p : Params) (size align offset : ℕ) where
  pub request_size : (size % p.min ≡ 0 → ⊥) → false ≡ good_request p size align offset
  unfolding good_request
  request_size n = rw (ne_eqb (size % p.min) 0 n)

  module _ (e : size % p.min ≡ 0) where
    pub request_offset : (offset % p.min ≡ 0 → ⊥) → false ≡ good_request p size align offset
    unfolding good_request
    request_offset n = rw (eq-eqb (size % p.min) 0 e, ne_eqb (offset % p.min) 0 n)

    module _ (f : offset % p.min ≡ 0) where
      pub request_far : 65536 < offset → false ≡ good_request p size align offset
      unfolding good_request
      request_far h = rw (eq-eqb (size % p.min) 0 e, eq-eqb (offset % p.min) 0 f, lt-leb offset 65536 h)

      -- up to the align
      module _ (o : offset ≤ 65536) where
        rest : good_request p size align offset ≡ (power_of_two align && leb p.min align && leb align p.max)
        unfolding good_request
        rest = rw (eq-eqb (size % p.min) 0 e, eq-eqb (offset % p.min) 0 f, le-leb offset 65536 o)

        pub request_align : {r : Bool} → r ≡ (power_of_two align && leb p.min align && leb align p.max) → r ≡ good_request p size align offset
        request_align q = q ∙ sym rest
