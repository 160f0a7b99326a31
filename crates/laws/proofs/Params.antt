-- What good parameters are, as plain facts on numbers (`Bounds`), and where blocks stand.
-- Leans on the laws of tests and on `Good`. Assumes nothing.
use Prim.Native.Nat.{ℕ, suc, ◌+◌, ◌-◌, ◌*◌, ◌/◌, ◌%◌, ◌^◌, ◌<◌, ◌≤◌}
use mathlib.Core.Path.{◌≡◌, refl, sym, ap, ◌∙◌}
use mathlib.Core.Bool.{Bool, true, false, not, ◌||◌}
use mathlib.Core.Logic.{◌⊎◌, ⊎_elim}
use native.Mathlib.Nat.{zero-mod, mod-eq_of_lt, mod-mod_of_dvd, dvd_of_mod-eq-zero, mul-le-mul, mul-le-mul_right, mul-add-div_right, mul-mod_left, suc-mul, div-add-mod', div-eq_of_lt, div-lt_iff_lt-mul}
use native.Mathlib.Omega.{arith}
use lib.Dec.{eqb, ltb, leb}
use lib.IntN.{ℤ, pos, negsuc, nat_abs}
use borrow.Author.Tests.{ltb-true, ltb-false, leb-true, eqb-true, lt-ltb, le-ltb, le-leb, lt-leb, eq-eqb}
use Rattle.model.specs.declared.Params.{Params}
use Rattle.model.specs.Base.{all_below}
use Rattle.model.specs.Params.{power_of_two, lower_ok, biased, heap_bytes, heap_end, good_params, start, block_at, in_heap, is_start, list_word}
use Rattle.laws.proofs.Below.{true_not_false, and_left, and_right, and_both, and_first, and_second, or_cases}
use Rattle.laws.proofs.Good.{Good, good, each_power}

-- a power of two from 4,096 on is whole pages: all the powers, by one computed test
whole_pages : ℕ → Bool
whole_pages x = ltb x 4096 || eqb (x % 4096) 0

pub pages_of_bytes : (x : ℕ) → power_of_two x ≡ true → 4096 ≤ x → x % 4096 ≡ 0
unfolding whole_pages all_below
pages_of_bytes x e l =
    ⊎_elim (λ q. omega (arith, ltb-true x 4096 q)) (eqb-true (x % 4096) 0)
    (or_cases (ltb x 4096) (eqb (x % 4096) 0) (each_power whole_pages refl e))

-- what is whole in units of b is whole in units that divide b
pub mod_through : (a b c : ℕ) → a % b ≡ 0 → b % c ≡ 0 → a % c ≡ 0
mod_through a b c e d = sym (mod-mod_of_dvd c a (dvd_of_mod-eq-zero c d)) ∙ ap (λ (x : ℕ). x % c) e ∙ zero-mod c

-- ---- good parameters

lower_high : (l : ℤ) → lower_ok l ≡ true → biased l ≤ 128
unfolding lower_ok biased
lower_high (pos n) e = omega (arith, leb-true n 64 (and_right (eqb (n % 8) 0) (leb n 64) e))
lower_high (negsuc n) e = omega arith

lower_words : (l : ℤ) → lower_ok l ≡ true → biased l % 8 ≡ 0
unfolding lower_ok biased
lower_words (pos n) e = omega (arith, eqb-true (n % 8) 0 (and_left (eqb (n % 8) 0) (leb n 64) e))
lower_words (negsuc n) e =
    let m : suc n % 8 ≡ 0 = eqb-true (suc n % 8) 0 (and_left (eqb (suc n % 8) 0) (leb (suc n) 64) e) in
    let s : suc n ≤ 64 = leb-true (suc n) 64 (and_right (eqb (suc n % 8) 0) (leb (suc n) 64) e) in
    omega arith

pub biased_zero : (l : ℤ) → eqb (nat_abs l) 0 ≡ true → biased l ≡ 64
unfolding biased
biased_zero (pos n) e = ap (λ (x : ℕ). 64 + x) (eqb-true n 0 e)
biased_zero (negsuc n) e = absurd (omega (arith, eqb-true (suc n) 0 e))

pub record Bounds (p : Params) : Type 0 where
  pub bytes_low : 4096 ≤ p.bytes
  pub bytes_high : p.bytes ≤ 65536
  pub bytes_power : power_of_two p.bytes ≡ true
  pub bytes_pages : p.bytes % 4096 ≡ 0
  pub bytes_lines : p.bytes % 64 ≡ 0
  pub bytes_words : p.bytes % 8 ≡ 0
  pub blocks_low : 1 ≤ p.blocks
  pub blocks_high : p.blocks ≤ 1024
  pub heap_high : p.blocks * p.bytes ≤ 67108864
  pub base_low : 4096 ≤ p.base
  pub base_blocks : p.base % p.bytes ≡ 0
  pub base_lines : p.base % 64 ≡ 0
  pub base_words : p.base % 8 ≡ 0
  pub end_high : p.base + p.blocks * p.bytes ≤ 2 ^ 47
  pub min_cases : (p.min ≡ 4) ⊎ (p.min ≡ 8)
  pub min_low : 4 ≤ p.min
  pub min_high : p.min ≤ 8
  pub max_power : power_of_two p.max ≡ true
  pub max_low : p.min ≤ p.max
  pub max_high : p.max ≤ 64
  pub lower_high : biased p.lower ≤ 128
  pub lower_words : biased p.lower % 8 ≡ 0
  pub lower_unified : p.unified ≡ true → biased p.lower ≡ 64
  pub rows_high : p.count ≤ 48

unified_zero : (u : Bool) (l : ℤ) → not u || eqb (nat_abs l) 0 ≡ true → u ≡ true → biased l ≡ 64
unified_zero true l e q = biased_zero l e
unified_zero false l e q = absurd (true_not_false (sym q))

-- a nonzero multiple is no less
whole_low : (a b : ℕ) → 0 < a → a % b ≡ 0 → b ≤ a
whole_low a b h e = go (ltb a b) refl
  where
    go : (t : Bool) → ltb a b ≡ t → b ≤ a
    go true q = let s : a % b ≡ a = mod-eq_of_lt (ltb-true a b q) in omega arith
    go false q = ltb-false a b q

pub bounds : (p : Params) → Good p → Bounds p
unfolding heap_end heap_bytes
bounds p g =
    let pages : p.bytes % 4096 ≡ 0 = pages_of_bytes p.bytes g.bytes_power g.bytes_from in
    let base : p.base % 4096 ≡ 0 = mod_through p.base p.bytes 4096 g.base_whole pages in
    record {
      bytes_low = g.bytes_from;
      bytes_high = g.bytes_to;
      bytes_power = g.bytes_power;
      bytes_pages = pages;
      bytes_lines = omega arith;
      bytes_words = omega arith;
      blocks_low = g.blocks_from;
      blocks_high = g.blocks_to;
      heap_high = mul-le-mul {n₁ = p.blocks} {m₁ = p.bytes} {n₂ = 1024} {m₂ = 65536} g.blocks_to g.bytes_to;
      base_low = whole_low p.base 4096 g.base_pos base;
      base_blocks = g.base_whole;
      base_lines = omega arith;
      base_words = omega arith;
      end_high = g.end_low;
      min_cases = g.min_is;
      min_low = ⊎_elim (λ h. omega arith) (λ h. omega arith) g.min_is;
      min_high = ⊎_elim (λ h. omega arith) (λ h. omega arith) g.min_is;
      max_power = g.max_power;
      max_low = g.min_max;
      max_high = g.max_low;
      lower_high = lower_high p.lower g.lower_ok_lem;
      lower_words = lower_words p.lower g.lower_ok_lem;
      lower_unified = unified_zero p.unified p.lower g.unified_zero;
      rows_high = g.rows_to;
    }

pub good_bounds : (p : Params) → good_params p ≡ true → Bounds p
good_bounds p e = bounds p (good p e)

-- ---- where blocks stand: the cases of each test

pub start_in : (p : Params) (b : ℕ) → b < p.blocks → start p b ≡ p.base + b * p.bytes
unfolding start
start_in p b h = rw (lt-ltb b p.blocks h)

pub start_out : (p : Params) (b : ℕ) → p.blocks ≤ b → start p b ≡ 0
unfolding start
start_out p b h = rw (le-ltb b p.blocks h)

pub block_at_from : (p : Params) (a : ℕ) → p.base ≤ a → block_at p a ≡ (a - p.base) / p.bytes
unfolding block_at
block_at_from p a h = rw (le-ltb a p.base h)

pub in_heap_yes : (p : Params) (a : ℕ) → p.base ≤ a → a < p.base + p.blocks * p.bytes → in_heap p a ≡ true
unfolding in_heap heap_end heap_bytes
in_heap_yes p a l h = rw (le-leb p.base a l, lt-ltb a (p.base + p.blocks * p.bytes) h)

pub in_heap_low : (p : Params) (a : ℕ) → in_heap p a ≡ true → p.base ≤ a
unfolding in_heap
in_heap_low p a e = leb-true p.base a (and_left (leb p.base a) (ltb a (heap_end p)) e)

pub in_heap_high : (p : Params) (a : ℕ) → in_heap p a ≡ true → a < p.base + p.blocks * p.bytes
unfolding in_heap heap_end heap_bytes
in_heap_high p a e = ltb-true a (heap_end p) (and_right (leb p.base a) (ltb a (heap_end p)) e)

pub in_heap_under : (p : Params) (a : ℕ) → a < p.base → in_heap p a ≡ false
unfolding in_heap
in_heap_under p a h = rw (lt-leb p.base a h)

pub in_heap_past : (p : Params) (a : ℕ) → p.base + p.blocks * p.bytes ≤ a → in_heap p a ≡ false
unfolding in_heap heap_end heap_bytes
in_heap_past p a h = and_second (leb p.base a) (le-ltb a (p.base + p.blocks * p.bytes) h)

pub is_start_out : (p : Params) (a : ℕ) → in_heap p a ≡ false → is_start p a ≡ false
unfolding is_start
is_start_out p a h = and_first (eqb ((a - p.base) % p.bytes) 0) h

-- a block lies in the heap, whole
pub block_end : (b n s : ℕ) → b < n → b * s + s ≤ n * s
block_end b n s h = omega (arith, mul-le-mul_right {m = suc b} {n = n} s h, suc-mul b s)

module _ (p : Params) (g : Bounds p) where
  pub some_bytes : 0 < p.bytes
  some_bytes = omega (arith, g.bytes_low)

  pub start_pos : (b : ℕ) → b < p.blocks → 0 < start p b
  start_pos b h = rw (start_in p b h) (omega (arith, g.base_low))

  pub start_end : (b : ℕ) → b < p.blocks → start p b + p.bytes ≤ p.base + p.blocks * p.bytes
  start_end b h = rw (start_in p b h) (omega (arith, block_end b p.blocks p.bytes h))

  -- its place fits a word
  pub block_small : (b : ℕ) → b < p.blocks → p.base + b * p.bytes + p.bytes ≤ 2 ^ 47
  block_small b h = omega (arith, block_end b p.blocks p.bytes h, g.end_high)

  -- every byte of a block lies in it
  pub block_at_within : (b o : ℕ) → b < p.blocks → o < p.bytes → block_at p (start p b + o) ≡ b
  block_at_within b o h l =
      let s : start p b + o ≡ p.base + (b * p.bytes + o) = rw (start_in p b h) (omega arith) in
      let d : p.base + (b * p.bytes + o) - p.base ≡ b * p.bytes + o = omega arith in
      rw s (block_at_from p (p.base + (b * p.bytes + o)) (omega arith) ∙ rw (d, mul-add-div_right some_bytes b o, div-eq_of_lt l) (omega arith))

  pub block_at_start : (b : ℕ) → b < p.blocks → block_at p (start p b) ≡ b
  block_at_start b h = let z : start p b + 0 ≡ start p b = omega arith in ap (block_at p) (sym z) ∙ block_at_within b 0 h some_bytes

  pub block_at_in_heap : (a : ℕ) → in_heap p a ≡ true → block_at p a < p.blocks
  block_at_in_heap a e =
      let l : p.base ≤ a = in_heap_low p a e in
      rw (block_at_from p a l) ((div-lt_iff_lt-mul some_bytes).1 (omega (arith, in_heap_high p a e)))

  pub is_start_start : (b : ℕ) → b < p.blocks → is_start p (start p b) ≡ true
  unfolding is_start
  is_start_start b h =
      let d : p.base + b * p.bytes - p.base ≡ b * p.bytes = omega arith in
      rw (start_in p b h) (and_both (in_heap_yes p (p.base + b * p.bytes) (omega arith) (omega (arith, block_end b p.blocks p.bytes h, some_bytes)))
      (eq-eqb ((p.base + b * p.bytes - p.base) % p.bytes) 0 (rw (d, mul-mod_left b p.bytes))))

  pub is_start_in_heap : (a : ℕ) → is_start p a ≡ true → in_heap p a ≡ true
  unfolding is_start
  is_start_in_heap a e = and_left (in_heap p a) (eqb ((a - p.base) % p.bytes) 0) e

  pub block_at_is_start : (a : ℕ) → is_start p a ≡ true → block_at p a < p.blocks
  block_at_is_start a e = block_at_in_heap a (is_start_in_heap a e)

  pub start_block_at : (a : ℕ) → is_start p a ≡ true → start p (block_at p a) ≡ a
  unfolding is_start
  start_block_at a e =
      let l : p.base ≤ a = in_heap_low p a (is_start_in_heap a e) in
      let m : (a - p.base) % p.bytes ≡ 0 = eqb-true ((a - p.base) % p.bytes) 0 (and_right (in_heap p a) (eqb ((a - p.base) % p.bytes) 0) e) in
      start_in p (block_at p a) (block_at_is_start a e)
      ∙ rw (block_at_from p a l) (omega (arith, div-add-mod' (a - p.base) p.bytes))

  -- two blocks with one start are one
  pub start_same : (b d : ℕ) → b < p.blocks → d < p.blocks → start p b ≡ start p d → b ≡ d
  start_same b d hb hd e = sym (block_at_start b hb) ∙ ap (block_at p) e ∙ block_at_start d hd

  -- no block starts at 0
  pub some_start : (b : ℕ) → b < p.blocks → start p b ≡ 0 → ⊥
  some_start b h e = omega (arith, start_pos b h, e)

-- two lists with one list word are one
pub word_same : (l m : ℕ) → list_word l ≡ list_word m → l ≡ m
unfolding list_word
word_same l m e = omega (arith, e)
