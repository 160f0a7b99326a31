-- Cells some of whose places may lie outside the heap: which of them lie inside, and their bits. Leans on the laws of runs; assumes
-- nothing.
use Prim.Native.Nat.{ℕ, suc, ◌+◌, ◌-◌, ◌*◌, ◌/◌, ◌%◌, ◌^◌, ◌≤◌, ◌<◌, min}
use mathlib.Core.Path.{◌≡◌, refl, sym, ap, ◌∙◌}
use mathlib.Core.Bool.{Bool, false}
use mathlib.Core.List.{List}
use native.Mathlib.Nat.{mul-le-mul_right, suc-mul, add-mul, div-mul-le_self, lt-div-mul-add, mul-mod_left}
use native.Mathlib.Omega.{arith}
use native.Mathlib.Decide.{dec_lt}
use Rattle.model.specs.declared.Params.{Params}
use Rattle.model.specs.Params.{heap_bytes, biased}
use Rattle.model.specs.SizeClasses.{words_in}
use Rattle.laws.proofs.Params.{Bounds, good_bounds, mod_through}
use Rattle.native_ms.specs.Block.{kept_by}
use Rattle.native_ms.specs.Places.{Places, Inside, ByBits, Extends, Reach}
use Rattle.native_ms.proofs.Span.{Span, span_any}
use Rattle.native_ms.proofs.Offsets.{extends_twice}

-- no number of the code is too large
pub record Low (p : Params) (heap at s n up : ℕ) : Type 0 where
  pub whole : heap ≤ 67108864
  pub cells : at + n * s + up ≤ 67109000
  pub ends : at + up ≤ 67109000
  pub word : 8 ≤ s
  pub small : s ≤ 65536
  pub base : p.base + heap ≤ 2 ^ 47

span_count : (p : Params) (g : ℕ) {heap s : ℕ} → heap ≡ heap_bytes p → 8 * g + s ≤ heap → 8 * (s / 8) ≡ s
    → s / 8 ≡ min (s / 8 - 0) (((p.blocks * p.bytes - 8 * g) + 7) / 8)
unfolding heap_bytes
span_count p g eh e w = omega (arith, eh, e, w)

module _ (p : Params) {marks heap at s n up : ℕ} (r : Reach p marks heap at s n up) where
  bounds : Bounds p
  bounds = good_bounds p r.cells.good

  pub reach_low : Low p heap at s n up
  unfolding heap_bytes
  reach_low =
      let w : heap ≤ 67108864 = omega (arith, r.cells.whole, bounds.heap_high) in
      let u : up ≤ 128 = omega (arith, r.lower, bounds.lower_high) in
      record {
        whole = w;
        cells = omega (arith, r.cells.fits, w, u);
        ends = omega (arith, r.cells.fits, w, u);
        word = r.cells.word;
        small = r.high;
        base = omega (arith, r.cells.whole, bounds.end_high);
      }

  up_words : up % 8 ≡ 0
  up_words = omega (arith, r.lower, bounds.lower_words)

  -- some of the cells
  pub some_places : (k : ℕ) → k ≤ n → Places p heap at s k
  some_places k l =
      record { good = r.cells.good; whole = r.cells.whole; word = r.cells.word; fits = omega (arith, r.cells.fits, mul-le-mul_right {m = k} {n = n} s l) }

  -- and the others
  rest_is : (k : ℕ) → k ≤ n → k * s + (n - k) * s ≡ n * s
  rest_is k l = let z : k + (n - k) ≡ n = omega (arith, l) in sym (add-mul k (n - k) s) ∙ ap (λ (x : ℕ). x * s) z

  -- in the heap as it is later, of the same length
  pub rest_places : (k : ℕ) {later : ℕ} → k ≤ n → later ≡ heap → Places p later (at + k * s) s (n - k)
  rest_places k l e =
      record { good = r.cells.good; whole = e ∙ r.cells.whole; word = r.cells.word; fits = omega (arith, r.cells.fits, rest_is k l, e) }

  pub rest_reach : (k : ℕ) {later : ℕ} → k ≤ n → later ≡ heap → Reach p marks later (at + k * s) s (n - k) up
  rest_reach k l e =
      record {
        cells = rest_places k l e;
        lines = r.lines;
        aligned = r.aligned;
        starts = omega (arith, r.starts, mod_through (k * s) s 8 (mul-mod_left k s) r.aligned);
        high = r.high;
        lower = r.lower;
      }

  module _ (from : 64 ≤ at + up) where
    first_is : 8 * ((at + up - 64) / 8) + 64 ≡ at + up
    first_is = omega (arith, from, r.starts, up_words)

    -- the cells up to the k-th, where their places end in the heap
    inside_to : (k : ℕ) → k ≤ n → at + k * s + up ≤ heap + 64 → Inside p marks heap at s k ((at + up - 64) / 8)
    inside_to k l e =
        record { cells = some_places k l; lines = r.lines; aligned = r.aligned; ends = omega (arith, first_is, e) }

    pub from_inside : at + n * s + up ≤ heap + 64 → Inside p marks heap at s n ((at + up - 64) / 8)
    from_inside e = inside_to n (omega arith) e

    module _ (past : heap + 64 < at + n * s + up) where
      inner_room : (heap + 64 - (at + up)) / s * s ≤ heap + 64 - (at + up)
      inner_room = div-mul-le_self (heap + 64 - (at + up)) s

      pub inner_few : (heap + 64 - (at + up)) / s ≤ n
      inner_few = go (dec_lt n ((heap + 64 - (at + up)) / s))
        where
          go : Dec (n < (heap + 64 - (at + up)) / s) → (heap + 64 - (at + up)) / s ≤ n
          go (yes y) = absurd (omega (arith, mul-le-mul_right {m = suc n} {n = (heap + 64 - (at + up)) / s} s y, suc-mul n s, inner_room, past))
          go (no y) = omega (arith, y)

      pub from_part : at + up ≤ heap + 64 → Inside p marks heap at s ((heap + 64 - (at + up)) / s) ((at + up - 64) / 8)
      from_part e = inside_to ((heap + 64 - (at + up)) / s) inner_few (omega (arith, inner_room, e))

    -- the bits of the places of cells inside
    pub by_places : (ms : List ℕ) (k : ℕ) → Inside p marks heap at s k ((at + up - 64) / 8)
        → ByBits p ms (kept_by false p ms s) s at (at + k * s) ((at + up - 64) / 8) (s / 8)
    unfolding kept_by words_in
    by_places ms k i =
        record {
          by = λ o g low high e.
              let bit : 8 * g + 64 ≡ o + biased p.lower = omega (arith, e, first_is, r.lower) in
              let ends : 8 * g + s ≤ heap = omega (arith, e, high, i.ends) in
              let words_are : 8 * (s / 8) ≡ s = omega (arith, r.aligned) in
              let span : Span p ((p.base + o) + biased p.lower) (s / 8) 0 (8 * g) (s / 8) =
              record { skips = omega (arith, bit); begins = omega (arith, bit); counts = span_count p g r.cells.whole ends words_are } in
              let at_bit : 8 * g / 8 ≡ g = omega arith in
              let words : (s + 7) / 8 ≡ s / 8 = omega (arith, r.aligned) in
              rw words (sym (span_any p ms (p.base + o) (s / 8) (omega (arith, bounds.base_low)) refl span) ∙ rw at_bit);
        }

-- two parts of one run of cells
pub joined : (p : Params) (kept : ℕ → Bool) (s at n k : ℕ) {l₀ l₁ l₂ c₁ c₂ : ℕ} {h₀ h₁ h₂ : List ℕ} → k ≤ n → Extends p kept s at k l₀ h₀ l₁ c₁ h₁
    → Extends p kept s (at + k * s) (n - k) l₁ h₁ l₂ c₂ h₂ → Extends p kept s at n l₀ h₀ l₂ (c₁ + c₂) h₂
joined p kept s at n k l x y = let z : k + (n - k) ≡ n = omega (arith, l) in rw z at (extends_twice p kept s at k (n - k) x y)

-- the cells with a place below the heap: those behind them have none
pub below_past : (x s : ℕ) → 8 ≤ s → x < 64 → 64 ≤ x + (64 - x + (s - 1)) / s * s
below_past x s word l = omega (arith, lt-div-mul-add {a = 64 - x + (s - 1)} {b = s} (omega (arith, word)), l, word)

-- the bits at the cells' starts lie in marks too
pub reach_inside : (p : Params) {marks heap at s n up : ℕ} → Reach p marks heap at s n up → Inside p marks heap at s n (at / 8)
reach_inside p r = record { cells = r.cells; lines = r.lines; aligned = r.aligned; ends = omega (arith, r.cells.fits) }
