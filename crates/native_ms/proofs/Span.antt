-- Runs of mark bits (R-3): by the byte, in parts, and the bits of a cell's places. Assumes nothing.
use Prim.Native.Nat.{ℕ, ◌+◌, ◌-◌, ◌*◌, ◌/◌, ◌%◌, ◌^◌, ◌≤◌, ◌<◌, min}
use mathlib.Core.Path.{◌≡◌, refl, sym, ap, ◌∙◌}
use mathlib.Core.Logic.{◌⊎◌, inl, inr, ⊎_elim}
use mathlib.Core.Bool.{Bool, true, false, not, ◌||◌, ◌&&◌}
use mathlib.Core.List.{List}
use native.Mathlib.Omega.{arith}
use native.Mathlib.Decide.{dec_lt}
use lib.Dec.{eqb}
use lib.ListN.{length, get_or, take, drop, get_or-eq_default, length-take, length-drop}
use Rattle.std.proofs.lemmas.List.{get_or-take, get_or-drop}
use borrow.Author.Tests.{ne_eqb, eq-eqb, lt-leb, le-leb, lt-ltb}
use Rattle.model.specs.declared.Params.{Params}
use Rattle.model.specs.Base.{any_below, all_below}
use Rattle.model.specs.Params.{heap_bytes, heap_end, in_heap, biased, plus_lower}
use Rattle.model.specs.Memory.{bit_of, mark_index, marked}
use Rattle.laws.proofs.Below.{test, any_below_at, any_below_from, any_below_none, all_below_at, or_cases}
use Rattle.laws.proofs.Base.{not_both}
use Rattle.laws.proofs.Params.{Bounds, in_heap_past}
use Rattle.laws.proofs.Marks.{bit_of_zero, marked_out, heap_lines}
use Rattle.native_ms.specs.Bits.{bit_at, any_bit, Run}

-- ---- a byte that is not 0 has a bit that is set: all bytes, by one computed test

byte_has : ℕ → Bool
byte_has x = eqb x 0 || any_below 8 (bit_of x)

bytes_have : all_below 256 byte_has ≡ true
unfolding all_below any_below byte_has bit_of
bytes_have = refl

byte_has_lem : (x : ℕ) → x < 256 → (x ≡ 0 → ⊥) → (j : ℕ) × (j < 8) × (bit_of x j ≡ true)
unfolding byte_has
byte_has_lem x l ne =
    any_below_at 8 (bit_of x) (⊎_elim (λ e. absurd (not_both _ e (ne_eqb x 0 ne))) (λ e. e) (or_cases (eqb x 0) _ (all_below_at 256 byte_has bytes_have x l)))

module _ (ms : List ℕ) where
  pub bit_some : (g n k : ℕ) → k < n → bit_at ms (g + k) ≡ true → any_bit ms g n ≡ true
  unfolding any_bit
  bit_some g n k l e = any_below_from n (λ j. bit_at ms (g + j)) k l e

  pub bits_none : (g n : ℕ) → ((k : ℕ) → k < n → bit_at ms (g + k) ≡ false) → any_bit ms g n ≡ false
  unfolding any_bit
  bits_none g n f = any_below_none n (λ j. bit_at ms (g + j)) f

  pub bit_no : (g n k : ℕ) → any_bit ms g n ≡ false → k < n → bit_at ms (g + k) ≡ false
  bit_no g n k e l = ⊎_elim (λ y. absurd (not_both (any_bit ms g n) (bit_some g n k l y) e)) (λ y. y) (test (bit_at ms (g + k)))

  pub some_bit : (g n : ℕ) → any_bit ms g n ≡ true → (k : ℕ) × (k < n) × (bit_at ms (g + k) ≡ true)
  unfolding any_bit
  some_bit g n e = any_below_at n (λ j. bit_at ms (g + j)) e

  -- ---- by the byte

  pub byte_some : (i n k : ℕ) → k < n → get_or ms (i + k) 0 < 256 → (get_or ms (i + k) 0 ≡ 0 → ⊥) → any_bit ms (8 * i) (8 * n) ≡ true
  unfolding bit_at
  byte_some i n k l b ne =
      let z = byte_has_lem (get_or ms (i + k) 0) b ne in
      let j : ℕ = z.0 in
      let at : (8 * i + (8 * k + j)) / 8 ≡ i + k = omega (arith, z.1) in
      let off : (8 * i + (8 * k + j)) % 8 ≡ j = omega (arith, z.1) in
      bit_some (8 * i) (8 * n) (8 * k + j) (omega (arith, z.1)) (rw (at, off) z.2)

  pub bytes_none : (i n : ℕ) → ((k : ℕ) → k < n → get_or ms (i + k) 0 ≡ 0) → any_bit ms (8 * i) (8 * n) ≡ false
  unfolding bit_at
  bytes_none i n f =
      bits_none (8 * i) (8 * n) (λ q l.
      let at : (8 * i + q) / 8 ≡ i + q / 8 = omega arith in
      rw (at, f (q / 8) (omega arith)) (bit_of_zero _))

  -- ---- a run of bits in two parts

  pub part_some : (g n a b : ℕ) → a + b ≤ n → any_bit ms (g + a) b ≡ true → any_bit ms g n ≡ true
  unfolding any_bit
  part_some g n a b l e =
      let z = any_below_at b (λ j. bit_at ms ((g + a) + j)) e in
      let at : (g + a) + z.0 ≡ g + (a + z.0) = omega arith in
      bit_some g n (a + z.0) (omega (arith, z.1)) (rw at at z.2)

  pub parts_none : (g n a b : ℕ) → a + b ≡ n → any_bit ms g a ≡ false → any_bit ms (g + a) b ≡ false → any_bit ms g n ≡ false
  parts_none g n a b q e f = bits_none g n (λ k l. go k l (dec_lt k a))
    where
      go : (k : ℕ) → k < n → Dec (k < a) → bit_at ms (g + k) ≡ false
      go k l (yes y) = bit_no g a k e y
      go k l (no y) =
          let at : (g + a) + (k - a) ≡ g + k = omega (arith, y) in
          rw at at (bit_no (g + a) b (k - a) f (omega (arith, y, q, l)))

-- bytes from `from` up to `to`

-- the bytes of a slice, from `from` up to `to`
module _ (ms : List ℕ) (from to : ℕ) where
  slice_byte : (k : ℕ) → k < to - from → get_or (take (to - from) (drop from ms)) k 0 ≡ get_or ms (from + k) 0
  slice_byte k l = get_or-take (to - from) (drop from ms) k 0 l ∙ get_or-drop from ms k 0

  pub slice_some : (k : ℕ) → k < length (take (to - from) (drop from ms)) → get_or ms (from + k) 0 < 256
      → (get_or (take (to - from) (drop from ms)) k 0 ≡ 0 → ⊥) → true ≡ any_bit ms (8 * from) (8 * (to - from))
  slice_some k l b ne =
      let m : k < to - from = omega (arith, length-take (to - from) (drop from ms), l) in
      sym (byte_some ms from (to - from) k m b (λ e. ne (slice_byte k m ∙ e)))

  pub slice_none : (i : ℕ) → to ≤ length ms → ((j : ℕ) → j < i → get_or (take (to - from) (drop from ms)) j 0 ≡ 0)
      → length (take (to - from) (drop from ms)) ≤ i → false ≡ any_bit ms (8 * from) (8 * (to - from))
  slice_none i fits f e =
      sym (bytes_none ms from (to - from)
      (λ k l. sym (slice_byte k l) ∙ f k (omega (arith, length-take (to - from) (drop from ms), length-drop from ms, fits, e, l))))

-- ---- what is left of a byte, from its bit q on: all bytes, by one computed test

tail_has : ℕ → Bool
tail_has x = all_below 8 (λ q. eqb (x / 2 ^ q) 0 || any_below (8 - q) (λ k. bit_of x (q + k)))

tails_have : all_below 256 tail_has ≡ true
unfolding all_below any_below tail_has bit_of
tails_have = refl

tail_none : ℕ → Bool
tail_none x = all_below 8 (λ q. all_below (8 - q) (λ k. not (eqb (x / 2 ^ q) 0 && bit_of x (q + k))))

tails_none : all_below 256 tail_none ≡ true
unfolding all_below tail_none bit_of
tails_none = refl

module _ (ms : List ℕ) (g : ℕ) (byte : get_or ms (g / 8) 0 < 256) where
  -- bit k from g on is in its byte
  in_byte : (k : ℕ) → k < 8 - g % 8 → bit_at ms (g + k) ≡ bit_of (get_or ms (g / 8) 0) (g % 8 + k)
  unfolding bit_at
  in_byte k l =
      let at : (g + k) / 8 ≡ g / 8 = omega (arith, l) in
      let off : (g + k) % 8 ≡ g % 8 + k = omega (arith, l) in
      rw (at, off)

  pub head_some : (get_or ms (g / 8) 0 / 2 ^ (g % 8) ≡ 0 → ⊥) → true ≡ any_bit ms g (8 - g % 8)
  unfolding tail_has
  head_some ne =
      let q : g % 8 < 8 = omega arith in
      let row = all_below_at 8 (λ q. eqb (get_or ms (g / 8) 0 / 2 ^ q) 0 || any_below (8 - q) (λ k. bit_of (get_or ms (g / 8) 0) (q + k))) (all_below_at 256 tail_has tails_have (get_or ms (g / 8) 0) byte) (g % 8) q in
      ⊎_elim
      (λ e. absurd (not_both _ e (ne_eqb (get_or ms (g / 8) 0 / 2 ^ (g % 8)) 0 ne)))
      (λ e. let z = any_below_at (8 - g % 8) (λ k. bit_of (get_or ms (g / 8) 0) (g % 8 + k)) e in
      sym (bit_some ms g (8 - g % 8) z.0 z.1 (in_byte z.0 z.1 ∙ z.2)))
      (or_cases (eqb (get_or ms (g / 8) 0 / 2 ^ (g % 8)) 0) _ row)

  pub head_none : get_or ms (g / 8) 0 / 2 ^ (g % 8) ≡ 0 → false ≡ any_bit ms g (8 - g % 8)
  unfolding tail_none
  head_none e =
      let q : g % 8 < 8 = omega arith in
      let row = all_below_at 8 (λ q. all_below (8 - q) (λ k. not (eqb (get_or ms (g / 8) 0 / 2 ^ q) 0 && bit_of (get_or ms (g / 8) 0) (q + k)))) (all_below_at 256 tail_none tails_none (get_or ms (g / 8) 0) byte) (g % 8) q in
      sym (bits_none ms g (8 - g % 8) (λ k l.
      in_byte k l ∙ no_and _ _ (eq-eqb (get_or ms (g / 8) 0 / 2 ^ (g % 8)) 0 e) (all_below_at (8 - g % 8) (λ k. not (eqb (get_or ms (g / 8) 0 / 2 ^ (g % 8)) 0 && bit_of (get_or ms (g / 8) 0) (g % 8 + k))) row k l)))
    where
      no_and : (a b : Bool) → a ≡ true → not (a && b) ≡ true → b ≡ false
      no_and true true e f = sym f
      no_and true false e f = refl
      no_and false b e f = absurd (not_both false e refl)

-- ---- the three parts of a run of more than eight bits: those of the first byte, whole bytes, the rest

module _ (ms : List ℕ) (g n : ℕ) (many : 8 < n) where
  abbrev head_bits : ℕ
  head_bits = 8 - g % 8

  abbrev byte_bits : ℕ
  byte_bits = 8 * ((g + n) / 8 - (g / 8 + 1))

  whole_at : 8 * (g / 8 + 1) ≡ g + head_bits
  whole_at = omega arith

  pub many_first : any_bit ms g head_bits ≡ true → true ≡ any_bit ms g n
  many_first y = sym (part_some ms g n 0 head_bits (omega (arith, many)) (let z : g + 0 ≡ g = omega arith in rw z y))

  pub many_bytes : any_bit ms (8 * (g / 8 + 1)) byte_bits ≡ true → true ≡ any_bit ms g n
  many_bytes y = sym (part_some ms g n head_bits byte_bits (omega (arith, many)) (rw whole_at at y))

  module _ (a : any_bit ms g head_bits ≡ false) (b : any_bit ms (8 * (g / 8 + 1)) byte_bits ≡ false) where
    up_to : any_bit ms g (head_bits + byte_bits) ≡ false
    up_to = parts_none ms g (head_bits + byte_bits) head_bits byte_bits refl a (rw whole_at at b)

    pub many_none : (g + n) % 8 ≡ 0 → false ≡ any_bit ms g n
    many_none e = let z : head_bits + byte_bits ≡ n = omega (arith, many, e) in sym (rw z at up_to)

    pub many_rest : {r : Bool} → r ≡ any_bit ms (8 * ((g + n) / 8)) ((g + n) % 8) → r ≡ any_bit ms g n
    many_rest e = e ∙ go (any_bit ms (8 * ((g + n) / 8)) ((g + n) % 8)) refl
      where
        more : 8 * ((g + n) / 8) ≡ g + (head_bits + byte_bits)
        more = omega (arith, many)

        go : (x : Bool) → any_bit ms (8 * ((g + n) / 8)) ((g + n) % 8) ≡ x → x ≡ any_bit ms g n
        go true i = sym (part_some ms g n (head_bits + byte_bits) ((g + n) % 8) (omega (arith, many)) (rw more at i))
        go false i = sym (parts_none ms g n (head_bits + byte_bits) ((g + n) % 8) (omega (arith, many)) up_to (rw more at i))

pub no_bits : (ms : List ℕ) (g n : ℕ) → n ≡ 0 → false ≡ any_bit ms g n
unfolding any_bit any_below
no_bits ms g n e = rw e

-- bits past the end of the marks are clear
pub past_clear : (ms : List ℕ) (j : ℕ) → 8 * length ms ≤ j → bit_at ms j ≡ false
unfolding bit_at
past_clear ms j l = let e = get_or-eq_default ms 0 {n = j / 8} (omega (arith, l)) in rw e (bit_of_zero _)

pub bits_short : (ms : List ℕ) (g a b : ℕ) → a ≤ b → ((k : ℕ) → a ≤ k → k < b → 8 * length ms ≤ g + k) → any_bit ms g a ≡ any_bit ms g b
bits_short ms g a b le past = go (test (any_bit ms g a))
  where
    go : (any_bit ms g a ≡ true) ⊎ (any_bit ms g a ≡ false) → any_bit ms g a ≡ any_bit ms g b
    go (inl y) = y ∙ sym (part_some ms g b 0 a (omega (arith, le)) (let z : g + 0 ≡ g = omega arith in rw z y))
    go (inr e) = e ∙ sym (bits_none ms g b (λ k l. none k l (dec_lt k a)))
      where
        none : (k : ℕ) → k < b → Dec (k < a) → bit_at ms (g + k) ≡ false
        none k l (yes y) = bit_no ms g a k e y
        none k l (no y) = past_clear ms (g + k) (past k (omega (arith, y)) l)

-- ---- numbers of the code's run: N places from the bit g on, of 8 · L in the heap and 8 · min m L in the marks

heap_left : (heap L from : ℕ) → heap ≡ 64 * L → ((heap - from) + 7) / 8 ≡ 8 * L - from / 8
heap_left heap L from e = omega (arith, e)

lines_low : (m L l : ℕ) → l ≡ min m L → l ≤ L
lines_low m L l e = omega (arith, e)

lent_few : (m L l N g : ℕ) {left count : ℕ} → l ≡ min m L → left ≡ min N (8 * l - g) → count ≡ min N (8 * L - g) → left ≤ count
lent_few m L l N g e ef ec = let z = lines_low m L l e in omega (arith, z, ef, ec)

lent_past : (m L l N g : ℕ) {left count : ℕ} (k : ℕ) → l ≡ min m L → left ≡ min N (8 * l - g) → count ≡ min N (8 * L - g) → left ≤ k → k < count
    → 8 * m ≤ g + k
lent_past m L l N g k e ef ec a b =
    let short : 8 * l ≤ g + k = omega (arith, ef, ec, a, b) in
    let room : g + k < 8 * L = omega (arith, ec, b) in
    omega (arith, e, short, room)

pub lent_count : (N b g : ℕ) {r left : ℕ} → r ≡ b - g → left ≡ min N r → left ≡ min N (b - g)
lent_count N b g er el = el ∙ ap (min N) er

pub heap_whole : (p : Params) → Bounds p → p.blocks * p.bytes ≡ 64 * (p.blocks * p.bytes / 64)
unfolding heap_bytes
heap_whole p g = omega (arith, heap_lines p g)

lent_fits : (m L l N g : ℕ) {left : ℕ} → l ≡ min m L → left ≡ min N (8 * l - g) → 0 < left → g + left ≤ 8 * m
lent_fits m L l N g e ef some =
    let most : l ≤ m = omega (arith, e) in
    omega (arith, most, ef, some)

-- ---- the bits of a cell's places: of n places, 8 apart, from first − 64 on, `skip` lie below the heap, then `count` in it

pub record Span (p : Params) (first n skip from count : ℕ) : Type 0 where
  pub skips : skip ≡ min n ((((p.base + 64) - first) + 7) / 8)
  pub begins : from ≡ (first + 8 * skip) - (p.base + 64)
  pub counts : count ≡ min (n - skip) (((p.blocks * p.bytes - from) + 7) / 8)

module _ (p : Params) (ms : List ℕ) (cell n : ℕ) {first skip from count : ℕ} (base : 0 < p.base)
    (f : first ≡ cell + biased p.lower) (S : Span p first n skip from count) where
  -- places below the heap, and behind it
  outside_low : (k : ℕ) → k < skip → marked p ms (plus_lower p (cell + 8 * k)) ≡ false
  unfolding marked in_heap plus_lower
  outside_low k l =
      let low : ((cell + 8 * k) + biased p.lower) - 64 < p.base = omega (arith, f, l, base, S.skips) in
      rw (lt-leb p.base (((cell + 8 * k) + biased p.lower) - 64) low)

  -- the first place that does not lie below the heap
  exact : skip < n → first + 8 * skip ≡ from + (p.base + 64)
  exact l = let low : p.base + 64 ≤ first + 8 * skip = omega (arith, l, S.skips) in omega (arith, low, S.begins)

  place_is : (k : ℕ) → skip ≤ k → skip < n → ((cell + 8 * k) + biased p.lower) - 64 ≡ from + (p.base + 8 * (k - skip))
  place_is k l m = let e = exact m in omega (arith, f, l, e)

  outside_high : (k : ℕ) → skip ≤ k → k < n → count ≤ k - skip → marked p ms (plus_lower p (cell + 8 * k)) ≡ false
  unfolding plus_lower
  outside_high k l m c =
      let e = place_is k l (omega (arith, l, m)) in
      let far : p.blocks * p.bytes ≤ from + 8 * (k - skip) = omega (arith, c, l, m, S.counts) in
      marked_out p ms _ (rw e (in_heap_past p (from + (p.base + 8 * (k - skip))) (omega (arith, far))))

  few : skip + count ≤ n
  few = omega (arith, S.skips, S.counts)

  -- and in it
  inside : (j : ℕ) → j < count → marked p ms (plus_lower p (cell + 8 * (skip + j))) ≡ bit_at ms (from / 8 + j)
  unfolding marked in_heap plus_lower heap_end heap_bytes mark_index bit_at
  inside j l =
      let e = place_is (skip + j) (omega arith) (omega (arith, l, few)) in
      let back : (skip + j) - skip ≡ j = omega arith in
      let near : from + 8 * j < p.blocks * p.bytes = omega (arith, l, S.counts) in
      let place : ℕ = from + (p.base + 8 * j) in
      let at : (place - p.base) / 8 ≡ from / 8 + j = omega arith in
      rw (e, back, le-leb p.base place (omega arith), lt-ltb place (p.base + p.blocks * p.bytes) (omega (arith, near)), at)

  pub span_any : any_bit ms (from / 8) count ≡ any_below n (λ k. marked p ms (plus_lower p (cell + 8 * k)))
  span_any = go (test (any_bit ms (from / 8) count))
    where
      go : (any_bit ms (from / 8) count ≡ true) ⊎ (any_bit ms (from / 8) count ≡ false)
          → any_bit ms (from / 8) count ≡ any_below n (λ k. marked p ms (plus_lower p (cell + 8 * k)))
      go (inl y) =
          let z = some_bit ms (from / 8) count y in
          y ∙ sym (any_below_from n (λ k. marked p ms (plus_lower p (cell + 8 * k))) (skip + z.0) (omega (arith, z.1, few)) (inside z.0 z.1 ∙ z.2))
      go (inr e) = e ∙ sym (any_below_none n (λ k. marked p ms (plus_lower p (cell + 8 * k))) (λ k l. none k l (dec_lt k skip) (dec_lt (k - skip) count)))
        where
          none : (k : ℕ) → k < n → Dec (k < skip) → Dec (k - skip < count) → marked p ms (plus_lower p (cell + 8 * k)) ≡ false
          none k l (yes y) d = outside_low k y
          none k l (no y) (yes d) =
              let at : skip + (k - skip) ≡ k = omega (arith, y) in
              rw at at (inside (k - skip) d ∙ bit_no ms (from / 8) count (k - skip) e d)
          none k l (no y) (no d) = outside_high k (omega (arith, y)) l (omega (arith, d))

  -- the code's run: as many of those bits as are lent
  module _ (lines : ℕ) {left : ℕ} (el : lines ≡ min (length ms) (p.blocks * p.bytes / 64)) (whole : p.blocks * p.bytes ≡ 64 * (p.blocks * p.bytes / 64))
      (ef : left ≡ min (n - skip) (8 * lines - from / 8)) where
    count_is : count ≡ min (n - skip) (8 * (p.blocks * p.bytes / 64) - from / 8)
    count_is = S.counts ∙ ap (min (n - skip)) (heap_left (p.blocks * p.bytes) (p.blocks * p.bytes / 64) from whole)

    pub lent_any : any_bit ms (from / 8) left ≡ any_below n (λ k. marked p ms (plus_lower p (cell + 8 * k)))
    lent_any = bits_short ms (from / 8) left count (lent_few _ _ _ _ _ el ef count_is) (λ k l m. lent_past _ _ _ _ _ k el ef count_is l m) ∙ span_any

    pub lent_run : first ≤ 2 ^ 52 → n ≤ 8192 → 0 < left → Run (length ms) (from / 8) left
    lent_run low small some =
        let from_low : from ≤ first + 8 * skip = omega (arith, S.begins) in
        let skip_low : skip ≤ n = omega (arith, few) in
        let left_low : left ≤ n = omega (arith, ef) in
        record { some = some; fits = lent_fits _ _ _ _ _ el ef some; low = omega (arith, from_low, skip_low, left_low, low, small) }
