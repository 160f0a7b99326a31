-- Loops that link cells by heap offset: what is linked so far; and what init and the simple sweep make of a block. Leans on the
-- laws of cells; assumes nothing.
use Prim.Native.Nat.{ℕ, suc, ◌+◌, ◌-◌, ◌*◌, ◌/◌, ◌%◌, ◌^◌, ◌≤◌, ◌<◌}
use mathlib.Core.Path.{◌≡◌, refl, sym, ap, ◌∙◌}
use mathlib.Core.Bool.{Bool, true, false, ◌||◌}
use mathlib.Core.List.{List, ◌∷◌, head_d}
use native.Mathlib.Nat.{mul-le-mul_left, mul-le-mul_right, suc-mul, add-mul, div-mul-le_self, mul-mod_left, add-mul-mod_self_left, mul_assoc, mul_comm}
use native.Mathlib.Omega.{arith}
use native.Mathlib.Decide.{dec_lt}
use lib.Bits.{bit_and, and_mask}
use lib.Dec.{eqb}
use lib.ListN.{length, get_or, get_or-eq_default}
use Rattle.model.specs.declared.Params.{Params}
use Rattle.model.specs.Base.{any_below}
use Rattle.model.specs.Params.{heap_bytes, in_heap, word_count, start, biased}
use Rattle.model.specs.Tables.{Words, view, set_free, set_size, set_tls, set_cells}
use Rattle.model.specs.Memory.{store, bytes_of, overwrite, bit_of, marked}
use Rattle.model.specs.Block.{cells_down, link_all, cell_count, init_block, init_chain}
use Rattle.laws.proofs.Params.{Bounds, good_bounds, in_heap_yes, start_in, mod_through}
use Rattle.laws.proofs.Memory.{length_store}
use Rattle.laws.proofs.Tables.{sized_view}
use Rattle.laws.proofs.Marks.{heap_lines, marked_inside}
use Rattle.laws.proofs.Cells.{cells_down_kept, cells_down_freed, length_all}
use Rattle.native_ms.specs.Block.{kept_by, Linked, Built, Initialised, SweptBy}
use Rattle.native_ms.specs.Bits.{bit_at, any_bit, Run}
use Rattle.native_ms.specs.Places.{Known, WholeWords, Standing, Places, Inside, ByBits, Extends, Reach, Tells}

pub test_by_mask : (v i : ℕ) → eqb (bit_and (v / 2 ^ i) 1) 1 ≡ bit_of v i
unfolding bit_of
test_by_mask v i = ap (λ (x : ℕ). eqb x 1) (and_mask (v / 2 ^ i) 1)

-- the word of an offset is that of its address
pub store_at : (p : Params) (h : List ℕ) (o v : ℕ) → overwrite o (bytes_of 8 v) h ≡ store p h (p.base + o) v
unfolding store
store_at p h o v = let e : (p.base + o) - p.base ≡ o = omega arith in rw e

-- the next of the cells ends in the heap
pub record Next (p : Params) (heap s o : ℕ) : Type 0 where
  pub bounds : Bounds p
  pub ends : o + s ≤ heap
  pub word : 8 ≤ s
  pub low : heap ≤ 67108864
  pub base : p.base + heap ≤ 2 ^ 47

pub next_in : (p : Params) (heap at s n k : ℕ) {o : ℕ} → Places p heap at s n → k < n → o ≡ at + k * s → Next p heap s o
unfolding heap_bytes
next_in p heap at s n k r l e =
    let g : Bounds p = good_bounds p r.good in
    let step : k * s + s ≤ n * s = omega (arith, mul-le-mul_right {m = suc k} {n = n} s l, suc-mul k s) in
    record {
      bounds = g;
      ends = omega (arith, e, r.fits, step);
      word = r.word;
      low = omega (arith, r.whole, g.heap_high);
      base = omega (arith, r.whole, g.end_high);
    }

-- the cells are few
pub few_cells : (p : Params) {heap at s n : ℕ} → Places p heap at s n → n ≤ 67108864
unfolding heap_bytes
few_cells p {heap} {at} {s} {n} r = omega (arith, mul-le-mul_left n r.word, r.fits, r.whole, (good_bounds p r.good).heap_high)

-- ---- a chain that goes on

-- where the cell with the number k from `at` on stands, from the chain's first cell on
cell_stands : (base at from j k s o : ℕ) → from + j * s ≡ base + at → o ≡ at + k * s → base + o ≡ from + (j + k) * s
cell_stands base at from j k s o e f = omega (arith, e, f, add-mul j k s)

module _ (p : Params) (kept : ℕ → Bool) (s at last₀ : ℕ) (h₀ : List ℕ) (k o last linked : ℕ) (h : List ℕ) (here : o ≡ at + k * s)
    (x : Extends p kept s at k last₀ h₀ last linked h) where
  -- one cell more, behind j cells
  more : (j : ℕ) → j + (k + 1) ≡ (j + k) + 1
  more j = omega arith

  extends_kept : kept (p.base + o) ≡ true → Extends p kept s at (k + 1) last₀ h₀ last linked h
  extends_kept e =
      let longer : (from j : ℕ) → from + j * s ≡ p.base + at → cells_down kept from s (j + k) ≡ cells_down kept from s ((j + k) + 1) =
      λ from j f. cells_down_kept kept from s (j + k) (cell_stands p.base at from j k s o f here) e in
      record {
        on = λ from j h₁ f l.
            let q = x.on from j h₁ f l in
            let c = longer from j f in
            rw (more j) (record { head = q.head ∙ ap (λ (y : List ℕ). head_d y 0) c; heap = q.heap ∙ ap (λ (y : List ℕ). link_all p y h₁) c });
        few = omega (arith, x.few);
        counted = λ from j f. rw (more j) (sym (ap length (longer from j f)) ∙ x.counted from j f);
      }

  extends_freed : {h₂ : List ℕ} → kept (p.base + o) ≡ false → h₂ ≡ store p h (p.base + o) last
      → Extends p kept s at (k + 1) last₀ h₀ (p.base + o) (linked + 1) h₂
  unfolding head_d link_all
  extends_freed {h₂} e st =
      let longer : (from j : ℕ) → from + j * s ≡ p.base + at → ((p.base + o) ∷ cells_down kept from s (j + k)) ≡ cells_down kept from s ((j + k) + 1) =
      λ from j f. cells_down_freed kept from s (j + k) (cell_stands p.base at from j k s o f here) e in
      record {
        on = λ from j h₁ f l.
            let q = x.on from j h₁ f l in
            let c = longer from j f in
            rw (more j) (record {
              head = ap (λ (y : List ℕ). head_d y 0) c;
              heap = st ∙ (λ i. store p (q.heap i) (p.base + o) (q.head i)) ∙ ap (λ (y : List ℕ). link_all p y h₁) c;
            });
        few = omega (arith, x.few);
        counted = λ from j f. rw (more j) (omega (arith, ap length (longer from j f), x.counted from j f));
      }

step_in : (k n s : ℕ) → k < n → k * s + s ≤ n * s
step_in k n s l = omega (arith, mul-le-mul_right {m = suc k} {n = n} s l, suc-mul k s)

next_stands : (at k s o : ℕ) → o ≡ at + k * s → o + s ≡ at + (k + 1) * s
next_stands at k s o e = let z : k + 1 ≡ suc k = omega arith in rw z (omega (arith, e, suc-mul k s))

-- linked so far: k of the cells were asked about, and those that aren't kept are on the chain; the next is at o, and its first bit is g
pub record Walking (p : Params) (says : ℕ → ℕ → Bool → Type 0) (s at n first last₀ : ℕ) (h₀ : List ℕ) (k o g last linked : ℕ) (h : List ℕ) : Type 0 where
  pub here : o ≡ at + k * s
  pub bit : g ≡ first + k * (s / 8)
  pub same : length h ≡ length h₀
  pub few : linked ≤ k
  pub on : (kept : ℕ → Bool) → Tells p says kept s at n first → Extends p kept s at k last₀ h₀ last linked h

module _ (p : Params) (says : ℕ → ℕ → Bool → Type 0) (s at n first last₀ : ℕ) (h₀ : List ℕ) (k o g last linked : ℕ) (h : List ℕ)
    (r : Walking p says s at n first last₀ h₀ k o g last linked h) (lt : k < n) {t : Bool} (q : says o g t) where
  told_next : (kept : ℕ → Bool) → Tells p says kept s at n first → kept (p.base + o) ≡ t
  told_next kept b = rw r.here (b.told k t lt (rw (r.here, r.bit) at q))

  pub walking_kept : t ≡ true → Walking p says s at n first last₀ h₀ (k + 1) (o + s) (g + s / 8) last linked h
  walking_kept e =
      record {
        here = next_stands at k s o r.here;
        bit = next_stands first k (s / 8) g r.bit;
        same = r.same;
        few = omega (arith, r.few);
        on = λ kept b. extends_kept p kept s at last₀ h₀ k o last linked h r.here (r.on kept b) (told_next kept b ∙ e);
      }

  pub walking_freed : {h₂ : List ℕ} → t ≡ false → h₂ ≡ overwrite o (bytes_of 8 last) h
      → Walking p says s at n first last₀ h₀ (k + 1) (o + s) (g + s / 8) (p.base + o) (linked + 1) h₂
  walking_freed {h₂} e w =
      let st : h₂ ≡ store p h (p.base + o) last = w ∙ store_at p h o last in
      record {
        here = next_stands at k s o r.here;
        bit = next_stands first k (s / 8) g r.bit;
        same = ap length st ∙ length_store p h (p.base + o) last ∙ r.same;
        few = omega (arith, r.few);
        on = λ kept b. extends_freed p kept s at last₀ h₀ k o last linked h r.here (r.on kept b) (told_next kept b ∙ e) st;
      }

-- a chain that goes on twice
pub extends_twice : (p : Params) (kept : ℕ → Bool) (s at a b : ℕ) {l₀ l₁ l₂ c₁ c₂ : ℕ} {h₀ h₁ h₂ : List ℕ} → Extends p kept s at a l₀ h₀ l₁ c₁ h₁
    → Extends p kept s (at + a * s) b l₁ h₁ l₂ c₂ h₂ → Extends p kept s at (a + b) l₀ h₀ l₂ (c₁ + c₂) h₂
extends_twice p kept s at a b {l₀} {l₁} {l₂} {c₁} {c₂} x y =
    let all : (k : ℕ) → (k + a) + b ≡ k + (a + b) = λ k. omega arith in
    let further : (from k : ℕ) → from + k * s ≡ p.base + at → from + (k + a) * s ≡ p.base + (at + a * s) =
    λ from k e. omega (arith, e, add-mul k a s) in
    record {
      on = λ from k h e l. rw (all k) at (y.on from (k + a) h (further from k e) (x.on from k h e l));
      few = omega (arith, x.few, y.few);
      counted = λ from k e.
          let c : length (cells_down kept from s ((k + a) + b)) ≡ length (cells_down kept from s k) + (c₁ + c₂) =
          omega (arith, y.counted from (k + a) (further from k e), x.counted from k e) in
          rw (all k) at c;
    }

-- a chain that begins
pub extends_all : (p : Params) (kept : ℕ → Bool) (s at n : ℕ) (h : List ℕ) {r linked : ℕ} {h₁ : List ℕ} → Extends p kept s at n 0 h r linked h₁
    → Built p (cells_down kept (p.base + at) s n) h r linked h₁
unfolding cells_down head_d link_all
extends_all p kept s at n h x =
    let z : 0 + n ≡ n = omega arith in
    record {
      linked = rw z at (x.on (p.base + at) 0 h (omega arith) (record { head = refl; heap = refl }));
      count = let c = x.counted (p.base + at) 0 (omega arith) in omega (arith, rw z at c);
    }

-- ---- the bits of the cells

-- the k-th cell's first mark bit
bit_stands : (k s : ℕ) → s % 8 ≡ 0 → 8 * (k * (s / 8)) ≡ k * s
bit_stands k s e =
    let w : 8 * (s / 8) ≡ s = omega (arith, e) in
    omega (arith, mul_assoc k 8 (s / 8), mul_comm k 8, mul_assoc 8 k (s / 8), ap (λ (x : ℕ). k * x) w)

module _ (p : Params) {marks heap at s n first : ℕ} (r : Inside p marks heap at s n first) (k : ℕ) (l : k < n) where
  -- the cell's bits end in the heap
  bits_end : 8 * (first + k * (s / 8)) + s ≤ heap
  bits_end = omega (arith, step_in k n s l, bit_stands k s r.aligned, r.ends)

  pub run : Run marks (first + k * (s / 8)) (s / 8)
  unfolding heap_bytes
  run =
      let b : Bounds p = good_bounds p r.cells.good in
      record {
        some = omega (arith, r.cells.word);
        fits = omega (arith, heap_lines p b, r.lines, r.cells.whole, bits_end, r.aligned);
        low = omega (arith, bits_end, r.cells.whole, b.heap_high);
      }

  pub bit_there : (first + k * (s / 8)) / 8 < marks
  bit_there = omega (arith, run.fits, run.some)

  -- whether the bits keep it
  pub told_by : {ms : List ℕ} {kept : ℕ → Bool} {count : ℕ} → ByBits p ms kept s at (at + n * s) first count
      → kept (p.base + (at + k * s)) ≡ any_bit ms (first + k * (s / 8)) count
  told_by b = b.by (at + k * s) (first + k * (s / 8)) (omega arith) (omega (arith, step_in k n s l)) (omega (arith, bit_stands k s r.aligned))

  -- of eight words: the bits lie alike in their bytes
  pub alike : s ≡ 64 → (first + k * (s / 8)) % 8 ≡ first % 8
  alike e =
      let w : s / 8 ≡ 8 = omega (arith, e) in
      let q : first + k * (s / 8) ≡ first + 8 * k = rw w (omega (arith, mul_comm k 8)) in
      ap (λ (x : ℕ). x % 8) q ∙ add-mul-mod_self_left first 8 k

pub one_bit : (ms : List ℕ) (g : ℕ) {t : Bool} → t ≡ bit_of (get_or ms (g / 8) 0) (g % 8) → any_bit ms g 1 ≡ t
unfolding any_bit any_below bit_at
one_bit ms g e = let z : g + 0 ≡ g = omega arith in rw z (or_false _ ∙ sym e)
  where
    or_false : (b : Bool) → (b || false) ≡ b
    or_false true = refl
    or_false false = refl

-- cells of w words have as many bits
pub words_are : (p : Params) {ms : List ℕ} {kept : ℕ → Bool} {s at end first : ℕ} (w : ℕ) → s ≡ 8 * w → ByBits p ms kept s at end first (s / 8)
    → ByBits p ms kept s at end first w
words_are p {ms} {kept} {s} {at} {end} {first} w e b = let z : s / 8 ≡ w = omega (arith, e) in record { by = λ o g l h q. rw z at (b.by o g l h q) }

-- the mark at a cell's start
pub by_start : (p : Params) (ms : List ℕ) (heap s at n : ℕ) → Places p heap at s n → at % 8 ≡ 0
    → ByBits p ms (kept_by true p ms s) s at (at + n * s) (at / 8) 1
unfolding kept_by heap_bytes
by_start p ms heap s at n r a =
    record {
      by = λ o g low high e.
          let same : o / 8 ≡ g = omega (arith, e, a) in
          let inside : in_heap p (p.base + o) ≡ true = in_heap_yes p (p.base + o) (omega arith) (omega (arith, high, r.fits, r.word, r.whole)) in
          let mark : bit_of (get_or ms (o / 8 / 8) 0) (o / 8 % 8) ≡ marked p ms (p.base + o) = marked_inside p ms (p.base + o) {i = o} inside (omega arith) refl in
          sym mark ∙ sym (one_bit ms g (ap (λ (x : ℕ). bit_of (get_or ms (x / 8) 0) (x % 8)) same));
    }

-- ---- a block

-- its place, as an offset
pub block_inside : (b k s : ℕ) → b < k → b * s + s ≤ k * s
block_inside b k s l = omega (arith, mul-le-mul_right {m = suc b} {n = k} s l, suc-mul b s)

module _ (p : Params) {words heap b : ℕ} (r : Standing p words heap b) where
  pub block_low : b * p.bytes + p.bytes ≤ 67108864
  block_low = omega (arith, block_inside b p.blocks p.bytes r.block, (good_bounds p r.good).heap_high)

  pub block_places : (s : ℕ) → 8 ≤ s → Places p heap (b * p.bytes) s (p.bytes / s)
  unfolding heap_bytes
  block_places s word =
      record {
        good = r.good;
        whole = r.whole;
        word = word;
        fits = omega (arith, block_inside b p.blocks p.bytes r.block, div-mul-le_self p.bytes s, r.whole);
      }

  pub initialised : (s tls : ℕ) {v n : ℕ} {t₁ t₂ t₃ : Words} {h₁ : List ℕ} (t : Words) (h : List ℕ) → n ≡ p.bytes / s
      → Linked p (cells_down (λ a. false) (p.base + b * p.bytes) s (p.bytes / s)) h v h₁
      → t₁ ≡ set_cells b n (set_free b v t) → t₂ ≡ set_size b s t₁ → t₃ ≡ set_tls b tls t₂ → Initialised p b s tls t h t₃ h₁
  unfolding init_block init_chain cell_count set_free set_size set_tls set_cells
  initialised s tls t h en l e₁ e₂ e₃ =
      let from : start p b ≡ p.base + b * p.bytes = start_in p b r.block in
      record {
        words = rw (e₃, e₂, e₁, l.head, from, en, length_all (p.base + b * p.bytes) s (p.bytes / s));
        heap = rw (l.heap, from);
      }

  pub swept_in_lem : (kept : ℕ → ℕ → Bool) {s v linked : ℕ} {t₁ : Words} {h₁ : List ℕ} (t : Words) (h : List ℕ)
      → s ≡ get_or t.size b 0 → Built p (cells_down (kept s) (p.base + b * p.bytes) s (p.bytes / s)) h v linked h₁
      → t₁ ≡ set_cells b linked (set_free b v t) → SweptBy p kept b t h t₁ h₁
  unfolding cell_count
  swept_in_lem kept t h es l e₁ =
      let from : start p b ≡ p.base + b * p.bytes = start_in p b r.block in
      record { words = rw (e₁, l.linked.head, l.count, from, es); heap = rw (l.linked.heap, from, es) }

  pub block_words_lem : b * p.bytes % 8 ≡ 0
  block_words_lem = mod_through (b * p.bytes) p.bytes 8 (mul-mod_left b p.bytes) (good_bounds p r.good).bytes_words

-- what is lent has the same lengths further on
pub known_on : (p : Params) {w m h w₁ h₁ : ℕ} → Known p w m h → w₁ ≡ w → h₁ ≡ h → Known p w₁ m h₁
known_on p k ew eh = record { good = k.good; count = ew ∙ k.count; lines = k.lines; whole = eh ∙ k.whole }

-- the count of words, as the words of a block ask for it
pub words_known : (p : Params) {words : ℕ} → words ≡ word_count p → words ≡ 2958 + 7 * p.blocks
unfolding word_count
words_known p e = e

-- ---- a sweep

-- a block with a size is there
sized_there : (l : List ℕ) (b n : ℕ) → length l ≡ n → (get_or l b 0 ≡ 0 → ⊥) → b < n
sized_there l b n e ne = go (dec_lt b n)
  where
    go : Dec (b < n) → b < n
    go (yes y) = y
    go (no y) = absurd (ne (get_or-eq_default l 0 {n = b} (omega (arith, e, y))))

-- one with cells of whole words too
pub sized_standing : (p : Params) (words : List ℕ) {marks heap b s : ℕ} → Known p (length words) marks heap → s ≡ get_or (view words).size b 0
    → WholeWords s → Standing p (length words) heap b
sized_standing p words {b = b} k es ww =
    record {
      good = k.good;
      count = k.count;
      whole = k.whole;
      block = sized_there (view words).size b p.blocks (sized_view _ words (words_known p k.count)).size (λ z. omega (arith, ww.word, es, z));
    }

-- all that a sweep asks for is there
pub sweep_reach : (p : Params) {words marks heap b s : ℕ} → Known p words marks heap → Standing p words heap b → WholeWords s
    → Reach p marks heap (b * p.bytes) s (p.bytes / s) (biased p.lower)
sweep_reach p {b = b} {s = s} k r ww =
    record {
      cells = block_places p r s ww.word;
      lines = k.lines;
      aligned = ww.aligned;
      starts = block_words_lem p r;
      high = ww.high;
      lower = refl;
    }
