-- Laws of mark bits: one bit of a byte by a table over all bytes, then the marks of the heap. Assumes nothing.
use mathlib.Core.Path.{◌≡◌, refl, sym, ap, ◌∙◌}
use mathlib.Core.Logic.{⊎_elim}
use mathlib.Core.Bool.{Bool, true, false, not, ◌&&◌, ◌||◌}
use mathlib.Core.List.{List, [], ◌∷◌}
use Prim.Native.Nat.{ℕ, zero, suc, ◌-◌, ◌*◌, ◌/◌, ◌%◌, ◌^◌, ◌≤◌, ◌<◌}
use native.Mathlib.Nat.{zero-div, mul-mod_left}
use native.Mathlib.Omega.{arith}
use native.Mathlib.Decide.{ℕ_discrete}
use lib.Dec.{eqb, ltb}
use lib.ListN.{length, get_or, set, length-set, length-replicate}
use lib.Seq.{get_or-set_same, get_or-set_other}
use borrow.Author.Tests.{eq-eqb, ne_eqb, ltb-true}
use Rattle.model.specs.declared.Params.{Params}
use Rattle.model.specs.Base.{all_below}
use Rattle.model.specs.Params.{in_heap, heap_bytes}
use Rattle.model.specs.Memory.{bit_of, set_bit, mark_index, marked, set_mark, cleared}
use Rattle.laws.proofs.Base.{all_below_lem, and_left, and_right, Bool_cases, not_both}
use Rattle.laws.proofs.Params.{Bounds, mod_through, in_heap_low, in_heap_high}
use Rattle.laws.proofs.Memory.{Bytes, get_d_zeros, bytes_zeros}

-- ---- one bit of a byte

same : Bool → Bool → Bool
same true b = b
same false b = not b

same_eq : (a b : Bool) → same a b ≡ true → a ≡ b
unfolding same
same_eq true b e = sym e
same_eq false true e = e
same_eq false false e = refl

row : ℕ → Bool
row m = all_below 8 (λ i. ltb (set_bit m i) 256 && all_below 8 (λ j. same (bit_of (set_bit m i) j) (eqb j i || bit_of m j)))

table : all_below 256 row ≡ true
unfolding all_below row same bit_of set_bit
table = refl

at : (m i : ℕ) → m < 256 → i < 8
    → (ltb (set_bit m i) 256 && all_below 8 (λ j. same (bit_of (set_bit m i) j) (eqb j i || bit_of m j))) ≡ true
unfolding row
at m i a b = all_below_lem 8 _ (all_below_lem 256 row table m a) i b

pub bit_of_set_bit : (m i j : ℕ) → m < 256 → i < 8 → j < 8 → bit_of (set_bit m i) j ≡ (eqb j i || bit_of m j)
bit_of_set_bit m i j a b c =
    same_eq _ _ (all_below_lem 8 _ (and_right (ltb (set_bit m i) 256) _ (at m i a b)) j c)

pub set_bit_lt : (m i : ℕ) → m < 256 → i < 8 → set_bit m i < 256
set_bit_lt m i a b = ltb-true _ _ (and_left _ _ (at m i a b))

pub bit_of_zero : (i : ℕ) → bit_of 0 i ≡ false
unfolding bit_of
bit_of_zero i = rw (zero-div (2 ^ i))

-- ---- bit g of a list of bytes

pub bytes_set : (ms : List ℕ) (i v : ℕ) → v < 256 → Bytes ms → Bytes (set ms i v)
bytes_set [] i v l b k = b k
bytes_set (x ∷ ms) zero v l b zero = l
bytes_set (x ∷ ms) zero v l b (suc k) = b (suc k)
bytes_set (x ∷ ms) (suc i) v l b zero = b 0
bytes_set (x ∷ ms) (suc i) v l b (suc k) = bytes_set ms i v l (λ j. b (suc j)) k

digits : (f g : ℕ) → f / 8 ≡ g / 8 → eqb (f % 8) (g % 8) ≡ eqb f g
digits f g e = by (ℕ_discrete f g)
  where
    by : Dec (f ≡ g) → eqb (f % 8) (g % 8) ≡ eqb f g
    by (yes y) = eq-eqb (f % 8) (g % 8) (ap (λ (x : ℕ). x % 8) y) ∙ sym (eq-eqb f g y)
    by (no y) = ne_eqb (f % 8) (g % 8) (λ z. y (omega (arith, z, e))) ∙ sym (ne_eqb f g y)

pub bit_set : (ms : List ℕ) (g f : ℕ) → Bytes ms → g / 8 < length ms
    → bit_of (get_or (set ms (g / 8) (set_bit (get_or ms (g / 8) 0) (g % 8))) (f / 8) 0) (f % 8) ≡ (eqb f g || bit_of (get_or ms (f / 8) 0) (f % 8))
bit_set ms g f byte l = go (ℕ_discrete (f / 8) (g / 8))
  where
    new : ℕ
    new = set_bit (get_or ms (g / 8) 0) (g % 8)

    go : Dec (f / 8 ≡ g / 8) → bit_of (get_or (set ms (g / 8) new) (f / 8) 0) (f % 8) ≡ (eqb f g || bit_of (get_or ms (f / 8) 0) (f % 8))
    go (yes e) =
        ap (λ (x : ℕ). bit_of (get_or (set ms (g / 8) new) x 0) (f % 8)) e
        ∙ ap (λ (x : ℕ). bit_of x (f % 8)) (get_or-set_same ms (g / 8) new 0 l)
        ∙ bit_of_set_bit (get_or ms (g / 8) 0) (g % 8) (f % 8) (byte (g / 8)) (omega arith) (omega arith)
        ∙ ap (λ (t : Bool). t || bit_of (get_or ms (g / 8) 0) (f % 8)) (digits f g e)
        ∙ ap (λ (x : ℕ). eqb f g || bit_of (get_or ms x 0) (f % 8)) (sym e)
    go (no n) =
        ap (λ (x : ℕ). bit_of x (f % 8)) (get_or-set_other ms (g / 8) (f / 8) new 0 n)
        ∙ sym (ap (λ (t : Bool). t || bit_of (get_or ms (f / 8) 0) (f % 8)) (ne_eqb f g (λ y. n (ap (λ (x : ℕ). x / 8) y))))

-- ---- the marks of the heap

pub marked_out : (p : Params) (ms : List ℕ) (a : ℕ) → in_heap p a ≡ false → marked p ms a ≡ false
unfolding marked
marked_out p ms a e = rw e

-- what the bit of an offset in the heap says is what the place says
pub marked_inside : (p : Params) (ms : List ℕ) (a : ℕ) {i : ℕ} {t : Bool} → in_heap p a ≡ true → i ≡ a - p.base
    → t ≡ bit_of (get_or ms (i / 8 / 8) 0) (i / 8 % 8) → t ≡ marked p ms a
unfolding marked mark_index
marked_inside p ms a e o b = rw (e, ← o) b

pub marked_cleared : (p : Params) (ms : List ℕ) (a : ℕ) → marked p (cleared ms) a ≡ false
unfolding marked cleared
marked_cleared p ms a =
    rw (get_d_zeros (length ms) (mark_index p a / 8), bit_of_zero (mark_index p a % 8)) (none (in_heap p a))
  where
    none : (t : Bool) → (t && false) ≡ false
    none true = refl
    none false = refl

pub length_set_mark : (p : Params) (ms : List ℕ) (q : ℕ) → length (set_mark p ms q) ≡ length ms
unfolding set_mark
length_set_mark p ms q = length-set ms _ _

pub length_cleared : (ms : List ℕ) → length (cleared ms) ≡ length ms
unfolding cleared
length_cleared ms = length-replicate (length ms) 0

pub bytes_set_mark : (p : Params) (ms : List ℕ) (q : ℕ) → Bytes ms → Bytes (set_mark p ms q)
unfolding set_mark
bytes_set_mark p ms q b = bytes_set ms _ _ (set_bit_lt _ _ (b _) (omega arith)) b

pub bytes_cleared : (ms : List ℕ) → Bytes (cleared ms)
unfolding cleared
bytes_cleared ms = bytes_zeros (length ms)

-- the heap is whole lines of 64 bytes, one mark byte each
pub heap_lines : (p : Params) → Bounds p → heap_bytes p % 64 ≡ 0
unfolding heap_bytes
heap_lines p g = mod_through (p.blocks * p.bytes) p.bytes 64 (mul-mod_left p.blocks p.bytes) g.bytes_lines

-- a place of the heap has a mark byte
pub mark_byte : (p : Params) (q : ℕ) → Bounds p → in_heap p q ≡ true → mark_index p q / 8 < heap_bytes p / 64
unfolding mark_index heap_bytes
mark_byte p q g e = omega (arith, heap_lines p g, in_heap_low p q e, in_heap_high p q e)

-- two words of the heap have one mark only if they are one
same_mark : (p : Params) (a q : ℕ) → p.base % 8 ≡ 0 → a % 8 ≡ 0 → q % 8 ≡ 0 → p.base ≤ a → p.base ≤ q
    → eqb (mark_index p a) (mark_index p q) ≡ eqb a q
unfolding mark_index
same_mark p a q b wa wq la lq = by (ℕ_discrete a q)
  where
    by : Dec (a ≡ q) → eqb ((a - p.base) / 8) ((q - p.base) / 8) ≡ eqb a q
    by (yes y) = eq-eqb _ _ (ap (λ (x : ℕ). (x - p.base) / 8) y) ∙ sym (eq-eqb a q y)
    by (no n) = ne_eqb ((a - p.base) / 8) ((q - p.base) / 8) (λ z. n (omega (arith, z))) ∙ sym (ne_eqb a q n)

-- a mark set marks its place and no other; q lies in the heap, a need not
module _ (p : Params) (bounds : Bounds p) (ms : List ℕ) (q : ℕ) (byte : Bytes ms)
    (len : length ms ≡ heap_bytes p / 64) (in_q : in_heap p q ≡ true) (word_q : q % 8 ≡ 0) where
  pub marked_set_mark : (a : ℕ) → a % 8 ≡ 0 → marked p (set_mark p ms q) a ≡ (eqb a q || marked p ms a)
  unfolding marked set_mark
  marked_set_mark a word = ⊎_elim inside outside (Bool_cases (in_heap p a))
    where
      f : ℕ
      f = mark_index p a

      g : ℕ
      g = mark_index p q

      inside : in_heap p a ≡ true → marked p (set_mark p ms q) a ≡ (eqb a q || marked p ms a)
      inside e =
          rw e (bit_set ms g f byte (rw len (mark_byte p q bounds in_q))
          ∙ ap (λ (t : Bool). t || bit_of (get_or ms (f / 8) 0) (f % 8)) (same_mark p a q bounds.base_words word word_q (in_heap_low p a e) (in_heap_low p q in_q)))

      outside : in_heap p a ≡ false → marked p (set_mark p ms q) a ≡ (eqb a q || marked p ms a)
      outside e =
          let n : eqb a q ≡ false = ne_eqb a q (λ y. not_both (in_heap p q) in_q (ap (in_heap p) (sym y) ∙ e)) in
          rw (e, n)
