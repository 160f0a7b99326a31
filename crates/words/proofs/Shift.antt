-- Shift and mask say what `bit_of`, `set_bit` and `clear_bit` say: all bytes and bits, by one computed table. Assumes nothing.
use mathlib.Core.Path.{◌≡◌, refl, sym, ap, ◌∙◌}
use mathlib.Core.Bool.{Bool, true, false, ◌&&◌}
use mathlib.Core.List.{List}
use Prim.Native.Nat.{ℕ, ◌-◌, ◌*◌, ◌/◌, ◌%◌, ◌^◌, ◌≤◌, ◌<◌}
use lib.Bits.{bit_and, bit_or, and_mask}
use lib.Dec.{eqb}
use lib.ListN.{length, get_or, set, get_or-eq_default}
use borrow.Author.Tests.{eqb-true}
use Rattle.model.specs.Base.{all_below}
use Rattle.model.specs.Memory.{bit_of, set_bit}
use Rattle.laws.proofs.Base.{all_below_lem, and_left, and_right}
use Rattle.laws.proofs.Marks.{bit_of_zero}
use Rattle.words.specs.Bits.{clear_bit}

-- as the code has them
abbrev pub or_mask : ℕ → ℕ → ℕ
or_mask m i = bit_or m (1 * 2 ^ i % 256)

abbrev pub and_not : ℕ → ℕ → ℕ
and_not m i = bit_and m (255 - 1 * 2 ^ i % 256)

row : ℕ → Bool
row m = all_below 8 (λ i. eqb (or_mask m i) (set_bit m i) && eqb (and_not m i) (clear_bit m i))

table : all_below 256 row ≡ true
unfolding all_below row bit_of set_bit clear_bit
table = refl

at : (m i : ℕ) → m < 256 → i < 8 → (eqb (or_mask m i) (set_bit m i) && eqb (and_not m i) (clear_bit m i)) ≡ true
unfolding row
at m i a b = all_below_lem 8 _ (all_below_lem 256 row table m a) i b

pub set_by_mask : (ms : List ℕ) (j i : ℕ) → get_or ms j 0 < 256 → i < 8 → set ms j (or_mask (get_or ms j 0) i) ≡ set ms j (set_bit (get_or ms j 0) i)
set_by_mask ms j i a b =
    ap (set ms j) (eqb-true _ _ (and_left _ (eqb (and_not (get_or ms j 0) i) (clear_bit (get_or ms j 0) i)) (at (get_or ms j 0) i a b)))

pub clear_by_mask : (ms : List ℕ) (j i : ℕ) → get_or ms j 0 < 256 → i < 8 → set ms j (and_not (get_or ms j 0) i) ≡ set ms j (clear_bit (get_or ms j 0) i)
clear_by_mask ms j i a b =
    ap (set ms j) (eqb-true _ _ (and_right (eqb (or_mask (get_or ms j 0) i) (set_bit (get_or ms j 0) i)) _ (at (get_or ms j 0) i a b)))

pub test_by_mask : (v i : ℕ) → eqb (bit_and (v / 2 ^ i) 1) 1 ≡ bit_of v i
unfolding bit_of
test_by_mask v i = ap (λ (x : ℕ). eqb x 1) (and_mask (v / 2 ^ i) 1)

-- past the end a byte reads as 0
pub test_out : (ms : List ℕ) (j i : ℕ) → length ms ≤ j → false ≡ bit_of (get_or ms j 0) i
test_out ms j i l = sym (ap (λ (x : ℕ). bit_of x i) (get_or-eq_default ms 0 l) ∙ bit_of_zero i)
