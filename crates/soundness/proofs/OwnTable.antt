-- 01's own sizes up to the block, given as rows (02, R-5): they are accepted, each size has the bin that it had, and each of these bins the
-- cell that it had. Leans on the computed table of classes (`least_at`); nothing is computed anew but that classes grow.
use Rattle.std.specs.Prelude.{if◌then◌else◌}
use mathlib.Core.Path.{◌≡◌, refl, sym, ap, ◌∙◌}
use mathlib.Core.Logic.{◌⊎◌, inl, inr, ⊎_elim, ◌≢◌}
use mathlib.Core.Bool.{Bool, true, false, not, ◌||◌}
use Prim.Native.Nat.{ℕ, zero, suc, ◌+◌, ◌-◌, ◌*◌, ◌/◌, ◌<◌, ◌≤◌}
use native.Mathlib.Nat.{not-suc-le-zero, le_of_suc-le-suc, eq-zero-or-pos}
use native.Mathlib.Decide.{ℕ_discrete, dec_lt}
use native.Mathlib.Omega.{arith}
use lib.Dec.{eqb, ltb, leb}
use lib.ListN.{get_or}
use borrow.Author.Tests.{ltb-true, leb-true, eq-eqb, ne_eqb, lt-ltb, le-leb}
use Rattle.model.specs.declared.Params.{Params}
use Rattle.model.specs.declared.Row.{Row}
use Rattle.model.specs.Base.{all_below, flag}
use Rattle.model.specs.SizeClasses.{fours, class_words, class_bytes, words_in, mi_bin, no_row, row_at, covers, words_asked, bin_of, cell_bytes, tabulated}
use Rattle.model.specs.Classes.{block_words, rows_over, is_bad_count, row_fits, is_bad_row, bad_count, bad_row, classes_fit}
use Rattle.model.specs.OwnRows.{own_row, with_own_rows}
use Rattle.laws.proofs.Below.{all_below_at, and_both, or_cases, or_right}
use Rattle.laws.proofs.Params.{Bounds}
use Rattle.laws.proofs.Pigeon.{sum_one}
use Rattle.laws.proofs.Rows.{none_least, first_least, Covering, covers_yes, covers_no}
use Rattle.laws.proofs.Classes.{class_bytes_mono, least_at, Least, MiChosen, mi_chosen, mi_bin_words, mi_bin_zero, class_in_block, words_most, plain_bin, plain_cell, row_bin, row_cell}

-- ---- the rows

tabulated_at : (f : ℕ → Row) (n i k : ℕ) → k < n → get_or (tabulated f n i) k no_row ≡ f (i + k)
unfolding tabulated
tabulated_at f zero i k h = absurd (not-suc-le-zero h)
tabulated_at f (suc n) i zero h = let e : i ≡ i + 0 = omega arith in ap f e
tabulated_at f (suc n) i (suc k) h = let e : suc i + k ≡ i + suc k = omega arith in tabulated_at f n (suc i) k (le_of_suc-le-suc h) ∙ ap f e

pub own_row_lem : (p : Params) (n : ℕ) → 1 ≤ n → n ≤ 48 → row_at (with_own_rows p) n ≡ own_row n
unfolding row_at with_own_rows
own_row_lem p n a b =
    let e : 1 + (n - 1) ≡ n = omega arith in
    tabulated_at own_row 48 1 (n - 1) (omega arith) ∙ ap own_row e

-- ---- their borders

bytes_of : (n : ℕ) → class_bytes n ≡ 8 * get_or class_words n 0
unfolding class_bytes
bytes_of n = refl

from_one : (own_row 1).from ≡ 1
unfolding own_row
from_one = refl

from_more : (n : ℕ) → 2 ≤ n → (own_row n).from ≡ get_or class_words (n - 1) 0 + 1
unfolding own_row
from_more n h = rw (ne_eqb n 1 (λ e. omega arith))

to_is : (n : ℕ) → (own_row n).to ≡ get_or class_words n 0
unfolding own_row
to_is n = refl

cell_own : (n : ℕ) → (own_row n).cell ≡ get_or class_words n 0
unfolding own_row
cell_own n = refl

first : (n : ℕ) → n ≡ 1 → (0 < (own_row n).from) × ((own_row n).from ≤ (own_row n).to)
unfolding own_row class_words fours
first n e = rw e (omega arith, omega arith)

one_word : mi_bin 8 ≡ 1
unfolding mi_bin words_in
one_word = refl

words_some : (size : ℕ) → 0 < size → 1 ≤ words_in size
unfolding words_in
words_some size h = omega arith

-- classes from the first on grow
abbrev grows : ℕ → Bool
grows n = leb n 1 || ltb (get_or class_words (n - 1) 0) (get_or class_words n 0)

all_grow : all_below 49 grows ≡ true
unfolding all_below class_words fours
all_grow = refl

grow : (n : ℕ) → 2 ≤ n → n < 49 → get_or class_words (n - 1) 0 < get_or class_words n 0
grow n a b =
    ⊎_elim (λ t. absurd (omega (arith, leb-true n 1 t))) (λ t. ltb-true _ _ t)
    (or_cases (leb n 1) (ltb (get_or class_words (n - 1) 0) (get_or class_words n 0)) (all_below_at 49 grows all_grow n b))

-- ---- a count falls in the row of its bin, and in no other

module _ (w : ℕ) (from : 1 ≤ w) (to : w ≤ 8192) where
  abbrev n : ℕ
  n = mi_bin (8 * w)

  L : Least w n
  L = least_at w from to

  C : MiChosen (8 * w)
  C = mi_chosen (8 * w) (omega arith)

  own_yes : covers (own_row n) w ≡ true
  own_yes = covers_yes (own_row n) w some below (omega (arith, L.0, bytes_of n, to_is n))
    where
      cases : (n ≡ 1) ⊎ (2 ≤ n)
      cases = go (ℕ_discrete n 1)
        where
          go : Dec (n ≡ 1) → (n ≡ 1) ⊎ (2 ≤ n)
          go (yes e) = inl e
          go (no f) = inr (omega (arith, C.from, f))

      some : 1 ≤ (own_row n).from
      some = ⊎_elim (λ e. omega (arith, ap (λ (m : ℕ). (own_row m).from) e ∙ from_one)) (λ h. omega (arith, from_more n h)) cases

      below : (own_row n).from ≤ w
      below =
          ⊎_elim (λ e. omega (arith, ap (λ (m : ℕ). (own_row m).from) e ∙ from_one))
          (λ h. ⊎_elim (λ e. absurd (omega (arith, e, h))) (λ l. omega (arith, from_more n h, l, bytes_of (n - 1))) L.1) cases

  own_no : (m : ℕ) → 1 ≤ m → m ≤ 48 → (m ≡ n → ⊥) → covers (own_row m) w ≡ false
  own_no m a b ne = covers_no (own_row m) w (λ c. go c (dec_lt m n))
    where
      go : Covering (own_row m) w → Dec (m < n) → ⊥
      go c (yes l) =
          ⊎_elim (λ e. omega (arith, e, l, a))
          (λ k. omega (arith, k, c.to, to_is m, bytes_of m, class_bytes_mono {i = m} {j = n - 1} (omega arith) (omega (arith, C.to)))) L.1
      go c (no f) =
          omega (arith, c.from, from_more m (omega (arith, f, ne, C.from)), bytes_of (m - 1), L.0, class_bytes_mono {i = n} {j = m - 1} (omega (arith, f, ne)) (omega arith))

-- ---- the whole table

module _ (p : Params) (B : Bounds p) where
  abbrev q : Params
  q = with_own_rows p

  abbrev top : ℕ
  top = mi_bin p.bytes

  T : MiChosen p.bytes
  T = mi_chosen p.bytes B.bytes_high

  count_is : q.count ≡ top
  unfolding with_own_rows
  count_is = refl

  some_rows : q.count ≢ 0
  some_rows e = omega (arith, sym count_is ∙ e, T.from)

  block_is : class_bytes top ≡ p.bytes
  block_is = omega (arith, T.holds, class_in_block p B p.bytes (omega arith))

  -- the bin of a count of the block is one of the table's
  low : (w : ℕ) → 1 ≤ w → 8 * w ≤ p.bytes → mi_bin (8 * w) ≤ top
  low w a b = go (dec_lt top (mi_bin (8 * w)))
    where
      few : w ≤ 8192
      few = omega (arith, B.bytes_high)

      go : Dec (top < mi_bin (8 * w)) → mi_bin (8 * w) ≤ top
      go (no f) = omega (arith, f)
      go (yes l) =
          ⊎_elim (λ e. absurd (omega (arith, e, l, T.from)))
          (λ k. absurd (omega (arith, k, block_is, class_bytes_mono {i = top} {j = mi_bin (8 * w) - 1} (omega arith) (omega (arith, (mi_chosen (8 * w) (omega arith)).to)))))
          (least_at w a few).1

  -- each count falls in one row
  once : (w : ℕ) → 1 ≤ w → 8 * w ≤ p.bytes → rows_over q w ≡ 1
  unfolding rows_over flag with_own_rows
  once w a b =
      let few : w ≤ 8192 = omega (arith, B.bytes_high) in
      let n : ℕ = mi_bin (8 * w) in
      let c : MiChosen (8 * w) = mi_chosen (8 * w) (omega arith) in
      let e : suc (n - 1) ≡ n = omega (arith, c.from) in
      sum_one top (λ i. flag (covers (row_at q (suc i)) w)) (n - 1) (omega (arith, low w a b, c.from))
      (λ i l ne. ap flag (ap (λ (r : Row). covers r w) (own_row_lem p (suc i) (omega arith) (omega (arith, T.to)))
      ∙ own_no w a few (suc i) (omega arith) (omega (arith, T.to)) (λ z. ne (omega (arith, z)))))
      ∙ ap flag (ap (λ (m : ℕ). covers (row_at q m) w) e ∙ ap (λ (r : Row). covers r w) (own_row_lem p n c.from c.to) ∙ own_yes w a few)

  no_bad_count : bad_count q ≡ 0
  unfolding bad_count is_bad_count block_words with_own_rows
  no_bad_count = none_least (is_bad_count q) (p.bytes / 8) 1 (λ m a b. rw (once m a (omega arith)))

  -- each row fits
  fits : (n : ℕ) → 1 ≤ n → n ≤ top → row_fits q (own_row n) ≡ true
  unfolding row_fits block_words with_own_rows
  fits n a b =
      and_both (and_both (and_both (lt-ltb 0 (own_row n).from from.0) (le-leb (own_row n).from (own_row n).to from.1)) (le-leb (own_row n).to (own_row n).cell cell)) (le-leb (own_row n).cell (p.bytes / 8) room)
    where
      most : n ≤ 48
      most = omega (arith, T.to)

      cell_is : (own_row n).cell ≡ get_or class_words n 0
      cell_is = cell_own n

      cell : (own_row n).to ≤ (own_row n).cell
      cell = omega (arith, to_is n, cell_is)

      room : (own_row n).cell ≤ p.bytes / 8
      room = omega (arith, cell_is, bytes_of n, block_is, class_bytes_mono {i = n} {j = top} b (omega (arith, T.to)))

      from : (0 < (own_row n).from) × ((own_row n).from ≤ (own_row n).to)
      from = go (ℕ_discrete n 1)
        where
          go : Dec (n ≡ 1) → (0 < (own_row n).from) × ((own_row n).from ≤ (own_row n).to)
          go (yes e) = first n e
          go (no f) = let h : 2 ≤ n = omega (arith, f, a) in (omega (arith, from_more n h), omega (arith, from_more n h, to_is n, grow n h (omega (arith, most))))

  no_bad_row : bad_row q ≡ 0
  unfolding bad_row is_bad_row with_own_rows
  no_bad_row =
      none_least (is_bad_row q) top 1
      (λ m a b. ap not (ap (row_fits q) (own_row_lem p m a (omega (arith, T.to))) ∙ fits m a (omega arith)))

  pub own_fit : classes_fit q ≡ true
  unfolding classes_fit
  own_fit = or_right (eqb q.count 0) (and_both (eq-eqb _ _ no_bad_count) (eq-eqb _ _ no_bad_row))

  -- ---- bins and cells as before

  asked_same : (size : ℕ) → size ≤ p.bytes → (1 ≤ words_asked size) × (8 * words_asked size ≤ p.bytes) × (mi_bin (8 * words_asked size) ≡ mi_bin size)
  unfolding words_asked
  asked_same size h = go (eq-zero-or-pos size)
    where
      go : (size ≡ 0) ⊎ (0 < size) → (1 ≤ (if eqb size 0 then 1 else words_in size)) × (8 * (if eqb size 0 then 1 else words_in size) ≤ p.bytes) × (mi_bin (8 * (if eqb size 0 then 1 else words_in size)) ≡ mi_bin size)
      go (inl e) = rw (eq-eqb size 0 e) (omega arith, omega (arith, B.bytes_low), sym (ap mi_bin e ∙ mi_bin_zero ∙ sym one_word))
      go (inr l) =
          rw (ne_eqb size 0 (λ e. omega arith))
          (words_some size l, omega (arith, words_most size, B.bytes_words), sym (mi_bin_words size (omega (arith, B.bytes_high))))

  module _ (plain : p.count ≡ 0) where
    pub own_bin : (size : ℕ) → size ≤ p.bytes → bin_of q size ≡ bin_of p size
    unfolding with_own_rows
    own_bin size h =
        let a = asked_same size h in
        let w : ℕ = words_asked size in
        let few : w ≤ 8192 = omega (arith, a.1, B.bytes_high) in
        let n : ℕ = mi_bin (8 * w) in
        let c : MiChosen (8 * w) = mi_chosen (8 * w) (omega arith) in
        row_bin q some_rows size
        ∙ first_least (λ m. covers (row_at q m) w) top 1 n
        (record {
          from = c.from;
          to = omega (arith, low w a.0 a.1);
          passes = ap (λ (r : Row). covers r w) (own_row_lem p n c.from c.to) ∙ own_yes w a.0 few;
          before = λ m x y. ap (λ (r : Row). covers r w) (own_row_lem p m x (omega (arith, c.to))) ∙ own_no w a.0 few m x (omega (arith, c.to)) (λ e. omega arith);
        })
        ∙ a.2 ∙ sym (plain_bin p plain size)

    pub own_cell : (bin : ℕ) → 1 ≤ bin → bin ≤ top → cell_bytes q bin ≡ cell_bytes p bin
    unfolding with_own_rows
    own_cell bin a b =
        row_cell q some_rows bin a b ∙ ap (λ (r : Row). 8 * r.cell) (own_row_lem p bin a (omega (arith, T.to))) ∙ ap (λ (n : ℕ). 8 * n) (cell_own bin)
        ∙ sym (bytes_of bin) ∙ sym (plain_cell p plain bin)

    pub own_low : (size : ℕ) → size ≤ p.bytes → (1 ≤ bin_of p size) × (bin_of p size ≤ top)
    own_low size h =
        let a = asked_same size h in
        let e : bin_of p size ≡ mi_bin (8 * words_asked size) = plain_bin p plain size ∙ sym a.2 in
        (omega (arith, e, (mi_chosen (8 * words_asked size) (omega (arith, a.1, B.bytes_high))).from), omega (arith, e, low (words_asked size) a.0 a.1))
