-- From border to border (02, R-5): up to the next border every row covers what it covers at a, so counts are bad as a is. And the loops
-- over rows. Assumes nothing.
use Rattle.std.specs.Prelude.{Option, Some, None, position}
use Rattle.std.specs.List.{position_from}
use Rattle.std.proofs.lemmas.List.{get_or-take}
use Rattle.std.proofs.lemmas.List.Quantifiers.{position-Some}
use Rattle.std.proofs.lemmas.Iterator.Adapters.{position_from-zero}
use Prim.Native.Nat.{ℕ, zero, suc, ◌+◌, ◌-◌, ◌*◌, ◌/◌, ◌<◌, ◌≤◌, min}
use mathlib.Core.Path.{◌≡◌, sym, ap, ◌∙◌, subst}
use mathlib.Core.Bool.{Bool, true, false, not}
use mathlib.Core.List.{List, [], ◌∷◌}
use mathlib.Core.Logic.{◌⊎◌, inl, inr, ⊎_elim, ◌≢◌}
use native.Mathlib.Omega.{arith}
use lib.Dec.{eqb, leb}
use native.Mathlib.Nat.{mul_comm, eq-zero-or-pos, not-suc-le-zero, le_of_suc-le-suc}
use lib.ListN.{length, get_or, set, take, replicate, length-set, length-replicate, get_or-eq_default}
use lib.Seq.{get_or-set_same, get_or-set_other}
use borrow.Author.Count.{below_more}
use borrow.Author.Tests.{eqb-true, eqb-false, leb-true, leb-false, ne_eqb}
use Rattle.model.specs.declared.Params.{Params}
use Rattle.model.specs.declared.Row.{Row}
use Rattle.model.specs.Base.{sum_below, least_from, flag}
use Rattle.model.specs.SizeClasses.{class_words, class_bytes, no_row, row_at, covers, cell_bytes}
use Rattle.model.specs.Classes.{block_words, rows_over, is_bad_count, bad_count, classes_fit}
use Rattle.laws.proofs.Below.{test}
use Rattle.laws.proofs.Pigeon.{sum_same}
use Rattle.laws.proofs.Rows.{least_hit, least_end, first_least, least_jump, none_least, covers_no, covers_yes, accepted_row}
use Rattle.laws.proofs.Classes.{class_bytes_most, plain_cell, row_cell, rowless_cell, zero_cell}
use Rattle.laws.proofs.Params.{Bounds}
use Rattle.laws.proofs.Memory.{get_d_zeros}
use Rattle.laws.proofs.Tables.{by_lt}
use Rattle.native_ms.specs.Borders.{Level, Surveyed, Sizes}

module _ (r : Row) (a b : ℕ) where
  -- a row that begins later, from b on
  pub level_later : b ≤ r.from → a < r.from → Level r a b
  unfolding Level
  level_later h k m x y = covers_no r m (λ c. omega (arith, c.from)) ∙ sym (covers_no r a (λ c. omega (arith, c.from)))

  -- one that ended before
  pub level_ended : r.to < a → Level r a b
  unfolding Level
  level_ended h m x y = covers_no r m (λ c. omega (arith, c.to)) ∙ sym (covers_no r a (λ c. omega (arith, c.to)))

  -- one that covers nothing
  pub level_none : r.from ≡ 0 → Level r a b
  unfolding Level
  level_none h m x y = covers_no r m (λ c. omega (arith, c.some)) ∙ sym (covers_no r a (λ c. omega (arith, c.some)))

  -- one that a falls in, which ends at b − 1 or later
  pub level_in : 1 ≤ r.from → r.from ≤ a → a ≤ r.to → b ≤ r.to + 1 → Level r a b
  unfolding Level
  level_in s x y h m u v = covers_yes r m s (omega arith) (omega arith) ∙ sym (covers_yes r a s x y)

  pub level_less : (c : ℕ) → Level r a b → c ≤ b → Level r a c
  unfolding Level
  level_less c h k m x y = h m x (omega arith)

-- where all rows are level, a count is bad as a is
pub level_over : (p : Params) (a b : ℕ) → ((n : ℕ) → n < p.count → Level (row_at p (suc n)) a b)
    → (m : ℕ) → a ≤ m → m < b → is_bad_count p m ≡ is_bad_count p a
unfolding is_bad_count rows_over Level
level_over p a b h m x y =
    ap (λ (n : ℕ). not (eqb n 1)) (sum_same p.count _ _ (λ i l. ap flag (h i l m x y)))

-- ---- a row by its place in the list

pub row_index : (p : Params) (i : ℕ) → row_at p (suc i) ≡ get_or p.rows i no_row
unfolding row_at
row_index p i = let e : suc i - 1 ≡ i = omega arith in ap (λ (n : ℕ). get_or p.rows n no_row) e

pub row_next : (p : Params) (i : ℕ) → row_at p (i + 1) ≡ get_or p.rows i no_row
unfolding row_at
row_next p i = let e : (i + 1) - 1 ≡ i = omega arith in ap (λ (n : ℕ). get_or p.rows n no_row) e

-- where there is no first that passes, none does
none_passes : (f : Row → Bool) (rows : List Row) (i : ℕ) → position_from f i rows ≡ None → (k : ℕ) → k < length rows → f (get_or rows k no_row) ≡ false
none_passes f [] i e k l = absurd (not-suc-le-zero l)
none_passes f (r ∷ rows) i e k l =
    ⊎_elim (λ t. let q : ◌≡◌ {A = Option ℕ} (Some i) None = rw t at e in cc)
    (λ t. place k l t (λ j y. none_passes f rows (i + 1) (rw t at e) j y))
    (test (f r))
  where
    place : (k : ℕ) → k < suc (length rows) → f r ≡ false → ((j : ℕ) → j < length rows → f (get_or rows j no_row) ≡ false) → f (get_or (r ∷ rows) k no_row) ≡ false
    place zero l t rest = t
    place (suc k) l t rest = rest k (le_of_suc-le-suc l)

-- ---- a loop that looks at one after the other, which are counted from 1: none of the first n passes

module _ (g : ℕ → Bool) (count n : ℕ) (before : (k : ℕ) → k < n → g k ≡ false) where
  abbrev from_one : ℕ → Bool
  from_one m = g (m - 1)

  pub first_of : n < count → g n ≡ true → n + 1 ≡ least_from count 1 from_one
  first_of h t =
      let d : n + 1 - 1 ≡ n = omega arith in
      sym (first_least from_one count 1 (n + 1) (record { from = omega arith; to = omega arith; passes = ap g d ∙ t; before = λ m a b. before (m - 1) (omega arith) }))

  pub none_of : ((k : ℕ) → n ≤ k → k < count → g k ≡ false) → 0 ≡ least_from count 1 from_one
  none_of past = sym (none_least from_one count 1 (λ m a b. by_lt (m - 1) n (λ l. before (m - 1) l) (λ l. past (m - 1) l (omega arith))))

-- ---- the rows that are given

module _ (rows : List Row) (count : ℕ) {some : List Row} (e : some ≡ take (min count 48) rows) (all : length some ≡ min count 48) where
  pub row_given : (k : ℕ) → k < min count 48 → get_or some k no_row ≡ get_or rows k no_row
  row_given k l = ap (λ (rs : List Row). get_or rs k no_row) e ∙ get_or-take (min count 48) rows k no_row l

  module _ (f : Row → Bool) where
    -- the first of them that passes, if any does, is named by its number
    pub first_row : {r : Option ℕ} (n : ℕ) → r ≡ position f some → r ≡ Some n → n + 1 ≡ least_from count 1 (λ k. f (get_or rows (k - 1) no_row))
    first_row n q z =
        let p = position-Some f some n no_row (sym q ∙ z) in
        first_of (λ k. f (get_or rows k no_row)) count n (λ k l. ap f (sym (row_given k (omega (arith, p.0)))) ∙ p.2 k l) (omega (arith, p.0))
        (ap f (sym (row_given n (omega (arith, p.0)))) ∙ p.1)

    pub no_first_row : {r : Option ℕ} → r ≡ position f some → r ≡ None → ((k : ℕ) → 48 ≤ k → k < count → f (get_or rows k no_row) ≡ false)
        → 0 ≡ least_from count 1 (λ k. f (get_or rows (k - 1) no_row))
    no_first_row q z past =
        let p = sym (position_from-zero f some) ∙ sym q ∙ z in
        none_of (λ k. f (get_or rows k no_row)) count (min count 48)
        (λ k l. ap f (sym (row_given k l)) ∙ none_passes f some 0 p k (omega arith))
        (λ k a b. past k (omega arith) b)

-- no count of words falls in a row past the list
pub covers_past : (rows : List Row) (words n : ℕ) → length rows ≤ n → covers (get_or rows n no_row) words ≡ false
unfolding covers
covers_past rows words n h = rw (get_or-eq_default rows no_row h)

-- ---- a survey

-- how many of the first rows cover a
abbrev pub over : List Row → ℕ → ℕ → ℕ
over rows a n = sum_below n (λ i. flag (covers (get_or rows i no_row) a))

pub over_all : (p : Params) (a : ℕ) → over p.rows a p.count ≡ rows_over p a
unfolding rows_over
over_all p a = sum_same p.count _ _ (λ i l. sym (ap (λ (r : Row). flag (covers r a)) (row_index p i)))

-- one more row is level
pub level_step : (rows : List Row) (a n b c : ℕ) → Level (get_or rows n no_row) a c → c ≤ b
    → ((i : ℕ) → i < n → Level (get_or rows i no_row) a b) → (i : ℕ) → i < n + 1 → Level (get_or rows i no_row) a c
level_step rows a n b c here less all =
    below_more (λ (i : ℕ). Level (get_or rows i no_row) a c) n (λ i l. level_less (get_or rows i no_row) a b c (all i l) less) here

-- and the checker goes on from its border
pub survey_jump : (p : Params) (w a over b : ℕ) → Surveyed p a (w + 1) over b → over ≡ 1 → a ≤ w
    → least_from ((w + 1) - a) a (is_bad_count p) ≡ least_from ((w + 1) - b) b (is_bad_count p)
unfolding is_bad_count
survey_jump p w a over b s e l =
    let good : is_bad_count p a ≡ false = rw (sym s.rows ∙ e) in
    least_jump (is_bad_count p) w a b (omega (arith, s.past)) s.low (λ m x y. level_over p a b s.level m x y ∙ good)

pub survey_stop : (p : Params) (w a over b : ℕ) → Surveyed p a (w + 1) over b → (over ≡ 1 → ⊥) → a ≤ w → a ≡ least_from ((w + 1) - a) a (is_bad_count p)
unfolding is_bad_count
survey_stop p w a over b s n l =
    let k : (w + 1) - a ≡ suc (w - a) = omega arith in
    let bad : is_bad_count p a ≡ true = rw (← s.rows, ne_eqb over 1 n) in
    sym (ap (λ (x : ℕ). least_from x a (is_bad_count p)) k ∙ least_hit (is_bad_count p) (w - a) a bad)

pub survey_end : (p : Params) (w a : ℕ) → w < a → least_from ((w + 1) - a) a (is_bad_count p) ≡ 0
survey_end p w a h = let e : (w + 1) - a ≡ 0 = omega arith in ap (λ (x : ℕ). least_from x a (is_bad_count p)) e ∙ least_end (is_bad_count p) a

pub survey_start : (p : Params) → least_from ((p.bytes / 8 + 1) - 1) 1 (is_bad_count p) ≡ bad_count p
unfolding bad_count block_words
survey_start p = let e : (p.bytes / 8 + 1) - 1 ≡ p.bytes / 8 = omega arith in ap (λ (x : ℕ). least_from x 1 (is_bad_count p)) e

-- ---- the sizes of all bins

pub plain_sizes : (p : Params) → p.count ≡ 0 → Sizes p class_words
unfolding class_bytes
plain_sizes p e =
    record {
      is = λ bin h. mul_comm (get_or class_words bin 0) 8 ∙ sym (plain_cell p e bin);
      most = λ bin h. omega (arith, class_bytes_most h);
    }

-- n rows are written
pub record Written (rows : List Row) (n : ℕ) (cs : List ℕ) : Type 0 where
  pub length : length cs ≡ 49
  pub done : (i : ℕ) → i < n → get_or cs (i + 1) 0 ≡ (get_or rows i no_row).cell
  pub first : get_or cs 0 0 ≡ 0
  pub rest : (i : ℕ) → n ≤ i → get_or cs (i + 1) 0 ≡ 0

pub written_start : (rows : List Row) → Written rows 0 (replicate 49 0)
written_start rows =
    record { length = length-replicate {A = ℕ} 49 0; done = λ i h. absurd (omega arith); first = zeros 0; rest = λ i h. zeros (i + 1) }
  where
    zeros : (i : ℕ) → get_or (replicate {A = ℕ} 49 0) i 0 ≡ 0
    zeros i = get_d_zeros 49 i

pub written_step : (rows : List Row) (n : ℕ) (cs : List ℕ) → n < 48 → Written rows n cs → Written rows (n + 1) (set cs (n + 1) (get_or rows n no_row).cell)
written_step rows n cs l W =
    record {
      length = length-set cs (n + 1) _ ∙ W.length;
      done = λ i h. go i (test (eqb i n)) h;
      first = get_or-set_other cs (n + 1) 0 _ 0 (λ q. omega arith) ∙ W.first;
      rest = λ i h. get_or-set_other cs (n + 1) (i + 1) _ 0 (λ q. omega arith) ∙ W.rest i (omega arith);
    }
  where
    go : (i : ℕ) → (eqb i n ≡ true) ⊎ (eqb i n ≡ false) → i < n + 1 → get_or (set cs (n + 1) (get_or rows n no_row).cell) (i + 1) 0 ≡ (get_or rows i no_row).cell
    go i (inl t) h =
        let e : i ≡ n = eqb-true i n t in
        ap (λ (j : ℕ). get_or (set cs (n + 1) (get_or rows n no_row).cell) (j + 1) 0) e
        ∙ get_or-set_same cs (n + 1) _ 0 (omega (arith, W.length)) ∙ ap (λ (j : ℕ). (get_or rows j no_row).cell) (sym e)
    go i (inr t) h =
        get_or-set_other cs (n + 1) (i + 1) _ 0 (λ q. eqb-false i n t (omega arith)) ∙ W.done i (omega (arith, eqb-false i n t))

pub written_all : (rows : List Row) (n count : ℕ) (cs : List ℕ) → n ≤ count → count ≤ n → Written rows n cs → Written rows count cs
written_all rows n count cs a b W = let e : n ≡ count = omega arith in subst (λ (k : ℕ). Written rows k cs) e W

pub written_sizes : (p : Params) → Bounds p → classes_fit p ≡ true → p.count ≢ 0 → (cs : List ℕ) → Written p.rows p.count cs → Sizes p cs
unfolding block_words
written_sizes p B fit some cs W = record { is = λ bin h. is bin h (eq-zero-or-pos bin) (test (leb bin p.count)); most = λ bin h. most bin h (eq-zero-or-pos bin) (test (leb bin p.count)) }
  where
    cell : (bin : ℕ) → 0 < bin → bin ≤ p.count → get_or cs bin 0 ≡ (row_at p bin).cell
    cell bin h k =
        let i : ℕ = bin - 1 in
        let e : i + 1 ≡ bin = omega arith in
        ap (λ (n : ℕ). get_or cs n 0) (sym e) ∙ W.done i (omega arith) ∙ sym (ap (λ (r : Row). r.cell) (row_next p i))
        ∙ ap (λ (n : ℕ). (row_at p n).cell) e

    none : (bin : ℕ) → 0 < bin → p.count < bin → get_or cs bin 0 ≡ 0
    none bin h k =
        let i : ℕ = bin - 1 in
        let e : i + 1 ≡ bin = omega arith in
        ap (λ (n : ℕ). get_or cs n 0) (sym e) ∙ W.rest i (omega arith)

    is : (bin : ℕ) → bin < 49 → (bin ≡ 0) ⊎ (0 < bin) → (leb bin p.count ≡ true) ⊎ (leb bin p.count ≡ false) → get_or cs bin 0 * 8 ≡ cell_bytes p bin
    is bin l (inl e) t =
        let a : get_or cs bin 0 ≡ 0 = ap (λ (n : ℕ). get_or cs n 0) e ∙ W.first in
        let b : cell_bytes p bin ≡ 0 = ap (cell_bytes p) e ∙ zero_cell p some in
        omega arith
    is bin l (inr h) (inl t) = let k = leb-true bin p.count t in omega (arith, cell bin h k, row_cell p some bin h k)
    is bin l (inr h) (inr t) = let k = leb-false bin p.count t in omega (arith, none bin h k, rowless_cell p some bin k)

    most : (bin : ℕ) → bin < 49 → (bin ≡ 0) ⊎ (0 < bin) → (leb bin p.count ≡ true) ⊎ (leb bin p.count ≡ false) → get_or cs bin 0 ≤ 8192
    most bin l (inl e) t = let a : get_or cs bin 0 ≡ 0 = ap (λ (n : ℕ). get_or cs n 0) e ∙ W.first in omega arith
    most bin l (inr h) (inl t) =
        let k = leb-true bin p.count t in
        omega (arith, cell bin h k, (accepted_row p fit some bin h k).room, B.bytes_high)
    most bin l (inr h) (inr t) = let k = leb-false bin p.count t in omega (arith, none bin h k)

-- ---- the end of a survey

flag_most : (b : Bool) → flag b ≤ 1
unfolding flag
flag_most true = omega arith
flag_most false = omega arith

pub surveyed : (p : Params) (a end k n b : ℕ) → n ≤ p.count → p.count ≤ n → k ≡ over p.rows a n → a < b → b ≤ end
    → ((i : ℕ) → i < n → Level (get_or p.rows i no_row) a b) → Surveyed p a end k b
surveyed p a end k n b x y e past low level =
    let q : n ≡ p.count = omega arith in
    record {
      past = past;
      low = low;
      rows = e ∙ ap (over p.rows a) q ∙ over_all p a;
      level = λ i l. rw (row_index p i) (level i (omega arith));
    }
