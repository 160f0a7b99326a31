-- 02, R-5, "Class table the customer edits": which tables of rows are accepted, what the checker names, and two propositions about it,
-- `NamesTheFirst` and `AcceptedCovers`. crates/laws proves both (Rows.antt).
--
-- The checker is asked of the rows that are given and of the block's size; with no rows it passes. It looks at counts first and at rows
-- only if every count is right.
use Rattle.std.specs.Prelude.{ℕ, suc, ◌*◌, ◌/◌, ◌<◌, ◌≤◌, ◌≡◌, ◌≢◌, Bool, true, false, not, ◌&&◌, ◌||◌, eqb, ltb, leb}
use Rattle.model.specs.declared.Params.{Params}
use Rattle.model.specs.declared.Row.{Row}
use Rattle.model.specs.Base.{sum_below, least_from, flag}
use Rattle.model.specs.SizeClasses.{row_at, covers}

-- "the block's words"
unfoldable pub block_words : Params → ℕ
block_words p = p.bytes / 8

-- how many rows a count of words falls in
unfoldable pub rows_over : Params → ℕ → ℕ
rows_over p n = sum_below p.count (λ i. flag (covers (row_at p (suc i)) n))

-- "Every count [..] must fall in exactly one row": one that is missed or covered twice
unfoldable pub is_bad_count : Params → ℕ → Bool
is_bad_count p n = not (eqb (rows_over p n) 1)

-- "a cell holds at least its row's largest count and at most the block. A row whose from is 0 or over its to [..] counts as unfit."
unfoldable pub row_fits : Params → Row → Bool
row_fits p r = ltb 0 r.from && leb r.from r.to && leb r.to r.cell && leb r.cell (block_words p)

unfoldable pub is_bad_row : Params → ℕ → Bool
is_bad_row p n = not (row_fits p (row_at p n))

-- "the least count that is missed or covered twice", of "1 to the block's words"; 0 for none
unfoldable pub bad_count : Params → ℕ
bad_count p = least_from (block_words p) 1 (is_bad_count p)

-- "the first row with an unfit cell"; 0 for none
unfoldable pub bad_row : Params → ℕ
bad_row p = least_from p.count 1 (is_bad_row p)

-- "with no rows [..] the checker passes"
unfoldable pub classes_fit : Params → Bool
classes_fit p = eqb p.count 0 || (eqb (bad_count p) 0 && eqb (bad_row p) 0)

-- ---- what is proved of these

-- "A checker names the least count that is missed or covered twice, or, where there is none, the first row with an unfit cell."
pub record NamesTheFirst (p : Params) : Type 0 where
  -- a count that is named is bad, and none below it is
  pub count : bad_count p ≢ 0
      → (1 ≤ bad_count p) × (bad_count p ≤ block_words p) × (is_bad_count p (bad_count p) ≡ true)
      × ((n : ℕ) → 1 ≤ n → n < bad_count p → is_bad_count p n ≡ false)
  -- where none is named, none is bad
  pub no_count : bad_count p ≡ 0 → (n : ℕ) → 1 ≤ n → n ≤ block_words p → is_bad_count p n ≡ false
  -- and so of rows
  pub row : bad_row p ≢ 0
      → (1 ≤ bad_row p) × (bad_row p ≤ p.count) × (is_bad_row p (bad_row p) ≡ true)
      × ((n : ℕ) → 1 ≤ n → n < bad_row p → is_bad_row p n ≡ false)
  pub no_row : bad_row p ≡ 0 → (n : ℕ) → 1 ≤ n → n ≤ p.count → is_bad_row p n ≡ false

-- the row n is the one that a count falls in, its cell holds the count, and the block holds the cell
pub record OnlyRow (p : Params) (count n : ℕ) : Type 0 where
  pub from : 1 ≤ n
  pub to : n ≤ p.count
  pub covering : covers (row_at p n) count ≡ true
  pub only : (m : ℕ) → 1 ≤ m → m ≤ p.count → covers (row_at p m) count ≡ true → m ≡ n
  pub holds : count ≤ (row_at p n).cell
  pub room : 8 * (row_at p n).cell ≤ p.bytes

-- "Every count from 1 to the block's words must fall in exactly one row, and a cell holds at least its row's largest count and at most
-- the block."
unfoldable pub AcceptedCovers : Type 0
AcceptedCovers =
    (p : Params) → classes_fit p ≡ true → p.count ≢ 0
    → (count : ℕ) → 1 ≤ count → count ≤ block_words p → (n : ℕ) × OnlyRow p count n
