-- What a step of the checker finds: from a count of words on, up to the next border, every row covers what it covers there. And the
-- sizes of all bins, as the test of tables is lent them.
use Rattle.std.specs.Prelude.{ℕ, suc, ◌*◌, ◌≤◌, ◌<◌, ◌≡◌, List, get_or}
use Rattle.model.specs.declared.Params.{Params}
use Rattle.model.specs.declared.Row.{Row}
use Rattle.model.specs.SizeClasses.{row_at, covers, cell_bytes}
use Rattle.model.specs.Params.{bins}
use Rattle.model.specs.Classes.{rows_over}

-- the counts from a on and before b are all in this row, or none is, as a is
unfoldable pub Level : Row → ℕ → ℕ → Type 0
Level r a b = (m : ℕ) → a ≤ m → m < b → covers r m ≡ covers r a

-- b is past a and not past the end, and the row is level up to it
pub record Bordered (r : Row) (a end b : ℕ) : Type 0 where
  pub past : a < b
  pub low : b ≤ end
  pub level : Level r a b

-- so of all rows; and how many cover a
pub record Surveyed (p : Params) (a end over b : ℕ) : Type 0 where
  pub past : a < b
  pub low : b ≤ end
  pub rows : over ≡ rows_over p a
  pub level : (i : ℕ) → i < p.count → Level (row_at p (suc i)) a b

-- the cells of all bins in words
pub record Sizes (p : Params) (cs : List ℕ) : Type 0 where
  pub is : (bin : ℕ) → bin < bins → get_or cs bin 0 * 8 ≡ cell_bytes p bin
  pub most : (bin : ℕ) → bin < bins → get_or cs bin 0 ≤ 8192
