-- What the sum of free counts leans on.
use Rattle.std.specs.Prelude.{if◌then◌else◌, ℕ, ◌≤◌, eqb, get_or}
use Rattle.model.specs.Tables.{Words}
use Rattle.model.specs.Sound.{bin_named}

-- no block counts more free cells than the largest block has bytes
pub record FewCells (w : Words) : Type 0 where
  pub most : (b : ℕ) → get_or w.cells b 0 ≤ 65536

-- a block's part in the sum of a bin
abbrev pub cells_in : Words → ℕ → ℕ → ℕ
cells_in w bin b = if eqb (bin_named w b) bin then get_or w.cells b 0 else 0
