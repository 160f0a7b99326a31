-- Runs of mark bits.
use Rattle.std.specs.Prelude.{ℕ, ◌+◌, ◌*◌, ◌/◌, ◌%◌, ◌^◌, ◌≤◌, ◌<◌, Bool, List, get_or}
use Rattle.model.specs.Base.{any_below}
use Rattle.model.specs.Memory.{bit_of}

-- mark bit g
unfoldable pub bit_at : List ℕ → ℕ → Bool
bit_at ms g = bit_of (get_or ms (g / 8) 0) (g % 8)

-- one of the n mark bits from g on is set
unfoldable pub any_bit : List ℕ → ℕ → ℕ → Bool
any_bit ms g n = any_below n (λ k. bit_at ms (g + k))

-- n mark bits from g on, one or more, lie in `marks` bytes
pub record Run (marks g n : ℕ) : Type 0 where
  pub some : 0 < n
  pub fits : g + n ≤ 8 * marks
  pub low : g + n ≤ 2 ^ 60
