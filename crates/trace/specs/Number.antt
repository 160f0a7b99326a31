-- A word's number as the code answers it, tied to the model's `is_number` and `value_of`. Assumes nothing.
use Rattle.std.specs.Prelude.{if◌then◌else◌, List, ℕ, Option, Some, None}
use Rattle.model.specs.Census.{value_of, is_number}

unfoldable pub number_of : List ℕ → Option ℕ
number_of cs = if is_number cs then Some (value_of cs) else None
