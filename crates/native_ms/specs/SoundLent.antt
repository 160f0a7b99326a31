-- What the contracts of the test of tables say of the slices that it is lent.
use Rattle.std.specs.Prelude.{ℕ, ◌+◌, ◌*◌, ◌<◌, ◌≡◌, Bool, true, List, eqb, length, get_or}
use Rattle.model.specs.declared.Params.{Params}
use Rattle.model.specs.Base.{all_below}
use Rattle.model.specs.Params.{good_params, bins, sets, head_words, block_tables}

-- good parameters, and lent words and state bytes of the lengths that these give
pub record Lengths (p : Params) (ws st : List ℕ) : Type 0 where
  pub good : good_params p ≡ true
  pub words : length ws ≡ head_words + block_tables * p.blocks
  pub states : length st ≡ p.blocks

unfoldable pub zero_at : List ℕ → ℕ → ℕ → Bool
zero_at ws from i = eqb (get_or ws (from + i) 0) 0

-- of each set of lists, a word that is 0 if none of its lists has a first
pub record Firsts (ws unions : List ℕ) : Type 0 where
  pub set : (i : ℕ) → i < sets → eqb (get_or unions i 0) 0 ≡ all_below bins (zero_at ws (bins * i))
