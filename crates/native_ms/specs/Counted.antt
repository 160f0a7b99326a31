-- The blocks on one list and on 48 lists, as the code counts them: a count, or none where a walk goes wrong.
use Rattle.std.specs.Prelude.{if◌then◌else◌, ℕ, ◌+◌, Bool, ◌&&◌, List, eqb, length, get_or, Option, Some, None}
use Rattle.model.specs.declared.Params.{Params}
use Rattle.model.specs.Base.{all_below, sum_below}
use Rattle.model.specs.Params.{good_params, bins, word_count}
use Rattle.model.specs.BlockList.{walk, ends}

abbrev pub counted : Bool → ℕ → Option ℕ
counted good n = if good then Some n else None

-- n blocks, and those from the address a on, at most k
unfoldable pub counted_from : ℕ → Params → List ℕ → ℕ → ℕ → Option ℕ
counted_from k p next n a = counted (ends k p next a) (n + length (walk k p next a))

-- n blocks, and those on the lists of the bins 1 to k
unfoldable pub counted_bins : ℕ → Params → List ℕ → List ℕ → ℕ → Option ℕ
counted_bins k p next firsts n =
    counted (all_below k (λ i. ends p.blocks p next (get_or firsts (i + 1) 0)))
    (n + sum_below k (λ i. length (walk p.blocks p next (get_or firsts (i + 1) 0))))

-- the sizes that pages used asks
unfoldable pub set_fits : Params → List ℕ → ℕ → Bool
set_fits p ws n = good_params p && eqb (length ws) (word_count p) && eqb n bins
