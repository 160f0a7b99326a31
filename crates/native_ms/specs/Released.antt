-- Releases of blocks with their counts: what the code is seen by, beside the machine's events.
use Rattle.std.specs.Prelude.{if◌then◌else◌, ℕ, ◌≡◌, Bool, List, eqb, get_or, set}
use Rattle.model.specs.declared.Params.{Params}
use Rattle.model.specs.Base.{each_below}
use Rattle.model.specs.Tables.{Words}
use Rattle.model.specs.BlockList.{remove}
use Rattle.model.specs.Block.{state_unallocated, state_unmarked, clear_block}
use Rattle.model.specs.Events.{releases}
use Rattle.model.specs.Global.{Freed, freed, release_bin, has_released}

-- how many blocks were released, and words and states then
pub record Out : Type 0 where
  pub number : ℕ
  pub words : Words
  pub states : List ℕ

abbrev pub out : ℕ → Words → List ℕ → Out
out n w st = record { number = n; words = w; states = st }

-- the machine's, with its events counted
unfoldable pub total : Freed → Out
total f = out (releases f.events) f.words f.states

-- one block of the list: released if it is Unmarked
unfoldable pub attempt_release : Params → ℕ → ℕ → Words → List ℕ → Out
attempt_release p list b w st =
    if eqb (get_or st b 0) state_unmarked then out 1 (clear_block b (remove p list b w)) (set st b state_unallocated) else out 0 w st

-- the bins below n of one owner
unfoldable pub released_bins : Params → ℕ → ℕ → Words → List ℕ → Freed
released_bins p owner n w st = each_below n (release_bin p owner) (freed w st)

-- what is told of each part is whether it has released in the words w
abbrev pub TellsReleased : (ℕ → Bool → Type 0) → Words → Type 0
TellsReleased says w = (part : ℕ) (told : Bool) → says part told → told ≡ has_released w part
