-- The end of a collection with eager sweeping (02, R-8): what the code is seen by, beside the machine's events.
use Rattle.std.specs.Prelude.{if◌then◌else◌, ℕ, Bool, ◌&&◌, ◌||◌, List, eqb, leb, get_or}
use Rattle.model.specs.declared.Params.{Params}
use Rattle.model.specs.Params.{abandoned, in_gc}
use Rattle.model.specs.Tables.{Words, set_phase, set_released}
use Rattle.model.specs.BlockList.{push, remove, append}
use Rattle.model.specs.Events.{events_heap, sweeps}
use Rattle.model.specs.Global.{phase_releasing, Freed, has_released}

-- how many blocks were swept, and words and heap then
pub record Done : Type 0 where
  pub number : ℕ
  pub words : Words
  pub heap : List ℕ

abbrev pub done : ℕ → Words → List ℕ → Done
done n w h = record { number = n; words = w; heap = h }

-- the machine's, with its sweeps counted and made in the heap h
unfoldable pub swept_in : Params → List ℕ → Freed → Done
swept_in p h f = done (sweeps f.events) f.words (events_heap p f.events h)

-- what stays of the other list is swept later, or stays where it is
unfoldable pub waits : Params → ℕ → ℕ → Words → Words
waits p list other w = if p.eager then w else append p list other w

-- one consumed block: it goes to the list `avail` if it has a free cell
unfoldable pub recycle_block : Params → ℕ → ℕ → ℕ → Words → Words
recycle_block p avail full b w = if eqb (get_or w.free b 0) 0 then w else push p avail b (remove p full b w)

-- the words once the part has released
abbrev pub after_part : ℕ → Words → Words
after_part part w = set_released part 1 (set_phase phase_releasing w)

-- a block that stands in this set was released, or left, before
unfoldable pub passed : Words → ℕ → Bool
passed w set = eqb w.phase phase_releasing && (leb in_gc set || (leb abandoned set && has_released w 0))
