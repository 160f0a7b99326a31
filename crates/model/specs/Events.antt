-- What happened to cells and blocks in a call, in order. The heap, the counts and the book (Runs.antt) all go by these.
use Rattle.std.specs.Prelude.{ℕ, Bool, true, false, eqb, length}
use mathlib.Core.List.{List, foldl}
use Rattle.model.specs.declared.Params.{Params}
use Rattle.model.specs.Base.{filter}
use Rattle.model.specs.Memory.{zeroed}
use Rattle.model.specs.Block.{link_all}

pub data Event : Type 0 where
  -- a block was initialised, or swept, and has this chain now
  initialised swept : ℕ → List ℕ → Event
  -- a block was made Unallocated
  released : ℕ → Event
  -- the cell at this address, of this size, was handed out
  taken : ℕ → ℕ → Event
  -- a block without a free cell went from an available or unswept list to a consumed one
  spent : ℕ → Event

-- what an event does to the heap
unfoldable pub event_heap : Params → Event → List ℕ → List ℕ
event_heap p e h = elim e [ initialised b chain ↦ link_all p chain h | swept b chain ↦ link_all p chain h | released b ↦ h | taken a size ↦ zeroed p h a size | spent b ↦ h ]

unfoldable pub events_heap : Params → List Event → List ℕ → List ℕ
events_heap p es h = foldl (λ h' e. event_heap p e h') h es

-- "swept is the number of block sweeps in the call, released the number of blocks it made Unallocated"
unfoldable pub is_sweep : Event → Bool
is_sweep = elim [ initialised b chain ↦ false | swept b chain ↦ true | released b ↦ false | taken a size ↦ false | spent b ↦ false ]

unfoldable pub is_release : Event → Bool
is_release = elim [ initialised b chain ↦ false | swept b chain ↦ false | released b ↦ true | taken a size ↦ false | spent b ↦ false ]

unfoldable pub sweeps : List Event → ℕ
sweeps es = length (filter is_sweep es)

unfoldable pub releases : List Event → ℕ
releases es = length (filter is_release es)

-- how often the block b went to a consumed list (02, R-12)
unfoldable pub spends : ℕ → Event → Bool
spends b = elim [ initialised b' chain ↦ false | swept b' chain ↦ false | released b' ↦ false | taken a size ↦ false | spent b' ↦ eqb b b' ]

unfoldable pub times_spent : ℕ → List Event → ℕ
times_spent b es = length (filter (spends b) es)
