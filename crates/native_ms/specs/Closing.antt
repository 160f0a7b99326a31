-- How the searches of the code meet those of the machine: the machine gives words and events, the code gives words, a heap and
-- a count. What is promised of each inner step of the allocator, with a name for each part.
use Rattle.std.specs.Prelude.{if◌then◌else◌, ℕ, ◌+◌, ◌≤◌, ◌≡◌, Bool, not, List, eqb, get_or}
use Rattle.model.specs.declared.Params.{Params}
use Rattle.model.specs.Tables.{Words}
use Rattle.model.specs.BlockList.{Popped, popped, push}
use Rattle.model.specs.Events.{events_heap, sweeps}
use Rattle.model.specs.FreeListAllocator.{Found}

-- the block b was put on the list `avail` if r, that it has a free cell, and else on the list `full`
pub record Filed (p : Params) (avail full b : ℕ) (t : Words) (r : Bool) (t₁ : Words) : Type 0 where
  pub none : eqb (get_or t.free b 0) 0 ≡ not r
  pub words : t₁ ≡ push p (if r then avail else full) b t

-- the skim, as the code sees its end: it sweeps nothing
abbrev pub skimmed : Found → Popped
skimmed f = popped f.at f.words

-- a search as the code sees its end
pub record Reached : Type 0 where
  pub at : ℕ
  pub swept : ℕ
  pub words : Words
  pub heap : List ℕ

abbrev pub reached : ℕ → ℕ → Words → List ℕ → Reached
reached a n t h = record { at = a; swept = n; words = t; heap = h }

-- the machine's search, seen so: n blocks were swept before it, and the heap was h
abbrev pub closed : Params → ℕ → List ℕ → Found → Reached
closed p n h f = reached f.at (n + sweeps f.events) f.words (events_heap p f.events h)

-- the search s is the search f, and swept at most k blocks
pub record Searched (k : ℕ) (s f : Reached) : Type 0 where
  pub same : s ≡ f
  pub few : s.swept ≤ k
