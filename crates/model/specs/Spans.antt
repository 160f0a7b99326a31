-- Spans of a run under demand 3's premises (Runs.antt): what holds from one turn to a later one.
use Rattle.std.specs.Prelude.{◌≡◌, ◌≢◌, Bool, true, false, not, ◌&&◌, List, [], ◌∷◌, ◌++◌, ℕ, ◌+◌, ◌%◌, ◌≤◌, eqb}
use Rattle.model.specs.declared.Params.{Params}
use Rattle.model.specs.Base.{sum_below, flag, In}
use Rattle.model.specs.Params.{Lent, abandoned}
use Rattle.model.specs.Tables.{Tables}
use Rattle.model.specs.Block.{state_unallocated}
use Rattle.model.specs.Events.{Event, sweeps, times_spent}
use Rattle.model.specs.Global.{phase_running, phase_marking}
use Rattle.model.specs.Sound.{state_of, set_named}
use Rattle.model.specs.Calls.{answered, Call, bind, destroy, alloc, prepare, mark, release, shared_release, tables_in, set_up}
use Rattle.model.specs.Runs.{Cell, unmarked, Turn, State, step_of, result_of, turned, begun, HoldersWrite, stays_held}

-- what stands after a row of turns
unfoldable pub after_turns : Params → State → List Turn → State
after_turns p s [] = s
after_turns p s (u ∷ us) = after_turns p (turned p s u) us

abbrev pub phase_in : State → ℕ
phase_in s = (tables_in s.lent).words.phase

-- no turn is an answered prepare: "before the next prepare"
unfoldable pub is_prepare : Call → Bool
is_prepare = elim [ prepare ↦ true | bind holder ↦ false | destroy holder ↦ false | alloc holder size align offset offer ↦ false | mark a b ↦ false | release holder ↦ false | shared_release ↦ false ]

unfoldable pub NoPrepare : Params → State → List Turn → Type 0
NoPrepare p s [] = Unit {0}
NoPrepare p s (u ∷ us) =
    (((is_prepare u.call && eqb (result_of p s u).reply.number 0) ≡ false) × NoPrepare p (turned p s u) us)

-- "isn't lost": no turn strikes the cell out, and it stands in the book after the last
unfoldable pub NotLost : Params → State → List Turn → Cell → Type 0
NotLost p s [] cell = In cell s.book.cells
NotLost p s (u ∷ us) cell = ((stays_held p (step_of p s u).events cell ≡ true) × NotLost p (turned p s u) us cell)

-- 02, R-10: "in a run under demand 3's premises a cell of the departed holder that is marked when releasing begins isn't lost before
-- the next prepare." Of every held cell, whether its holder is bound or gone. Releasing begins with the turn u, which leaves Marking
unfoldable pub MarkedStays : Type 0
MarkedStays =
    (p : Params) (l : Lent) (us : List Turn) (u : Turn) (us' : List Turn) (cell : Cell)
    → (set_up p l).reply ≡ answered []
    → HoldersWrite p (begun p l) (us ++ (u ∷ us'))
    → phase_in (after_turns p (begun p l) us) ≡ phase_marking
    → phase_in (turned p (after_turns p (begun p l) us) u) ≢ phase_marking
    → In cell (after_turns p (begun p l) us).book.cells
    → unmarked p (after_turns p (begun p l) us).book cell ≡ false
    → NoPrepare p (after_turns p (begun p l) us) (u ∷ us')
    → NotLost p (after_turns p (begun p l) us) (u ∷ us') cell

-- ---- 02, R-12: work between collections

-- "In a run under demand 3's premises, from the end of a last release to the next prepare": the turns us', after the turns us. At the end of
-- a last release the phase is Running again (Global `part_released`); a span may start at any other point of Running too
pub record Span (p : Params) (l : Lent) (us us' : List Turn) : Type 0 where
  pub set_ups : (set_up p l).reply ≡ answered []
  pub holders : HoldersWrite p (begun p l) (us ++ us')
  pub starts : phase_in (after_turns p (begun p l) us) ≡ phase_running
  pub prepares : NoPrepare p (after_turns p (begun p l) us) us'

-- "the swept counts of all allocs, refused ones included, add up": the block sweeps in each, which is what it tells (Runs `Counted`)
unfoldable pub swept_count : Call → List Event → ℕ
swept_count (bind holder) es = 0
swept_count (destroy holder) es = 0
swept_count (alloc holder size align offset offer) es = sweeps es
swept_count prepare es = 0
swept_count (mark place b) es = 0
swept_count (release holder) es = 0
swept_count shared_release es = 0

unfoldable pub alloc_sweeps : Params → State → List Turn → ℕ
alloc_sweeps p s [] = 0
alloc_sweeps p s (u ∷ us) = swept_count u.call (step_of p s u).events + alloc_sweeps p (turned p s u) us

-- "the abandoned unswept blocks standing": those in use that name an abandoned unswept list
unfoldable pub awaits : Tables → ℕ → Bool
awaits t b = not (eqb (state_of t b) state_unallocated) && eqb (set_named t.words b) (abandoned + 1)

unfoldable pub waiting : Params → Tables → ℕ
waiting p t = sum_below p.blocks (λ b. flag (awaits t b))

-- "the swept counts of all allocs, refused ones included, add up to at most the abandoned unswept blocks standing at that end."
unfoldable pub SweepsBound : Type 0
SweepsBound =
    (p : Params) (l : Lent) (us us' : List Turn) → Span p l us us'
    → alloc_sweeps p (after_turns p (begun p l) us) us' ≤ waiting p (tables_in (after_turns p (begun p l) us).lent)

-- "Eager set-up makes the first sum zero."
unfoldable pub EagerSweepsNone : Type 0
EagerSweepsNone =
    (p : Params) (l : Lent) (us us' : List Turn) → Span p l us us' → p.eager ≡ true
    → alloc_sweeps p (after_turns p (begun p l) us) us' ≡ 0

-- how often the block b "passes from an available or unswept list to a consumed one": by the events of each call, and so within calls too
unfoldable pub passes : Params → ℕ → State → List Turn → ℕ
passes p b s [] = 0
passes p b s (u ∷ us) = times_spent b (step_of p s u).events + passes p b (turned p s u) us

-- "Within the same span a block passes from an available or unswept list to a consumed one at most once."
unfoldable pub PassOnce : Type 0
PassOnce =
    (p : Params) (l : Lent) (us us' : List Turn) (b : ℕ) → Span p l us us' → passes p b (after_turns p (begun p l) us) us' ≤ 1

-- the list that b names is a consumed one
unfoldable pub is_consumed : Tables → ℕ → Bool
is_consumed t b = eqb (set_named t.words b % 3) 2

-- What the events say is what the lists say: in any turn u of a span, b passes as often as it names no consumed list before the call and
-- names one after it
unfoldable pub PassSeen : Type 0
PassSeen =
    (p : Params) (l : Lent) (us us' : List Turn) (u : Turn) (later : List Turn) (b : ℕ) → Span p l us (us' ++ (u ∷ later))
    → let s : State = after_turns p (begun p l) (us ++ us') in
    times_spent b (step_of p s u).events
    ≡ flag (not (is_consumed (tables_in s.lent) b) && is_consumed (tables_in (turned p s u).lent) b)
