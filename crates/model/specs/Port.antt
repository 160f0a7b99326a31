-- "two runs of demand 2's machine, and so of the port": what a run of the port is, by the promises of its calls (Promise.antt) and
-- by nothing else of it, and demand 3 as one proposition, `Demand3OfThePort`, about two such runs.
use Rattle.std.specs.Prelude.{◌≡◌, List, [], ◌∷◌, map, ℕ}
use Rattle.model.specs.declared.Params.{Params}
use Rattle.model.specs.Params.{Lent}
use Rattle.model.specs.Calls.{answered, Returned, set_up, pages}
use Rattle.model.specs.Promise.{Promised, SetUpPromised}
use Rattle.model.specs.Runs.{Turn, State, found_by, step_of, result_of, book_of, turned, empty_book, begun, HoldersWrite, Seen, seen, CallKeeps}

-- ---- a run of the port

-- a call of the port, after what holders wrote: the reply that it gave and the buffers that it left
pub record Made : Type 0 where
  pub turn : Turn
  pub gave : Returned

-- "every call gets the tables that the one before left and the parameters, buffers and choices that set-up was given": each call
-- kept its promise on the buffers that the one before left, with the bytes that holders wrote
unfoldable pub EachPromised : Params → Lent → List Made → Type 0
EachPromised p l [] = Unit {0}
EachPromised p l (made ∷ rest) =
    (Promised p (found_by p l made.turn) made.turn.call made.gave.reply made.gave.lent × EachPromised p made.gave.lent rest)

pub record PortRun (p : Params) : Type 0 where
  -- what was lent to set-up, and what it gave
  pub given : Lent
  pub first : Returned
  pub made : List Made
  pub set_up_kept : SetUpPromised p given first.reply first.lent
  pub calls_kept : EachPromised p first.lent made

abbrev pub turns_of : List Made → List Turn
turns_of mades = map (λ made. made.turn) mades

-- ---- what stands between its calls: its own buffers, and the book. 01: the book is fed by "demand 2's machine in that call;
-- nothing from the port", so by the machine's step on the buffers that the port's call found

unfoldable pub port_begun : {p : Params} → PortRun p → State
port_begun run = record { lent = run.first.lent; book = empty_book }

unfoldable pub port_turned : Params → State → Made → State
port_turned p s made = record { lent = made.gave.lent; book = book_of p s made.turn }

-- what a reader of it sees: its replies, words, state bytes and mark bytes, and the counts of its calls
unfoldable pub port_seen : Params → State → List Made → List Seen
port_seen p s [] = []
port_seen p s (made ∷ rest) = seen made.gave (step_of p s made.turn).events ∷ port_seen p (port_turned p s made) rest

-- what holds in it, call by call: of the replies that it gave, and of the heap that each call found and left
unfoldable pub PortKeeps : Params → State → List Made → Type 0
PortKeeps p s [] = Unit {0}
PortKeeps p s (made ∷ rest) =
    (CallKeeps p made.turn.call (step_of p s made.turn).events made.gave (found_by p s.lent made.turn).heap s.book
    (book_of p s made.turn)
    × PortKeeps p (port_turned p s made) rest)

-- ---- demand 3 of the port

-- the calls that the machine makes in these turns
unfoldable pub ran : Params → State → List Turn → List Made
ran p s [] = []
ran p s (u ∷ us) = record { turn = u; gave = result_of p s u } ∷ ran p (turned p s u) us

-- Every reply and every buffer is that of the machine's run. So the premise on holders, which speaks of the machine's run, is
-- about this run
pub record IsRun (p : Params) (run : PortRun p) : Type 0 where
  pub set_ups : run.first ≡ set_up p run.given
  pub calls : run.made ≡ ran p (begun p run.given) (turns_of run.made)

-- "give equal answers, counts and tables at set-up and after each call"
pub record PortAlike (p : Params) (run run' : PortRun p) : Type 0 where
  pub set_ups : seen run.first [] ≡ seen run'.first []
  pub calls : port_seen p (port_begun run) run.made ≡ port_seen p (port_begun run') run'.made
  pub pages_at_set_up : (firsts : List ℕ) → pages p run.first.lent.words firsts ≡ pages p run'.first.lent.words firsts
  pub pages_after : (firsts : List ℕ)
      → map (λ made. pages p made.gave.lent.words firsts) run.made ≡ map (λ made. pages p made.gave.lent.words firsts) run'.made

-- The premises are those of `Demand3`. No property of the port but its promises is used
unfoldable pub Demand3OfThePort : Type 0
Demand3OfThePort =
    (p : Params) (run run' : PortRun p)
    → run.first.reply ≡ answered []
    → run'.first.reply ≡ answered []
    → HoldersWrite p (begun p run.given) (turns_of run.made)
    → HoldersWrite p (begun p run'.given) (turns_of run'.made)
    → map (λ u. u.call) (turns_of run.made) ≡ map (λ u. u.call) (turns_of run'.made)
    → (IsRun p run × IsRun p run') × PortAlike p run run' × PortKeeps p (port_begun run) run.made × PortKeeps p (port_begun run') run'.made
