-- Demand 3 as one proposition, `Demand3`, about two runs of the machine; Port.antt has it of the port. docs/DEMAND3.md quotes
-- the demand whole and goes through it phrase by phrase.
--
-- First the book, by which 01 ("Runs and held cells") says what is held; then runs, with what holders write between calls; then
-- the demand's premises, what a reader of two runs sees, and what holds in each. Words in quotes after "01:" are 01's; the others
-- are the demand's own.
use Rattle.std.specs.Prelude.{if◌then◌else◌, ℕ, ◌+◌, ◌-◌, ◌≤◌, ◌<◌, ◌≡◌, Bool, true, false, not, ◌&&◌, eqb, get_or, set, Option}
use mathlib.Core.List.{List, [], ◌∷◌, map, foldl}
use Rattle.model.specs.declared.Params.{Params}
use Rattle.model.specs.declared.Block.{Block}
use Rattle.model.specs.declared.Refusal.TheVariants.{Exhausted}
use Rattle.model.specs.Base.{member, filter, any, In, Pairwise}
use Rattle.model.specs.Params.{Lent, heap_end, block_at}
use Rattle.model.specs.SizeClasses.{align_allocation}
use Rattle.model.specs.Block.{keeps}
use Rattle.model.specs.Events.{Event, initialised, swept, released, taken, spent, sweeps, releases}
use Rattle.model.specs.Calls.{refusal_number, Reply, answered, Call, bind, destroy, alloc, prepare, mark, release, shared_release, Step, step, Returned, tables_in, result_from, call, set_up, pages, Question, ask}

-- ---- the book. 01: "The book says what is held. [..] It has cells (start, size, holder, old or new) and mark places, and is empty
-- after set-up. [..] A cell is held by that holder while it stands there, lost when struck out"

pub record Cell : Type 0 where
  pub start : ℕ
  pub size : ℕ
  pub holder : ℕ
  pub old : Bool

pub record Book : Type 0 where
  pub cells : List Cell
  pub places : List ℕ

-- 01: "A sweep strikes out the cells it frees, in a refused alloc too; a block release strikes out every cell of that block."
unfoldable pub frees : Params → Event → Cell → Bool
frees p (initialised b chain) cell = false
frees p (swept b chain) cell = member cell.start chain
frees p (released b) cell = eqb (block_at p cell.start) b
frees p (taken a size) cell = false
frees p (spent b) cell = false

-- 01: "A served alloc enters the cell it took, as new; its start is the address before `align_allocation` shifts it." Only a
-- served alloc has the event `taken` (Calls `take_cell`)
unfoldable pub entered : ℕ → Event → List Cell → List Cell
entered holder (initialised b chain) cells = cells
entered holder (swept b chain) cells = cells
entered holder (released b) cells = cells
entered holder (taken a size) cells = record { start = a; size = size; holder = holder; old = false } ∷ cells
entered holder (spent b) cells = cells

-- one event of a call by this holder
unfoldable pub book_event : Params → ℕ → Event → Book → Book
book_event p holder e bk =
    record { cells = entered holder e (filter (λ cell. not (frees p e cell)) bk.cells); places = bk.places }

unfoldable pub book_events : Params → ℕ → List Event → Book → Book
book_events p holder es bk = foldl (λ book e. book_event p holder e book) bk es

abbrev pub aged : Cell → Cell
aged cell = record { start = cell.start; size = cell.size; holder = cell.holder; old = true }

-- 01: "An answered prepare makes all cells old and drops all places. An answered mark adds its place. [..] Nothing else changes
-- the book."
unfoldable pub book_answer : Call → Book → Book
book_answer (bind holder) bk = bk
book_answer (destroy holder) bk = bk
book_answer (alloc holder size align offset offer) bk = bk
book_answer prepare bk = record { cells = map aged bk.cells; places = [] }
book_answer (mark place b) bk = record { cells = bk.cells; places = place ∷ bk.places }
book_answer (release holder) bk = bk
book_answer shared_release bk = bk

-- the holder that a cell taken in this call goes to
unfoldable pub taker_of : Call → ℕ
taker_of = elim [ alloc holder size align offset offer ↦ holder | bind holder ↦ 0 | destroy holder ↦ 0 | prepare ↦ 0 | mark a b ↦ 0 | release holder ↦ 0 | shared_release ↦ 0 ]

-- 01: "It is fed each call and, in order, the sweeps, block releases, cell taken and answer of demand 2's machine in that call;
-- nothing from the port."
unfoldable pub book_after : Params → Call → Step → Book → Book
book_after p c done bk =
    let book : Book = book_events p (taker_of c) done.events bk in
    if eqb done.reply.number 0 then book_answer c book else book

-- 01: "unmarked if the sweep chosen would find none of the book's places for it"
unfoldable pub unmarked : Params → Book → Cell → Bool
unmarked p bk cell = not (keeps p (λ a. member a bk.places) cell.size cell.start)

-- ---- runs: "every call gets the tables that the one before left and the parameters, buffers and choices that set-up was given"

-- a byte that a holder writes
pub record Write : Type 0 where
  pub holder : ℕ
  pub address : ℕ
  pub byte : ℕ

unfoldable pub written : Params → List Write → List ℕ → List ℕ
written p writes h = foldl (λ h' write. set h' (write.address - p.base) write.byte) h writes

-- holders write, and then a call is made. "never repeat it": a `Call` is never a set-up. Marks carry place and block, allocs
-- their offer
pub record Turn : Type 0 where
  pub writes : List Write
  pub call : Call

-- what stands between two turns
pub record State : Type 0 where
  pub lent : Lent
  pub book : Book

-- the lent buffers as a turn's call finds them
unfoldable pub found_by : Params → Lent → Turn → Lent
found_by p l u =
    record { words = l.words; states = l.states; marks = l.marks; heap = written p u.writes l.heap }

-- the machine's step of a turn's call: its events. `TurnKeeps` says that the call's result is this step's
unfoldable pub step_of : Params → State → Turn → Step
step_of p s u = step p (tables_in s.lent) (found_by p s.lent u).heap u.call

unfoldable pub result_of : Params → State → Turn → Returned
result_of p s u = call p (found_by p s.lent u) u.call

unfoldable pub book_of : Params → State → Turn → Book
book_of p s u = book_after p u.call (step_of p s u) s.book

unfoldable pub turned : Params → State → Turn → State
turned p s u = record { lent = (result_of p s u).lent; book = book_of p s u }

abbrev pub empty_book : Book
empty_book = record { cells = []; places = [] }

-- after set-up, on what was lent to it: "whatever bytes the heap starts with"
unfoldable pub begun : Params → Lent → State
begun p l = record { lent = (set_up p l).lent; book = empty_book }

-- ---- the premise "between calls only holders write, and only in cells they hold then"

unfoldable pub covers : Cell → ℕ → Type 0
covers cell a = ((cell.start ≤ a) × (a < cell.start + cell.size))

unfoldable pub Holds : Book → Write → Type 0
Holds bk write = (cell : Cell) × In cell bk.cells × (cell.holder ≡ write.holder) × covers cell write.address

unfoldable pub HoldersWrite : Params → State → List Turn → Type 0
HoldersWrite p s [] = Unit {0}
HoldersWrite p s (u ∷ us) =
    (((write : Write) → In write u.writes → Holds s.book write) × HoldersWrite p (turned p s u) us)

-- ---- what a reader of two runs sees: "answers, counts and tables at set-up and after each call". 01: "Answers are compared with
-- their counts: swept is the number of block sweeps in the call, released the number of blocks it made Unallocated. Tables are all
-- that calls keep outside the heap"

pub record Seen : Type 0 where
  pub reply : Reply
  -- of refused calls too
  pub swept : ℕ
  pub released : ℕ
  pub words : List ℕ
  pub states : List ℕ
  pub marks : List ℕ

abbrev pub seen : Returned → List Event → Seen
seen r es =
    let l : Lent = r.lent in
    record { reply = r.reply; swept = sweeps es; released = releases es; words = l.words; states = l.states; marks = l.marks }

unfoldable pub seen_in : Params → State → List Turn → List Seen
seen_in p s [] = []
seen_in p s (u ∷ us) = seen (result_of p s u) (step_of p s u).events ∷ seen_in p (turned p s u) us

-- everything lent, at each point of a run: after set-up and after each call, and before each call once holders have written
unfoldable pub points : Params → State → List Turn → List Lent
points p s [] = s.lent ∷ []
points p s (u ∷ us) = s.lent ∷ found_by p s.lent u ∷ points p (turned p s u) us

-- ---- what holds in each run, call by call. A call of a run is given by its events, its reply, and the heap and the book before
-- and after it

abbrev pub byte_at : Params → List ℕ → ℕ → ℕ
byte_at p h a = get_or h (a - p.base) 0

-- "every cell arrives all zero": it lies in the heap, and each of its bytes is 0 when the call returns
unfoldable pub Zeroed : Params → List Event → List ℕ → Type 0
Zeroed p es h =
    (a size : ℕ) → In (taken a size) es
    → (p.base ≤ a) × (a + size ≤ heap_end p) × ((a' : ℕ) → a ≤ a' → a' < a + size → byte_at p h a' ≡ 0)

-- A served alloc takes a cell: the size answered is the cell's, and the address answered is its start, shifted, from which
-- the size asked for lies within the cell. This ties what the book enters to what the caller is told
unfoldable pub Served : Call → Reply → List Event → Type 0
Served c reply es =
    (holder size align offset : ℕ) (offer : Option Block) → c ≡ alloc holder size align offset offer → reply.number ≡ 0
    → (a : ℕ) × (cell_size : ℕ) × In (taken a cell_size) es × (get_or reply.values 0 0 ≡ align_allocation a align offset)
    × (get_or reply.values 1 0 ≡ cell_size) × (align_allocation a align offset + size ≤ a + cell_size)

-- The counts answered are those of the call's events, which `Seen` has. 01: "The answer: address, cell size, whether the offer was
-- used, blocks swept (added)." "Each answers how many blocks it released (added)." 02, R-8: "the last release answers the number swept
-- as a further number"; R-12: "Exhausted must report its swept count too"
unfoldable pub Counted : Call → Reply → List Event → Type 0
Counted (bind holder) reply es = Unit {0}
Counted (destroy holder) reply es = Unit {0}
Counted (alloc holder size align offset offer) reply es =
    ((reply.number ≡ 0 → get_or reply.values 3 0 ≡ sweeps es)
    × (reply.number ≡ refusal_number Exhausted → get_or reply.values 3 0 ≡ sweeps es))
Counted prepare reply es = Unit {0}
Counted (mark place b) reply es = Unit {0}
Counted (release holder) reply es =
    (reply.number ≡ 0 → (get_or reply.values 0 0 ≡ releases es) × (get_or reply.values 2 0 ≡ sweeps es))
Counted shared_release reply es =
    (reply.number ≡ 0 → (get_or reply.values 0 0 ≡ releases es) × (get_or reply.values 2 0 ≡ sweeps es))

-- "no byte lies in two held cells"
unfoldable pub Apart : Cell → Cell → Type 0
Apart cell other = (a : ℕ) → covers cell a → covers other a → ⊥

-- 01: "One held before a call stays held in it unless struck out"
unfoldable pub stays_held : Params → List Event → Cell → Bool
stays_held p es cell = not (any (λ e. frees p e cell) es)

-- "no call changes a byte of a cell that stays held"
unfoldable pub Unchanged : Params → Book → List Event → List ℕ → List ℕ → Type 0
Unchanged p bk es h h' =
    (cell : Cell) → In cell bk.cells → stays_held p es cell ≡ true
    → (a : ℕ) → covers cell a → byte_at p h' a ≡ byte_at p h a

-- the event sweeps the cell's block or makes it Unallocated
unfoldable pub hits : Params → Event → Cell → Bool
hits p (initialised b chain) cell = false
hits p (swept b chain) cell = eqb (block_at p cell.start) b
hits p (released b) cell = eqb (block_at p cell.start) b
hits p (taken a size) cell = false
hits p (spent b) cell = false

-- "a cell is lost exactly when its block is swept or made Unallocated while it is unmarked, and only after a prepare since
-- it was handed out": at each event in order, of each cell held just before it
unfoldable pub LostExactly : Params → ℕ → List Event → Book → Type 0
LostExactly p holder [] bk = Unit {0}
LostExactly p holder (e ∷ es) bk =
    (((cell : Cell) → In cell bk.cells
    → (frees p e cell ≡ (hits p e cell && unmarked p bk cell)) × (frees p e cell ≡ true → cell.old ≡ true))
    × LostExactly p holder es (book_event p holder e bk))

-- all of it, of the call c on the heap h and the book bk, with its events es, that gave r and left the book bk'
pub record CallKeeps (p : Params) (c : Call) (es : List Event) (r : Returned) (h : List ℕ) (bk bk' : Book) : Type 0 where
  pub served : Served c r.reply es
  pub counted : Counted c r.reply es
  pub zeroed : Zeroed p es r.lent.heap
  pub apart : Pairwise Apart bk'.cells
  pub unchanged : Unchanged p bk es h r.lent.heap
  pub lost : LostExactly p (taker_of c) es bk

pub record TurnKeeps (p : Params) (s : State) (u : Turn) : Type 0 where
  -- the events are of the very step that gave the result
  pub result : result_of p s u ≡ result_from (step_of p s u)
  pub keeps : CallKeeps p u.call (step_of p s u).events (result_of p s u) (found_by p s.lent u).heap s.book (book_of p s u)

unfoldable pub RunKeeps : Params → State → List Turn → Type 0
RunKeeps p s [] = Unit {0}
RunKeeps p s (u ∷ us) = (TurnKeeps p s u × RunKeeps p (turned p s u) us)

-- ---- demand 3

-- "give equal answers, counts and tables at set-up and after each call"
pub record Alike (p : Params) (l l' : Lent) (us us' : List Turn) : Type 0 where
  pub set_ups : seen (set_up p l) [] ≡ seen (set_up p l') []
  pub calls : seen_in p (begun p l) us ≡ seen_in p (begun p l') us'
  -- 01: "Pages used [..] asked at one point of both runs on the same records, it answers alike."
  pub pages_at_set_up : (firsts : List ℕ) → pages p (set_up p l).lent.words firsts ≡ pages p (set_up p l').lent.words firsts
  pub pages_after : (firsts : List ℕ)
      → map (λ x. pages p x.words firsts) (seen_in p (begun p l) us) ≡ map (λ x. pages p x.words firsts) (seen_in p (begun p l') us')
  -- 02, R-7: "Two runs under demand 3's premises, asked alike at one point, answer alike."
  pub asked : (question : Question)
      → map (λ x. ask p x question) (points p (begun p l) us) ≡ map (λ x. ask p x question) (points p (begun p l') us')

-- "What a holder writes shows in no answer and reaches no other holder. For every list of bind, destroy, alloc, prepare, mark,
-- release and shared release calls, refused ones included, after a set-up that isn't refused: whatever bytes the heap starts with
-- and whatever holders write, two runs of demand 2's machine [..] give equal answers, counts and tables at set-up and after each
-- call; in each, [..]. Premises: both runs have the same set-up, never repeat it, and make the same calls, marks and offers"
unfoldable pub Demand3 : Type 0
Demand3 =
    -- the set-up's parameters are both runs'; the buffers lent to it may differ in every byte
    (p : Params) (l l' : Lent) (us us' : List Turn)
    → (set_up p l).reply ≡ answered []
    → (set_up p l').reply ≡ answered []
    → HoldersWrite p (begun p l) us
    → HoldersWrite p (begun p l') us'
    → map (λ u. u.call) us ≡ map (λ u. u.call) us'
    → Alike p l l' us us' × RunKeeps p (begun p l) us × RunKeeps p (begun p l') us'
