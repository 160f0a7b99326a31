-- 02, R-2, "Calls from the interpreter's C host": what the exports are given and give, on numbers and byte slices; and how the rows of
-- R-5 travel there.
--
-- A host lends table words as bytes. The machine works on what they decode to, and its words go back encoded. Each undoes the
-- other (`Inverse`), so a run through the exports is a run of the machine (`RunThroughExports`), and demand 3 holds of it
-- (`Demand3ThroughExports`). crates/exports proves all three.
use Rattle.std.specs.Prelude.{if◌then◌else◌, ℕ, zero, suc, ◌+◌, ◌*◌, ◌/◌, ◌%◌, ◌^◌, ◌<◌, ◌≡◌, Bool, ◌&&◌, ◌||◌, List, [], ◌∷◌, ◌++◌, map, eqb, leb, ℤ, length, get_or, Option, None, Some}
use Rattle.model.specs.declared.Params.{Params}
use Rattle.model.specs.declared.Row.{Row}
use Rattle.model.specs.declared.Given.{Given}
use Rattle.model.specs.declared.Said.{Said}
use Rattle.model.specs.declared.Block.{Block}
use Rattle.model.specs.declared.Refusal.TheVariants.{BadSetup, Exhausted}
use Rattle.model.specs.Base.{In, flag}
use Rattle.model.specs.Params.{Lent, max_rows}
use Rattle.model.specs.Memory.{load_bytes, bytes_of}
use Rattle.model.specs.SizeClasses.{tabulated}
use Rattle.model.specs.Calls.{refusal_number, Reply, answered, Call, Returned, call, set_up, check_classes}
use Rattle.model.specs.Answers.{said_of}
use Rattle.model.specs.Runs.{written, Turn, State, result_of, turned, begun, HoldersWrite, RunKeeps}

-- ---- "Table words travel there as 8 bytes, low byte first."

-- n words, from the byte i on
unfoldable pub words_from : ℕ → List ℕ → ℕ → List ℕ
words_from zero bytes i = []
words_from (suc n) bytes i = load_bytes 8 bytes i ∷ words_from n bytes (i + 8)

unfoldable pub decoded : List ℕ → List ℕ
decoded bytes = words_from (length bytes / 8) bytes 0

unfoldable pub encoded : List ℕ → List ℕ
encoded [] = []
encoded (v ∷ ws) = bytes_of 8 v ++ encoded ws

-- bytes of whole words, and words below 2^64: nothing else travels
unfoldable pub Inverse : Type 0
Inverse =
    ((bytes : List ℕ) → ((i : ℕ) → get_or bytes i 0 < 256) → length bytes % 8 ≡ 0 → encoded (decoded bytes) ≡ bytes)
    × ((ws : List ℕ) → ((i : ℕ) → get_or ws i 0 < 2 ^ 64) → decoded (encoded ws) ≡ ws)

-- ---- what is lent to an export, and what it gives

pub record LentBytes : Type 0 where
  pub words : List ℕ
  pub states : List ℕ
  pub marks : List ℕ
  pub heap : List ℕ
  pub answer : List ℕ

abbrev pub lend_bytes : List ℕ → List ℕ → List ℕ → List ℕ → List ℕ → LentBytes
lend_bytes ws st ms h answer = record { words = ws; states = st; marks = ms; heap = h; answer = answer }

abbrev pub decoded_lent : LentBytes → Lent
decoded_lent l = record { words = decoded l.words; states = l.states; marks = l.marks; heap = l.heap }

-- the number returned, and everything lent after it
pub record Export : Type 0 where
  pub number : ℕ
  pub bytes : LentBytes

abbrev pub gives : ℕ → LentBytes → Export
gives n l = record { number = n; bytes = l }

-- "writes the answer's numbers in order, later requests' last, yes as 1, as such words into a lent slice of 32 bytes, zeros
-- after"
abbrev pub answer_bytes : Said → List ℕ
answer_bytes said = encoded (said.first ∷ said.second ∷ said.third ∷ said.fourth ∷ [])

-- "a refusal leaves that slice alone", but for Exhausted. 02, R-12: "Exhausted must report its swept count too (an export writes it in its
-- place, zeros elsewhere), which amends R-2"
abbrev pub tells : ℕ → Bool
tells number = eqb number 0 || eqb number (refusal_number Exhausted)

-- the slice for the answer after the call
abbrev pub answer_after : Reply → List ℕ → List ℕ
answer_after reply answer = if tells reply.number then answer_bytes (said_of reply) else answer

-- a result of the machine, as bytes: "It returns 0 or the refusal's number"
unfoldable pub shown : List ℕ → Returned → Export
shown answer r =
    gives r.reply.number
    (lend_bytes (encoded r.lent.words) r.lent.states r.lent.marks r.lent.heap (answer_after r.reply answer))

-- ---- an export

-- the inner call that it makes: `set_up`, or any other by `asks`
abbrev pub Inner : Type 0
Inner = Params → Lent → Returned

abbrev pub asks : Call → Inner
asks c p l = call p l c

-- "a slice length that is off is BadSetup as before": words that are no whole words, and an answer slice of another length,
-- beside the lengths that the inner call tests
abbrev pub lengths_ok : LentBytes → Bool
lengths_ok l = eqb (length l.words % 8) 0 && eqb (length l.answer) 32

-- "Each export gives what the inner call gives on the decoded tables"
unfoldable pub exported : Params → LentBytes → Inner → Export
exported p l inner = if lengths_ok l then shown l.answer (inner p (decoded_lent l)) else gives (refusal_number BadSetup) l

-- the parameters, from numbers; a flag that is neither 0 nor 1 is "a parameter [..] off" (01)
abbrev pub given : ℕ → ℕ → ℕ → ℕ → ℕ → ℕ → ℕ → ℤ → ℕ → Given
given base bytes blocks min max offsets unified lower eager =
    record { base = base; bytes = bytes; blocks = blocks; min = min; max = max; offsets = offsets; unified = unified; lower = lower; eager = eager }

-- those of parameters, a yes as 1
abbrev pub given_of : Params → Given
given_of p = given p.base p.bytes p.blocks p.min p.max (flag p.offsets) (flag p.unified) p.lower (flag p.eager)

-- 02, R-5: "Set-up takes up to 48 rows: from words, to words, cell words": three such words each, in a slice of their own
abbrev pub row_bytes : ℕ
row_bytes = 24

-- the row whose bytes begin at i
abbrev pub row_from : List ℕ → ℕ → Row
row_from rows i = record { from = load_bytes 8 rows i; to = load_bytes 8 rows (i + 8); cell = load_bytes 8 rows (i + 16) }

-- 48 rows, of which as many are given as the slice has; past its end stand zeros
unfoldable pub rows_of : List ℕ → List Row
rows_of rows = tabulated (λ n. row_from rows (row_bytes * n)) max_rows 0

abbrev pub params_of : Given → List ℕ → Params
params_of g rows =
    record { base = g.base; bytes = g.bytes; blocks = g.blocks; min = g.min; max = g.max; offsets = eqb g.offsets 1; unified = eqb g.unified 1; lower = g.lower; eager = eqb g.eager 1; rows = rows_of rows; count = length rows / row_bytes }

abbrev pub flags_ok : Given → Bool
flags_ok g = leb g.offsets 1 && leb g.unified 1 && leb g.eager 1

-- a part of a row is a slice length that is off; the inner call tests that there are at most 48
abbrev pub rows_ok : List ℕ → Bool
rows_ok rows = eqb (length rows % row_bytes) 0

-- the numbers, the bytes of the rows, what is lent, and the inner call
unfoldable pub called : Given → List ℕ → LentBytes → Inner → Export
called g rows l inner =
    if flags_ok g && rows_ok rows then exported (params_of g rows) l inner else gives (refusal_number BadSetup) l

-- R-5's checker for a host: the number returned, and the slice for the answer after it, which gets kind and number (Answers
-- `classes_reply`)
pub record CheckExport : Type 0 where
  pub number : ℕ
  pub answer : List ℕ

abbrev pub check_gives : ℕ → List ℕ → CheckExport
check_gives n answer = record { number = n; answer = answer }

abbrev pub check_shown : List ℕ → Reply → CheckExport
check_shown answer reply = check_gives reply.number (answer_after reply answer)

unfoldable pub check_called : Given → List ℕ → List ℕ → CheckExport
check_called g rows answer =
    if flags_ok g && rows_ok rows && eqb (length answer) 32 then check_shown answer (check_classes (params_of g rows))
    else check_gives (refusal_number BadSetup) answer

-- "2^64 − 1 offers none."
unfoldable pub offered_by : ℕ → Option Block
offered_by n = if eqb n 18446744073709551615 then None else Some (record { 0 = n })

-- ---- a run through the exports

-- holders write, and then the host makes a call, with a slice lent for its answer
pub record HostTurn : Type 0 where
  pub turn : Turn
  pub answer : List ℕ

-- what the call is lent: the bytes that the one before left, with what holders wrote
unfoldable pub found_bytes : Params → LentBytes → HostTurn → LentBytes
found_bytes p l u =
    lend_bytes l.words l.states l.marks (written p u.turn.writes l.heap) u.answer

unfoldable pub host_call : Given → List ℕ → LentBytes → HostTurn → Export
host_call g rows l u = called g rows (found_bytes (params_of g rows) l u) (asks u.turn.call)

-- what the exports give, call after call, with the same numbers and rows
unfoldable pub host_run : Given → List ℕ → LentBytes → List HostTurn → List Export
host_run g rows l [] = []
host_run g rows l (u ∷ us) = host_call g rows l u ∷ host_run g rows (host_call g rows l u).bytes us

-- what the machine gives, as bytes
unfoldable pub machine_run : Params → State → List HostTurn → List Export
machine_run p s [] = []
machine_run p s (u ∷ us) = shown u.answer (result_of p s u.turn) ∷ machine_run p (turned p s u.turn) us

abbrev pub AnswersFit : List HostTurn → Type 0
AnswersFit us = (u : HostTurn) → In u us → length u.answer ≡ 32

-- After a set-up that returned 0, whatever was lent to it: it was the machine's, and so is every call, with every byte
unfoldable pub RunThroughExports : Type 0
RunThroughExports =
    (g : Given) (rows : List ℕ) (l : LentBytes) (us : List HostTurn)
    → (called g rows l set_up).number ≡ 0 → AnswersFit us
    → ((set_up (params_of g rows) (decoded_lent l)).reply ≡ answered [])
    × (called g rows l set_up ≡ shown l.answer (set_up (params_of g rows) (decoded_lent l)))
    × (host_run g rows (called g rows l set_up).bytes us ≡ machine_run (params_of g rows) (begun (params_of g rows) (decoded_lent l)) us)

-- what a host reads of a call: its number, its answer if it has one, and the tables
pub record HostSees : Type 0 where
  pub number : ℕ
  pub answer : List ℕ
  pub words : List ℕ
  pub states : List ℕ
  pub marks : List ℕ

unfoldable pub host_sees : Export → HostSees
host_sees x =
    let l : LentBytes = x.bytes in
    record { number = x.number; answer = if tells x.number then l.answer else []; words = l.words; states = l.states; marks = l.marks }

-- Demand 3 of runs through the exports: two hosts that make the same calls read the same, and what is claimed of held cells
-- (Runs `RunKeeps`) holds of the machine's run, which each is. Premises as in Runs `Demand3`
unfoldable pub Demand3ThroughExports : Type 0
Demand3ThroughExports =
    (g : Given) (rows : List ℕ) (l l' : LentBytes) (us us' : List HostTurn)
    → (called g rows l set_up).number ≡ 0 → (called g rows l' set_up).number ≡ 0 → AnswersFit us → AnswersFit us'
    → HoldersWrite (params_of g rows) (begun (params_of g rows) (decoded_lent l)) (map (λ u. u.turn) us)
    → HoldersWrite (params_of g rows) (begun (params_of g rows) (decoded_lent l')) (map (λ u. u.turn) us')
    → map (λ u. u.turn.call) us ≡ map (λ u. u.turn.call) us'
    → (host_sees (called g rows l set_up) ≡ host_sees (called g rows l' set_up))
    × (map host_sees (host_run g rows (called g rows l set_up).bytes us) ≡ map host_sees (host_run g rows (called g rows l' set_up).bytes us'))
    × RunKeeps (params_of g rows) (begun (params_of g rows) (decoded_lent l)) (map (λ u. u.turn) us)
