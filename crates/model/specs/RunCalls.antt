-- `run`, a run of many calls after one check: what it answers, and every lent byte after it. The calls come as words, and are made one
-- after the other, each on what the one before left: a refused call ends nothing. So `run` says nothing new of the machine, and rows of
-- it are a run of the machine (`RunOfRows`, proved in crates/runs), of which demand 3 speaks.
--
-- Its reason is time alone: parameters, rows, lengths, tables and chains are tested once for all its calls.
use Rattle.std.specs.Prelude.{if◌then◌else◌, ℕ, zero, suc, ◌+◌, ◌*◌, ◌/◌, ◌%◌, ◌≡◌, Bool, true, ◌&&◌, List, [], ◌∷◌, ◌++◌, eqb, leb, length, get_or, Option, Some, None}
use Rattle.model.specs.declared.Params.{Params}
use Rattle.model.specs.declared.Given.{Given}
use Rattle.model.specs.declared.Said.{Said}
use Rattle.model.specs.declared.Refusal.TheVariants.{BadSetup, BadLine}
use Rattle.model.specs.Base.{In}
use Rattle.model.specs.Params.{Lent}
use Rattle.model.specs.Calls.{refusal_number, Reply, answered, refused, Call, bind, destroy, alloc, prepare, mark, release, shared_release, Returned, call}
use Rattle.model.specs.Answers.{said_of}
use Rattle.model.specs.Runs.{Write, written, Turn, State, Seen, seen_in}
use Rattle.model.specs.Spans.{after_turns}
use Rattle.model.specs.Exports.{offered_by, decoded, encoded, LentBytes, lend_bytes, decoded_lent, Export, gives, params_of, flags_ok, rows_ok}

-- ---- "A call is six words: kind [..], then its arguments in 01's order; further words are not read"

abbrev pub call_words : ℕ
call_words = 6

-- "1 bind, 2 destroy, 3 alloc, 4 prepare, 5 mark, 6 release, 7 shared"; "an offer of 2^64 − 1 is none". The call whose words begin at
-- i; another kind names none
unfoldable pub call_at : List ℕ → ℕ → Option Call
call_at calls i =
    let word : ℕ → ℕ = λ k. get_or calls (i + k) 0 in
    if eqb (word 0) 1 then Some (bind (word 1))
    else if eqb (word 0) 2 then Some (destroy (word 1))
    else if eqb (word 0) 3 then Some (alloc (word 1) (word 2) (word 3) (word 4) (offered_by (word 5)))
    else if eqb (word 0) 4 then Some prepare
    else if eqb (word 0) 5 then Some (mark (word 1) (word 2))
    else if eqb (word 0) 6 then Some (release (word 1))
    else if eqb (word 0) 7 then Some shared_release
    else None

-- "Another kind answers 11 BadLine and changes nothing."
unfoldable pub made : Params → Lent → Option Call → Returned
made p l = elim [ Some c ↦ call p l c | None ↦ record { reply = refused BadLine; lent = l } ]

-- ---- "An answer is five words: the refusal's number or 0, then the values, zeros after."

abbrev pub answer_words : ℕ
answer_words = 5

unfoldable pub said_words : Said → List ℕ
said_words said = said.number ∷ said.first ∷ said.second ∷ said.third ∷ said.fourth ∷ []

abbrev pub words_of : Reply → List ℕ
words_of reply = said_words (said_of reply)

-- ---- the calls one after the other

-- the answers' words, and everything lent after the last call
pub record RowRan : Type 0 where
  pub answers : List ℕ
  pub lent : Lent

-- n calls, from the word i on
unfoldable pub run_from : ℕ → Params → Lent → List ℕ → ℕ → RowRan
run_from zero p l calls i = record { answers = []; lent = l }
run_from (suc n) p l calls i =
    let r : Returned = made p l (call_at calls i) in
    let rest : RowRan = run_from n p r.lent calls (i + call_words) in
    record { answers = words_of r.reply ++ rest.answers; lent = rest.lent }

-- ---- `run` itself: "BadSetup, with nothing written, only if calls isn't a multiple of six long or answers isn't five words a call"

abbrev pub call_count : List ℕ → ℕ
call_count calls = length calls / call_words

unfoldable pub lists_fit : List ℕ → List ℕ → Bool
lists_fit calls answers = eqb (length calls % call_words) 0 && eqb (length answers) (answer_words * call_count calls)

-- what `run` says, the list for the answers and everything lent after it
pub record RunResult : Type 0 where
  pub reply : Reply
  pub answers : List ℕ
  pub lent : Lent

abbrev pub run_result : Reply → List ℕ → Lent → RunResult
run_result reply answers l = record { reply = reply; answers = answers; lent = l }

unfoldable pub run_calls : Params → Lent → List ℕ → List ℕ → RunResult
run_calls p l calls answers =
    let ran : RowRan = run_from (call_count calls) p l calls 0 in
    if lists_fit calls answers then run_result (answered []) ran.answers ran.lent else run_result (refused BadSetup) answers l

-- ---- rows of `run` are a run of the machine

-- holders write, and then a list of calls is run, with a list lent for the answers
pub record RunRow : Type 0 where
  pub writes : List Write
  pub calls : List ℕ
  pub answers : List ℕ

-- everything lent, once holders have written
unfoldable pub wrote : Params → List Write → Lent → Lent
wrote p writes l = record { words = l.words; states = l.states; marks = l.marks; heap = written p writes l.heap }

unfoldable pub row_ran : Params → Lent → RunRow → RunResult
row_ran p l row = run_calls p (wrote p row.writes l) row.calls row.answers

-- what rows of `run` give, each on what the one before left: all their answers, and everything lent after the last
unfoldable pub rows_ran : Params → Lent → List RunRow → RowRan
rows_ran p l [] = record { answers = []; lent = l }
rows_ran p l (row ∷ rows) =
    let r : RunResult = row_ran p l row in
    let rest : RowRan = rows_ran p r.lent rows in
    record { answers = r.answers ++ rest.answers; lent = rest.lent }

-- the calls that a list names, in order
unfoldable pub calls_from : ℕ → List ℕ → ℕ → List (Option Call)
calls_from zero calls i = []
calls_from (suc n) calls i = call_at calls i ∷ calls_from n calls (i + call_words)

abbrev pub calls_in : RunRow → List (Option Call)
calls_in row = calls_from (call_count row.calls) row.calls 0

-- turns of the machine, and what was written after the last of them
pub record Turns : Type 0 where
  pub turns : List Turn
  pub left : List Write

-- what was written before the first call is its turn's; between the calls of a row nobody writes. What names no call is no turn
unfoldable pub turns_from : List Write → List (Option Call) → Turns
turns_from writes [] = record { turns = []; left = writes }
turns_from writes (None ∷ cs) = turns_from writes cs
turns_from writes (Some c ∷ cs) =
    let rest : Turns = turns_from [] cs in record { turns = record { writes = writes; call = c } ∷ rest.turns; left = rest.left }

-- the turns of rows, after what was written before them
unfoldable pub turns_of_rows : List Write → List RunRow → Turns
turns_of_rows writes [] = record { turns = []; left = writes }
turns_of_rows writes (row ∷ rows) =
    let first : Turns = turns_from (writes ++ row.writes) (calls_in row) in
    let rest : Turns = turns_of_rows first.left rows in
    record { turns = first.turns ++ rest.turns; left = rest.left }

-- the machine's replies, as answers' words, 11 where no call is named
unfoldable pub answers_in : List (Option Call) → List Seen → List ℕ
answers_in [] xs = []
answers_in (None ∷ cs) xs = words_of (refused BadLine) ++ answers_in cs xs
answers_in (Some c ∷ cs) [] = []
answers_in (Some c ∷ cs) (x ∷ xs) = words_of x.reply ++ answers_in cs xs

unfoldable pub calls_of_rows : List RunRow → List (Option Call)
calls_of_rows [] = []
calls_of_rows (row ∷ rows) = calls_in row ++ calls_of_rows rows

abbrev pub RowsFit : List RunRow → Type 0
RowsFit rows = (row : RunRow) → In row rows → lists_fit row.calls row.answers ≡ true

-- From any state, for any rows whose lists have their lengths: the answers are the replies of the machine's run whose turns are the calls in
-- order, what was written before a row standing before its first call; and the buffers are those of that run, with what was written
-- since. As this holds of every beginning of a list of rows, it holds after each row
unfoldable pub RunOfRows : Type 0
RunOfRows =
    (p : Params) (s : State) (rows : List RunRow) → RowsFit rows
    → ((rows_ran p s.lent rows).answers ≡ answers_in (calls_of_rows rows) (seen_in p s (turns_of_rows [] rows).turns))
    × ((rows_ran p s.lent rows).lent ≡ wrote p (turns_of_rows [] rows).left (after_turns p s (turns_of_rows [] rows).turns).lent)

-- ---- `run` as a C host sees it: calls and answers as words of 8 bytes, low byte first (02, R-2)

-- the most calls of a row there, and the words of the largest tables: for so many it has room
abbrev pub most_calls : ℕ
most_calls = 1024

abbrev pub most_words : ℕ
most_words = 10126

-- so many bytes are whole words, and no more than those
unfoldable pub whole_words : ℕ → ℕ → Bool
whole_words bytes most = eqb (bytes % 8) 0 && leb (bytes / 8) most

-- a slice length that is off is BadSetup; `run` tests the lengths in words
unfoldable pub run_lengths_ok : LentBytes → List ℕ → Bool
run_lengths_ok l calls =
    whole_words (length l.words) most_words && whole_words (length l.answer) (answer_words * most_calls)
    && whole_words (length calls) (call_words * most_calls)

-- a result of `run`, as bytes
unfoldable pub run_shown : RunResult → Export
run_shown r =
    gives r.reply.number (lend_bytes (encoded r.lent.words) r.lent.states r.lent.marks r.lent.heap (encoded r.answers))

unfoldable pub run_exported : Params → LentBytes → List ℕ → Export
run_exported p l calls =
    if run_lengths_ok l calls then run_shown (run_calls p (decoded_lent l) (decoded calls) (decoded l.answer))
    else gives (refusal_number BadSetup) l

-- the numbers, the bytes of the rows, what is lent, and the bytes of the calls
unfoldable pub run_called : Given → List ℕ → LentBytes → List ℕ → Export
run_called g rows l calls =
    if flags_ok g && rows_ok rows then run_exported (params_of g rows) l calls else gives (refusal_number BadSetup) l
