-- A line's kind as the code answers it, tied to the model's `line_of`. Assumes nothing.
use Rattle.std.specs.Prelude.{if◌then◌else◌, ◌&&◌, ◌||◌, List, [], ℕ, eqb, length, get_or, Option, Some, None}
use Rattle.model.specs.declared.Ask.{Ask}
use Rattle.model.specs.declared.Block.{Block}
use Rattle.model.specs.Calls.{Call, alloc, mark}
use Rattle.model.specs.Answers.{call_of}
use Rattle.model.specs.Census.{pieces, space, is_number, value_of, is_word, numbers_to, arg, offer_of}
use Rattle.trace.specs.Number.{number_of}

abbrev pub words_of : List ℕ → List (List ℕ)
words_of x = pieces space x

-- what an answer asks
unfoldable pub line_for : Option Ask → Option Call
line_for (Some ask) = Some (call_of ask)
line_for None = None

-- the letter that a word is; none if it has another length
unfoldable pub letter_of : List ℕ → Option ℕ
letter_of w = if eqb (length w) 1 then Some (get_or w 0 0) else None

-- a line of n words whose letter is known: a call, if numbers follow
unfoldable pub asked : ℕ → List (List ℕ) → Call → Option Call
asked n ws c = if eqb (length ws) n && numbers_to n ws then Some c else None

abbrev pub asked_one : (ℕ → Call) → List (List ℕ) → Option Call
asked_one f ws = asked 2 ws (f (arg ws 1))

abbrev pub mark_asked : List (List ℕ) → Option Call
mark_asked ws = asked 3 ws (mark (arg ws 1) (arg ws 2))

unfoldable pub alloc_asked : List (List ℕ) → Option Call
alloc_asked ws =
    if eqb (length ws) 6 && numbers_to 5 ws && (is_word 45 (get_or ws 5 []) || is_number (get_or ws 5 []))
    then Some (alloc (arg ws 1) (arg ws 2) (arg ws 3) (arg ws 4) (offer_of (get_or ws 5 [])))
    else None

-- ---- lines whose letter is known

-- the number of a line of two words
unfoldable pub one_number : List (List ℕ) → Option ℕ
one_number ws = if eqb (length ws) 2 then number_of (get_or ws 1 []) else None

-- the offer that a word names
unfoldable pub offered : List ℕ → Option (Option Block)
offered w =
    if is_word 45 w then Some None
    else if is_number w then Some (Some (record { 0 = value_of w }))
    else None
