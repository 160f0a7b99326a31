-- "The census program": from the bytes of a trace to the bytes of the listing, as R-4 of document 02 amends it.
use Rattle.std.specs.Prelude.{if◌then◌else◌, ℕ, zero, suc, ◌+◌, ◌-◌, ◌*◌, ◌/◌, ◌%◌, ◌^◌, ◌≡◌, Bool, true, false, not, ◌&&◌, ◌||◌, eqb, ltb, leb, pos, length, get_or, take, replicate, Option, Some, None}
use mathlib.Core.List.{List, [], ◌∷◌, ◌++◌, map, foldl, flatten, flat_map}
use Rattle.model.specs.declared.Params.{Params}
use Rattle.model.specs.declared.Block.{Block}
use Rattle.model.specs.declared.Refusal.TheVariants.{BadLine}
use Rattle.model.specs.Base.{filter, all_below, member, In}
use Rattle.model.specs.Params.{Lent, word_count, abandoned, in_gc}
use Rattle.model.specs.Tables.{Words, Tables}
use Rattle.model.specs.SizeClasses.{no_rows}
use Rattle.model.specs.Block.{state_unallocated, sweep_chain, free_chain}
use Rattle.model.specs.Events.{swept}
use Rattle.model.specs.Global.{phase_marking}
use Rattle.model.specs.Sound.{state_of, set_named}
use Rattle.model.specs.Calls.{refused, Call, bind, destroy, alloc, prepare, mark, release, shared_release, Returned, tables_in, step, call, set_up}

-- ---- the trace's lines

abbrev pub newline : ℕ
newline = 10

abbrev pub space : ℕ
space = 32

-- a byte before the first of the pieces
unfoldable pub before : ℕ → List (List ℕ) → List (List ℕ)
before byte = elim [ [] ↦ (byte ∷ []) ∷ [] | x ∷ xs ↦ (byte ∷ x) ∷ xs ]

-- what stands before, between and behind the separators
unfoldable pub pieces : ℕ → List ℕ → List (List ℕ)
pieces sep [] = [] ∷ []
pieces sep (byte ∷ bytes) = if eqb byte sep then ([] ∷ pieces sep bytes) else before byte (pieces sep bytes)

-- "no line begins after the last newline if nothing follows it"
unfoldable pub drop_blank_end : List (List ℕ) → List (List ℕ)
drop_blank_end [] = []
drop_blank_end ([] ∷ []) = []
drop_blank_end ((byte ∷ bytes) ∷ []) = (byte ∷ bytes) ∷ []
drop_blank_end (x ∷ (y ∷ ys)) = x ∷ drop_blank_end (y ∷ ys)

-- "at most 16,384 bytes and 256 lines; the rest is unread. A line, numbered from 1, ends at a newline or where reading
-- ends": so a line that the byte limit cuts is what was read of it
unfoldable pub lines_of : List ℕ → List (List ℕ)
lines_of bytes = take 256 (drop_blank_end (pieces newline (take 16384 bytes)))

-- whether there is a rest: a byte after those, or a line among them after the 256th
unfoldable pub unread : List ℕ → Bool
unread bytes = ltb 16384 (length bytes) || ltb 256 (length (drop_blank_end (pieces newline (take 16384 bytes))))

-- ---- numbers: "below 2^64 with no needless zero", decimal

unfoldable pub is_digit : ℕ → Bool
is_digit byte = leb 48 byte && leb byte 57

unfoldable pub value_of : List ℕ → ℕ
value_of bytes = foldl (λ n byte. 10 * n + (byte - 48)) 0 bytes

unfoldable pub is_number : List ℕ → Bool
is_number bytes =
    leb 1 (length bytes) && all_below (length bytes) (λ i. is_digit (get_or bytes i 0))
    && (eqb (length bytes) 1 || not (eqb (get_or bytes 0 0) 48)) && ltb (value_of bytes) (2 ^ 64)

-- ---- what a line asks

-- a word of one letter
unfoldable pub is_word : ℕ → List ℕ → Bool
is_word byte word = eqb (length word) 1 && eqb (get_or word 0 0) byte

-- the words from the second to the n-th are numbers
unfoldable pub numbers_to : ℕ → List (List ℕ) → Bool
numbers_to n words = all_below (n - 1) (λ i. is_number (get_or words (i + 1) []))

-- a line of n words that begins with this letter, and goes on in numbers
unfoldable pub is_line : ℕ → ℕ → List (List ℕ) → Bool
is_line byte n words = is_word byte (get_or words 0 []) && eqb (length words) n && numbers_to n words

-- its i-th number
unfoldable pub arg : List (List ℕ) → ℕ → ℕ
arg words i = value_of (get_or words i [])

-- "(`-` for none)"
unfoldable pub is_alloc : List (List ℕ) → Bool
is_alloc words =
    is_word 97 (get_or words 0 []) && eqb (length words) 6 && numbers_to 5 words
    && (is_word 45 (get_or words 5 []) || is_number (get_or words 5 []))

unfoldable pub offer_of : List ℕ → Option Block
offer_of word = if is_word 45 word then None else Some (record { 0 = value_of word })

-- "Lines, decimal, one space: `b h`, `d h`, `a h size align offset block` (`-` for none), `p`, `m place block`, `r h`, `s`
-- (shared)." None of them: none
unfoldable pub line_of : List (List ℕ) → Option Call
line_of words =
    if is_line 98 2 words then Some (bind (arg words 1))
    else if is_line 100 2 words then Some (destroy (arg words 1))
    else if is_alloc words then Some (alloc (arg words 1) (arg words 2) (arg words 3) (arg words 4) (offer_of (get_or words 5 [])))
    else if is_line 112 1 words then Some prepare
    else if is_line 109 3 words then Some (mark (arg words 1) (arg words 2))
    else if is_line 114 2 words then Some (release (arg words 1))
    else if is_line 115 1 words then Some shared_release
    else None

-- ---- running it: "Set-up: 4 blocks of 4,096, base 16384, MIN = MAX = 8, unified, no offsets, L 0."

unfoldable pub census_params : Params
census_params =
    record { base = 16384; bytes = 4096; blocks = 4; min = 8; max = 8; offsets = false; unified = true; lower = pos 0; eager = false; rows = no_rows; count = 0 }

-- the buffers that are lent, and after set-up
unfoldable pub census_lent : Lent
census_lent =
    record { words = replicate (word_count census_params) 0; states = replicate 4 0; marks = replicate 256 0; heap = replicate 16384 0 }

unfoldable pub line_result : Lent → Option Call → Returned
line_result l = elim [ Some c ↦ call census_params l c | None ↦ record { reply = refused BadLine; lent = l } ]

-- a refused line: its number, and the refusal's
pub record RefusedLine : Type 0 where
  pub line : ℕ
  pub number : ℕ

pub record Ran : Type 0 where
  pub refusals : List RefusedLine
  pub lent : Lent

-- the lines from number i on
unfoldable pub run_lines : ℕ → List (List ℕ) → Lent → Ran
run_lines i [] l = record { refusals = []; lent = l }
run_lines i (x ∷ xs) l =
    let r : Returned = line_result l (line_of (pieces space x)) in
    let rest : Ran = run_lines (i + 1) xs r.lent in
    let refusal : RefusedLine = record { line = i; number = r.reply.number } in
    record { refusals = if eqb refusal.number 0 then rest.refusals else (refusal ∷ rest.refusals); lent = rest.lent }

-- ---- the listing

-- a number in decimal, of at most k digits
unfoldable pub digits : ℕ → ℕ → List ℕ
digits zero n = []
digits (suc k) n =
    let high : List ℕ = digits k (n / 10) in
    if ltb n 10 then ((48 + n) ∷ []) else (high ++ ((48 + n % 10) ∷ []))

unfoldable pub decimal : ℕ → List ℕ
decimal n = digits 20 n

-- "one space"
unfoldable pub spaced : List (List ℕ) → List ℕ
spaced [] = newline ∷ []
spaced (word ∷ []) = word ++ (newline ∷ [])
spaced (word ∷ (second ∷ words)) = word ++ (space ∷ spaced (second ∷ words))

-- "Sections in fixed order, each after its count"
unfoldable pub section : List ℕ → List (List ℕ) → List ℕ
section name rows = spaced (name ∷ decimal (length rows) ∷ []) ++ flatten rows

-- "refused (line, number)"
unfoldable pub refused_row : RefusedLine → List ℕ
refused_row line = spaced (decimal line.line ∷ decimal line.number ∷ [])

-- "blocks not Unallocated, ascending"
unfoldable pub up_to : ℕ → List ℕ
up_to zero = []
up_to (suc n) = up_to n ++ (n ∷ [])

unfoldable pub occupied : Tables → List ℕ
occupied t = filter (λ b. not (eqb (state_of t b) state_unallocated)) (up_to census_params.blocks)

-- "Lists: A U C local, a u c abandoned, g in-gc."
unfoldable pub letter : ℕ → ℕ
letter set =
    if ltb set abandoned then get_or (65 ∷ 85 ∷ 67 ∷ []) (set % 3) 0
    else if ltb set in_gc then get_or (97 ∷ 117 ∷ 99 ∷ []) (set - abandoned) 0
    else 103

-- "(number, state byte, cell size, list, holder)"
unfoldable pub block_row : Tables → ℕ → List ℕ
block_row t b =
    spaced (decimal b ∷ decimal (state_of t b) ∷ decimal (get_or t.words.size b 0)
    ∷ (letter (set_named t.words b) ∷ []) ∷ decimal (get_or t.words.tls b 0) ∷ [])

-- R-4: "a block on list U, u or g", by the letter printed
unfoldable pub awaits_sweep : Words → ℕ → Bool
awaits_sweep w b = member (letter (set_named w b)) (85 ∷ 117 ∷ 103 ∷ [])

-- R-4: "for a block on list U, u or g, the free section prints the chain that a sweep of it now would build. Other blocks
-- print as before": along the chain that stands in the heap
unfoldable pub printed_chain : Tables → List ℕ → ℕ → List ℕ
printed_chain t h b =
    if awaits_sweep t.words b then sweep_chain census_params t.marks b (get_or t.words.size b 0)
    else free_chain census_params h b t.words

-- "free cells by block along its chain (block, address)"
unfoldable pub free_rows : Tables → List ℕ → ℕ → List (List ℕ)
free_rows t h b = map (λ a. spaced (decimal b ∷ decimal a ∷ [])) (printed_chain t h b)

-- R-4: "In Marking no block has a settled answer, so the free section is `free 0` then."
unfoldable pub free_section : Tables → List ℕ → List (List ℕ)
free_section t h = if eqb t.words.phase phase_marking then [] else flat_map (free_rows t h) (occupied t)

unfoldable pub listing : Ran → List ℕ
listing ran =
    let t : Tables = tables_in ran.lent in
    section (114 ∷ 101 ∷ 102 ∷ 117 ∷ 115 ∷ 101 ∷ 100 ∷ []) (map refused_row ran.refusals)
    ++ (section (98 ∷ 108 ∷ 111 ∷ 99 ∷ 107 ∷ 115 ∷ []) (map (block_row t) (occupied t))
    ++ section (102 ∷ 114 ∷ 101 ∷ 101 ∷ []) (free_section t ran.lent.heap))

-- the whole program
unfoldable pub census : List ℕ → List ℕ
census bytes = listing (run_lines 1 (lines_of bytes) (set_up census_params census_lent).lent)

-- ---- what is printed comes

-- the chain printed for a block on U, u or g is the one that its sweep builds, if the next alloc sweeps it: any alloc, on any
-- tables and heap. Proved in crates/soundness (`printed_is_built`)
abbrev pub PrintedIsBuilt : Type 0
PrintedIsBuilt =
    (t : Tables) (heap : List ℕ) (holder size align offset : ℕ) (offer : Option Block) (b : ℕ) (chain : List ℕ)
    → awaits_sweep t.words b ≡ true
    → In (swept b chain) (step census_params t heap (alloc holder size align offset offer)).events
    → chain ≡ printed_chain t heap b
