-- "Marked for proof" and "Limits": one computed table and one theorem. And 01's example trace, computed on the machine.
use Rattle.std.specs.Prelude.{ℕ, suc, ◌+◌, ◌-◌, ◌*◌, Bool, true, false, ◌&&◌, ◌||◌, List, [], ◌∷◌, ◌++◌, eqb, ltb, leb, pos, length, replicate, Some}
use Rattle.model.specs.declared.Params.{Params}
use Rattle.model.specs.declared.Row.{Row}
use Rattle.model.specs.Base.{all_below}
use Rattle.model.specs.Params.{bins, last_bin, sets, lists, holders, parts, phase_word, bound_words, released_words, head_words, Lent, start, max_rows}
use Rattle.model.specs.Memory.{set_mark}
use Rattle.model.specs.Tables.{Words}
use Rattle.model.specs.SizeClasses.{class_bytes, mi_bin, no_row, no_rows, cell_bytes, bin_of, raised, shift}
use Rattle.model.specs.BlockList.{push, appended}
use Rattle.model.specs.Block.{state_unallocated, state_unmarked, init_chain, sweep_chain}
use Rattle.model.specs.Events.{releases}
use Rattle.model.specs.Global.{fresh_words, release_from}
use Rattle.model.specs.Calls.{Returned, bind, alloc, prepare, call, set_up, check_classes}
use Rattle.model.specs.Census.{census_params, census_lent}

-- what the definitions give, and what 01 says
pub record Case : Type 0 where
  pub got : List ℕ
  pub want : List ℕ

abbrev pub gives : List ℕ → List ℕ → Case
gives x y = record { got = x; want = y }

abbrev pub bin : ℕ → ℕ → Case
bin size want = gives (bin_of census_params size ∷ []) (want ∷ [])

-- each count of words up to 8,192 has the least class that holds it
unfoldable pub least_class : ℕ → Bool
least_class words =
    let n : ℕ = mi_bin (8 * words) in
    leb (8 * words) (class_bytes n) && (eqb n 1 || ltb (class_bytes (n - 1)) (8 * words))

unfoldable pub classes_right : Bool
classes_right = all_below 8192 (λ i. least_class (suc i))

-- "with 4,096-byte blocks, MIN 8, MAX 16"
abbrev pub max_sixteen : Params
max_sixteen =
    record { base = 16384; bytes = 4096; blocks = 4; min = 8; max = 16; offsets = false; unified = true; lower = pos 0; eager = false; rows = no_rows; count = 0 }

-- the number that an alloc of this size and align is answered with, right after set-up and bind: 0 is served, 6 is TooBig
unfoldable pub first_alloc : ℕ → ℕ → ℕ
first_alloc size align =
    let l : Lent = (set_up max_sixteen census_lent).lent in
    (call max_sixteen (call max_sixteen l (bind 1)).lent (alloc 1 size align 0 (Some (record { 0 = 2 })))).reply.number

-- ---- 02, R-5: tables of four rows, as the two offices want them, in blocks of 4,096 bytes: 512 words

unfoldable pub row : ℕ → ℕ → ℕ → Row
row from to cell = record { from = from; to = to; cell = cell }

-- max_sixteen with these rows
unfoldable pub with_rows : List Row → Params
with_rows rows =
    record { base = 16384; bytes = 4096; blocks = 4; min = 8; max = 16; offsets = false; unified = true; lower = pos 0; eager = false; rows = rows ++ replicate (max_rows - length rows) no_row; count = length rows }

-- "mostly 72-byte entries and want a 72-byte cell"
unfoldable pub offices : Params
offices = with_rows (row 1 8 8 ∷ row 9 9 9 ∷ row 10 64 64 ∷ row 65 512 512 ∷ [])

-- the answer to an alloc of this size, right after set-up and bind: number, then values
unfoldable pub office_alloc : ℕ → List ℕ
office_alloc size =
    let l : Lent = (set_up offices census_lent).lent in
    let r : Returned = call offices (call offices l (bind 1)).lent (alloc 1 size 8 0 (Some (record { 0 = 2 }))) in
    r.reply.number ∷ r.reply.values

-- what the checker answers: kind and number
unfoldable pub checked : List Row → List ℕ
checked rows = (check_classes (with_rows rows)).values

-- the numbers that set-up and a prepare say with these rows, on what is lent
unfoldable pub said_with : List Row → Lent → List ℕ
said_with rows l = (set_up (with_rows rows) l).reply.number ∷ (call (with_rows rows) l prepare).reply.number ∷ []

-- the blocks 1 and 0 on the list 1
abbrev pub two_blocks : Words
two_blocks = push census_params 1 1 (push census_params 1 0 (fresh_words census_params))

unfoldable pub cases : List Case
cases =
    bin 0 1 ∷ bin 8 1 ∷ bin 9 2 ∷ bin 64 8 ∷ bin 65 9 ∷ bin 80 9 ∷ bin 81 10 ∷ bin 1024 24 ∷ bin 65536 48
    -- 0 is none
    ∷ bin 65537 0
    ∷ gives (raised max_sixteen 24 16 ∷ []) (32 ∷ [])
    ∷ gives (shift 4104 16 8 ∷ shift 4104 16 0 ∷ []) (0 ∷ 8 ∷ [])
    -- the block at 24576 is number 2
    ∷ gives (sweep_chain census_params (set_mark census_params (replicate 256 0) 25600) 2 1024) (27648 ∷ 26624 ∷ 24576 ∷ [])
    ∷ gives (sweep_chain census_params (replicate 256 0) 2 1280) (27136 ∷ 25856 ∷ 24576 ∷ [])
    ∷ gives (init_chain census_params 2 1280) (27136 ∷ 25856 ∷ 24576 ∷ [])
    -- two Unmarked blocks of one list are both released: next is read before a block is removed
    ∷ gives (releases (release_from 4 census_params 1 (start census_params 1) two_blocks (state_unmarked ∷ state_unmarked ∷ state_unallocated ∷ state_unallocated ∷ [])).events ∷ []) (2 ∷ [])
    -- an append of these two blocks gives 2, one of an empty list 0 (02, R-6)
    ∷ gives (appended census_params 1 two_blocks ∷ appended census_params 2 two_blocks ∷ []) (2 ∷ 0 ∷ [])
    -- the numbers of lists and words are the sums that they stand for
    ∷ gives (lists ∷ phase_word ∷ bound_words ∷ released_words ∷ head_words ∷ last_bin ∷ parts ∷ [])
    ((sets * bins) ∷ (lists + lists) ∷ suc phase_word ∷ (bound_words + holders) ∷ (released_words + parts) ∷ (bins - 1) ∷ suc holders ∷ [])
    ∷ gives (first_alloc 4096 8 ∷ first_alloc 4096 16 ∷ first_alloc 4088 16 ∷ []) (0 ∷ 6 ∷ 0 ∷ [])
    ∷ []

unfoldable pub row_cases : List Case
row_cases =
    -- bins are rows; size 0 is in the row of one word
    gives (bin_of offices 0 ∷ bin_of offices 64 ∷ bin_of offices 65 ∷ bin_of offices 72 ∷ bin_of offices 73 ∷ bin_of offices 4096 ∷ []) (1 ∷ 1 ∷ 2 ∷ 2 ∷ 3 ∷ 4 ∷ [])
    -- a bin without a row has no size
    ∷ gives (cell_bytes offices 2 ∷ cell_bytes offices 4 ∷ cell_bytes offices 5 ∷ cell_bytes offices 0 ∷ []) (72 ∷ 4096 ∷ 0 ∷ 0 ∷ [])
    -- an entry of 72 bytes: the highest of 56 cells of 72 bytes, the offer used, no block swept
    ∷ gives (office_alloc 72) (0 ∷ 28536 ∷ 72 ∷ 1 ∷ 0 ∷ [])
    -- no rows pass, and so do these
    ∷ gives (checked []) (0 ∷ 0 ∷ [])
    ∷ gives (checked (row 1 8 8 ∷ row 9 9 9 ∷ row 10 64 64 ∷ row 65 512 512 ∷ [])) (0 ∷ 0 ∷ [])
    -- 9 is missed; 9 is covered twice, and 100 is missed too; the block's last count is missed
    ∷ gives (checked (row 1 8 8 ∷ row 10 512 512 ∷ [])) (1 ∷ 9 ∷ [])
    ∷ gives (checked (row 1 9 9 ∷ row 9 99 99 ∷ row 101 512 512 ∷ [])) (1 ∷ 9 ∷ [])
    ∷ gives (checked (row 1 511 512 ∷ [])) (1 ∷ 512 ∷ [])
    -- a row that covers nothing leaves its counts missed, and is unfit where none is
    ∷ gives (checked (row 0 8 8 ∷ row 9 512 512 ∷ [])) (1 ∷ 1 ∷ [])
    ∷ gives (checked (row 1 512 512 ∷ row 9 8 9 ∷ [])) (2 ∷ 2 ∷ [])
    -- 12 from set-up and from another call; 1 before it, where a length is off and where rows are more than 48
    ∷ gives (said_with (row 1 8 8 ∷ []) census_lent) (12 ∷ 12 ∷ [])
    ∷ gives (said_with (row 1 8 8 ∷ []) (record { words = []; states = []; marks = []; heap = [] })) (1 ∷ 1 ∷ [])
    ∷ gives (said_with (replicate 49 (row 1 512 512)) census_lent) (1 ∷ 1 ∷ [])
    -- a cell that holds its row's from and not its to; one over the block
    ∷ gives (checked (row 1 8 8 ∷ row 9 512 511 ∷ [])) (2 ∷ 2 ∷ [])
    ∷ gives (checked (row 1 512 513 ∷ [])) (2 ∷ 1 ∷ [])
    ∷ []

-- the lines `b 1` and `a 1 1024 8 0 2`
unfoldable pub example_trace : List ℕ
example_trace =
    98 ∷ 32 ∷ 49 ∷ 10 ∷ 97 ∷ 32 ∷ 49 ∷ 32 ∷ 49 ∷ 48 ∷ 50 ∷ 52 ∷ 32 ∷ 56 ∷ 32 ∷ 48 ∷ 32 ∷ 50 ∷ 10 ∷ []

-- refused 0 / blocks 1 / 2 255 1024 A 1 / free 3 / 2 26624 / 2 25600 / 2 24576
unfoldable pub example_listing : List ℕ
example_listing =
    114 ∷ 101 ∷ 102 ∷ 117 ∷ 115 ∷ 101 ∷ 100 ∷ 32 ∷ 48 ∷ 10 ∷ 98 ∷ 108 ∷ 111 ∷ 99 ∷ 107 ∷ 115 ∷ 32 ∷ 49 ∷ 10 ∷ 50 ∷ 32
    ∷ 50 ∷ 53 ∷ 53 ∷ 32 ∷ 49 ∷ 48 ∷ 50 ∷ 52 ∷ 32 ∷ 65 ∷ 32 ∷ 49 ∷ 10 ∷ 102 ∷ 114 ∷ 101 ∷ 101 ∷ 32 ∷ 51 ∷ 10 ∷ 50 ∷ 32
    ∷ 50 ∷ 54 ∷ 54 ∷ 50 ∷ 52 ∷ 10 ∷ 50 ∷ 32 ∷ 50 ∷ 53 ∷ 54 ∷ 48 ∷ 48 ∷ 10 ∷ 50 ∷ 32 ∷ 50 ∷ 52 ∷ 53 ∷ 55 ∷ 54 ∷ 10 ∷
    []

-- each number is as it should be, and there are as many
unfoldable pub same : List ℕ → List ℕ → Bool
same [] [] = true
same [] (y ∷ ys) = false
same (x ∷ xs) [] = false
same (x ∷ xs) (y ∷ ys) = eqb x y && same xs ys

unfoldable pub all_right : List Case → Bool
all_right [] = true
all_right (c ∷ cs) = same c.got c.want && all_right cs

-- ---- R-4, computed: two cells handed out, one of them marked in a collection. Of the old chain 25600, 24576 the sweep makes
-- 26624, 25600, 24576, and so the listing prints these

-- b 1 / a 1 1024 8 0 2 / a 1 1024 8 0 - / p / m 27648 2 / r 1 / s
unfoldable pub collected_trace : List ℕ
collected_trace =
    98 ∷ 32 ∷ 49 ∷ 10 ∷ 97 ∷ 32 ∷ 49 ∷ 32 ∷ 49 ∷ 48 ∷ 50 ∷ 52 ∷ 32 ∷ 56 ∷ 32 ∷ 48 ∷ 32 ∷ 50 ∷ 10 ∷ 97 ∷ 32 ∷ 49 ∷ 32
    ∷ 49 ∷ 48 ∷ 50 ∷ 52 ∷ 32 ∷ 56 ∷ 32 ∷ 48 ∷ 32 ∷ 45 ∷ 10 ∷ 112 ∷ 10 ∷ 109 ∷ 32 ∷ 50 ∷ 55 ∷ 54 ∷ 52 ∷ 56 ∷ 32 ∷ 50 ∷ 10
    ∷ 114 ∷ 32 ∷ 49 ∷ 10 ∷ 115 ∷ 10 ∷ []

-- refused 0 / blocks 1 / 2 254 1024 u 1 / free 3 / 2 26624 / 2 25600 / 2 24576
unfoldable pub collected_listing : List ℕ
collected_listing =
    114 ∷ 101 ∷ 102 ∷ 117 ∷ 115 ∷ 101 ∷ 100 ∷ 32 ∷ 48 ∷ 10 ∷ 98 ∷ 108 ∷ 111 ∷ 99 ∷ 107 ∷ 115 ∷ 32 ∷ 49 ∷ 10 ∷ 50 ∷ 32
    ∷ 50 ∷ 53 ∷ 52 ∷ 32 ∷ 49 ∷ 48 ∷ 50 ∷ 52 ∷ 32 ∷ 117 ∷ 32 ∷ 49 ∷ 10 ∷ 102 ∷ 114 ∷ 101 ∷ 101 ∷ 32 ∷ 51 ∷ 10 ∷ 50 ∷ 32
    ∷ 50 ∷ 54 ∷ 54 ∷ 50 ∷ 52 ∷ 10 ∷ 50 ∷ 32 ∷ 50 ∷ 53 ∷ 54 ∷ 48 ∷ 48 ∷ 10 ∷ 50 ∷ 32 ∷ 50 ∷ 52 ∷ 53 ∷ 55 ∷ 54 ∷ 10 ∷ []

-- b 1 / a 1 1024 8 0 2 / p / m 27648 2
unfoldable pub marking_trace : List ℕ
marking_trace =
    98 ∷ 32 ∷ 49 ∷ 10 ∷ 97 ∷ 32 ∷ 49 ∷ 32 ∷ 49 ∷ 48 ∷ 50 ∷ 52 ∷ 32 ∷ 56 ∷ 32 ∷ 48 ∷ 32 ∷ 50 ∷ 10 ∷ 112 ∷ 10 ∷ 109 ∷ 32
    ∷ 50 ∷ 55 ∷ 54 ∷ 52 ∷ 56 ∷ 32 ∷ 50 ∷ 10 ∷ []

-- refused 0 / blocks 1 / 2 254 1024 A 1 / free 0
unfoldable pub marking_listing : List ℕ
marking_listing =
    114 ∷ 101 ∷ 102 ∷ 117 ∷ 115 ∷ 101 ∷ 100 ∷ 32 ∷ 48 ∷ 10 ∷ 98 ∷ 108 ∷ 111 ∷ 99 ∷ 107 ∷ 115 ∷ 32 ∷ 49 ∷ 10 ∷ 50 ∷ 32
    ∷ 50 ∷ 53 ∷ 52 ∷ 32 ∷ 49 ∷ 48 ∷ 50 ∷ 52 ∷ 32 ∷ 65 ∷ 32 ∷ 49 ∷ 10 ∷ 102 ∷ 114 ∷ 101 ∷ 101 ∷ 32 ∷ 48 ∷ 10 ∷ []
