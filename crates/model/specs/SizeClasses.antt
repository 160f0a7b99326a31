-- "Size classes": the cell sizes of the bins, the bin of a size, raising a size, shifting an address. And the rows that a customer may
-- give in place of 01's classes (02, R-5): which of them accepted tables are is said in Classes.antt.
use Rattle.std.specs.Prelude.{if◌then◌else◌, ℕ, zero, suc, ◌+◌, ◌-◌, ◌*◌, ◌/◌, ◌%◌, ◌^◌, Bool, ◌&&◌, List, [], ◌∷◌, eqb, ltb, leb, get_or, replicate}
use Rattle.std.specs.Int.Count.{count_leading_zeros}
use Rattle.model.specs.declared.Params.{Params}
use Rattle.model.specs.declared.Row.{Row}
use Rattle.model.specs.Base.{least_from}
use Rattle.model.specs.Params.{max_rows}

-- ---- 01's classes

-- n times four sizes, "each next four twice the four before"
unfoldable pub fours : ℕ → ℕ → ℕ → ℕ → ℕ → List ℕ
fours zero first second third fourth = []
fours (suc n) first second third fourth = first ∷ second ∷ third ∷ fourth ∷ fours n (2 * first) (2 * second) (2 * third) (2 * fourth)

-- "Cell sizes in words of bins 0 to 48: 1, then 1 to 8, then 10, 12, 14, 16, and so on, [..] to 8,192."
unfoldable pub class_words : List ℕ
class_words = 1 ∷ 1 ∷ 2 ∷ 3 ∷ 4 ∷ 5 ∷ 6 ∷ 7 ∷ 8 ∷ fours 10 10 12 14 16

-- the cell size of one of these bins, in bytes
unfoldable pub class_bytes : ℕ → ℕ
class_bytes bin = 8 * get_or class_words bin 0

-- a size in words, rounded up
unfoldable pub words_in : ℕ → ℕ
words_in size = (size + 7) / 8

-- "the position of the highest one bit, from leading zeros"
unfoldable pub highest_bit : ℕ → ℕ
highest_bit n = 63 - count_leading_zeros 64 n

-- `mi_bin_from_size` past eight words, of the word count minus one: four bins to the octave
unfoldable pub bin_in_octave : ℕ → ℕ
bin_in_octave n = 4 * highest_bit n + n / 2 ^ (highest_bit n - 2) % 4 - 3

-- `mi_bin_from_size`: the bin of a size in bytes, 0 for none ("Bin 0 is never chosen")
unfoldable pub mi_bin : ℕ → ℕ
mi_bin size =
    if ltb 65536 size then 0
    else if leb (words_in size) 1 then 1
    else if leb (words_in size) 8 then words_in size
    else bin_in_octave (words_in size - 1)

-- ---- 02, R-5: "Set-up takes up to 48 rows: from words, to words, cell words"

-- a row that is not given
abbrev pub no_row : Row
no_row = record { from = 0; to = 0; cell = 0 }

-- "with no rows 01's classes and R-1's table hold": what stands in place of rows then
abbrev pub no_rows : List Row
no_rows = replicate max_rows no_row

-- rows are counted from 1
unfoldable pub row_at : Params → ℕ → Row
row_at p n = get_or p.rows (n - 1) no_row

-- a count of words falls in a row. "A row whose from is 0 or over its to covers nothing"
unfoldable pub covers : Row → ℕ → Bool
covers r n = ltb 0 r.from && leb r.from n && leb n r.to

-- "A raised size of 0 uses the row of one word."
unfoldable pub words_asked : ℕ → ℕ
words_asked size = if eqb size 0 then 1 else words_in size

-- ---- the class of a size, by rows or without

-- the bin of a size in bytes, 0 for none: the one definition that chooses a class. "The leaf that picks a class now promises the
-- matching row instead of 01's formula"; "Row n is bin n"
unfoldable pub bin_of : Params → ℕ → ℕ
bin_of p size =
    if eqb p.count 0 then mi_bin size
    else least_from p.count 1 (λ n. covers (row_at p n) (words_asked size))

-- the cell size of a bin, in bytes: the one definition that says class sizes. A bin without a row has none
unfoldable pub cell_bytes : Params → ℕ → ℕ
cell_bytes p bin =
    if eqb p.count 0 then class_bytes bin
    else if leb 1 bin && leb bin p.count then 8 * (row_at p bin).cell else 0

-- ---- raised sizes and shifts

-- "`get_maximum_aligned_size` adds align − MIN if align exceeds MIN."
unfoldable pub raised : Params → ℕ → ℕ → ℕ
raised p size align = if ltb p.min align then size + (align - p.min) else size

-- "`align_allocation` adds the least d with region + d + offset a multiple of align."
unfoldable pub shift : ℕ → ℕ → ℕ → ℕ
shift region align offset = (align - (region + offset) % align) % align

unfoldable pub align_allocation : ℕ → ℕ → ℕ → ℕ
align_allocation region align offset = region + shift region align offset

-- ---- 02, R-1: the table of 01's classes

-- "each entry is what `mi_bin_from_size` gives for that many words"; 0 past 8,192 words, where there is no bin
unfoldable pub bin_of_words : ℕ → ℕ
bin_of_words words = mi_bin (8 * words)

-- the entries i, i + 1, and so on: n of them
unfoldable pub tabulated : {A : Type 0} → (ℕ → A) → ℕ → ℕ → List A
tabulated entry zero i = []
tabulated entry (suc n) i = entry i ∷ tabulated entry n (suc i)

-- "a table of 8,193 entries that gives the bin of every word count from 0 to 8,192"
unfoldable pub bin_table : List ℕ
bin_table = tabulated bin_of_words 8193 0
