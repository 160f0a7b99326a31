-- "What must change shape": the parameters and what may be lent, where blocks and heap bytes stand, and how lists are numbered.
use Rattle.std.specs.Prelude.{if◌then◌else◌, ℕ, suc, ◌+◌, ◌-◌, ◌*◌, ◌/◌, ◌%◌, ◌^◌, Bool, not, ◌&&◌, ◌||◌, List, eqb, ltb, leb, ℤ, pos, negsuc, nat_abs, length}
use Rattle.model.specs.declared.Params.{Params}
use Rattle.model.specs.Base.{any_below}

-- a power of two up to 65,536, the largest that 01 asks for
unfoldable pub power_of_two : ℕ → Bool
power_of_two n = any_below 17 (λ i. eqb n (2 ^ i))

-- "L = OBJECT_REF_OFFSET_LOWER_BOUND, a multiple of 8, −64 to 64"
unfoldable pub lower_ok : ℤ → Bool
lower_ok lower = eqb (nat_abs lower % 8) 0 && leb (nat_abs lower) 64

-- L + 64, which is not negative where L is at least −64, so that everything below speaks of natural numbers. `negsuc n` is
-- −(n + 1)
unfoldable pub biased : ℤ → ℕ
biased = elim [ pos n ↦ 64 + n | negsuc n ↦ 64 - suc n ]

-- a + L and a − L, for an address
unfoldable pub plus_lower : Params → ℕ → ℕ
plus_lower p a = (a + biased p.lower) - 64

unfoldable pub minus_lower : Params → ℕ → ℕ
minus_lower p a = (a + 64) - biased p.lower

unfoldable pub heap_bytes : Params → ℕ
heap_bytes p = p.blocks * p.bytes

-- the address behind the heap's last byte
unfoldable pub heap_end : Params → ℕ
heap_end p = p.base + heap_bytes p

-- 02, R-5: "Set-up takes up to 48 rows"
abbrev pub max_rows : ℕ
max_rows = 48

-- "MIN_ALIGNMENT 4 or 8; MAX_ALIGNMENT a power of two, MIN to 64; [..] and 0 if unified. [..] Block size: a power of two, 4,096 to 65,536.
-- Blocks: 1 to 1,024. `base`: a nonzero multiple of the block size; the heap ends by 2^47." And 02, R-5: "More than 48 rows is
-- BadSetup."
unfoldable pub good_params : Params → Bool
good_params p =
    (eqb p.min 4 || eqb p.min 8)
    && (power_of_two p.max && leb p.min p.max && leb p.max 64)
    && (lower_ok p.lower && (not p.unified || eqb (nat_abs p.lower) 0))
    && (power_of_two p.bytes && leb 4096 p.bytes && leb p.bytes 65536)
    && (leb 1 p.blocks && leb p.blocks 1024)
    && (ltb 0 p.base && eqb (p.base % p.bytes) 0 && leb (heap_end p) (2 ^ 47))
    && leb p.count max_rows

-- Everything lent to a call: all table words in one slice (Tables.antt says in which order), the state bytes, the mark
-- bytes, the heap.
pub record Lent : Type 0 where
  pub words : List ℕ
  pub states : List ℕ
  pub marks : List ℕ
  pub heap : List ℕ

-- ---- how lists and words are numbered; the code has the same names in capitals (crates/model/src/lib.rt), and Cases.antt computes
-- that the sums are right

-- 30 sets, three of each holder, three abandoned, three in-gc; each of 49 bins, of which the last is 48
abbrev pub bins : ℕ
bins = 49

abbrev pub last_bin : ℕ
last_bin = 48

abbrev pub sets : ℕ
sets = 30

abbrev pub lists : ℕ
lists = 1470

abbrev pub holders : ℕ
holders = 8

-- those that release: the holders, and the shared part at 0
abbrev pub parts : ℕ
parts = 9

-- "First and last of all 1,470 lists are lent words", then phase, 8 bound holders and 9 released marks: where each begins. Then
-- "words for next, prev, free list head, cell size, list number, tls", and 02, R-7: "Keep a word a block", the free count: seven words a
-- block, in as many tables
abbrev pub phase_word : ℕ
phase_word = 2940

abbrev pub bound_words : ℕ
bound_words = 2941

abbrev pub released_words : ℕ
released_words = 2949

abbrev pub head_words : ℕ
head_words = 2958

abbrev pub block_tables : ℕ
block_tables = 7

-- these tables by number, in their order
abbrev pub table_next : ℕ
table_next = 0

abbrev pub table_prev : ℕ
table_prev = 1

abbrev pub table_free : ℕ
table_free = 2

abbrev pub table_size : ℕ
table_size = 3

abbrev pub table_list : ℕ
table_list = 4

abbrev pub table_tls : ℕ
table_tls = 5

abbrev pub table_cells : ℕ
table_cells = 6

unfoldable pub word_count : Params → ℕ
word_count p = head_words + block_tables * p.blocks

-- "Buffers have the exact lengths these give": BadSetup is the opposite of this in every call; pages used has its own test
unfoldable pub fits : Params → Lent → Bool
fits p l =
    good_params p && eqb (length l.words) (word_count p) && eqb (length l.states) p.blocks
    && eqb (length l.marks) (heap_bytes p / 64) && eqb (length l.heap) (heap_bytes p)

-- ---- addresses and blocks

-- "A block number counts from 0 and is made an address only by base + number × block size." 0 where there is no such block
unfoldable pub start : Params → ℕ → ℕ
start p b = if ltb b p.blocks then p.base + b * p.bytes else 0

-- the block that an address lies in; a number past the last block where it lies in none
unfoldable pub block_at : Params → ℕ → ℕ
block_at p a = if ltb a p.base then p.blocks else (a - p.base) / p.bytes

unfoldable pub in_heap : Params → ℕ → Bool
in_heap p a = leb p.base a && ltb a (heap_end p)

-- a link that is the start of a block
unfoldable pub is_start : Params → ℕ → Bool
is_start p a = in_heap p a && eqb ((a - p.base) % p.bytes) 0

-- ---- lists: "BLOCK_LIST_TABLE [..] now holds 1 + 49 × set + bin, or 0." Lists are counted from 0 here, and `list_word` is that word

unfoldable pub list_of : ℕ → ℕ → ℕ
list_of set bin = bins * set + bin

unfoldable pub list_word : ℕ → ℕ
list_word list = 1 + list

-- "Holder h (1 to 8) has sets 3(h−1) available, then unswept, then consumed. Abandoned has sets 24 to 26 and
-- abandoned-in-gc 27 to 29, same order." Each owner by its first set
unfoldable pub local_sets : ℕ → ℕ
local_sets holder = 3 * (holder - 1)

abbrev pub abandoned : ℕ
abandoned = 24

abbrev pub in_gc : ℕ
in_gc = 27

unfoldable pub available : ℕ → ℕ → ℕ
available owner bin = list_of owner bin

unfoldable pub unswept : ℕ → ℕ → ℕ
unswept owner bin = list_of (owner + 1) bin

unfoldable pub consumed : ℕ → ℕ → ℕ
consumed owner bin = list_of (owner + 2) bin
