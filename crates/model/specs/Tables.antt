-- "Side metadata", "Pointers to lists" and "Phases": all that calls keep outside the heap.
-- The words are lent in one slice, one table after the other; `view` takes it apart and `flat` puts it together again.
use Rattle.std.specs.Prelude.{if◌then◌else◌, ℕ, ◌+◌, ◌-◌, ◌*◌, ◌/◌, List, ◌∷◌, ◌++◌, ltb, length, take, drop, get_or, set}
use Rattle.model.specs.Params.{lists, holders, parts, phase_word, bound_words, released_words, head_words, block_tables, table_next, table_prev, table_free, table_size, table_list, table_tls, table_cells}

pub record Words : Type 0 where
  -- of each list: its first and its last block, by start address
  pub first : List ℕ
  pub last : List ℕ
  -- 0 Running, 1 Marking, 2 Releasing
  pub phase : ℕ
  -- for holder h, at h − 1: 1 if it is bound, else 0
  pub bound : List ℕ
  -- for holder h at h, for the shared part at 0: 1 if it has released in this collection, else 0
  pub released : List ℕ
  -- of each block: the next and previous on its list by start address, free list head, cell size, list word, holder
  pub next : List ℕ
  pub prev : List ℕ
  pub free : List ℕ
  pub size : List ℕ
  pub list : List ℕ
  pub tls : List ℕ
  -- 02, R-7: "Keep a word a block: the length of its free chain after the last init, sweep or alloc on it, 0 when Unallocated."
  pub cells : List ℕ

-- the k words from this one on
abbrev pub part : ℕ → ℕ → List ℕ → List ℕ
part from k ws = take k (drop from ws)

-- the number of blocks, from the count of words
abbrev pub blocks_in : List ℕ → ℕ
blocks_in ws = (length ws - head_words) / block_tables

-- the j-th block table, of n blocks
abbrev pub block_table : ℕ → ℕ → List ℕ → List ℕ
block_table n j ws = part (head_words + j * n) n ws

unfoldable pub view : List ℕ → Words
view ws =
    record {
      first = part 0 lists ws;
      last = part lists lists ws;
      phase = get_or ws phase_word 0;
      bound = part bound_words holders ws;
      released = part released_words parts ws;
      next = block_table (blocks_in ws) table_next ws;
      prev = block_table (blocks_in ws) table_prev ws;
      free = block_table (blocks_in ws) table_free ws;
      size = block_table (blocks_in ws) table_size ws;
      list = block_table (blocks_in ws) table_list ws;
      tls = block_table (blocks_in ws) table_tls ws;
      cells = block_table (blocks_in ws) table_cells ws;
    }

unfoldable pub flat : Words → List ℕ
flat w =
    w.first ++ (w.last ++ (w.phase ∷ (w.bound ++ (w.released
    ++ (w.next ++ (w.prev ++ (w.free ++ (w.size ++ (w.list ++ (w.tls ++ w.cells))))))))))

-- ---- one word put in place of the old in the lent words themselves: a store past the end of its table writes nothing, and one
-- in it changes no other word, whatever the length of the words

-- the words with v at i of the k words from this one on, and as they are if there is no such i
abbrev pub put_in : ℕ → ℕ → ℕ → ℕ → List ℕ → List ℕ
put_in from k i v ws = if ltb i k then set ws (from + i) v else ws

-- for the block i, in the j-th block table
abbrev pub put_block_word : ℕ → ℕ → ℕ → List ℕ → List ℕ
put_block_word j i v ws = put_in (head_words + j * blocks_in ws) (blocks_in ws) i v ws

unfoldable pub put_first : ℕ → ℕ → List ℕ → List ℕ
put_first i v ws = put_in 0 lists i v ws

unfoldable pub put_last : ℕ → ℕ → List ℕ → List ℕ
put_last i v ws = put_in lists lists i v ws

unfoldable pub put_phase : ℕ → List ℕ → List ℕ
put_phase v ws = set ws phase_word v

unfoldable pub put_bound : ℕ → ℕ → List ℕ → List ℕ
put_bound i v ws = put_in bound_words holders i v ws

unfoldable pub put_released : ℕ → ℕ → List ℕ → List ℕ
put_released i v ws = put_in released_words parts i v ws

unfoldable pub put_next : ℕ → ℕ → List ℕ → List ℕ
put_next i v ws = put_block_word table_next i v ws

unfoldable pub put_prev : ℕ → ℕ → List ℕ → List ℕ
put_prev i v ws = put_block_word table_prev i v ws

unfoldable pub put_free : ℕ → ℕ → List ℕ → List ℕ
put_free i v ws = put_block_word table_free i v ws

unfoldable pub put_size : ℕ → ℕ → List ℕ → List ℕ
put_size i v ws = put_block_word table_size i v ws

unfoldable pub put_list : ℕ → ℕ → List ℕ → List ℕ
put_list i v ws = put_block_word table_list i v ws

unfoldable pub put_tls : ℕ → ℕ → List ℕ → List ℕ
put_tls i v ws = put_block_word table_tls i v ws

unfoldable pub put_cells : ℕ → ℕ → List ℕ → List ℕ
put_cells i v ws = put_block_word table_cells i v ws

-- "Tables are all that calls keep outside the heap: state bytes, block and list words, mark bits, phase, bound holders,
-- released marks."
pub record Tables : Type 0 where
  pub words : Words
  pub states : List ℕ
  pub marks : List ℕ

abbrev pub tables_of : Words → List ℕ → List ℕ → Tables
tables_of w st ms = record { words = w; states = st; marks = ms }

abbrev pub with_words : Words → Tables → Tables
with_words w t = tables_of w t.states t.marks

-- ---- For the prover, and not to be read line by line: one entry, or one field, put in place of the old, with all others written out, since
-- records have no update. `set_first i v w` is w with v at i of its `first`, and so on

unfoldable pub set_first : ℕ → ℕ → Words → Words
set_first i v w = record { first = set w.first i v; last = w.last; phase = w.phase; bound = w.bound; released = w.released; next = w.next; prev = w.prev; free = w.free; size = w.size; list = w.list; tls = w.tls; cells = w.cells }

unfoldable pub set_last : ℕ → ℕ → Words → Words
set_last i v w = record { first = w.first; last = set w.last i v; phase = w.phase; bound = w.bound; released = w.released; next = w.next; prev = w.prev; free = w.free; size = w.size; list = w.list; tls = w.tls; cells = w.cells }

unfoldable pub set_bound : ℕ → ℕ → Words → Words
set_bound i v w = record { first = w.first; last = w.last; phase = w.phase; bound = set w.bound i v; released = w.released; next = w.next; prev = w.prev; free = w.free; size = w.size; list = w.list; tls = w.tls; cells = w.cells }

unfoldable pub set_released : ℕ → ℕ → Words → Words
set_released i v w = record { first = w.first; last = w.last; phase = w.phase; bound = w.bound; released = set w.released i v; next = w.next; prev = w.prev; free = w.free; size = w.size; list = w.list; tls = w.tls; cells = w.cells }

unfoldable pub set_next : ℕ → ℕ → Words → Words
set_next i v w = record { first = w.first; last = w.last; phase = w.phase; bound = w.bound; released = w.released; next = set w.next i v; prev = w.prev; free = w.free; size = w.size; list = w.list; tls = w.tls; cells = w.cells }

unfoldable pub set_prev : ℕ → ℕ → Words → Words
set_prev i v w = record { first = w.first; last = w.last; phase = w.phase; bound = w.bound; released = w.released; next = w.next; prev = set w.prev i v; free = w.free; size = w.size; list = w.list; tls = w.tls; cells = w.cells }

unfoldable pub set_free : ℕ → ℕ → Words → Words
set_free i v w = record { first = w.first; last = w.last; phase = w.phase; bound = w.bound; released = w.released; next = w.next; prev = w.prev; free = set w.free i v; size = w.size; list = w.list; tls = w.tls; cells = w.cells }

unfoldable pub set_size : ℕ → ℕ → Words → Words
set_size i v w = record { first = w.first; last = w.last; phase = w.phase; bound = w.bound; released = w.released; next = w.next; prev = w.prev; free = w.free; size = set w.size i v; list = w.list; tls = w.tls; cells = w.cells }

unfoldable pub set_list : ℕ → ℕ → Words → Words
set_list i v w = record { first = w.first; last = w.last; phase = w.phase; bound = w.bound; released = w.released; next = w.next; prev = w.prev; free = w.free; size = w.size; list = set w.list i v; tls = w.tls; cells = w.cells }

unfoldable pub set_tls : ℕ → ℕ → Words → Words
set_tls i v w = record { first = w.first; last = w.last; phase = w.phase; bound = w.bound; released = w.released; next = w.next; prev = w.prev; free = w.free; size = w.size; list = w.list; tls = set w.tls i v; cells = w.cells }

unfoldable pub set_cells : ℕ → ℕ → Words → Words
set_cells i v w = record { first = w.first; last = w.last; phase = w.phase; bound = w.bound; released = w.released; next = w.next; prev = w.prev; free = w.free; size = w.size; list = w.list; tls = w.tls; cells = set w.cells i v }

unfoldable pub set_phase : ℕ → Words → Words
set_phase v w = record { first = w.first; last = w.last; phase = v; bound = w.bound; released = w.released; next = w.next; prev = w.prev; free = w.free; size = w.size; list = w.list; tls = w.tls; cells = w.cells }

unfoldable pub with_released : List ℕ → Words → Words
with_released vs w = record { first = w.first; last = w.last; phase = w.phase; bound = w.bound; released = vs; next = w.next; prev = w.prev; free = w.free; size = w.size; list = w.list; tls = w.tls; cells = w.cells }
