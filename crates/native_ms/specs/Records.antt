-- "push, pop, remove and append change a list record the caller lends (first, last, cell size)": a record and the words that
-- hold its ends at the number of its list.
use Rattle.std.specs.Prelude.{ℕ, List, map, get_or}
use Rattle.model.specs.declared.Params.{Params}
use Rattle.model.specs.Tables.{Words, set_first, set_last}
use Rattle.model.specs.BlockList.{Popped, pop}
use Rattle.native_ms.specs.Moved.{Moved, append_moves}
use Rattle.native_ms.specs.declared.block_list.BlockList.{BlockList}

-- the words with the record's ends at the list's number
unfoldable pub with_record : ℕ → BlockList → Words → Words
with_record list given w = set_last list given.last.0 (set_first list given.first.0 w)

-- the record of the list, of this cell size, as the words have it
unfoldable pub record_at : ℕ → ℕ → Words → BlockList
record_at list size w = record { first = record { 0 = get_or w.first list 0 }; last = record { 0 = get_or w.last list 0 }; size = size }

-- a lent record and the words, after an operation
pub record Beside : Type 0 where
  pub list : BlockList
  pub words : Words

abbrev pub beside : BlockList → Words → Beside
beside given w = record { list = given; words = w }

-- an operation on the words as one on the record of the list: the record is put there before it, and read there after it
unfoldable pub on_record : ℕ → (Words → Words) → BlockList → Words → Beside
on_record list f given w = beside (record_at list given.size (f (with_record list given w))) (f (with_record list given w))

-- the same for pop, which gives the address of the block taken off beside the words
pub record BesidePopped : Type 0 where
  pub list : BlockList
  pub taken : Popped

abbrev pub beside_popped : BlockList → Popped → BesidePopped
beside_popped given taken = record { list = given; taken = taken }

unfoldable pub pop_on : Params → ℕ → BlockList → Words → BesidePopped
pop_on p list given w = beside_popped (record_at list given.size (pop p list (with_record list given w)).words) (pop p list (with_record list given w))

-- the same for append, which has two records and gives the number of blocks appended beside the words
pub record BesideBoth : Type 0 where
  pub list : BlockList
  pub other : BlockList
  pub gone : Moved

abbrev pub beside_both : BlockList → BlockList → Moved → BesideBoth
beside_both given theirs gone = record { list = given; other = theirs; gone = gone }

abbrev pub append_both : Params → ℕ → ℕ → BlockList → BlockList → Words → Moved
append_both p list other given theirs w = append_moves p list other (with_record other theirs (with_record list given w))

unfoldable pub append_on : Params → ℕ → ℕ → BlockList → BlockList → Words → BesideBoth
append_on p list other given theirs w =
    let gone : Moved = append_both p list other given theirs w in
    beside_both (record_at list given.size gone.words) (record_at other theirs.size gone.words) gone

-- where the records' lists start
unfoldable pub firsts : List BlockList → List ℕ
firsts records = map (λ (given : BlockList). given.first.0) records
