-- Links, as the code gives them: where a block starts, or none. The words have 0 for none.
use Rattle.std.specs.Prelude.{ℕ, Bool, false, Option, Some, None}
use Rattle.native_ms.specs.declared.address.BlockStart.{BlockStart}
use Rattle.native_ms.specs.declared.free_list_allocator.End.{End}

-- the word that the tables have for it
abbrev pub word_of : Option BlockStart → ℕ
word_of (Some start) = start.at.0
word_of None = 0

-- the end of a whole search: its word, and whether its block is the offered one
abbrev pub end_word : Option End → ℕ
end_word (Some end) = end.start.at.0
end_word None = 0

abbrev pub end_fresh : Option End → Bool
end_fresh (Some end) = end.fresh
end_fresh None = false
