-- `bin_in` meets its contract: an entry of the table is its bin, and past the table's end there is none.
use Rattle.size_table.proofs.Table.{held_at, held_past}
use Rattle.size_table.proofs.bin_in.Goals as goal

pub returns-then-words-table : goal.returns-then-words-table
returns-then-words-table c = λ e. held_at _ _ e c.if-words-table.true

pub returns : goal.returns
returns c = λ e. held_past _ _ e c.if-words-table.false
