-- `bin_of_words` meets its contract: it is read off the whole table.
use Rattle.size_table.proofs.bin_of_words.Goals as goal

pub returns : goal.returns
returns c = c.bin_in.ensures c.bin_table-table.ensures
