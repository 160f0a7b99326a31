-- The numbers of the block tables, in the order of `view`.
use Rattle.std.specs.Prelude.{ℕ}
use Rattle.model.specs.Params.{table_next, table_prev, table_free, table_size, table_list, table_tls, table_cells}
use Rattle.words.specs.declared.tables.Table.{Table}
use Rattle.words.specs.declared.tables.Table.TheVariants.{Next, Prev, Free, Size, List, Tls, Cells}

abbrev pub table_number : Table → ℕ
table_number Next = table_next
table_number Prev = table_prev
table_number Free = table_free
table_number Size = table_size
table_number List = table_list
table_number Tls = table_tls
table_number Cells = table_cells
