-- `pair_row` meets its contract. Leans on the laws of rows.
use Rattle.listing.proofs.PrintLaws.{row_more, row_last}
use Rattle.listing.proofs.print.Page.pair_row.Goals as goal

pub returns : goal.returns
returns c = row_more _ _ _ c.number_then.ensures (row_last _ c.number_then-2.ensures)
