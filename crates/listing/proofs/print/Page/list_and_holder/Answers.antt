-- `list_and_holder` meets its contract. Leans on the laws of rows.
use Rattle.listing.proofs.PrintLaws.{puts_append, row_more, row_last}
use Rattle.listing.proofs.print.Page.list_and_holder.Goals as goal

pub returns : goal.returns
returns c = row_more _ _ _ (puts_append c.byte.ensures c.byte-2.ensures) (row_last _ c.number_then.ensures)
