-- `block_row` meets its contract. Leans on the laws of rows.
use Rattle.listing.proofs.PrintLaws.{row_more}
use Rattle.listing.proofs.print.Page.block_row.Goals as goal

pub returns : goal.returns
returns c = row_more _ _ _ c.number_then.ensures
    (row_more _ _ _ c.number_then-2.ensures (row_more _ _ _ c.number_then-3.ensures c.list_and_holder.ensures))
