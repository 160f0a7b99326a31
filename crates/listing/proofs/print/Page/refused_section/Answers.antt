-- `refused_section` meets its contract: the head, then the rows. Leans on the laws of rows.
use Rattle.listing.proofs.PrintLaws.{print_section, refused_count}
use Rattle.listing.proofs.print.Page.refused_section.Goals as goal

pub returns : goal.returns
returns c = print_section _ _ _ (refused_count _) c.head.ensures c.refused_rows.ensures
