-- `Cells::of` meets its contract: the walk begins at the free head.
use Rattle.listing.proofs.SectionsLaws.{first_here, cells_begin}
use Rattle.listing.proofs.chain.Cells.of.Goals as goal

pub returns : goal.returns
returns c = cells_begin _ _ _ (first_here _ _ c.params.ensures c.first-walk.ensures)
