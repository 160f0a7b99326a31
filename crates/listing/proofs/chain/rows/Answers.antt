use Rattle.listing.proofs.SectionsLaws.{cells_round, cells_printed}
use Rattle.listing.proofs.chain.rows.Goals as goal

pub loop-cell-preserved : goal.loop-cell-preserved
loop-cell-preserved c = cells_round _ _ _ c.loop-cell.invariant c.in-Some.ensures.steps c.pair_row.ensures

pub returns : goal.returns
returns c = cells_printed _ _ _ c.loop-cell.invariant c.in-None.ensures.steps.0
