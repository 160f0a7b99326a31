use Rattle.listing.proofs.PrintLaws.{refused_round, refused_end}
use Rattle.listing.proofs.print.Page.refused_rows.Goals as goal

pub loop-line-preserved : goal.loop-line-preserved
loop-line-preserved c = refused_round _ _ c.loop-line.invariant _ c.loop-line-test.true c.pair_row.ensures

pub returns : goal.returns
returns c = refused_end _ _ c.loop-line.invariant c.loop-line-test.false
