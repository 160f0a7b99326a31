use Rattle.listing.proofs.SectionsLaws.{first_here, walk_count, swept_put, swept_over, swept_end}
use Rattle.listing.proofs.chain.rows_swept.Goals as goal

pub loop-cell-preserved-then-is_free : goal.loop-cell-preserved-then-is_free
loop-cell-preserved-then-is_free c = swept_put _ _ _ _ _ c.loop-cell.invariant (walk_count _ _ (first_here _ _ c.params-p.ensures c.first-w.ensures)) c.loop-cell-test.true c.params-p.ensures c.frees_cell-is_free.ensures c.if-is_free.true c.cell_at-free.ensures c.pair_row.ensures

pub loop-cell-preserved : goal.loop-cell-preserved
loop-cell-preserved c = swept_over _ _ _ _ _ c.loop-cell.invariant (walk_count _ _ (first_here _ _ c.params-p.ensures c.first-w.ensures)) c.loop-cell-test.true c.params-p.ensures c.frees_cell-is_free.ensures c.if-is_free.false

pub returns : goal.returns
returns c = swept_end _ _ _ _ (first_here _ _ c.params-p.ensures c.first-w.ensures) c.loop-cell.invariant c.loop-cell-test.false
