-- `chain::rows_swept` prints the cells that a sweep would free, from the highest down. The loop's invariant: the rows left,
-- printed here, make all.
use Rattle.listing.proofs.SectionsLaws.{SweptLeft}
use Rattle.listing.proofs.chain.rows_swept.Given as goal

abbrev pub invariant-loop-cell : goal.invariant-loop-cell
invariant-loop-cell l = SweptLeft l.standing.marks.now l.b.0 l.w.size l.w.left l.cell l.initial.page l.page
