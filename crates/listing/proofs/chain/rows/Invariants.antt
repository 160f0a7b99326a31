-- `chain::rows` prints the cells of a chain. The loop's invariant: the rows left, printed here, make all.
use Rattle.listing.specs.Sections.{cells_of}
use Rattle.listing.proofs.SectionsLaws.{CellsLeft}
use Rattle.listing.proofs.chain.rows.Given as goal

abbrev pub invariant-loop-cell : goal.invariant-loop-cell
invariant-loop-cell l = CellsLeft l.standing.words.now l.standing.heap.now l.b.0 (cells_of l.cell-iterator.heap.now l.cell-iterator.walk) l.initial.page l.page
