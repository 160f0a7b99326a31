-- `sections::cell_rows` prints the free cells of the occupied blocks. The loop's invariant: the rows left,
-- printed here, make all.
use Rattle.listing.specs.Sections.{is_occupied}
use Rattle.listing.proofs.SectionsLaws.{cell_text}
use Rattle.listing.proofs.SectionsLaws.{TextsLeft}
use Rattle.listing.proofs.Standing.cell_rows.Given as goal

abbrev pub invariant-loop-block : goal.invariant-loop-block
invariant-loop-block l = TextsLeft (is_occupied l.self.states.now) (cell_text l.self.words.now l.self.marks.now l.self.heap.now) 4 l.initial.page l.page l.block
