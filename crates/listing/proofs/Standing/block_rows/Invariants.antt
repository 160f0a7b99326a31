-- `sections::block_rows` prints the occupied blocks' rows. The loop's invariant: the rows left, printed here, make all.
use mathlib.Core.List.{[]}
use Rattle.model.specs.Census.{block_row}
use Rattle.listing.specs.Sections.{tables_read, is_occupied}
use Rattle.listing.proofs.SectionsLaws.{TextsLeft}
use Rattle.listing.proofs.Standing.block_rows.Given as goal

abbrev pub invariant-loop-block : goal.invariant-loop-block
invariant-loop-block l = TextsLeft (is_occupied l.self.states.now) (block_row (tables_read l.self.words.now l.self.states.now [])) 4 l.initial.page l.page l.block
