-- `sections::free_section` meets its contract: in Marking the head alone, else the head, then the rows. Leans on the laws of rows.
use Rattle.listing.proofs.PrintLaws.{retext, print_section}
use Rattle.listing.proofs.SectionsLaws.{free_section_lem, free_none}
use Rattle.listing.proofs.Standing.free_section.Goals as goal

pub returns-then-phase-eq-MARKING : goal.returns-then-phase-eq-MARKING
returns-then-phase-eq-MARKING c = retext (free_none _ _ _ _ c.phase.ensures c.if-phase-eq-MARKING.true) c.head.ensures

pub returns : goal.returns
returns c = retext (free_section_lem _ _ _ _ c.phase.ensures c.if-phase-eq-MARKING.false) (print_section _ _ _ c.count_cells.ensures c.head-2.ensures c.cell_rows.ensures)
