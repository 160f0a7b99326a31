-- `sections::rows_of` prints a block's cells: of the swept chain, or of the one that stands. Assumes nothing.
use mathlib.Core.Path.{sym, ◌∙◌}
use Rattle.listing.proofs.PrintLaws.{retext}
use Rattle.listing.proofs.SectionsLaws.{printed_swept, printed_standing, rows_printed}
use Rattle.listing.proofs.Standing.rows_of.Goals as goal

pub returns-then-awaits_sweep : goal.returns-then-awaits_sweep
returns-then-awaits_sweep c = retext (rows_printed _ _ _ _ _ (printed_swept _ _ _ _ _ (sym c.awaits_sweep.ensures ∙ c.if-awaits_sweep.true))) c.rows_swept.ensures

pub returns : goal.returns
returns c = retext (rows_printed _ _ _ _ _ (printed_standing _ _ _ _ _ (sym c.awaits_sweep.ensures ∙ c.if-awaits_sweep.false))) c.rows.ensures
