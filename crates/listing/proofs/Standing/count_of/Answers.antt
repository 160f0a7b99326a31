-- `sections::count_of` counts what is printed of a block: the swept chain, or the one that stands. Assumes nothing.
use mathlib.Core.Path.{sym, ap, ◌∙◌}
use lib.ListN.{length}
use Rattle.listing.proofs.SectionsLaws.{printed_swept, printed_standing}
use Rattle.listing.proofs.Standing.count_of.Goals as goal

pub returns-then-awaits_sweep : goal.returns-then-awaits_sweep
returns-then-awaits_sweep c = c.count_swept.ensures ∙ ap length (sym (printed_swept _ _ _ _ _ (sym c.awaits_sweep.ensures ∙ c.if-awaits_sweep.true)))

pub returns : goal.returns
returns c = c.count.ensures ∙ ap length (sym (printed_standing _ _ _ _ _ (sym c.awaits_sweep.ensures ∙ c.if-awaits_sweep.false)))
