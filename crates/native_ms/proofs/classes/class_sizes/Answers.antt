-- `classes::class_sizes` meets its contract: 01's sizes, or those of the rows. Assumes nothing.
use Rattle.model.specs.SizeClasses.{class_words, fours}
use Rattle.native_ms.proofs.Borders.{plain_sizes}
use Rattle.native_ms.proofs.classes.class_sizes.Goals as goal

pub returns-then-space-eq0 : goal.returns-then-space-eq0
unfolding class_words fours
returns-then-space-eq0 c = plain_sizes _ c.if-space-eq0.true
