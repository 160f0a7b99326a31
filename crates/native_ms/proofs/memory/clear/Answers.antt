-- `clear` meets its contract: zeros in the slice of the places. Assumes nothing.
use mathlib.Core.Path.{◌∙◌}
use lib.ListN.{length-replicate}
use Rattle.words.proofs.Written.{part_over, zeros_in_part}
use Rattle.native_ms.proofs.memory.clear.Goals as goal

pub returns : goal.returns
returns c = let a = c.args in part_over a.i a.n a.h.now c.requires (c.fill.ensures.after (λ y e. e) ∙ zeros_in_part a.i a.n a.h.now c.requires) (length-replicate a.n 0)
