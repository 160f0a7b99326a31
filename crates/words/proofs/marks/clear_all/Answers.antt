-- `clear_all` meets its contract: a clone of a byte is that byte. Assumes nothing.
use Rattle.model.specs.Memory.{cleared}
use Rattle.words.proofs.marks.clear_all.Goals as goal

pub returns : goal.returns
unfolding cleared
returns c = c.fill.ensures.after (λ y e. e)
