-- `read` meets its contract: the bytes, and zeros behind them, are a word of the library's. Leans on the laws of bytes; assumes nothing.
use mathlib.Core.Path.{◌∙◌}
use Rattle.words.proofs.Written.{part_from}
use Rattle.words.proofs.bytes.read.Goals as goal

pub returns : goal.returns
returns c = let a = c.args in c.from_le_bytes.ensures ∙ rw c.copy_from_slice.ensures.after (part_from a.i a.n a.h.now c.requires.0 c.requires.1)
