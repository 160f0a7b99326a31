-- `word_at` meets its contract. Leans on the laws of bytes; assumes nothing.
use mathlib.Core.Path.{◌∙◌}
use Rattle.words.proofs.Written.{word_part}
use Rattle.native_ms.proofs.memory.word_at.Goals as goal

pub returns : goal.returns
returns c = let a = c.args in c.from_le_bytes.ensures ∙ rw c.copy_from_slice.ensures.after (word_part a.i a.h.now c.requires)
