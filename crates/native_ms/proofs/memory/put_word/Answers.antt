-- `put_word` meets its contract: the bytes of the word, in the slice of the places. Leans on the laws of bytes; assumes nothing.
use mathlib.Core.Path.{◌∙◌}
use Rattle.laws.proofs.Memory.{length_bytes_of}
use Rattle.words.proofs.Written.{part_over, word_is}
use Rattle.native_ms.proofs.memory.put_word.Goals as goal

pub returns : goal.returns
returns c = let a = c.args in part_over a.i 8 a.h.now c.requires (c.copy_from_slice.ensures.after ∙ c.to_le_bytes.ensures ∙ word_is a.v) (length_bytes_of 8 a.v)
