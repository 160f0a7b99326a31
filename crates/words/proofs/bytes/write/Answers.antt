-- `write` meets its contract: the low bytes of the word, in the slice of the places. Leans on the laws of bytes; assumes nothing.
use mathlib.Core.Path.{ap, ◌∙◌}
use lib.ListN.{take}
use Rattle.laws.proofs.Memory.{length_bytes_of}
use Rattle.words.proofs.Written.{part_over, word_bytes}
use Rattle.words.proofs.bytes.write.Goals as goal

pub returns : goal.returns
returns c = let a = c.args in part_over a.i a.n a.h.now c.requires.0 (c.copy_from_slice.ensures.after ∙ ap (take a.n) c.to_le_bytes.ensures ∙ word_bytes a.n a.v c.requires.1) (length_bytes_of a.n a.v)
