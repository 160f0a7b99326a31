-- `store_word` meets its contract: past the end nothing is written. Leans on the laws of bytes; assumes nothing.
use mathlib.Core.Path.{sym, ◌∙◌}
use native.Mathlib.Omega.{arith}
use Rattle.laws.proofs.Memory.{overwrite_out, bytes_of_short}
use Rattle.words.proofs.bytes.store_word.Goals as goal

pub returns-then-len-i : goal.returns-then-len-i
returns-then-len-i c = sym (overwrite_out c.args.i _ c.args.h.now c.if-len-i.true)

pub returns : goal.returns
returns c = c.write-2.ensures ∙ bytes_of_short _ 8 _ c.args.i c.args.h.now (omega arith) (omega arith)
