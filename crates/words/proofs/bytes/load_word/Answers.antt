-- `load_word` meets its contract: past the end a byte reads as 0. Leans on the laws of bytes; assumes nothing.
use mathlib.Core.Path.{sym, ◌∙◌}
use native.Mathlib.Omega.{arith}
use Rattle.laws.proofs.Memory.{load_bytes_out, load_bytes_short}
use Rattle.words.proofs.bytes.load_word.Goals as goal

pub returns-then-len-i : goal.returns-then-len-i
returns-then-len-i c = sym (load_bytes_out 8 c.args.h.now c.args.i c.if-len-i.true)

pub returns : goal.returns
returns c = c.read-2.ensures ∙ load_bytes_short _ 8 c.args.h.now c.args.i (omega arith) (omega arith)
