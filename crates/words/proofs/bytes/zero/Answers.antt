-- `zero` meets its contract: past the end nothing is written. Leans on the laws of bytes; assumes nothing.
use mathlib.Core.Path.{sym, ◌∙◌, ap}
use Prim.Native.Nat.{ℕ}
use lib.ListN.{replicate}
use Rattle.model.specs.Memory.{overwrite}
use Rattle.laws.proofs.Memory.{overwrite_out}
use Rattle.words.proofs.Written.{zeros_least}
use Rattle.words.proofs.bytes.zero.Goals as goal

pub returns-then-i-len : goal.returns-then-i-len
returns-then-i-len c = let a = c.args in c.fill.ensures ∙ ap (λ (n : ℕ). overwrite a.i (replicate n 0) a.h.now) c.min.ensures ∙ zeros_least a.i a.n a.h.now c.if-i-len.true

pub returns-else-i-len : goal.returns-else-i-len
returns-else-i-len c = sym (overwrite_out c.args.i _ c.args.h.now c.if-i-len.false)
