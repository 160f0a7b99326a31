-- `marks::any_byte` meets its contract: every byte passed is 0, and a byte that is not has a bit that is set.
use Prim.Native.Nat.{ℕ, ◌<◌}
use mathlib.Core.Path.{◌≡◌}
use lib.ListN.{get_or}
use Rattle.native_ms.proofs.block.marks.any_byte.Given as goal

abbrev pub invariant-loop-byte : goal.invariant-loop-byte
invariant-loop-byte l = (j : ℕ) → j < l.byte-index → get_or l.byte-items j 0 ≡ 0
