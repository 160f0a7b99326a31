-- `marks::any_head` meets its contract: what a shift leaves of a byte is 0 if its bits are clear. Assumes nothing.
use Prim.Native.Nat.{◌/◌}
use native.Mathlib.Omega.{arith}
use Rattle.native_ms.proofs.Window.{not_zero}
use Rattle.native_ms.proofs.Span.{head_none, head_some}
use Rattle.native_ms.proofs.block.marks.any_head.Goals as goal

pub returns : goal.returns
returns c = not_zero _ (head_none c.args.marks.now c.args.first (omega (arith, c.type_inv.marks (c.args.first / 8)))) (head_some c.args.marks.now c.args.first (omega (arith, c.type_inv.marks (c.args.first / 8))))
