-- `marks::any_whole` meets its contract. Leans on the laws of bytes; assumes nothing.
use Prim.Native.Nat.{◌/◌}
use native.Mathlib.Omega.{arith}
use Rattle.native_ms.proofs.Window.{not_zero, whole_none, whole_some}
use Rattle.native_ms.proofs.block.marks.any_whole.Goals as goal

pub returns : goal.returns
returns c = not_zero _ (whole_none c.args.marks.now c.args.first c.requires.1) (whole_some c.args.marks.now c.args.first c.requires.1 (omega (arith, c.type_inv.marks (c.args.first / 8))))
