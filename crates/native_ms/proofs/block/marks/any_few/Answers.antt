-- `marks::any_few` meets its contract. Leans on the laws of the window; assumes nothing.
use Prim.Native.Nat.{◌/◌}
use native.Mathlib.Omega.{arith}
use Rattle.native_ms.proofs.Window.{not_zero, few_none, few_some}
use Rattle.native_ms.proofs.block.marks.any_few.Goals as goal

pub returns : goal.returns
returns c = not_zero _ (few_none c.args.marks.now c.args.first c.pair-window.ensures.0 (omega (arith, c.type_inv.marks (c.args.first / 8))) _ c.requires.1) (few_some c.args.marks.now c.args.first c.pair-window.ensures.0 (omega (arith, c.type_inv.marks (c.args.first / 8))) _ c.requires.1)
