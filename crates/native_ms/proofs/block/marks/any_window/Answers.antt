-- `marks::any_window` meets its contract. Leans on the laws of the window; assumes nothing.
use Prim.Native.Nat.{◌/◌}
use native.Mathlib.Omega.{arith}
use Rattle.native_ms.proofs.Window.{not_zero, window_none, window_some}
use Rattle.native_ms.proofs.block.marks.any_window.Goals as goal

pub returns : goal.returns
returns c = not_zero _ (window_none c.args.marks.now c.args.first _ c.requires.1 c.from.ensures c.from-2.ensures (omega (arith, c.type_inv.marks (c.args.first / 8)))) (window_some c.args.marks.now c.args.first _ c.requires.1 c.from.ensures c.from-2.ensures (omega (arith, c.type_inv.marks (c.args.first / 8))))
