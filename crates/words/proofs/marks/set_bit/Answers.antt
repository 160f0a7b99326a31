-- `set_bit` meets its contract. Leans on the laws of shift and mask; assumes nothing.
use Prim.Native.Nat.{◌/◌, ◌%◌}
use native.Mathlib.Omega.{arith}
use Rattle.words.proofs.Shift.{set_by_mask}
use Rattle.words.proofs.marks.set_bit.Goals as goal

pub returns-then-i-m : goal.returns-then-i-m
returns-then-i-m c = set_by_mask c.args.m.now (c.args.g / 8) (c.args.g % 8) (omega arith) (omega arith)
