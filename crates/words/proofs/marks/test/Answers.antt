-- `test` meets its contract: past the end a byte reads as 0. Assumes nothing.
use Prim.Native.Nat.{◌/◌, ◌%◌}
use mathlib.Core.Path.{◌∙◌}
use borrow.Author.Tests.{le-ltb}
use Rattle.words.proofs.Shift.{test_out}
use Rattle.words.proofs.marks.test.Goals as goal

pub returns-else-g-m : goal.returns-else-g-m
returns-else-g-m c = le-ltb _ _ c.if-g-m.false ∙ test_out c.args.m.now (c.args.g / 8) (c.args.g % 8) c.if-g-m.false
