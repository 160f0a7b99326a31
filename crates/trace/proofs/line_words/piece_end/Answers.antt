-- `piece_end` meets its contract. Leans on the laws of pieces.
use native.Mathlib.Omega.{arith}
use lib.ListN.{drop, length-drop}
use Rattle.model.specs.Text.{piece_end}
use Rattle.laws.proofs.Text.{until_le}
use Rattle.trace.proofs.line_words.piece_end.Goals as goal

pub overflow_add-result : goal.overflow_add-result
overflow_add-result c =
    let e = rw c.from.ensures at c.until.ensures in
    omega (arith, e, until_le c.args.sep (drop c.args.at c.args.s.now), length-drop c.args.at c.args.s.now)

pub returns : goal.returns
unfolding piece_end
returns c = rw (c.until.ensures, c.from.ensures)
