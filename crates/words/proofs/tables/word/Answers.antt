-- `tables::word` reads a word of a part, and 0 past the part or the words. Leans on the laws of parts.
use mathlib.Core.Path.{sym}
use native.Mathlib.Omega.{arith}
use Rattle.laws.proofs.Tables.{get_d_part, get_d_part_out, get_d_part_past}
use Rattle.words.proofs.tables.word.Goals as goal
use Rattle.words.proofs.tables.word.Goals.{else-i-count-via-then-i-count+then-from-w+else-i-w, else-i-count-via-then-i-count+else-from-w, else-i-count-via-else-i-count}

pub returns-then-i-w : goal.returns-then-i-w
returns-then-i-w c = let a = c.args in sym (get_d_part a.from a.count a.i a.w.now c.if-i-count.true)

pub returns : goal.returns
returns c =
    let a = c.args in
    elim c.else-i-count.branch [
      | else-i-count-via-then-i-count+then-from-w+else-i-w w ↦ sym (get_d_part_past a.from a.count a.i a.w.now (omega arith))
      | else-i-count-via-then-i-count+else-from-w w ↦ sym (get_d_part_past a.from a.count a.i a.w.now (omega arith))
      | else-i-count-via-else-i-count w ↦ sym (get_d_part_out a.from a.count a.i a.w.now w.if-i-count.false)
    ]
