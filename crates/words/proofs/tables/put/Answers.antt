-- `tables::put` writes a word of a part, and none past the part or the words. Leans on the laws of `put_in`.
use mathlib.Core.Path.{sym}
use native.Mathlib.Omega.{arith}
use Rattle.laws.proofs.Tables.{put_in_in, put_in_out, put_in_past}
use Rattle.words.proofs.tables.put.Goals as goal
use Rattle.words.proofs.tables.put.Goals.{else-i-count-via-then-i-count+then-from-w+else-i-w, else-i-count-via-then-i-count+else-from-w, else-i-count-via-else-i-count}

pub returns-then-i-w : goal.returns-then-i-w
returns-then-i-w c = let a = c.args in sym (put_in_in a.from a.count a.i a.v a.w.now c.if-i-count.true)

pub returns-else-i-count : goal.returns-else-i-count
returns-else-i-count c =
    let a = c.args in
    elim c.else-i-count.branch [
      | else-i-count-via-then-i-count+then-from-w+else-i-w w ↦ sym (put_in_past a.from a.count a.i a.v a.w.now (omega arith))
      | else-i-count-via-then-i-count+else-from-w w ↦ sym (put_in_past a.from a.count a.i a.v a.w.now (omega arith))
      | else-i-count-via-else-i-count w ↦ sym (put_in_out a.from a.count a.i a.v a.w.now w.if-i-count.false)
    ]
