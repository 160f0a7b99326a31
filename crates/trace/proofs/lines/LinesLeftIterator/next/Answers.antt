-- `LinesLeft::next` meets its contract: a line of what is left, and what is left behind it. Leans on the laws of lines.
use mathlib.Core.Path.{sym, ◌∙◌}
use native.Mathlib.Omega.{arith}
use borrow.Author.Rules.{rules}
use Prim.Native.Nat.{◌-◌, ◌<◌}
use lib.ListN.{length, take, drop, length-take, length-drop}
use Rattle.trace.proofs.LinesLaws.{line_bytes, next_step, next_over, left_behind}
use Rattle.trace.proofs.lines.LinesLeftIterator.next.Goals as goal

pub returns-in_err-line-clause-steps : goal.returns-in_err-line-clause-steps
returns-in_err-line-clause-steps c =
    let e = next_over _ _ (sym c.next_line.ensures ∙ c.in_err-line.was) in rw c.from_residual.ensures (e, e)

pub slice_bounds-bytes-count : goal.slice_bounds-bytes-count
slice_bounds-bytes-count c = omega (arith, (next_step _ _ _ (sym c.next_line.ensures ∙ c.in_ok-line.was)).ordered)

pub slice_bounds-bytes-start : goal.slice_bounds-bytes-start
slice_bounds-bytes-start c = omega (arith, (next_step _ _ _ (sym c.next_line.ensures ∙ c.in_ok-line.was)).ordered)

pub slice_bounds-bytes-end : goal.slice_bounds-bytes-end
slice_bounds-bytes-end c = omega (arith, (next_step _ _ _ (sym c.next_line.ensures ∙ c.in_ok-line.was)).inside)

pub slice_bounds-self-count : goal.slice_bounds-self-count
slice_bounds-self-count c = omega (arith, (next_step _ _ _ (sym c.next_line.ensures ∙ c.in_ok-line.was)).within)

pub slice_bounds-self-start : goal.slice_bounds-self-start
slice_bounds-self-start c = omega (arith, (next_step _ _ _ (sym c.next_line.ensures ∙ c.in_ok-line.was)).within)

pub returns-clause-steps : goal.returns-clause-steps
unfolding line_bytes
returns-clause-steps c =
    (next_step _ _ _ (sym c.next_line.ensures ∙ c.in_ok-line.was)).rest
    ∙ rw (left_behind c.args.self.now.rest.now c.in_ok-line.line.next)

pub returns-clause-goes : goal.returns-clause-goes
returns-clause-goes c =
    let s = c.args.self.now.rest.now in
    let n = c.in_ok-line.line.next in
    let step = next_step _ _ _ (sym c.next_line.ensures ∙ c.in_ok-line.was) in
    let fall : length (take (length s - n) (drop n s)) < length s = simp (length-take, length-drop) (omega (arith, step.further, step.within)) in
    search rules
