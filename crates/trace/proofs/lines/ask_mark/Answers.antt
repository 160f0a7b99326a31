-- `ask_mark` meets its contract. Leans on the laws of lines.
use mathlib.Core.Path.{sym, ◌∙◌}
use native.Mathlib.Omega.{arith}
use Rattle.model.specs.Answers.{call_of}
use Rattle.trace.specs.Line.{line_for}
use Rattle.trace.proofs.LineLaws.{asked_count, asked_off, asked_mark}
use Rattle.trace.proofs.lines.ask_mark.Goals as goal

pub returns-then-count-ne3 : goal.returns-then-count-ne3
unfolding line_for
returns-then-count-ne3 c = asked_count _ _ _ (λ e. c.if-count-ne3.true (c.count.ensures ∙ e))

pub returns-in_err-place : goal.returns-in_err-place
unfolding line_for
returns-in_err-place c = rw c.from_residual.ensures (asked_off _ 3 1 _ _ c.number_at.ensures c.in_err-place.was (omega arith) (omega arith))

pub returns-in_err-block : goal.returns-in_err-block
unfolding line_for
returns-in_err-block c = rw c.from_residual-in_err-block.ensures (asked_off _ 3 2 _ _ c.number_at-2.ensures c.in_err-block.was (omega arith) (omega arith))

pub returns : goal.returns
unfolding line_for call_of
returns c = asked_mark _ _ _ _ _ (sym c.count.ensures ∙ c.if-count-ne3.false) c.number_at.ensures c.in_ok-place.was c.number_at-2.ensures c.in_ok-block.was
