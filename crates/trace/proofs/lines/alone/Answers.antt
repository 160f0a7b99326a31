-- `alone` meets its contract. Leans on the laws of lines.
use mathlib.Core.Path.{sym, ◌∙◌}
use Rattle.trace.specs.Line.{line_for}
use Rattle.trace.proofs.LineLaws.{asked_one_lem, asked_count}
use Rattle.trace.proofs.lines.alone.Goals as goal

pub returns-then-count-eq1 : goal.returns-then-count-eq1
unfolding line_for
returns-then-count-eq1 c = asked_one_lem _ _ (sym c.count.ensures ∙ c.if-count-eq1.true)

pub returns : goal.returns
unfolding line_for
returns c = asked_count _ _ _ (λ e. c.if-count-eq1.false (c.count.ensures ∙ e))
