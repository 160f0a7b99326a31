-- `ask_alloc` meets its contract. Leans on the laws of lines.
use mathlib.Core.Path.{sym, ap, ◌∙◌}
use native.Mathlib.Omega.{arith}
use Rattle.model.specs.Answers.{call_of}
use Rattle.trace.specs.Line.{line_for, offered}
use Rattle.trace.proofs.LineLaws.{said, alloc_count, alloc_off, alloc_offer, asked_alloc}
use Rattle.trace.proofs.lines.ask_alloc.Goals as goal

pub returns-then-count-ne6 : goal.returns-then-count-ne6
unfolding line_for
returns-then-count-ne6 c = alloc_count _ (λ e. c.if-count-ne6.true (c.count.ensures ∙ e))

pub returns-in_err-holder : goal.returns-in_err-holder
unfolding line_for
returns-in_err-holder c = rw c.from_residual.ensures (alloc_off _ 1 _ c.number_at.ensures c.in_err-holder.was (omega arith) (omega arith))

pub returns-in_err-size : goal.returns-in_err-size
unfolding line_for
returns-in_err-size c = rw c.from_residual-in_err-size.ensures (alloc_off _ 2 _ c.number_at-2.ensures c.in_err-size.was (omega arith) (omega arith))

pub returns-in_err-align : goal.returns-in_err-align
unfolding line_for
returns-in_err-align c = rw c.from_residual-in_err-align.ensures (alloc_off _ 3 _ c.number_at-3.ensures c.in_err-align.was (omega arith) (omega arith))

pub returns-in_err-offset : goal.returns-in_err-offset
unfolding line_for
returns-in_err-offset c = rw c.from_residual-in_err-offset.ensures (alloc_off _ 4 _ c.number_at-4.ensures c.in_err-offset.was (omega arith) (omega arith))

pub returns-in_err-offer : goal.returns-in_err-offer
unfolding line_for
returns-in_err-offer c = rw c.from_residual-in_err-offer.ensures (alloc_offer _ _ (c.offer.ensures ∙ ap offered c.word.ensures) c.in_err-offer.was)

pub returns : goal.returns
unfolding line_for call_of
returns c = asked_alloc _ _ _ _ _ _ _ (sym c.count.ensures ∙ c.if-count-ne6.false)
    (record {
      first = said _ 1 _ _ c.number_at.ensures c.in_ok-holder.was;
      second = said _ 2 _ _ c.number_at-2.ensures c.in_ok-size.was;
      third = said _ 3 _ _ c.number_at-3.ensures c.in_ok-align.was;
      fourth = said _ 4 _ _ c.number_at-4.ensures c.in_ok-offset.was;
    })
    (c.offer.ensures ∙ ap offered c.word.ensures) c.in_ok-offer.was
