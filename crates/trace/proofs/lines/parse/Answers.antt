-- `parse` meets its contract. Leans on the laws of lines.
use mathlib.Core.Path.{ap, ◌∙◌}
use native.Mathlib.Omega.{arith}
use Rattle.model.specs.Answers.{call_of}
use Rattle.model.specs.Calls.{bind, destroy, release}
use Rattle.trace.specs.Line.{line_for, letter_of, asked, alloc_asked}
use Rattle.std.proofs.Common.{Some}
use Rattle.trace.proofs.LineLaws.{asked_two, asked_two_off, line_by, line_letter, line_none, line_other}
use Rattle.trace.proofs.lines.parse.Goals as goal

pub returns-in_err-letter : goal.returns-in_err-letter
unfolding line_for
returns-in_err-letter c = rw c.from_residual.ensures (line_none _ (c.letter.ensures ∙ ap letter_of c.word.ensures) c.in_err-letter.was)

pub returns-in_err-one_number-in-98 : goal.returns-in_err-one_number-in-98
unfolding line_for asked line_by
returns-in_err-one_number-in-98 c = rw c.from_residual-in_err-one_number-in-98.ensures (asked_two_off _ bind _ c.one_number.ensures c.in_err-one_number-in-98.was ∙ line_letter _ 98 (c.letter.ensures ∙ ap letter_of c.word.ensures) (c.in_ok-letter.was ∙ ap Some c.in-98.is))

pub returns-in_ok-one_number-in-98 : goal.returns-in_ok-one_number-in-98
unfolding line_for call_of asked line_by
returns-in_ok-one_number-in-98 c = asked_two _ bind _ _ c.one_number.ensures c.in_ok-one_number-in-98.was ∙ line_letter _ 98 (c.letter.ensures ∙ ap letter_of c.word.ensures) (c.in_ok-letter.was ∙ ap Some c.in-98.is)

pub returns-in_err-one_number-in-100 : goal.returns-in_err-one_number-in-100
unfolding line_for asked line_by
returns-in_err-one_number-in-100 c = rw c.from_residual-in_err-one_number-in-100.ensures (asked_two_off _ destroy _ c.one_number-in-100.ensures c.in_err-one_number-in-100.was ∙ line_letter _ 100 (c.letter.ensures ∙ ap letter_of c.word.ensures) (c.in_ok-letter.was ∙ ap Some c.in-100.is))

pub returns-in_ok-one_number-in-100 : goal.returns-in_ok-one_number-in-100
unfolding line_for call_of asked line_by
returns-in_ok-one_number-in-100 c = asked_two _ destroy _ _ c.one_number-in-100.ensures c.in_ok-one_number-in-100.was ∙ line_letter _ 100 (c.letter.ensures ∙ ap letter_of c.word.ensures) (c.in_ok-letter.was ∙ ap Some c.in-100.is)

pub returns-in_err-one_number-in-114 : goal.returns-in_err-one_number-in-114
unfolding line_for asked line_by
returns-in_err-one_number-in-114 c = rw c.from_residual-in_err-one_number-in-114.ensures (asked_two_off _ release _ c.one_number-in-114.ensures c.in_err-one_number-in-114.was ∙ line_letter _ 114 (c.letter.ensures ∙ ap letter_of c.word.ensures) (c.in_ok-letter.was ∙ ap Some c.in-114.is))

pub returns-in_ok-one_number-in-114 : goal.returns-in_ok-one_number-in-114
unfolding line_for call_of asked line_by
returns-in_ok-one_number-in-114 c = asked_two _ release _ _ c.one_number-in-114.ensures c.in_ok-one_number-in-114.was ∙ line_letter _ 114 (c.letter.ensures ∙ ap letter_of c.word.ensures) (c.in_ok-letter.was ∙ ap Some c.in-114.is)

pub returns-in-97 : goal.returns-in-97
unfolding call_of asked alloc_asked line_by
returns-in-97 c = c.ask_alloc.ensures ∙ line_letter _ 97 (c.letter.ensures ∙ ap letter_of c.word.ensures) (c.in_ok-letter.was ∙ ap Some c.in-97.is)

pub returns-in-112 : goal.returns-in-112
unfolding call_of asked alloc_asked line_by
returns-in-112 c = c.alone.ensures ∙ line_letter _ 112 (c.letter.ensures ∙ ap letter_of c.word.ensures) (c.in_ok-letter.was ∙ ap Some c.in-112.is)

pub returns-in-109 : goal.returns-in-109
unfolding call_of asked alloc_asked line_by
returns-in-109 c = c.ask_mark.ensures ∙ line_letter _ 109 (c.letter.ensures ∙ ap letter_of c.word.ensures) (c.in_ok-letter.was ∙ ap Some c.in-109.is)

pub returns-in-115 : goal.returns-in-115
unfolding call_of asked alloc_asked line_by
returns-in-115 c = c.alone-in-115.ensures ∙ line_letter _ 115 (c.letter.ensures ∙ ap letter_of c.word.ensures) (c.in_ok-letter.was ∙ ap Some c.in-115.is)

pub returns-in_default : goal.returns-in_default
unfolding line_for
returns-in_default c = line_other _ _ (c.letter.ensures ∙ ap letter_of c.word.ensures) c.in_ok-letter.was
    (λ e. grind arith) (λ e. grind arith) (λ e. grind arith) (λ e. grind arith) (λ e. grind arith) (λ e. grind arith) (λ e. grind arith)
