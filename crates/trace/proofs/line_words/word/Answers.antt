-- `word` meets its contract: the library's piece at that place. Leans on the laws of words.
use mathlib.Core.Path.{refl}
use borrow.Author.Rules.{rules}
use borrow.Author.Tests.{tests}
use Rattle.std.specs.Prelude.{◌==◌}
use Rattle.std.proofs.lemmas.Iterator.Consumers.{nth_from_yields_List}
use Rattle.std.proofs.lemmas.Iterator.Splits.{YieldsList-from_slice_split}
use Rattle.trace.proofs.WordsLaws.{word_found}
use Rattle.trace.proofs.line_words.word.Goals as goal

pub returns : goal.returns
returns c =
    word_found c.args.s.now c.args.k c.nth.result _ refl
    (nth_from_yields_List _ _ _ c.nth.ensures.ran
    (YieldsList-from_slice_split _ (λ x. x == 32) c.args.s.now c.split.ensures.rest c.split.ensures.done c.split.ensures.closure (λ x r q k. search (rules, tests))))
    c.unwrap_or.ensures
