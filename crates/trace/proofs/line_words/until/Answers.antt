-- `until` meets its contract. Leans on the laws of words.
use mathlib.Core.Path.{◌∙◌}
use Rattle.trace.proofs.WordsLaws.{until_first}
use Rattle.trace.proofs.line_words.until.Goals as goal

pub returns : goal.returns
returns c = c.unwrap_or.ensures ∙ rw c.first.ensures (until_first c.args.sep c.args.s.now)
