-- `tables::phase` reads the word behind the lists.
use mathlib.Core.Path.{◌∙◌}
use native.Mathlib.Omega.{arith}
use Rattle.model.specs.Params.{phase_word}
use Rattle.model.specs.Tables.{view}
use Rattle.laws.proofs.Tables.{get_d_part}
use Rattle.words.proofs.tables.phase.Goals as goal

pub returns : goal.returns
unfolding view
returns c = c.word.ensures ∙ get_d_part phase_word 1 0 c.args.w.now (omega arith)
