-- `check_classes` meets its contract. Leans on the library's promise.
use mathlib.Core.Path.{ap, ◌∙◌}
use Rattle.model.specs.Answers.{said_of}
use Rattle.calls.proofs.check_classes.Goals as goal

pub returns : goal.returns
returns c = c.from.ensures ∙ ap said_of c.check_classes.ensures
