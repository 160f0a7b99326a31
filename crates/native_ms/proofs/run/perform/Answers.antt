-- `run::perform` is `call`: the refusal of the first tests, or the step. Assumes nothing.
use mathlib.Core.Path.{sym, ◌∙◌}
use Rattle.native_ms.proofs.Tests.{open_good}
use Rattle.native_ms.proofs.RunLaws.{call_refused}
use Rattle.native_ms.proofs.run.perform.Goals as goal

pub returns-in-Err : goal.returns-in-Err
returns-in-Err c = call_refused c.args.p c.args.words.now c.args.states.now c.args.marks.now c.args.heap.now c.args.ask (sym c.check_lent.ensures ∙ c.in-Err.is) c.from.ensures

pub invariant_of-make : goal.invariant_of-make
invariant_of-make c = record { good = open_good c.args.p _ _ _ _ (sym c.check_lent.ensures ∙ c.in-Ok.is) }

pub make-requires : goal.make-requires
make-requires c = sym c.check_lent.ensures ∙ c.in-Ok.is
