-- `set_up` meets its contract. Leans on the library's promise.
use Rattle.calls.proofs.Outcome.{of_set_up}
use Rattle.calls.proofs.set_up.Goals as goal

pub returns : goal.returns
returns c = of_set_up c.set_up.ensures c.from.ensures
