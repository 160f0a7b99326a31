-- `run_line` meets its contract: a call, or a line of another form. Leans on the laws of the run.
use Rattle.trace.proofs.RunLaws.{ran_call, ran_bad, refusal_told}
use Rattle.trace.proofs.run.Buffers.run_line.Goals as goal

pub returns-in_default : goal.returns-in_default
returns-in_default c = ran_bad _ c.in_default.is c.from.ensures

pub returns : goal.returns
returns c = ran_call c.params.ensures c.in-Some.is c.perform-said.ensures (refusal_told _ c.then_some.ensures)
