use Rattle.trace.proofs.RunLaws.{kept_none, kept_one, running_round, running_over}
use Rattle.trace.proofs.run.Buffers.run_read.Goals as goal

pub loop-n-preserved-in-Some-run_line : goal.loop-n-preserved-in-Some-run_line
loop-n-preserved-in-Some-run_line c =
    let step = c.in-Some.ensures.steps in
    running_round c.loop-n.invariant step.2 step.0.1 step.0.0 c.parse.ensures c.run_line.ensures
    (kept_one _ _ c.in-Some-run_line.is step.1 c.push.ensures.items)

pub loop-n-preserved : goal.loop-n-preserved
loop-n-preserved c =
    let step = c.in-Some.ensures.steps in
    running_round c.loop-n.invariant step.2 step.0.1 step.0.0 c.parse.ensures c.run_line.ensures (kept_none _ _ c.in_default.is)

pub returns : goal.returns
returns c = running_over c.loop-n.invariant (λ l. (c.in-None.ensures.steps.0 l).0)
