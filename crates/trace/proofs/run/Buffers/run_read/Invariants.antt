-- `run_read` meets its contract. The loop's invariant: the refusals kept, and those of the lines that are left, are all; what the
-- lines that are left make of what is lent is the whole trace's. Leans on the laws of the run.
use Rattle.trace.specs.Run.{lent_in}
use Rattle.trace.proofs.RunLaws.{Running}
use Rattle.trace.proofs.run.Buffers.run_read.Given as goal

abbrev pub invariant-loop-n : goal.invariant-loop-n
invariant-loop-n l = Running l.s (lent_in l.initial.self) l.n-iterator.count l.n-iterator.iter.n l.n-iterator.iter.iter.rest.now (lent_in l.self) l.refused.items
