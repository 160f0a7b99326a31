-- `run` meets its contract. Leans on the laws of the run.
use Rattle.trace.proofs.RunLaws.{ran_whole}
use Rattle.trace.proofs.run.Buffers.run.Goals as goal

pub returns : goal.returns
returns c = ran_whole _ _ c.read_part.ensures c.run_read.ensures
