-- `run::put_said` writes an answer's five words. Assumes nothing.
use native.Mathlib.Omega.{arith}
use lib.ListN.{length-set}
use Rattle.native_ms.proofs.RunLaws.{put_said}
use Rattle.native_ms.proofs.run.put_said.Goals as goal

pub bounds-answers-at-2 : goal.bounds-answers-at-2
bounds-answers-at-2 c = simp length-set (omega (arith, c.requires))

pub bounds-answers-at-3 : goal.bounds-answers-at-3
bounds-answers-at-3 c = simp length-set (omega (arith, c.requires))

pub bounds-answers-at-4 : goal.bounds-answers-at-4
bounds-answers-at-4 c = simp length-set (omega (arith, c.requires))

pub bounds-answers-at-5 : goal.bounds-answers-at-5
bounds-answers-at-5 c = simp length-set (omega (arith, c.requires))

pub returns : goal.returns
returns c = put_said c.args.at c.args.said c.args.answers.now
