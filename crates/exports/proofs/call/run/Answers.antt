-- `run` meets its contract.
use native.Mathlib.Omega.{arith}
use Rattle.model.specs.Exports.{lend_bytes}
use Rattle.exports.proofs.Export.{run_on}
use Rattle.exports.proofs.call.run.Goals as goal

pub returns : goal.returns
returns c = let whole = c.in-Some.ensures.cases in run_on c.args.p (lend_bytes c.args.words.now c.args.states.now c.args.marks.now c.args.heap.now c.args.answer.now) c.args.inner c.in-Some-decode.ensures.1 c.enter-said.ensures c.in-Some-decode.ensures.0 (omega arith) whole.same (omega arith) c.encode.ensures c.tell.ensures.number c.tell.ensures.answer
