-- `row::run_row` meets its contract.
use mathlib.Core.Path.{ap}
use native.Mathlib.Omega.{arith}
use Rattle.model.specs.declared.Said.{Said}
use Rattle.model.specs.Exports.{lend_bytes}
use Rattle.exports.proofs.RowLaws.{on_row}
use Rattle.exports.proofs.row.run_row.Goals as goal

pub returns : goal.returns
returns c = on_row c.args.p (lend_bytes c.args.words.now c.args.states.now c.args.marks.now c.args.heap.now c.args.answer.now) c.args.calls.now c.run-done.result c.in-Some.ensures.0 c.in-Some-decode.ensures.0 c.in-Some-decode-2.ensures.0 c.in-Some.ensures.1 c.in-Some-decode.ensures.1 c.in-Some-decode-2.ensures.1 c.run-done.ensures (omega arith) (omega arith) c.encode.ensures c.encode-2.ensures (ap (λ (x : Said). x.number) c.from-2.ensures)
