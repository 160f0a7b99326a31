-- `run::make_entry`: a call, the refusal of the first tests, or 11. Assumes nothing.
use Rattle.model.specs.Promise.{lend}
use Rattle.native_ms.proofs.RunLaws.{entry_made, entry_none, call_refused}
use Rattle.native_ms.proofs.run.make_entry.Goals as goal

pub returns-in-None : goal.returns-in-None
returns-in-None c = entry_none c.args.p.now (lend c.args.words.now c.args.states.now c.args.marks.now c.args.heap.now) c.in-None.is c.from.ensures

pub returns-in-Err : goal.returns-in-Err
returns-in-Err c = entry_made c.args.p.now (lend c.args.words.now c.args.states.now c.args.marks.now c.args.heap.now) c.in-Some.is (call_refused c.args.p.now c.args.words.now c.args.states.now c.args.marks.now c.args.heap.now _ (rw c.in-Err.is at c.requires) c.from-in-Err.ensures)

pub make-requires : goal.make-requires
make-requires c = let r = rw c.in-Ok.is at c.requires in rw r.0 r.1

pub returns-in-Ok : goal.returns-in-Ok
returns-in-Ok c = let r = rw c.in-Ok.is at c.requires in entry_made c.args.p.now (lend c.args.words.now c.args.states.now c.args.marks.now c.args.heap.now) c.in-Some.is (rw r.0 at c.make.ensures)
