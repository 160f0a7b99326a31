-- `run::run` promises `run_calls`: lists of another length, or what its calls are answered. Assumes nothing.
use mathlib.Core.Path.{sym, ◌∙◌}
use Rattle.model.specs.Answers.{reply_of}
use Rattle.model.specs.Promise.{lend}
use Rattle.native_ms.proofs.Tests.{open_good}
use Rattle.native_ms.proofs.RunLaws.{run_part, run_room, run_done}
use Rattle.native_ms.proofs.run.run.Goals as goal

pub returns-then-length-ne0 : goal.returns-then-length-ne0
unfolding reply_of
returns-then-length-ne0 c = run_part c.args.p (lend c.args.words.now c.args.states.now c.args.marks.now c.args.heap.now) c.args.calls.now c.args.answers.now c.if-length-ne0.true

pub returns-then-room-length : goal.returns-then-room-length
unfolding reply_of
returns-then-room-length c = run_room c.args.p (lend c.args.words.now c.args.states.now c.args.marks.now c.args.heap.now) c.args.calls.now c.args.answers.now c.if-length-ne0.false c.if-room-length.true

pub invariant_of-space : goal.invariant_of-space
invariant_of-space c = record { good = open_good c.args.p _ _ _ _ (sym c.check_lent.ensures ∙ c.in-Ok.is) }

pub returns-in-Err : goal.returns-in-Err
unfolding reply_of
returns-in-Err c = run_done c.args.p (lend c.args.words.now c.args.states.now c.args.marks.now c.args.heap.now) c.args.calls.now c.args.answers.now c.if-length-ne0.false c.if-room-length.false c.run_all.ensures

pub returns-in-Ok : goal.returns-in-Ok
unfolding reply_of
returns-in-Ok c = run_done c.args.p (lend c.args.words.now c.args.states.now c.args.marks.now c.args.heap.now) c.args.calls.now c.args.answers.now c.if-length-ne0.false c.if-room-length.false c.run_all-in-Ok.ensures
