use Rattle.std.specs.Prelude.{◌≡◌, ◌-◌, ◌*◌, ◌/◌, ◌<◌, ◌≤◌, length, Option}
use mathlib.Core.Path.{refl, sym, ap, ◌∙◌}
use native.Mathlib.Omega.{arith}
use Rattle.model.specs.Calls.{Call}
use Rattle.model.specs.Answers.{outcome, outcome_of}
use Rattle.model.specs.Params.{Lent}
use Rattle.model.specs.Promise.{lend}
use Rattle.model.specs.RunCalls.{call_at, made}
use Rattle.native_ms.proofs.RunLaws.{row_call, tests_kept, round, round_end}
use Rattle.native_ms.proofs.run.run_all.Goals as goal

pub loop-i-init : goal.loop-i-init
loop-i-init c =
    let z : length c.args.calls.now / 6 - 0 ≡ length c.args.calls.now / 6 = omega arith in
    record { answers = refl; words = refl; states = refl; marks = refl; heap = refl; tested = c.requires.tested; whole = rw z refl }

pub loop-i-preserved : goal.loop-i-preserved
loop-i-preserved c =
    let k = c.loop-i in
    let calls = c.args.calls.now in
    let before : Lent = lend k.words k.states k.marks k.heap in
    let new = c.make_entry-said.new in
    let few : k.i < length calls / 6 = omega (arith, c.loop-i-test.true, c.as_chunks.ensures.front_len) in
    let done : outcome c.make_entry-said.result (lend new.words new.states new.marks new.heap) ≡ outcome_of (made c.args.p.now before (call_at calls (6 * k.i))) =
    c.make_entry-said.ensures ∙ ap (λ (e : Option Call). outcome_of (made c.args.p.now before e)) (row_call calls _ k.i _ c.entry_of-entry.ensures c.as_chunks.ensures.front few) in
    record {
      answers = c.put_said.auto.answers ∙ k.invariant.answers;
      words = c.make_entry-said.auto.words ∙ k.invariant.words;
      states = c.make_entry-said.auto.states ∙ k.invariant.states;
      marks = c.make_entry-said.auto.marks ∙ k.invariant.marks;
      heap = c.make_entry-said.auto.heap ∙ k.invariant.heap;
      tested = tests_kept c.args.tested (λ passed. passed.now.p) c.args.p.now k.words k.states k.marks k.heap k.invariant.tested (call_at calls (6 * k.i)) c.make_entry-said.auto.words c.make_entry-said.auto.states c.make_entry-said.auto.marks c.make_entry-said.auto.heap done;
      whole = round c.args.p.now calls (length calls / 6) k.i k.answers before few done c.put_said.ensures ∙ k.invariant.whole;
    }

pub returns : goal.returns
returns c =
    let k = c.loop-i in
    let all : length c.args.calls.now / 6 ≤ k.i = omega (arith, c.loop-i-test.false, c.as_chunks.ensures.front_len) in
    sym (round_end c.args.p.now c.args.calls.now (length c.args.calls.now / 6) k.i (6 * k.i) (5 * k.i) k.answers (lend k.words k.states k.marks k.heap) all) ∙ k.invariant.whole
