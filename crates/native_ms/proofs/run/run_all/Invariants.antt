-- `run::run_all` makes the calls one after the other. The invariant: the first tests say of what is lent what they said, and what remains
-- from here is the whole. Assumes nothing.
use Prim.Native.Nat.{◌-◌, ◌*◌, ◌/◌}
use mathlib.Core.Path.{◌≡◌}
use lib.ListN.{length}
use Rattle.model.specs.Promise.{lend}
use Rattle.model.specs.RunCalls.{run_from}
use Rattle.native_ms.specs.RunLoop.{Tested, laid}
use Rattle.native_ms.proofs.run.run_all.Given as goal

abbrev pub invariant-loop-i : goal.invariant-loop-i
invariant-loop-i l = record {
  answers : length l.answers ≡ length l.initial.answers;
  words : length l.words ≡ length l.initial.words;
  states : length l.states ≡ length l.initial.states;
  marks : length l.marks ≡ length l.initial.marks;
  heap : length l.heap ≡ length l.initial.heap;
  tested : Tested l.tested (λ passed. passed.now.p) l.p (lend l.words l.states l.marks l.heap);
  whole : laid (5 * l.i) l.answers (run_from (length l.calls / 6 - l.i) l.p (lend l.words l.states l.marks l.heap) l.calls (6 * l.i))
      ≡ laid 0 l.initial.answers (run_from (length l.calls / 6) l.p (lend l.initial.words l.initial.states l.initial.marks l.initial.heap) l.calls 0);
}
