-- `Lists::pass_set` meets its contract: what remains of the lists is all of them.
use mathlib.Core.Path.{◌≡◌}
use Prim.Native.Nat.{◌+◌, ◌≤◌}
use Rattle.model.specs.Tables.{view}
use Rattle.model.specs.Params.{bins}
use Rattle.native_ms.specs.SoundWalk.{passes}
use Rattle.native_ms.proofs.sound.lists.Lists.pass_set.Given as goal

abbrev pub invariant-loop-list : goal.invariant-loop-list
invariant-loop-list l = (l.from ≤ l.list) × (passes l.list l.self.lent.now.space.now.p (view l.self.lent.now.words.now) l.self.lent.now.states.now l.left ≡ passes (l.from + bins) l.self.lent.now.space.now.p (view l.self.lent.now.words.now) l.self.lent.now.states.now l.initial.left)
