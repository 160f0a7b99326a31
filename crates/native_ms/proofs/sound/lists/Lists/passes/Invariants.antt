-- `Lists::passes` meets its contract: what remains of the sets is all of them.
use mathlib.Core.Path.{◌≡◌}
use Prim.Native.Nat.{◌*◌}
use Rattle.model.specs.Tables.{view}
use Rattle.model.specs.Params.{sets, bins}
use Rattle.native_ms.specs.SoundWalk.{passes}
use Rattle.native_ms.proofs.sound.lists.Lists.passes.Given as goal

abbrev pub invariant-loop-set : goal.invariant-loop-set
invariant-loop-set l = passes (bins * l.set) l.self.lent.now.space.now.p (view l.self.lent.now.words.now) l.self.lent.now.states.now l.left ≡ passes (bins * sets) l.self.lent.now.space.now.p (view l.self.lent.now.words.now) l.self.lent.now.states.now l.initial.left
