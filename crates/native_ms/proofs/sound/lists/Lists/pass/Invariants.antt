-- `Lists::pass` meets its contract: what remains of the walk is the whole.
use mathlib.Core.Path.{◌≡◌}
use Rattle.model.specs.Tables.{view}
use Rattle.native_ms.specs.SoundWalk.{pass_from}
use Rattle.native_ms.proofs.sound.lists.Lists.pass.Given as goal

abbrev pub invariant-loop-a : goal.invariant-loop-a
invariant-loop-a l = pass_from l.left l.self.lent.now.space.now.p (view l.self.lent.now.words.now) l.self.lent.now.states.now l.list.at l.before.0 l.a.0 ≡ pass_from l.initial.left l.self.lent.now.space.now.p (view l.self.lent.now.words.now) l.self.lent.now.states.now l.list.at l.initial.before.0 l.initial.a.0

abbrev pub decreases-loop-a : goal.decreases-loop-a
decreases-loop-a l = l.left
