-- `free_counts::chained` meets its contract: the blocks passed are chained, and those to come decide. Assumes nothing.
use mathlib.Core.Path.{◌≡◌}
use Rattle.model.specs.Base.{all_below}
use Rattle.model.specs.Tables.{view}
use Rattle.native_ms.proofs.FreeCountLaws.{chained_at}
use Rattle.native_ms.proofs.free_counts.chained.Given as goal

abbrev pub invariant-loop-b : goal.invariant-loop-b
invariant-loop-b l = let f = chained_at l.lent.space.now.p (view l.lent.words.now) l.lent.states.now l.heap in all_below l.b f ≡ all_below l.lent.space.now.p.blocks f
