-- `eager::eager_ok` meets its contract: the blocks passed are as the choice asks, and those to come decide. Assumes nothing.
use mathlib.Core.Path.{◌≡◌}
use mathlib.Core.List.{[]}
use Rattle.model.specs.Base.{all_below}
use Rattle.model.specs.Tables.{view, tables_of}
use Rattle.model.specs.Sound.{eager_block}
use Rattle.native_ms.proofs.sound.eager.eager_ok.Given as goal

abbrev pub invariant-loop-b : goal.invariant-loop-b
invariant-loop-b l = let f = eager_block (tables_of (view l.lent.words.now) l.lent.states.now []) in all_below l.b f ≡ all_below l.lent.space.now.p.blocks f
