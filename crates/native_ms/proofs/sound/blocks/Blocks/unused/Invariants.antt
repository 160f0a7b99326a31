-- `Blocks::unused` meets its contract: the blocks passed fit, and those of them that are Unallocated and those to come are all.
use Rattle.std.proofs.Common.{◌≡◌, ◌+◌, ◌≤◌}
use Rattle.model.specs.Base.{all_below, sum_below}
use Rattle.model.specs.Tables.{view}
use Rattle.native_ms.specs.SoundWalk.{block_fits}
use Rattle.native_ms.proofs.SoundTests.{free_at}
use Rattle.native_ms.proofs.sound.blocks.Blocks.unused.Given as goal

abbrev pub invariant-loop-b : goal.invariant-loop-b
invariant-loop-b l = let p = l.lent.space.now.p in let fits = block_fits p (view l.lent.words.now) l.lent.states.now in record {
  few : l.unused + l.b ≤ p.blocks;
  all : all_below l.b fits ≡ all_below p.blocks fits;
  sum : l.unused + sum_below l.b (free_at l.lent.states.now) ≡ sum_below p.blocks (free_at l.lent.states.now);
}
