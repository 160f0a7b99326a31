-- `block::link_unmarked` meets its contract. The loop's invariant: of the cells so far those that aren't kept are linked. Assumes nothing.
use Rattle.native_ms.specs.Block.{kept_by}
use Rattle.native_ms.proofs.Chains.{Linking}
use Rattle.native_ms.proofs.block.link_unmarked.Given as goal

abbrev pub invariant-loop-seen : goal.invariant-loop-seen
invariant-loop-seen g l = Linking l.space.p (kept_by g.S.Sweeper.simple l.space.p l.marks l.size) l.from.0 l.size l.seen l.initial.heap l.last l.linked l.heap
