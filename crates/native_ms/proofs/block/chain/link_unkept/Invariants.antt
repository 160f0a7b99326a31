-- `chain::link_unkept` meets its contract. The loop's invariant: of the cells so far those that aren't kept are linked. Assumes nothing.
use Rattle.native_ms.proofs.Offsets.{Walking}
use Rattle.native_ms.proofs.block.chain.link_unkept.Given as goal

abbrev pub invariant-loop : goal.invariant-loop
invariant-loop g l = Walking l.space.p (goal.K-post g l.kept) l.fn.begin.span.size l.fn.begin.span.at l.fn.begin.span.count l.fn.begin.first l.fn.begin.head l.initial.heap l.counter l.offset l.bit l.last l.linked l.heap
