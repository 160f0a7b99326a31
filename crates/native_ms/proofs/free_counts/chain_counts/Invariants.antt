-- `free_counts::chain_counts` meets its contract: what is left to count from here is the whole. Assumes nothing.
use Rattle.std.proofs.Common.{◌≡◌, ◌-◌}
use Rattle.model.specs.Sound.{chain_counts}
use Rattle.native_ms.proofs.free_counts.chain_counts.Given as goal

abbrev pub invariant-loop : goal.invariant-loop
invariant-loop l = chain_counts (l.count - l.counter) l.space.p l.heap l.b.0 l.size l.at ≡ chain_counts l.count l.space.p l.heap l.b.0 l.size l.head
