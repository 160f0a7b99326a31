-- `checks::in_block` is `in_block`. Assumes nothing.
use native.Mathlib.Omega.{arith}
use Rattle.native_ms.proofs.SpaceCalls.{in_block_under, in_block_from, start_room}
use Rattle.native_ms.proofs.checks.in_block.Goals as goal

pub returns-then-x-v : goal.returns-then-x-v
returns-then-x-v c = in_block_under _ _ _ c.start-from.ensures c.if-x-v.true

pub overflow_add-result : goal.overflow_add-result
overflow_add-result c = omega (arith, start_room _ _ c.args.space.now.good c.requires c.start-from.ensures)

pub returns : goal.returns
returns c = in_block_from _ _ _ c.start-from.ensures c.if-x-v.false
