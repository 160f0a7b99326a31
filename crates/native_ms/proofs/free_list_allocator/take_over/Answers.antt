-- `free_list_allocator::take_over` gives the block its holder, sweeps it if it was unswept, and files it. One law for each arm.
use Rattle.laws.proofs.Tables.{put_tls_lem}
use Rattle.native_ms.proofs.Abandoned.{over_available, over_unswept}
use Rattle.native_ms.proofs.free_list_allocator.take_over.Goals as goal

pub returns-then-next : goal.returns-then-next
returns-then-next c = rw (← c.block_at-b.ensures) (over_unswept _ _ _ _ _ _ _ c.owner-owner.ensures c.lists-own.ensures.available c.lists-own.ensures.consumed (put_tls_lem _ _ _ c.set_tls.ensures) c.if-next.true c.sweep.ensures c.file_block.ensures)

pub returns : goal.returns
returns c = rw (← c.block_at-b.ensures) (over_available _ _ _ _ _ _ _ c.owner-owner.ensures c.lists-own.ensures.available c.lists-own.ensures.consumed (put_tls_lem _ _ _ c.set_tls.ensures) c.if-next.false c.file_block-2.ensures)
