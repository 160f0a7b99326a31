-- `block::init_block` meets its contract: all whole cells are linked, then head, size, holder and count set. Assumes nothing.
use Rattle.model.specs.Tables.{put_size, put_tls}
use Rattle.laws.proofs.Tables.{put_size_lem, put_tls_lem}
use Rattle.native_ms.proofs.Offsets.{block_places, initialised}
use Rattle.native_ms.proofs.block.init_block.Goals as goal

pub link_cells-head-requires : goal.link_cells-head-requires
link_cells-head-requires c = rw (c.of_block-span.ensures.0, c.of_block-span.ensures.1, c.of_block-span.ensures.2) (block_places _ c.requires.0 _ c.requires.1)

pub returns : goal.returns
unfolding put_size put_tls
returns c = initialised _ c.requires.0 _ _ _ _ c.of_block-span.ensures.2 (rw (c.of_block-span.ensures.0, c.of_block-span.ensures.1, c.of_block-span.ensures.2) at c.link_cells-head.ensures) c.set_chain.ensures (put_size_lem _ _ _ c.set_word.ensures) (put_tls_lem _ _ _ c.set_word-2.ensures)
