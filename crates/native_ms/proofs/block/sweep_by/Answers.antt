-- `block::sweep_by` meets its contract: the free cells are linked then head and count are set. Assumes nothing.
use native.Mathlib.Omega.{arith}
use Rattle.native_ms.specs.Block.{kept_by}
use Rattle.native_ms.proofs.Chains.{block_room, swept_by}
use Rattle.native_ms.proofs.Offsets.{swept_in_lem, sized_standing, sweep_reach, extends_all}
use Rattle.native_ms.proofs.block.sweep_by.Goals as goal
use Rattle.native_ms.proofs.block.sweep_by.Goals.{then-is_whole_words, else-is_whole_words}

pub of_block-span-requires : goal.of_block-span-requires
of_block-span-requires g c = let ww = c.is_whole_words.ensures c.if-is_whole_words.true in ((sized_standing _ _ c.requires c.cells_of-size.ensures.size ww).block, omega (arith, ww.word))

pub link-chain-requires : goal.link-chain-requires
link-chain-requires g c = let ww = c.is_whole_words.ensures c.if-is_whole_words.true in rw (c.of_block-span.ensures.0, c.of_block-span.ensures.1, c.of_block-span.ensures.2) (sweep_reach _ c.requires (sized_standing _ _ c.requires c.cells_of-size.ensures.size ww) ww)

pub link_unmarked-chain-requires : goal.link_unmarked-chain-requires
link_unmarked-chain-requires g c = block_room _ c.args.b.0 _ c.args.space.now.good c.cell_count-count.ensures c.start-from.ensures

pub returns : goal.returns
returns g c =
    elim c.if-is_whole_words.branch [
      | then-is_whole_words w ↦
          let stands = sized_standing _ _ c.requires c.cells_of-size.ensures.size (c.is_whole_words.ensures w.if-is_whole_words.true) in
          rw w.heap-is (swept_in_lem _ stands (kept_by g.S.Sweeper.simple c.args.space.now.p c.args.marks.now) _ _ c.cells_of-size.ensures.size (extends_all _ _ _ _ _ _ (rw (w.of_block-span.ensures.0, w.of_block-span.ensures.1, w.of_block-span.ensures.2) at w.link-chain.ensures)) (rw w.chain-is at c.set_chain.ensures))
      | else-is_whole_words w ↦
          rw w.heap-is (swept_by _ (kept_by g.S.Sweeper.simple c.args.space.now.p c.args.marks.now) _ _ _ c.cells_of-size.ensures.size w.cell_count-count.ensures w.start-from.ensures w.link_unmarked-chain.ensures (rw w.chain-is at c.set_chain.ensures))
    ]
