-- `sections::blocks_section` meets its contract: the head, then the rows. Leans on the laws of rows.
use Rattle.listing.proofs.PrintLaws.{retext, print_section}
use Rattle.listing.proofs.SectionsLaws.{blocks_section, blocks_count}
use Rattle.listing.proofs.Standing.blocks_section.Goals as goal

pub returns : goal.returns
returns c = retext (blocks_section _ _) (print_section _ _ _ (blocks_count c.args.self.now.words.now _ c.count_blocks.ensures) c.head.ensures c.block_rows.ensures)
