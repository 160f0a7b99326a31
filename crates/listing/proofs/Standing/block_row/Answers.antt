-- `sections::block_row` prints a block's row from what the tables hold. Leans on `block_text`.
use mathlib.Core.Path.{◌∙◌}
use Rattle.listing.proofs.PrintLaws.{retext}
use Rattle.listing.proofs.SectionsLaws.{block_text}
use Rattle.listing.proofs.Standing.block_row.Goals as goal

pub returns : goal.returns
returns c = retext (block_text _ _ _ (c.from-state.ensures ∙ c.state.ensures) c.size-size.ensures c.set_named.ensures c.list_letter-list.ensures c.tls-holder.ensures) c.block_row.ensures
