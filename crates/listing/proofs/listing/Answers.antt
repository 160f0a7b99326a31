-- `listing` meets its contract: the three sections, one behind the other, and the buffer handed back.
use mathlib.Core.Path.{refl}
use borrow.Author.Rules.{rules}
use Rattle.listing.proofs.SectionsLaws.{three_put}
use Rattle.listing.proofs.listing.Goals as goal

pub returns : goal.returns
returns c = three_put _ _ _ _ _ refl c.refused_section.ensures c.blocks_section.ensures c.free_section.ensures (search rules)
