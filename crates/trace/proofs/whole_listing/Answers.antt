-- `whole_listing` meets its contract: the array has room for every listing.
use borrow.Author.Rules.{rules}
use Rattle.trace.proofs.Whole.{census_whole}
use Rattle.trace.proofs.whole_listing.Goals as goal

pub returns : goal.returns
returns c = census_whole _ (search rules) c.census.ensures
