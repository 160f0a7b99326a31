-- `block_list::pages_used` is `pages_of` by the records' firsts.
use Rattle.native_ms.specs.Records.{firsts}
use Rattle.native_ms.proofs.block_list.pages_used.Goals as goal

pub returns : goal.returns
unfolding firsts
returns c = c.pages_of.ensures
