-- `number_then` meets its contract. Leans on the laws of printing.
use borrow.Author.Rules.{rules}
use Rattle.listing.proofs.PrintLaws.{number_put}
use Rattle.listing.proofs.print.Page.number_then.Goals as goal

pub returns : goal.returns
returns c = number_put c.args.n _ (search rules) c.format.ensures.text c.as_bytes.ensures.value c.text.ensures c.byte.ensures
