use Rattle.listing.proofs.PrintLaws.{puts_nil, print_round}
use Rattle.listing.proofs.print.Page.text.Goals as goal

pub loop-b-init : goal.loop-b-init
loop-b-init c = puts_nil _

pub loop-b-preserved : goal.loop-b-preserved
loop-b-preserved c = print_round _ _ c.loop-b-test.true c.loop-b.invariant c.byte.ensures
