-- `chain::count_swept` counts the cells that a sweep would free.
use native.Mathlib.Omega.{arith}
use borrow.Author.Rules.{rules}
use borrow.Author.Tests.{tests}
use Rattle.std.proofs.lemmas.Iterator.{YieldsList-from_range}
use Rattle.std.proofs.lemmas.Iterator.Consumers.{YieldsList-from_filter, count_from_yields_List}
use Rattle.model.specs.Block.{frees_cell}
use Rattle.listing.proofs.SectionsLaws.{swept_count}
use Rattle.listing.proofs.chain.count_swept.Goals as goal

pub returns : goal.returns
returns c =
    let test = λ (k : _). frees_cell c.params-p.result c.args.standing.now.marks.now c.args.b.0 c.first-w.result.size k in
    let cells = YieldsList-from_range 0 c.first-w.result.left c.first-w.result.left c.filter.ensures.source (omega arith) in
    swept_count _ _ _ c.params-p.ensures c.first-w.ensures
    (count_from_yields_List c.filter.result _ c.count.ensures.ran
    (YieldsList-from_filter _ test cells c.filter.ensures.closure (λ x r q k. search (rules, tests))))
