-- `Cells::next` meets its contract: the walk stands at a cell, or no cell is left.
use borrow.Author.Rules.{rules}
use Rattle.listing.proofs.SectionsLaws.{more_here, next_here, cells_fall, cells_more, cells_end}
use Rattle.listing.proofs.chain.CellsIterator.next.Goals as goal

pub returns-then-not-more-clause-steps : goal.returns-then-not-more-clause-steps
returns-then-not-more-clause-steps c =
    let e = cells_end c.args.self.now.heap.now _ (more_here _ c.params-p.ensures c.more.ensures c.if-not-more.true) in (e, e)

pub returns-clause-steps : goal.returns-clause-steps
returns-clause-steps c =
    rw (next_here _ c.params-p.ensures c.args.self.now.heap.now c.next-self.ensures)
    (cells_more _ _ (more_here _ c.params-p.ensures c.more.ensures c.if-not-more.false))

pub returns-clause-goes : goal.returns-clause-goes
returns-clause-goes c =
    let fall = cells_fall c.args.self.now.heap.now _ (more_here _ c.params-p.ensures c.more.ensures c.if-not-more.false) (next_here _ c.params-p.ensures _ c.next-self.ensures) in
    search rules
