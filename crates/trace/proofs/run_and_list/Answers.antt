-- `run_and_list` meets its contract: set-up, the run and the listing, one after the other.
use Rattle.trace.proofs.CensusLaws.{listed}
use Rattle.trace.proofs.run_and_list.Goals as goal

pub returns : goal.returns
returns c =
    let s = c.standing.ensures in
    listed _ _ _ _ _ _ _ c.params.ensures c.set_up.ensures c.run-refused.ensures c.as_slice.ensures.value
    (rw (s.words, s.states, s.marks, s.heap) at c.listing.ensures)
