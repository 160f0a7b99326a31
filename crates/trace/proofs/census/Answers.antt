-- src/lib.rt:66:9
use Rattle.trace.proofs.CensusLaws.{census_listed}
use Rattle.trace.proofs.census.Goals as goal

-- src/lib.rt:54:1

pub returns : goal.returns
returns c = census_listed _ c.run_and_list.ensures
