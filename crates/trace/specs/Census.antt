-- The listing of a trace, from what is lent.
use Rattle.std.specs.Prelude.{List, ℕ}
use Rattle.model.specs.Params.{Lent}
use Rattle.model.specs.Calls.{set_up}
use Rattle.model.specs.Census.{lines_of, census_params, run_lines, listing}

-- the listing of a trace, run after a set-up on this
unfoldable pub listed_from : Lent → List ℕ → List ℕ
listed_from l trace = listing (run_lines 1 (lines_of trace) (set_up census_params l).lent)
