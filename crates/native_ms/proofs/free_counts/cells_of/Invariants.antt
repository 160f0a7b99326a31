-- `free_counts::cells_of` meets its contract: the sum of the blocks passed. Assumes nothing.
use Rattle.std.proofs.Common.{◌≡◌, ◌*◌, ◌≤◌}
use Rattle.model.specs.Base.{sum_below}
use Rattle.model.specs.Tables.{view}
use Rattle.native_ms.specs.FewCells.{cells_in}
use Rattle.native_ms.proofs.free_counts.cells_of.Given as goal

abbrev pub invariant-loop-b : goal.invariant-loop-b
invariant-loop-b l = record { few : l.total ≤ l.b * 65536; sum : l.total ≡ sum_below l.b (cells_in (view l.lent.words.now) l.bin) }
