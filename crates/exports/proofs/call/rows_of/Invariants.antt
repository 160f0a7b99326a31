-- `rows_of` meets its contract: each row passed is what its 24 bytes make.
use Prim.Native.Nat.{ℕ, ◌*◌, ◌<◌}
use mathlib.Core.Path.{◌≡◌}
use lib.ListN.{length, get_or}
use Rattle.model.specs.SizeClasses.{no_row}
use Rattle.model.specs.Exports.{row_bytes, row_from}
use Rattle.exports.proofs.call.rows_of.Given as goal

abbrev pub invariant-loop-i : goal.invariant-loop-i
invariant-loop-i l = (length l.row-items ≡ 48) × ((k : ℕ) → k < l.i → get_or l.row-items k no_row ≡ row_from l.rows (row_bytes * k))
