-- `classes::row_sizes` meets its contract. The invariant: n rows are written, and the rest is 0. Leans on `Written`.
use Rattle.native_ms.proofs.Borders.{Written}
use Rattle.native_ms.proofs.classes.row_sizes.Given as goal

abbrev pub invariant-loop-n : goal.invariant-loop-n
invariant-loop-n l = Written l.space.p.rows l.n l.sizes
