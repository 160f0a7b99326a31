-- `size_class::row_for` meets its contract: the first row that the words fall in is named.
use native.Mathlib.Omega.{arith}
use Rattle.model.specs.SizeClasses.{row_at, covers}
use Rattle.native_ms.proofs.Borders.{first_row, no_first_row, covers_past}
use Rattle.native_ms.proofs.size_class.row_for.Goals as goal

pub returns-in-Some : goal.returns-in-Some
unfolding row_at
returns-in-Some c =
    let p = c.args.p in
    let g = c.given-rows.ensures in
    first_row p.rows p.count g.rows g.length (λ r. covers r c.args.words) c.in-Some.n c.first_covering.ensures c.in-Some.is

pub returns-in-None : goal.returns-in-None
unfolding row_at
returns-in-None c =
    let p = c.args.p in
    let g = c.given-rows.ensures in
    no_first_row p.rows p.count g.rows g.length (λ r. covers r c.args.words) c.first_covering.ensures c.in-None.is
    (λ k a b. covers_past p.rows c.args.words k (omega (arith, a, g.all)))
