-- `classes::bad_row` meets its contract: the first unfit row is named.
use mathlib.Core.Path.{sym}
use mathlib.Core.Bool.{not}
use native.Mathlib.Omega.{arith}
use Rattle.model.specs.SizeClasses.{row_at}
use Rattle.model.specs.Classes.{row_fits, is_bad_row, bad_row}
use Rattle.laws.proofs.Params.{good_bounds}
use Rattle.native_ms.proofs.Borders.{first_row, no_first_row}
use Rattle.native_ms.proofs.classes.bad_row.Goals as goal

pub returns-in_err-first : goal.returns-in_err-first
unfolding bad_row is_bad_row row_at
returns-in_err-first c =
    let p = c.args.space.now.p in
    let g = c.given-rows.ensures in
    rw c.from_residual.ensures (sym (no_first_row p.rows p.count g.rows g.length (λ r. not (row_fits p r)) c.first_unfit.ensures c.in_err-first.was
    (λ k a b. absurd (omega (arith, a, b, (good_bounds p c.args.space.now.good).rows_high)))))

pub returns : goal.returns
unfolding bad_row is_bad_row row_at
returns c =
    let p = c.args.space.now.p in
    let g = c.given-rows.ensures in
    (first_row p.rows p.count g.rows g.length (λ r. not (row_fits p r)) c.in_ok-first.first c.first_unfit.ensures c.in_ok-first.was, λ z. omega arith)
