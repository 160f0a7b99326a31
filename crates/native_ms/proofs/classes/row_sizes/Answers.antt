use native.Mathlib.Omega.{arith}
use Rattle.laws.proofs.Params.{good_bounds}
use Rattle.native_ms.proofs.Borders.{row_given, written_start, written_step, written_all, written_sizes}
use Rattle.native_ms.proofs.classes.row_sizes.Goals as goal

pub loop-n-init : goal.loop-n-init
loop-n-init c = written_start _

pub loop-n-preserved : goal.loop-n-preserved
loop-n-preserved c =
    let p = c.args.space.now.p in
    let few = c.given-rows.ensures.length in
    rw (row_given p.rows p.count c.given-rows.ensures.rows few c.loop-n.n (omega (arith, c.loop-n-test.true)))
    (written_step p.rows c.loop-n.n c.loop-n.sizes (omega (arith, c.loop-n-test.true)) c.loop-n.invariant)

pub returns : goal.returns
returns c =
    let p = c.args.space.now.p in
    let b = good_bounds p c.args.space.now.good in
    let few = c.given-rows.ensures.length in
    written_sizes p b c.requires.0 c.requires.1 c.loop-n.sizes
    (written_all _ _ _ _ (omega (arith, c.loop-n.auto.n-end)) (omega (arith, c.loop-n-test.false, b.rows_high)) c.loop-n.invariant)
