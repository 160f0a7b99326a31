use mathlib.Core.Path.{◌≡◌, sym}
use Prim.Native.Nat.{◌-◌}
use native.Mathlib.Omega.{arith}
use Rattle.native_ms.proofs.Each.{down_stop, down_step, down_end}
use Rattle.native_ms.proofs.SoundTests.{free_at, fit_bad, fit_some, counts, counts_one, unused_step, unused_end}
use Rattle.native_ms.proofs.sound.blocks.Blocks.unused.Goals as goal

pub returns-then-not-block_fits : goal.returns-then-not-block_fits
returns-then-not-block_fits c = fit_bad _ _ _ (sym (down_stop _ _ c.loop-b.invariant.all c.loop-b-test.true c.block_fits.ensures c.if-not-block_fits.true))

pub loop-b-preserved : goal.loop-b-preserved
loop-b-preserved c =
    let s = c.args.self.now.lent.now.states.now in
    let b = c.loop-b.b - 1 in
    let x : c.from-unused.result ≡ free_at s b = counts s b c.state.ensures c.from-unused.ensures in
    record {
      few = omega (arith, c.loop-b.invariant.few, c.loop-b-test.true, counts_one s b x);
      all = down_step _ _ c.loop-b.invariant.all c.loop-b-test.true c.block_fits.ensures c.if-not-block_fits.false;
      sum = unused_step s c.loop-b.unused c.loop-b.b c.loop-b-test.true c.loop-b.invariant.sum x;
    }

pub returns : goal.returns
returns c = fit_some _ _ _ (sym (down_end _ _ c.loop-b.invariant.all c.loop-b-test.false)) (unused_end _ _ _ c.loop-b-test.false c.loop-b.invariant.sum)
