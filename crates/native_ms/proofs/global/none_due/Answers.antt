use native.Mathlib.Omega.{arith}
use Rattle.native_ms.proofs.SoundTests.{none_first, none_due, then_due, then_passed, then_unbound}
use Rattle.native_ms.proofs.global.none_due.Goals.{else-is_bound-via-then-is_bound+else-not-released, else-is_bound-via-else-is_bound}
use Rattle.native_ms.proofs.global.none_due.Goals as goal

pub loop-holder-init : goal.loop-holder-init
loop-holder-init g c = (c.requires, λ t s f. none_first t _ (omega arith))

pub returns-then-not-released : goal.returns-then-not-released
returns-then-not-released g c = λ t s f. then_due _ t s _ c.is_bound.ensures c.loop-holder.auto.holder c.if-is_bound.true (f _ _ c.released.ensures) (omega (arith, c.loop-holder-test.true)) c.if-not-released.true

pub loop-holder-preserved : goal.loop-holder-preserved
loop-holder-preserved g c = (c.loop-holder.invariant.0, λ t s f. elim c.else-is_bound.branch [ else-is_bound-via-then-is_bound+else-not-released w ↦ then_passed _ t s _ c.is_bound.ensures w.if-is_bound.true (f _ _ w.released.ensures) w.if-not-released.false (c.loop-holder.invariant.1 t s f) | else-is_bound-via-else-is_bound w ↦ then_unbound _ t s _ c.is_bound.ensures w.if-is_bound.false (c.loop-holder.invariant.1 t s f) ])

pub returns : goal.returns
returns g c = λ t s f. none_due t _ c.loop-holder-test.false (c.loop-holder.invariant.1 t s f) (f _ _ c.released-2.ensures)
