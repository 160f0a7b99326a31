-- `Lists::block_from` meets its contract.
use mathlib.Core.Logic.{inl, inr}
use native.Mathlib.Omega.{arith}
use Rattle.native_ms.proofs.SoundLent.{starts_low, starts_none, starts_here}
use Rattle.native_ms.proofs.sound.lists.Lists.block_from.Goals as goal
use Rattle.native_ms.proofs.sound.lists.Lists.block_from.Goals.{else-number-space-via-then-number-space+else-space-number, else-number-space-via-else-number-space}

pub returns-in_err-number : goal.returns-in_err-number
returns-in_err-number c = rw c.from_residual.ensures (starts_low c.args.self.now.lent.now.space.now.p c.args.a.0 (omega (arith, c.in_err-number.ensures)))

pub returns-then-space-number : goal.returns-then-space-number
returns-then-space-number c = let h = starts_here c.args.self.now.lent.now.space.now.p c.args.self.now.lent.now.space.now.good c.args.self.now.log c.args.self.now.power c.args.a.0 c.in_ok-number.ensures.0 c.in_ok-number.ensures.1 c.if-number-space.true c.if-space-number.true in (c.if-number-space.true, h.0, h.1)

pub returns-else-number-space : goal.returns-else-number-space
returns-else-number-space c =
    starts_none c.args.self.now.lent.now.space.now.p c.args.self.now.lent.now.space.now.good c.args.self.now.log c.args.self.now.power c.args.a.0 c.in_ok-number.ensures.0 c.in_ok-number.ensures.1
    (elim c.else-number-space.branch [ else-number-space-via-then-number-space+else-space-number w ↦ inr w.if-space-number.false | else-number-space-via-else-number-space w ↦ inl w.if-number-space.false ])
