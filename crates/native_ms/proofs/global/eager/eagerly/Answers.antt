-- `eager::eagerly` is `eagerly`, its sweeps counted and made: nothing with the choice off, nothing before the last part. Assumes nothing.
use native.Mathlib.Omega.{arith}
use Rattle.native_ms.proofs.Offsets.{words_known}
use Rattle.native_ms.proofs.EagerLaws.{eager_off, eager_early, eager_last}
use Rattle.native_ms.proofs.global.eager.eagerly.Goals as goal

pub returns-then-not-space : goal.returns-then-not-space
returns-then-not-space c = eager_off _ _ _ _ _ _ c.if-not-space.true

pub is_last-requires : goal.is_last-requires
is_last-requires c = omega (arith, words_known _ c.requires.count)

pub returns-then-not-is_last : goal.returns-then-not-is_last
returns-then-not-is_last c = eager_early _ _ _ _ _ _ c.if-not-space.false c.is_last.ensures c.if-not-is_last.true

pub returns : goal.returns
returns c = eager_last _ _ _ _ _ _ c.if-not-space.false c.is_last.ensures c.if-not-is_last.false c.sweep_all-swept.ensures c.recycle_blocks.ensures c.recycle_blocks-2.ensures
