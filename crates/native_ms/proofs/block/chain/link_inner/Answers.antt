-- `chain::link_inner` meets its contract: a test of bits for each kind of cell. Assumes nothing.
use mathlib.Core.Path.{sym, ◌∙◌}
use native.Mathlib.Omega.{arith}
use Rattle.native_ms.proofs.Offsets.{run, told_by}
use Rattle.native_ms.proofs.block.chain.link_inner.Goals as goal

pub link_unkept-requires-clause-asked : goal.link_unkept-requires-clause-asked
link_unkept-requires-clause-asked c = record { may = λ k l. (run _ c.requires k l, omega (arith, c.if-size-le64.true)) }

pub returns-then-size-le64 : goal.returns-then-size-le64
returns-then-size-le64 c = λ kept b. c.link_unkept.ensures kept (record { told = λ k t l q. told_by _ c.requires k l b ∙ sym q })

pub link_unkept-requires-2-clause-asked : goal.link_unkept-requires-2-clause-asked
link_unkept-requires-2-clause-asked c = record { may = λ k l. (run _ c.requires k l, omega (arith, c.requires.aligned, c.if-size-le64.false)) }

pub returns : goal.returns
returns c = λ kept b. c.link_unkept-2.ensures kept (record { told = λ k t l q. told_by _ c.requires k l b ∙ sym q })
