-- `chain::link_by_bit` meets its contract. Assumes nothing.
use mathlib.Core.Path.{◌∙◌}
use Rattle.native_ms.proofs.Offsets.{bit_there, told_by, one_bit}
use Rattle.native_ms.proofs.block.chain.link_by_bit.Goals as goal

pub link_unkept-requires-clause-asked : goal.link_unkept-requires-clause-asked
link_unkept-requires-clause-asked c = record { may = λ k l. bit_there _ c.requires k l }

pub returns : goal.returns
returns c = λ kept b. c.link_unkept.ensures kept (record { told = λ k t l q. told_by _ c.requires k l b ∙ one_bit _ _ q })
