-- `chain::link_edge` meets its contract. Assumes nothing.
use mathlib.Core.Path.{refl, sym}
use native.Mathlib.Omega.{arith}
use Rattle.native_ms.proofs.Offsets.{next_in}
use Rattle.native_ms.proofs.block.chain.link_edge.Goals as goal

pub link_unkept-requires-clause-asked : goal.link_unkept-requires-clause-asked
link_unkept-requires-clause-asked c =
    record { may = λ k l. let x = next_in _ _ _ _ _ _ c.requires.0 l refl in (omega (arith, x.ends, x.base), c.requires.1) }

pub returns : goal.returns
returns c = c.link_unkept.ensures _ (record { told = λ k t l q. sym q })
