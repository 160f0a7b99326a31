-- `chain::link_cells` meets its contract: no cell is kept. Assumes nothing.
use mathlib.Core.Path.{sym}
use Rattle.native_ms.proofs.Offsets.{extends_all}
use Rattle.native_ms.proofs.block.chain.link_cells.Goals as goal

pub returns : goal.returns
returns c = (extends_all _ _ _ _ _ _ (c.link_unkept-chain.ensures _ (record { told = λ k t l q. sym q }))).linked
