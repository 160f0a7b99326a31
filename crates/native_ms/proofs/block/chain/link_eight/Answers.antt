-- `chain::link_eight` meets its contract: the bits of each cell lie alike in their bytes. Assumes nothing.
use mathlib.Core.Path.{sym, ◌∙◌}
use native.Mathlib.Omega.{arith}
use Rattle.native_ms.proofs.Offsets.{run, told_by, alike, words_are}
use Rattle.native_ms.proofs.block.chain.link_eight.Goals as goal

pub returns-then-begin-eq0 : goal.returns-then-begin-eq0
returns-then-begin-eq0 c =
    λ kept b. c.link_unkept.ensures kept (record { told = λ k t l q. told_by _ c.requires.0 k l (words_are _ 8 c.requires.1 b) ∙ sym q })

pub link_unkept-requires-2-clause-asked : goal.link_unkept-requires-2-clause-asked
link_unkept-requires-2-clause-asked c =
    record {
      may = λ k l.
          let a = alike _ c.requires.0 k l c.requires.1 in
          (omega (arith, (run _ c.requires.0 k l).fits, a, c.if-begin-eq0.false, c.requires.1), a);
    }

pub returns : goal.returns
returns c =
    λ kept b. c.link_unkept-2.ensures kept (record { told = λ k t l q. told_by _ c.requires.0 k l (words_are _ 8 c.requires.1 b) ∙ sym q })
