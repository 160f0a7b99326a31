-- `marks::any_many` meets its contract: the run's three parts. Leans on the laws of runs; assumes nothing.
use mathlib.Core.Path.{sym, ◌∙◌}
use Rattle.native_ms.proofs.Span.{many_first, many_bytes, many_none, many_rest}
use Rattle.native_ms.proofs.Window.{not_zero}
use Rattle.native_ms.proofs.block.marks.any_many.Goals as goal
use Rattle.native_ms.proofs.block.marks.any_many.Goals.{then-any_head, else-any_head}

pub returns-then-any_byte : goal.returns-then-any_byte
returns-then-any_byte c =
    elim c.if-any_head.branch [
      | then-any_head w ↦ c.if-any_byte.true ∙ many_first _ _ _ c.requires.1 (sym c.any_head.ensures ∙ w.if-any_head.true)
      | else-any_head w ↦ c.if-any_byte.true ∙ many_bytes _ _ _ c.requires.1 (sym w.any_byte.ensures ∙ (sym w.value-is ∙ c.if-any_byte.true))
    ]

pub returns-then-rest-ne0 : goal.returns-then-rest-ne0
returns-then-rest-ne0 c =
    elim c.if-any_head.branch [
      | then-any_head w ↦ cc (w.value-is, c.if-any_byte.false)
      | else-any_head w ↦ many_rest _ _ _ c.requires.1 (sym c.any_head.ensures ∙ w.if-any_head.false) (sym w.any_byte.ensures ∙ (sym w.value-is ∙ c.if-any_byte.false)) c.any_few.ensures
    ]

pub returns-else-rest-ne0 : goal.returns-else-rest-ne0
returns-else-rest-ne0 c =
    elim c.if-any_head.branch [
      | then-any_head w ↦ cc (w.value-is, c.if-any_byte.false)
      | else-any_head w ↦ not_zero _ (many_none _ _ _ c.requires.1 (sym c.any_head.ensures ∙ w.if-any_head.false) (sym w.any_byte.ensures ∙ (sym w.value-is ∙ c.if-any_byte.false))) (λ ne. absurd (ne c.if-rest-ne0.false))
    ]
