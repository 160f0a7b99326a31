use mathlib.Core.Path.{sym, ◌∙◌}
use Rattle.listing.proofs.PrintLaws.{retext}
use Rattle.listing.specs.Sections.{occupied_in}
use Rattle.listing.proofs.SectionsLaws.{texts_cells, texts_start, texts_yes, texts_no, texts_end}
use Rattle.listing.proofs.Standing.cell_rows.Goals as goal
use Rattle.listing.proofs.Standing.cell_rows.Goals.{then-is_occupied, else-is_occupied}

pub loop-block-init : goal.loop-block-init
loop-block-init c = texts_start _ _ _ _

pub loop-block-preserved : goal.loop-block-preserved
loop-block-preserved c =
    elim c.if-is_occupied.branch [
      | then-is_occupied w ↦ rw w.page-is (texts_yes _ _ _ _ c.loop-block.invariant c.loop-block-test.true (sym c.is_occupied.ensures ∙ w.if-is_occupied.true) w.rows_of.ensures)
      | else-is_occupied w ↦ rw w.page-is (texts_no _ _ _ _ c.loop-block.invariant c.loop-block-test.true (sym c.is_occupied.ensures ∙ w.if-is_occupied.false))
    ]

pub returns : goal.returns
unfolding occupied_in
returns c = retext (texts_cells _ _ _ _ _) (texts_end _ _ _ _ c.loop-block.invariant c.loop-block-test.false)
