-- What is proved of accepted rows and of what the checker names, on tables that meet the premises: the offices' table with its cell of
-- 72 bytes, and one that misses the count 9. The tables are computed.
use mathlib.Core.Path.{◌≡◌, refl, sym, ap, ◌∙◌}
use mathlib.Core.Bool.{true, false}
use mathlib.Core.List.{[], ◌∷◌}
use Prim.Native.Nat.{ℕ}
use native.Mathlib.Omega.{arith}
use Rattle.model.specs.declared.Params.{Params}
use Rattle.model.specs.Base.{sum_below, least_from, flag}
use Rattle.model.specs.SizeClasses.{row_at, covers}
use Rattle.model.specs.Classes.{block_words, rows_over, is_bad_count, row_fits, is_bad_row, bad_count, bad_row, classes_fit, OnlyRow, AcceptedCovers}
use Rattle.model.specs.Cases.{row, with_rows, offices}
use Rattle.laws.proofs.Rows.{names_the_first, accepted_covers}

pub offices_fit : classes_fit offices ≡ true
unfolding classes_fit bad_count bad_row is_bad_count is_bad_row row_fits rows_over block_words least_from sum_below flag covers row_at offices with_rows row
offices_fit = refl

-- nine words fall in one row, whose cell holds them
pub offices_nine : (n : ℕ) × OnlyRow offices 9 n
unfolding AcceptedCovers block_words offices with_rows
offices_nine = accepted_covers offices offices_fit (λ e. omega (arith, e)) 9 (omega arith) (omega arith)

unfoldable pub gapped : Params
gapped = with_rows (row 1 8 8 ∷ row 10 512 512 ∷ [])

gap : bad_count gapped ≡ 9
unfolding bad_count is_bad_count rows_over block_words least_from sum_below flag covers row_at gapped with_rows row
gap = refl

-- 9 is bad, and 8 is not
pub gap_named : (is_bad_count gapped 9 ≡ true) × (is_bad_count gapped 8 ≡ false)
gap_named =
    let r = (names_the_first gapped).count (λ e. omega (arith, sym gap ∙ e)) in
    (ap (is_bad_count gapped) (sym gap) ∙ r.2, r.3 8 (omega arith) (omega (arith, gap)))
