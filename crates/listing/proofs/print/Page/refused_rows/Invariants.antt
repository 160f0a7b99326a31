-- `refused_rows` meets its contract. The loop's invariant: the rows from the index on, put here, make all. Leans on the laws of rows.
use mathlib.Core.List.{flatten}
use lib.ListN.{drop}
use Rattle.listing.specs.Print.{refused_rows}
use Rattle.listing.proofs.PrintLaws.{Left}
use Rattle.listing.proofs.print.Page.refused_rows.Given as goal

abbrev pub invariant-loop-line : goal.invariant-loop-line
invariant-loop-line l = Left l.initial.self l.self (flatten (refused_rows l.refused)) (flatten (refused_rows (drop l.line-index l.refused)))
