-- `text` meets its contract. The loop's invariant: the bytes passed are put. Leans on the laws of printing.
use lib.ListN.{take}
use Rattle.listing.specs.Print.{Puts}
use Rattle.listing.proofs.print.Page.text.Given as goal

abbrev pub invariant-loop-b : goal.invariant-loop-b
invariant-loop-b l = Puts l.initial.self l.self (take l.b-index l.s)
