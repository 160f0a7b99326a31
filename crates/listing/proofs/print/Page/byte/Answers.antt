-- `byte` meets its contract. Leans on the laws of printing.
use mathlib.Core.Path.{refl}
use Rattle.laws.proofs.Text.{printed_byte, printed_full}
use Rattle.listing.proofs.print.Page.byte.Goals as goal

pub returns-then-self : goal.returns-then-self
returns-then-self c = record { printed = printed_byte _ _ _ c.if-self.true; same_reference = refl }

pub returns-else-self : goal.returns-else-self
returns-else-self c = record { printed = printed_full _ _ _ c.if-self.false; same_reference = refl }
