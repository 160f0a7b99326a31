-- `awaits_sweep` meets its contract: one of the three letters, or none of them. Assumes nothing.
use mathlib.Core.Path.{ap, ◌∙◌}
use mathlib.Core.Logic.{⊎_elim}
use native.Mathlib.Omega.{arith}
use Rattle.model.specs.Census.{letter}
use Rattle.listing.proofs.SectionsLaws.{awaits_local, awaits_abandoned, awaits_gc, awaits_none}
use Rattle.listing.proofs.Standing.awaits_sweep.Goals as goal

pub returns-in-85 : goal.returns-in-85
returns-in-85 c =
    let e = c.list_letter-list.ensures ∙ ap letter c.set_named.ensures in
    ⊎_elim (awaits_local _ _ e) (λ h. ⊎_elim (awaits_gc _ _ e) (awaits_abandoned _ _ e) h) c.in-85.is

pub returns-in_default : goal.returns-in_default
returns-in_default c =
    awaits_none _ _ (c.list_letter-list.ensures ∙ ap letter c.set_named.ensures) (λ e. grind arith) (λ e. grind arith) (λ e. grind arith)
