-- `block_list::pages_of` answers as `pages` does: the count of all bins gives the answer.
use Rattle.std.proofs.Common.{sym, ◌∙◌}
use native.Mathlib.Omega.{arith}
use Rattle.std.proofs.lemmas.List.{length-map}
use Rattle.model.specs.Answers.{count_reply}
use Rattle.laws.proofs.Params.{good_bounds}
use Rattle.native_ms.proofs.CountedLaws.{pages_fit, fits_good, fits_count, pages_off, pages_bad, pages_some}
use Rattle.native_ms.proofs.block_list.pages_of.Goals as goal

pub returns-then-not-set_fits : goal.returns-then-not-set_fits
unfolding count_reply
returns-then-not-set_fits g c = pages_off _ _ _ (length-map c.args.lists.now g.L.Starts.first_of) (sym c.set_fits.ensures ∙ c.if-not-set_fits.true)

pub invariant_of-count_bins : goal.invariant_of-count_bins
invariant_of-count_bins g c = record { good = fits_good _ _ _ (sym c.set_fits.ensures ∙ c.if-not-set_fits.false) }

pub count_bins-requires : goal.count_bins-requires
count_bins-requires g c = fits_count _ _ _ (sym c.set_fits.ensures ∙ c.if-not-set_fits.false)

pub overflow_mul-result : goal.overflow_mul-result
overflow_mul-result g c = omega (arith, pages_fit c.args.p _ _ c.count_bins.ensures (good_bounds c.args.p (fits_good _ _ _ (sym c.set_fits.ensures ∙ c.if-not-set_fits.false))) c.in-Some.is)

pub returns-in-None : goal.returns-in-None
unfolding count_reply
returns-in-None g c = pages_bad _ _ _ (length-map c.args.lists.now g.L.Starts.first_of) (sym c.set_fits.ensures ∙ c.if-not-set_fits.false) c.count_bins.ensures c.in-None.is

pub returns-in-Some : goal.returns-in-Some
unfolding count_reply
returns-in-Some g c = pages_some _ _ _ (length-map c.args.lists.now g.L.Starts.first_of) (sym c.set_fits.ensures ∙ c.if-not-set_fits.false) c.count_bins.ensures c.in-Some.is
