-- `checks::check_lent` makes the tests of `lent_tests`, in order. Assumes nothing.
use mathlib.Core.Path.{refl, sym, ◌∙◌}
use Rattle.model.specs.declared.Refusal.TheVariants.{BadSetup, BadTables, BadClasses}
use Rattle.native_ms.specs.Checked.{lent_tests}
use Rattle.native_ms.proofs.Tests.{fit_parts, test_no, test_yes, then_refused, then_passed}
use Rattle.native_ms.proofs.checks.check_lent.Goals as goal

pub returns-then-not-lent_fits : goal.returns-then-not-lent_fits
unfolding lent_tests
returns-then-not-lent_fits c = then_refused _ (test_no BadSetup c.lent_fits.ensures c.if-not-lent_fits.true) refl

pub invariant_of-classes_fit : goal.invariant_of-classes_fit
invariant_of-classes_fit c = record { good = (fit_parts _ _ _ _ _ c.lent_fits.ensures c.if-not-lent_fits.false).good }

pub returns-then-not-classes_fit : goal.returns-then-not-classes_fit
unfolding lent_tests
returns-then-not-classes_fit c = then_passed _ (test_yes BadSetup c.lent_fits.ensures c.if-not-lent_fits.false) refl (then_refused _ (test_no BadClasses c.classes_fit.ensures c.if-not-classes_fit.true) refl)

pub sound_on-requires : goal.sound_on-requires
sound_on-requires c = let f = fit_parts _ _ _ _ _ c.lent_fits.ensures c.if-not-lent_fits.false in (record { good = f.good; words = f.words; states = f.states }, sym c.classes_fit.ensures ∙ c.if-not-classes_fit.false)

pub returns-then-not-sound_on : goal.returns-then-not-sound_on
unfolding lent_tests
returns-then-not-sound_on c = then_passed _ (test_yes BadSetup c.lent_fits.ensures c.if-not-lent_fits.false) refl (then_passed _ (test_yes BadClasses c.classes_fit.ensures c.if-not-classes_fit.false) refl (test_no BadTables (c.sound_on.ensures c.args.marks.now) c.if-not-sound_on.true))

pub returns : goal.returns
unfolding lent_tests
returns c = then_passed _ (test_yes BadSetup c.lent_fits.ensures c.if-not-lent_fits.false) refl (then_passed _ (test_yes BadClasses c.classes_fit.ensures c.if-not-classes_fit.false) refl (test_yes BadTables (c.sound_on.ensures c.args.marks.now) c.if-not-sound_on.false))
