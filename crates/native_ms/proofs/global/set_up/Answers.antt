-- `global::set_up` promises `set_up`: refused, or all tables and marks 0. Assumes nothing.
use Rattle.model.specs.Answers.{reply_of}
use Rattle.native_ms.proofs.SpaceCalls.{bad_set_up, bad_rows, set_up_done}
use Rattle.native_ms.proofs.Tests.{fit_parts}
use Rattle.native_ms.proofs.global.set_up.Goals as goal

pub returns-then-not-lent_fits : goal.returns-then-not-lent_fits
unfolding reply_of
returns-then-not-lent_fits c = bad_set_up _ _ _ _ _ c.lent_fits.ensures c.if-not-lent_fits.true

pub invariant_of-classes_fit : goal.invariant_of-classes_fit
invariant_of-classes_fit c = record { good = (fit_parts _ _ _ _ _ c.lent_fits.ensures c.if-not-lent_fits.false).good }

pub returns-then-not-classes_fit : goal.returns-then-not-classes_fit
unfolding reply_of
returns-then-not-classes_fit c = bad_rows _ _ _ _ _ c.lent_fits.ensures c.if-not-lent_fits.false c.classes_fit.ensures c.if-not-classes_fit.true

pub returns : goal.returns
unfolding reply_of
returns c = set_up_done _ _ _ _ _ c.lent_fits.ensures c.if-not-lent_fits.false c.classes_fit.ensures c.if-not-classes_fit.false c.clear_words.ensures c.clear_all.ensures c.clear_all-2.ensures
