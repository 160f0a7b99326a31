-- `checks::lent_fits` is `fits`. Assumes nothing.
use Rattle.native_ms.proofs.Tests.{fits_bad, fits_good}
use Rattle.native_ms.proofs.checks.lent_fits.Goals as goal

pub returns-then-not-good_params : goal.returns-then-not-good_params
returns-then-not-good_params c = fits_bad _ _ _ _ _ c.good_params.ensures c.if-not-good_params.true

pub returns : goal.returns
returns c = fits_good _ _ _ _ _ c.good_params.ensures c.if-not-good_params.false c.lengths_fit.ensures
