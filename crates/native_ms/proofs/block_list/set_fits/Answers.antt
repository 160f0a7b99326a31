-- `block_list::set_fits` tests what `set_fits` asks, in order.
use mathlib.Core.Path.{sym, ◌∙◌}
use native.Mathlib.Omega.{arith}
use Rattle.laws.proofs.Params.{good_bounds}
use Rattle.native_ms.proofs.CountedLaws.{fits_params, fits_words, fits_records}
use Rattle.native_ms.proofs.block_list.set_fits.Goals as goal

pub returns-then-not-good_params : goal.returns-then-not-good_params
returns-then-not-good_params c = fits_params _ _ _ (sym c.good_params.ensures ∙ c.if-not-good_params.true)

pub overflow_mul-p : goal.overflow_mul-p
overflow_mul-p c = omega (arith, (good_bounds c.args.p (sym c.good_params.ensures ∙ c.if-not-good_params.false)).blocks_high)

pub overflow_add-p : goal.overflow_add-p
overflow_add-p c = omega (arith, (good_bounds c.args.p (sym c.good_params.ensures ∙ c.if-not-good_params.false)).blocks_high)

pub returns-then-words-p : goal.returns-then-words-p
returns-then-words-p c = fits_records _ _ _ (sym c.good_params.ensures ∙ c.if-not-good_params.false) c.if-words-p.true

pub returns-else-words-p : goal.returns-else-words-p
returns-else-words-p c = fits_words _ _ _ (sym c.good_params.ensures ∙ c.if-not-good_params.false) c.if-words-p.false
