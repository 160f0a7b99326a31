-- `checks::minus_lower` takes L off a place. Leans on the laws of signed words and of good parameters. Assumes nothing.
use native.Mathlib.Omega.{arith}
use mathlib.Core.Path.{ap, ◌∙◌}
use Rattle.model.specs.Params.{lower_ok, biased, minus_lower}
use Rattle.laws.proofs.Good.{good}
use Rattle.laws.proofs.Params.{good_bounds}
use Rattle.native_ms.proofs.Lower.{back}
use Rattle.native_ms.proofs.checks.minus_lower.Goals as goal

pub biased-requires : goal.biased-requires
biased-requires c = let l = (good c.args.space.now.p c.args.space.now.good).lower_ok_lem in ap lower_ok (back c.args.space.now.p.lower l) ∙ l

pub overflow_sub-object : goal.overflow_sub-object
overflow_sub-object c = let l = (good c.args.space.now.p c.args.space.now.good).lower_ok_lem in omega (arith, (good_bounds c.args.space.now.p c.args.space.now.good).lower_high, c.biased.ensures ∙ ap biased (back c.args.space.now.p.lower l), c.requires.0)

pub returns : goal.returns
unfolding minus_lower
returns c = let l = (good c.args.space.now.p c.args.space.now.good).lower_ok_lem in rw (c.biased.ensures ∙ ap biased (back c.args.space.now.p.lower l))
