-- `allocator::rest_of` meets its contract: the rest by a power of two is a mask.
use mathlib.Core.Path.{sym, ◌∙◌}
use Rattle.native_ms.proofs.Powers.{mask_rest}
use Rattle.native_ms.proofs.allocator.rest_of.Goals as goal

pub returns-then-is_power_of_two : goal.returns-then-is_power_of_two
returns-then-is_power_of_two c = mask_rest c.args.number c.args.align c.ranges.align.fits (sym c.is_power_of_two.ensures ∙ c.if-is_power_of_two.true)
