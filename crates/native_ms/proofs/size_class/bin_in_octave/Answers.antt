-- `size_class::bin_in_octave` meets its contract: two bits below the highest one pick the bin of the octave.
use lib.Count.{count_leading_zeros}
use mathlib.Core.Path.{refl}
use native.Mathlib.Omega.{arith}
use lib.Bits.{mask_lt}
use Prim.Native.Nat.{◌-◌, ◌/◌, ◌^◌}
use Rattle.laws.proofs.Requests.{octave, octave_bin}
use Rattle.native_ms.proofs.size_class.bin_in_octave.Goals as goal

pub overflow_cast-b : goal.overflow_cast-b
overflow_cast-b c = omega (arith, (octave _ c.requires.0 c.requires.1).zeros_to)

pub overflow_sub-b : goal.overflow_sub-b
overflow_sub-b c = omega (arith, (octave _ c.requires.0 c.requires.1).zeros_to)

pub overflow_mul-result : goal.overflow_mul-result
overflow_mul-result c = omega (arith, (octave _ c.requires.0 c.requires.1).zeros_from)

pub overflow_sub-result : goal.overflow_sub-result
overflow_sub-result c = omega (arith, (octave _ c.requires.0 c.requires.1).zeros_to)

pub overflow_shr-result : goal.overflow_shr-result
overflow_shr-result c = omega (arith, (octave _ c.requires.0 c.requires.1).zeros_from)

pub overflow_add-result : goal.overflow_add-result
overflow_add-result c = record { fits = omega (arith, mask_lt (c.args.n / 2 ^ (63 - count_leading_zeros 64 c.args.n - 2)) 2) }

pub overflow_sub-result-2 : goal.overflow_sub-result-2
overflow_sub-result-2 c = omega (arith, (octave _ c.requires.0 c.requires.1).zeros_to)

pub returns : goal.returns
returns c = octave_bin _ refl
