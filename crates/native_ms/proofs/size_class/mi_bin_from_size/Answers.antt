-- `size_class::mi_bin_from_size` meets its contract, by its tests. The largest class is 65,536 bytes.
use native.Mathlib.Omega.{arith}
use Rattle.model.specs.SizeClasses.{words_in}
use Rattle.laws.proofs.Requests.{bin_none, bin_one, bin_few, bin_many}
use Rattle.native_ms.proofs.size_class.mi_bin_from_size.Goals as goal

pub returns-then-size : goal.returns-then-size
returns-then-size c = bin_none _ c.if-size.true

pub returns-then-words-le1 : goal.returns-then-words-le1
returns-then-words-le1 c = bin_one _ c.if-size.false c.words_in-words.ensures c.if-words-le1.true

pub returns-then-words-le8 : goal.returns-then-words-le8
returns-then-words-le8 c = bin_few _ c.if-size.false c.words_in-words.ensures c.if-words-le1.false c.if-words-le8.true

pub bin_in_octave-requires : goal.bin_in_octave-requires
unfolding words_in
bin_in_octave-requires c = (omega arith, omega (arith, c.words_in-words.ensures))

pub returns : goal.returns
returns c = bin_many _ c.if-size.false c.words_in-words.ensures c.if-words-le1.false c.if-words-le8.false c.bin_in_octave.ensures
