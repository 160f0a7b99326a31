-- `bin_table` meets its contract: the constant table is, entry for entry, what the rule gives. The whole table is compared by
-- one computation; no entry is written a second time.
use mathlib.Core.Path.{refl}
use lib.Count.{count_leading_zeros}
use Rattle.model.specs.SizeClasses.{mi_bin, words_in, highest_bit, bin_in_octave, bin_of_words, tabulated, bin_table}
use Rattle.size_table.proofs.bin_table.Goals as goal

pub returns : goal.returns
unfolding bin_table bin_of_words tabulated mi_bin words_in bin_in_octave highest_bit count_leading_zeros
returns c = refl
