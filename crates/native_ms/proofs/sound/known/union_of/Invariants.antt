-- `known::union_of` meets its contract: the union of the words passed is 0 if each of them is.
use mathlib.Core.Path.{◌≡◌}
use lib.Dec.{eqb}
use Rattle.model.specs.Base.{all_below}
use Rattle.native_ms.specs.SoundLent.{zero_at}
use Rattle.native_ms.proofs.sound.known.union_of.Given as goal

abbrev pub invariant-loop-word : goal.invariant-loop-word
invariant-loop-word l = eqb l.union 0 ≡ all_below l.word-index (zero_at l.words l.from)
