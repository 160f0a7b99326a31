-- `encode` meets its contract: the words passed are written.
use mathlib.Core.Path.{◌≡◌}
use lib.ListN.{take}
use Rattle.model.specs.Memory.{overwrite}
use Rattle.model.specs.Exports.{encoded}
use Rattle.exports.proofs.codec.encode.Given as goal

abbrev pub invariant-loop-k : goal.invariant-loop-k
invariant-loop-k l = l.b ≡ overwrite 0 (encoded (take l.k l.w)) l.initial.b
