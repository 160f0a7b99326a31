-- `load` meets its contract: each word passed is what its 8 bytes make.
use Prim.Native.Nat.{ℕ, ◌*◌, ◌<◌}
use mathlib.Core.Path.{◌≡◌}
use lib.ListN.{length, get_or}
use Rattle.model.specs.Memory.{load_bytes}
use Rattle.exports.proofs.codec.load.Given as goal

abbrev pub invariant-loop-i : goal.invariant-loop-i
invariant-loop-i l = (length l.w ≡ length l.initial.w) × ((k : ℕ) → k < l.i → get_or l.w k 0 ≡ load_bytes 8 l.b (8 * k))
