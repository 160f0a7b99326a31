-- `Lent::firsts` meets its contract: what is said of each set passed.
use mathlib.Core.Path.{◌≡◌}
use Prim.Native.Nat.{ℕ, ◌<◌}
use lib.ListN.{length}
use Rattle.native_ms.proofs.SoundLent.{set_is}
use Rattle.model.specs.Params.{sets}
use Rattle.native_ms.proofs.sound.known.Lent.firsts.Given as goal

abbrev pub invariant-loop-set : goal.invariant-loop-set
invariant-loop-set l = (length l.union-items ≡ sets) × ((k : ℕ) → k < l.set → set_is l.self.words.now l.union-items k)
