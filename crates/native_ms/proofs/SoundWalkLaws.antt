-- Soundness as the code tests it: each block by itself; each list walked once, the walks sharing the count of blocks, so that
-- all lists together take as many steps as there are lists and blocks; each holder, each part. `SoundLaws` says that this is 01's soundness.
use Prim.Native.Nat.{ℕ}
use mathlib.Core.Bool.{Bool, ◌&&◌}
use mathlib.Core.List.{List}
use lib.Dec.{eqb}
use Rattle.model.specs.declared.Params.{Params}
use Rattle.model.specs.Base.{all_below}
use Rattle.model.specs.Params.{lists}
use Rattle.model.specs.Tables.{Words}
use Rattle.std.specs.Option.{option_eq}
use Rattle.std.proofs.Common.{Option, Some}
use Rattle.native_ms.specs.SoundWalk.{block_fits, parts_sound, passes, unused}

-- ---- walks

abbrev pub leaves : ℕ → Option ℕ → Bool
leaves n left = option_eq eqb left (Some n)

-- the blocks not met are the Unallocated ones, by their number
unfoldable pub lists_full : Params → Words → List ℕ → Bool
lists_full p w s = leaves (unused p s) (passes lists p w s p.blocks)

-- ---- all of it

unfoldable pub sound_walk : Params → Words → List ℕ → Bool
sound_walk p w s = parts_sound w && all_below p.blocks (block_fits p w s) && lists_full p w s
