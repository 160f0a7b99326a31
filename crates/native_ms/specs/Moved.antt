-- What is appended, and how many blocks that is: what the code of 02's R-6 is seen by, one record for both.
use Rattle.std.specs.Prelude.{ℕ}
use Rattle.model.specs.declared.Params.{Params}
use Rattle.model.specs.Base.{each_below}
use Rattle.model.specs.Params.{abandoned, in_gc, bins}
use Rattle.model.specs.Tables.{Words}
use Rattle.model.specs.BlockList.{append, appended}
use Rattle.model.specs.Global.{abandon_bin, abandoned_bin, abandoned_below, part_released, merged}
use Rattle.native_ms.specs.Space.{collected}

-- how many blocks were moved, and the words then
pub record Moved : Type 0 where
  pub number : ℕ
  pub words : Words

abbrev pub moved : ℕ → Words → Moved
moved n w = record { number = n; words = w }

-- the list `other` behind the list
unfoldable pub append_moves : Params → ℕ → ℕ → Words → Moved
append_moves p list other w = moved (appended p other w) (append p list other w)

-- one bin of an owner's lists behind another's, and the bins below n
unfoldable pub bin_moves : Params → ℕ → ℕ → ℕ → Words → Moved
bin_moves p to from bin w = moved (abandoned_bin p to from bin w) (abandon_bin p to from bin w)

unfoldable pub bins_move : ℕ → Params → ℕ → ℕ → Words → Moved
bins_move n p to from w = moved (abandoned_below n p to from w) (each_below n (abandon_bin p to from) w)

-- the end of a collection, and that of a release
unfoldable pub end_moves : Params → Words → Moved
end_moves p w = moved (abandoned_below bins p abandoned in_gc w) (collected p w)

unfoldable pub part_moves : Params → ℕ → Words → Moved
part_moves p part w = moved (merged p part w) (part_released p part w)
