-- Tests and steps of the space's calls that the machine has no name for.
use Rattle.std.specs.Prelude.{ℕ, ◌+◌, Bool, ◌&&◌, ltb, leb, replicate}
use Rattle.model.specs.declared.Params.{Params}
use Rattle.model.specs.Params.{start, parts, abandoned, in_gc}
use Rattle.model.specs.Tables.{Words, set_phase, with_released}
use Rattle.model.specs.Global.{phase_running, abandon_blocks}

-- an address lies in the block b
unfoldable pub in_block : Params → ℕ → ℕ → Bool
in_block p b a = leb (start p b) a && ltb a (start p b + p.bytes)

-- the end of a collection
unfoldable pub collected : Params → Words → Words
collected p w = set_phase phase_running (with_released (replicate parts 0) (abandon_blocks p abandoned in_gc w))
