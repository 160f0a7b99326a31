-- What good parameters bound, as orders on their fields: `using` takes these to the goals of a function that require good parameters.
use Prim.Native.Nat.{ℕ, ◌+◌, ◌*◌, ◌<◌, ◌≤◌, ◌^◌}
use native.Mathlib.Omega.{arith}
use mathlib.Core.Path.{◌≡◌}
use mathlib.Core.Bool.{true}
use Rattle.model.specs.declared.Params.{Params}
use Rattle.model.specs.Params.{good_params}
use Rattle.laws.proofs.Params.{good_bounds, some_bytes, block_small, block_end}

pub bytes_some : (p : Params) → good_params p ≡ true → 0 < p.bytes
bytes_some p e = some_bytes p (good_bounds p e)

pub bytes_few : (p : Params) → good_params p ≡ true → p.bytes ≤ 65536
bytes_few p e = (good_bounds p e).bytes_high

pub blocks_few : (p : Params) → good_params p ≡ true → p.blocks ≤ 1024
blocks_few p e = (good_bounds p e).blocks_high

pub heap_few : (p : Params) → good_params p ≡ true → p.blocks * p.bytes ≤ 67108864
heap_few p e = (good_bounds p e).heap_high

pub heap_ends : (p : Params) → good_params p ≡ true → p.base + p.blocks * p.bytes ≤ 2 ^ 47
heap_ends p e = (good_bounds p e).end_high

pub rows_few : (p : Params) → good_params p ≡ true → p.count ≤ 48
rows_few p e = (good_bounds p e).rows_high

pub block_few : (p : Params) (b : ℕ) → good_params p ≡ true → b < p.blocks → b * p.bytes ≤ 67108864
block_few p b e h = omega (arith, block_end b p.blocks p.bytes h, (good_bounds p e).heap_high)

pub block_ends : (p : Params) (b : ℕ) → good_params p ≡ true → b < p.blocks → p.base + b * p.bytes ≤ 2 ^ 47
block_ends p b e h = omega (arith, block_small p (good_bounds p e) b h)
