-- The raised size as the code answers it: what it is where a block holds it, and else none. And the shifted address: what it is in
-- the ranges of a request, and else none.
use Rattle.std.specs.Prelude.{if◌then◌else◌, ℕ, ◌^◌, ◌&&◌, ltb, leb, Option, Some, None}
use Rattle.model.specs.declared.Address.{Address}
use Rattle.model.specs.declared.Params.{Params}
use Rattle.model.specs.SizeClasses.{raised, align_allocation}
use Rattle.model.specs.Calls.{too_big}

unfoldable pub raised_to : Params → ℕ → ℕ → Option ℕ
raised_to p size align = if too_big p size align then None else Some (raised p size align)

unfoldable pub shifted_to : ℕ → ℕ → ℕ → Option Address
shifted_to region align offset =
    if leb 1 align && leb align 64 && ltb region (2 ^ 47) && leb offset 65536
    then Some (record { 0 = align_allocation region align offset })
    else None
