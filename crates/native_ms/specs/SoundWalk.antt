-- Soundness as the code tests it: each block by itself; each list walked once, the walks sharing the count of blocks, so that
-- all lists together take as many steps as there are lists and blocks; each holder, each part. `SoundLaws` says that this is 01's soundness.
use Rattle.std.specs.Prelude.{if◌then◌else◌, Option, None, Some, option_and_then, ℕ, zero, suc, Bool, not, ◌&&◌, ◌||◌, List, eqb, leb, get_or}
use Rattle.model.specs.declared.Params.{Params}
use Rattle.model.specs.Base.{all_below, sum_below, flag}
use Rattle.model.specs.Params.{block_at, is_start, list_word, local_sets, lists, holders, parts}
use Rattle.model.specs.Tables.{Words}
use Rattle.model.specs.Block.{state_unallocated, state_unmarked, state_marked}
use Rattle.model.specs.Global.{phase_releasing, is_bound, has_released}
use Rattle.model.specs.Sound.{block_clear, size_ok, link_ok, tls_ok, owner_empty, in_gc_empty, phase_known, released_some}

-- ---- a block by itself

abbrev pub in_use : ℕ → Bool
in_use state = eqb state state_unmarked || eqb state state_marked

-- the list it names is one
abbrev pub names_list : Words → ℕ → Bool
names_list w b = leb 1 (get_or w.list b 0) && leb (get_or w.list b 0) lists

unfoldable pub block_fits : Params → Words → List ℕ → ℕ → Bool
block_fits p w st b =
    if eqb (get_or st b 0) state_unallocated then block_clear w b
    else (in_use (get_or st b 0) && names_list w b && size_ok p w b && link_ok p w b (get_or w.free b 0) && tls_ok w b)

unfoldable pub unused : Params → List ℕ → ℕ
unused p st = sum_below p.blocks (λ b. flag (eqb (get_or st b 0) state_unallocated))

-- how many blocks are Unallocated, if each block fits
unfoldable pub unused_if_fit : Params → Words → List ℕ → Option ℕ
unused_if_fit p w st = if all_below p.blocks (block_fits p w st) then Some (unused p st) else None

-- ---- walks

-- the block at a stands on the list behind the one at `before`
unfoldable pub stands_on : Params → Words → List ℕ → ℕ → ℕ → ℕ → Bool
stands_on p w st list before a =
    is_start p a && not (eqb (get_or st (block_at p a) 0) state_unallocated) && eqb (get_or w.list (block_at p a) 0) (list_word list)
    && eqb (get_or w.prev (block_at p a) 0) before

-- the list ends with the block at `before`
unfoldable pub last_is : Words → ℕ → ℕ → ℕ → Option ℕ
last_is w list before k = if eqb (get_or w.last list 0) before then Some k else None

-- the list from the address a on, with at most k blocks: how many of these are left
unfoldable pub pass_from : ℕ → Params → Words → List ℕ → ℕ → ℕ → ℕ → Option ℕ
pass_from zero p w st list before a = if eqb a 0 then last_is w list before zero else None
pass_from (suc k) p w st list before a =
    if eqb a 0 then last_is w list before (suc k)
    else (if stands_on p w st list before a then pass_from k p w st list a (get_or w.next (block_at p a) 0) else None)

-- the lists below j, the last first
unfoldable pub passes : ℕ → Params → Words → List ℕ → ℕ → Option ℕ
passes zero p w st left = Some left
passes (suc j) p w st left = option_and_then (passes j p w st) (pass_from left p w st j 0 (get_or w.first j 0))

-- ---- a holder, a part

unfoldable pub holder_fits : Words → ℕ → Bool
holder_fits w i =
    leb (get_or w.bound i 0) 1 && (is_bound w (suc i) || owner_empty w (local_sets (suc i)))
    && (not (has_released w (suc i)) || owner_empty w (local_sets (suc i)))

unfoldable pub part_fits : Words → ℕ → Bool
part_fits w part =
    leb (get_or w.released part 0) 1
    && (not (has_released w part) || (eqb w.phase phase_releasing && (eqb part 0 || is_bound w part)))

-- the phase, every part and every holder, and in-gc
unfoldable pub parts_sound : Words → Bool
parts_sound w = phase_known w && all_below parts (part_fits w) && released_some w && all_below holders (holder_fits w) && in_gc_empty w
