-- 02, R-5: "With 01's own sizes up to the block given as rows, every earlier answer returns on tables with no block in a higher bin",
-- as one proposition, `OwnRows`. crates/soundness proves it.
use Rattle.std.specs.Prelude.{if◌then◌else◌, ℕ, ◌+◌, ◌-◌, ◌<◌, ◌≤◌, ◌≡◌, ◌≢◌, List, eqb, get_or}
use Rattle.model.specs.declared.Params.{Params}
use Rattle.model.specs.declared.Row.{Row}
use Rattle.model.specs.Params.{Lent, max_rows}
use Rattle.model.specs.Tables.{view}
use Rattle.model.specs.SizeClasses.{class_words, mi_bin, tabulated}
use Rattle.model.specs.Block.{state_unallocated}
use Rattle.model.specs.Sound.{bin_named}
use Rattle.model.specs.Calls.{Call, call, set_up, pages, Question, ask}

-- the row of 01's bin n: the counts that no lower bin holds, in a cell of its size. Bins 0 and 1 are both of one word, so row 1 begins at 1
unfoldable pub own_row : ℕ → Row
own_row n =
    record { from = if eqb n 1 then 1 else get_or class_words (n - 1) 0 + 1; to = get_or class_words n 0; cell = get_or class_words n 0 }

-- "01's own sizes up to the block given as rows"
unfoldable pub with_own_rows : Params → Params
with_own_rows p =
    record { base = p.base; bytes = p.bytes; blocks = p.blocks; min = p.min; max = p.max; offsets = p.offsets; unified = p.unified; lower = p.lower; eager = p.eager; rows = tabulated own_row max_rows 1; count = mi_bin p.bytes }

-- "tables with no block in a higher bin"
unfoldable pub LowBins : Params → Lent → Type 0
LowBins p l =
    (b : ℕ) → b < p.blocks → get_or l.states b 0 ≢ state_unallocated → bin_named (view l.words) b ≤ mi_bin p.bytes

-- every answer, and everything lent after it
unfoldable pub OwnRows : Type 0
OwnRows =
    (p : Params) → p.count ≡ 0
    → ((l : Lent) → set_up (with_own_rows p) l ≡ set_up p l)
    × ((l : Lent) → LowBins p l → (c : Call) → call (with_own_rows p) l c ≡ call p l c)
    × ((words firsts : List ℕ) → pages (with_own_rows p) words firsts ≡ pages p words firsts)
    × ((l : Lent) → LowBins p l → (question : Question) → ask (with_own_rows p) l question ≡ ask p l question)
