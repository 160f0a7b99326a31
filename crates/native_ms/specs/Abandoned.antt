-- One turn of the search of abandoned blocks, as the code cuts it: a block is popped, and then taken over.
use Rattle.std.specs.Prelude.{if◌then◌else◌, ℕ, ◌≡◌, Bool, true, false, not, List, eqb, get_or, Option, Some, None}
use Rattle.model.specs.declared.Params.{Params}
use Rattle.model.specs.Params.{local_sets, abandoned, available, unswept, consumed}
use Rattle.model.specs.Tables.{Words, set_tls}
use Rattle.model.specs.BlockList.{Popped, push, pop}
use Rattle.native_ms.specs.declared.free_list_allocator.Abandoned.{Abandoned}
use Rattle.model.specs.Block.{link_all, sweep_chain, swept_words}

-- the next abandoned block: where it starts, 0 for none; whether it waits for a sweep; the words after
pub record Next : Type 0 where
  pub at : ℕ
  pub unswept : Bool
  pub words : Words

abbrev pub next_of : ℕ → Bool → Words → Next
next_of a q t = record { at = a; unswept = q; words = t }

-- the same as the code gives it: where there is none, the unswept blocks were looked for last
abbrev pub next_seen : Option Abandoned → Words → Next
next_seen (Some next) t = next_of next.at.at.0 next.unswept t
next_seen None t = next_of 0 true t

-- an available one, or else an unswept one
unfoldable pub pop_abandoned : Params → ℕ → Words → Next
pop_abandoned p bin t =
    let g : Popped = pop p (available abandoned bin) t in
    let g' : Popped = pop p (unswept abandoned bin) g.words in
    if eqb g.at 0 then next_of g'.at true g'.words else next_of g.at false g.words

-- the words once the block b is the holder's, and swept if q
unfoldable pub owned_words : Params → List ℕ → ℕ → ℕ → Bool → Words → Words
owned_words p ms holder b q t = if q then swept_words p ms b (set_tls b holder t) else set_tls b holder t

-- the block b was taken over, swept if q, and filed; r says whether it has a free cell
pub record TakenOver (p : Params) (ms : List ℕ) (holder bin b : ℕ) (q : Bool) (t : Words) (h : List ℕ) (r : Bool) (t₁ : Words) (h₁ : List ℕ) : Type 0 where
  pub none : eqb (get_or (owned_words p ms holder b q t).free b 0) 0 ≡ not r
  pub words : t₁ ≡ push p (if r then available (local_sets holder) bin else consumed (local_sets holder) bin) b (owned_words p ms holder b q t)
  pub heap : h₁ ≡ (if q then link_all p (sweep_chain p ms b (get_or (set_tls b holder t).size b 0)) h else h)
