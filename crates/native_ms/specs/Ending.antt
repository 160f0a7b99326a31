-- How a whole search, and the end of a call that serves, meet the machine's. What is promised of the allocator's last steps.
use Rattle.std.specs.Prelude.{if◌then◌else◌, ℕ, ◌+◌, ◌^◌, ◌<◌, ◌≤◌, ◌≡◌, Bool, List, eqb, get_or, set, Option}
use Rattle.model.specs.declared.Params.{Params}
use Rattle.model.specs.declared.Block.{Block}
use Rattle.model.specs.Params.{local_sets, available}
use Rattle.model.specs.Tables.{Words, Tables}
use Rattle.model.specs.SizeClasses.{cell_bytes}
use Rattle.model.specs.BlockList.{push}
use Rattle.model.specs.Block.{state_unmarked, link_all, init_chain, init_block}
use Rattle.model.specs.Events.{events_heap, sweeps}
use Rattle.model.specs.FreeListAllocator.{Found, Search, acquire_abandoned, acquire_fresh, in_found}
use Rattle.native_ms.specs.Places.{HeadCell}
use Rattle.model.specs.Calls.{Reply, Call, Step, take_plan, carried, sound_step}

-- a whole search as the code sees its end
pub record Ended : Type 0 where
  pub at : ℕ
  pub swept : ℕ
  pub fresh : Bool
  pub tables : Tables
  pub heap : List ℕ

abbrev pub ended : ℕ → ℕ → Bool → Tables → List ℕ → Ended
ended a n f t h = record { at = a; swept = n; fresh = f; tables = t; heap = h }

-- the machine's search, seen so: n blocks were swept before it, and the heap was h
abbrev pub closed_search : Params → ℕ → List ℕ → Search → Ended
closed_search p n h s = ended s.at (n + sweeps s.events) s.fresh s.tables (events_heap p s.events h)

-- the last part of `find_block`: abandoned blocks, and then the offer
unfoldable pub acquire_global : Params → ℕ → ℕ → Option Block → Tables → Search
acquire_global p holder bin offer t =
    let a : Found = acquire_abandoned p.blocks p t.marks holder bin t.words in
    if eqb a.at 0 then acquire_fresh p holder bin offer a t else in_found a t

-- the block b became the holder's, with cells of the bin's size, all free
pub record Freshened (p : Params) (holder bin b : ℕ) (t : Words) (st h : List ℕ) (t₁ : Words) (st₁ h₁ : List ℕ) : Type 0 where
  pub words : t₁ ≡ init_block p b (cell_bytes p bin) holder (push p (available (local_sets holder) bin) b t)
  pub states : st₁ ≡ set st b state_unmarked
  pub heap : h₁ ≡ link_all p (init_chain p b (cell_bytes p bin)) h

-- the end of a call as the code sees it
pub record Stepped : Type 0 where
  pub reply : Reply
  pub tables : Tables
  pub heap : List ℕ

abbrev pub stepped : Reply → Tables → List ℕ → Stepped
stepped r t h = record { reply = r; tables = t; heap = h }

-- the machine's step, seen so
abbrev pub shown : Step → Stepped
shown s = stepped s.reply s.tables s.heap

-- the call c on sound tables t and a heap h: what it says, and tables and heap after
abbrev pub Does : Params → Tables → List ℕ → Call → Reply → Tables → List ℕ → Type 0
Does p t h c r t₁ h₁ = stepped r t₁ h₁ ≡ shown (sound_step p t h c)

-- the end of an alloc whose search was s, from the heap h
unfoldable pub ServedBy : Params → ℕ → ℕ → List ℕ → Search → Stepped
ServedBy p align offset h s = shown (carried p h (take_plan p align offset s))

-- an align and an offset by which an address can be shifted
pub record Shiftable (align offset : ℕ) : Type 0 where
  pub align_from : 0 < align
  pub align_to : align ≤ 64
  pub offset_low : offset ≤ 65536

-- What the serving of a request leans on: no free head is so high that its shift would not fit a word, and those of blocks are cells
pub record Ready (p : Params) (t : Words) : Type 0 where
  pub heads : (b : ℕ) → get_or t.free b 0 < 2 ^ 47
  pub cells : (b : ℕ) → b < p.blocks → (get_or t.free b 0 ≡ 0 → ⊥) → HeadCell p t b
