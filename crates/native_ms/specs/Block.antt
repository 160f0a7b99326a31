-- What the steps on one block promise of words and heap, with a name for each part.
use Rattle.std.specs.Prelude.{if◌then◌else◌, ℕ, ◌+◌, ◌-◌, ◌*◌, ◌≤◌, ◌^◌, ◌≡◌, Bool, true, get_or, set, length}
use mathlib.Core.List.{List, head_d}
use Rattle.model.specs.declared.Params.{Params}
use Rattle.model.specs.Base.{any_below}
use Rattle.model.specs.Params.{good_params, start, plus_lower}
use Rattle.model.specs.Memory.{load, zeroed, marked}
use Rattle.model.specs.SizeClasses.{words_in}
use Rattle.model.specs.Tables.{Words, set_free, set_cells}
use Rattle.model.specs.Block.{state_unallocated, cell_count, cells_down, link_all, init_chain, init_block, sweep_chain, swept_words, clear_block}
use Rattle.native_ms.specs.declared.block.Taken.{Taken}

-- whether the simple sweep, or else the brute-force one, keeps the cell of s bytes at a
unfoldable pub kept_by : Bool → Params → List ℕ → ℕ → ℕ → Bool
kept_by simple p ms s a =
    if simple then marked p ms a else any_below (words_in s) (λ k. marked p ms (plus_lower p (a + 8 * k)))

-- n cells of s bytes from `from` on lie in one block's room below 2^47 and its bytes
pub record Room (p : Params) (from s n : ℕ) : Type 0 where
  pub good : good_params p ≡ true
  pub low : from ≤ 2 ^ 47
  pub fits : n * s ≤ p.bytes

-- the chain was linked in the heap h, which is h₁ now, and its head is r
pub record Linked (p : Params) (chain h : List ℕ) (r : ℕ) (h₁ : List ℕ) : Type 0 where
  pub head : r ≡ head_d chain 0
  pub heap : h₁ ≡ link_all p chain h

-- and so many cells were put on it
pub record Built (p : Params) (chain h : List ℕ) (r n : ℕ) (h₁ : List ℕ) : Type 0 where
  pub linked : Linked p chain h r h₁
  pub count : n ≡ length chain

-- the cells of b that `kept` does not keep, by the size in the words t
abbrev pub freed : Params → (ℕ → ℕ → Bool) → ℕ → Words → List ℕ
freed p kept b t = cells_down (kept (get_or t.size b 0)) (start p b) (get_or t.size b 0) (cell_count p (get_or t.size b 0))

-- a sweep that keeps what `kept` says, of a cell size and a cell
pub record SweptBy (p : Params) (kept : ℕ → ℕ → Bool) (b : ℕ) (t : Words) (h : List ℕ) (t₁ : Words) (h₁ : List ℕ) : Type 0 where
  pub words : t₁ ≡ set_cells b (length (freed p kept b t)) (set_free b (head_d (freed p kept b t) 0) t)
  pub heap : h₁ ≡ link_all p (freed p kept b t) h

-- the sweep that the parameters choose
pub record Swept (p : Params) (ms : List ℕ) (b : ℕ) (t : Words) (h : List ℕ) (t₁ : Words) (h₁ : List ℕ) : Type 0 where
  pub words : t₁ ≡ swept_words p ms b t
  pub heap : h₁ ≡ link_all p (sweep_chain p ms b (get_or t.size b 0)) h

pub record Initialised (p : Params) (b s tls : ℕ) (t : Words) (h : List ℕ) (t₁ : Words) (h₁ : List ℕ) : Type 0 where
  pub words : t₁ ≡ init_block p b s tls t
  pub heap : h₁ ≡ link_all p (init_chain p b s) h

pub record Cleared (b : ℕ) (t : Words) (st : List ℕ) (t₁ : Words) (st₁ : List ℕ) : Type 0 where
  pub words : t₁ ≡ clear_block b t
  pub states : st₁ ≡ set st b state_unallocated

-- ---- taking a cell

-- what it answers, and words and heap after it
pub record TakenOut : Type 0 where
  pub answer : Taken
  pub words : Words
  pub heap : List ℕ

abbrev pub took : Taken → Words → List ℕ → TakenOut
took r t h = record { answer = r; words = t; heap = h }

-- The cell at the free head of the block b, as in `take_cell`: its link is read before it is zeroed
unfoldable pub take_free : Params → ℕ → Words → List ℕ → TakenOut
take_free p b t h =
    let cell : ℕ = get_or t.free b 0 in
    let size : ℕ = get_or t.size b 0 in
    took (record { at = record { 0 = cell }; size = size }) (set_cells b (get_or t.cells b 0 - 1) (set_free b (load p h cell) t)) (zeroed p h cell size)
