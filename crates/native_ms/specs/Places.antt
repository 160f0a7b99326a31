-- What is known of the lent slices below the test of a call, so that loops over cells test no range again.
use Rattle.std.specs.Prelude.{ℕ, ◌+◌, ◌*◌, ◌/◌, ◌%◌, ◌≤◌, ◌<◌, ◌≡◌, Bool, true, List, get_or, length, Option, Some}
use Rattle.model.specs.declared.Params.{Params}
use Rattle.model.specs.declared.Block.{Block}
use Rattle.model.specs.Params.{good_params, word_count, heap_bytes, block_at, biased}
use Rattle.model.specs.Tables.{Words}
use Rattle.model.specs.Block.{is_cell, cells_down}
use Rattle.model.specs.SizeClasses.{cell_bytes}
use Rattle.native_ms.specs.Block.{Linked}
use Rattle.native_ms.specs.Bits.{any_bit}

-- words, marks and heap have the lengths that belong to good parameters
pub record Known (p : Params) (words marks heap : ℕ) : Type 0 where
  pub good : good_params p ≡ true
  pub count : words ≡ word_count p
  pub lines : marks ≡ heap_bytes p / 64
  pub whole : heap ≡ heap_bytes p

-- s is a size of whole words, no larger than a block may be
pub record WholeWords (s : ℕ) : Type 0 where
  pub word : 8 ≤ s
  pub aligned : s % 8 ≡ 0
  pub high : s ≤ 65536

-- b is a block, in words and a heap of the lengths that belong to good parameters
pub record Standing (p : Params) (words heap b : ℕ) : Type 0 where
  pub good : good_params p ≡ true
  pub count : words ≡ word_count p
  pub whole : heap ≡ heap_bytes p
  pub block : b < p.blocks

-- the block b is at the head of the list l, and has a free cell
pub record HasFree (p : Params) (t : Words) (l b : ℕ) : Type 0 where
  pub some : get_or t.first l 0 ≡ 0 → ⊥
  pub here : b ≡ block_at p (get_or t.first l 0)
  pub cell : get_or t.free b 0 ≡ 0 → ⊥

-- the free head of the block b is one of its whole cells, of a word or more
pub record HeadCell (p : Params) (t : Words) (b : ℕ) : Type 0 where
  pub cell : is_cell p b (get_or t.size b 0) (get_or t.free b 0) ≡ true
  pub word : 8 ≤ get_or t.size b 0

-- and it lies in words and a heap of the lengths that belong to good parameters
pub record Takeable (p : Params) (t : Words) (words heap b : ℕ) : Type 0 where
  pub stands : Standing p words heap b
  pub head : HeadCell p t b

-- a bin that has a cell size
pub record Classed (p : Params) (bin : ℕ) : Type 0 where
  pub word : 8 ≤ cell_bytes p bin
  pub most : cell_bytes p bin ≤ 65536

-- a block that is offered is one
pub record Offered (p : Params) (bin : ℕ) (offer : Option Block) : Type 0 where
  pub block : (b : Block) → offer ≡ Some b → b.0 < p.blocks
  pub class : Classed p bin

-- n cells of s bytes, a word or more each, from the heap offset `at` on lie in a heap of `heap` bytes, all of it lent
pub record Places (p : Params) (heap at s n : ℕ) : Type 0 where
  pub good : good_params p ≡ true
  pub whole : heap ≡ heap_bytes p
  pub word : 8 ≤ s
  pub fits : at + n * s ≤ heap

-- n cells of s bytes, whole words, from the offset `at` on, with a mark bit for each word from the bit `first` on: all lie in heap and marks
pub record Inside (p : Params) (marks heap at s n first : ℕ) : Type 0 where
  pub cells : Places p heap at s n
  pub lines : marks ≡ heap_bytes p / 64
  pub aligned : s % 8 ≡ 0
  pub ends : 8 * first + n * s ≤ heap

-- n cells of s bytes, whole words, from the offset `at` on, some of whose places may lie outside the heap; `up` is L + 64
pub record Reach (p : Params) (marks heap at s n up : ℕ) : Type 0 where
  pub cells : Places p heap at s n
  pub lines : marks ≡ heap_bytes p / 64
  pub aligned : s % 8 ≡ 0
  pub starts : at % 8 ≡ 0
  pub high : s ≤ 65536
  pub lower : up ≡ biased p.lower

-- a cell of s bytes between the offsets `at` and `end` is kept exactly if one of `count` mark bits is set, those from `first` on for the
-- cell at `at`, and so on, a bit for each word
pub record ByBits (p : Params) (ms : List ℕ) (kept : ℕ → Bool) (s at end first count : ℕ) : Type 0 where
  pub by : (o g : ℕ) → at ≤ o → o + s ≤ end → 8 * g + at ≡ o + 8 * first → kept (p.base + o) ≡ any_bit ms g count

-- A chain that had the head `last` in the heap h went on with n more cells of s bytes, from the offset `at` on: whatever cells below
-- them were looked at before. Its head is r now, so many cells were put on it, and the heap is h₁
pub record Extends (p : Params) (kept : ℕ → Bool) (s at n last : ℕ) (h : List ℕ) (r count : ℕ) (h₁ : List ℕ) : Type 0 where
  pub on : (from k : ℕ) (h₀ : List ℕ) → from + k * s ≡ p.base + at → Linked p (cells_down kept from s k) h₀ last h
      → Linked p (cells_down kept from s (k + n)) h₀ r h₁
  pub few : count ≤ n
  pub counted : (from k : ℕ) → from + k * s ≡ p.base + at
      → length (cells_down kept from s (k + n)) ≡ length (cells_down kept from s k) + count

-- `ask` may be asked of each of n cells of s bytes, by its offset, from `at` on, and its first mark bit, from `first` on
pub record Asked (ask : ℕ → ℕ → Type 0) (s at n first : ℕ) : Type 0 where
  pub may : (k : ℕ) → k < n → ask (at + k * s) (first + k * (s / 8))

-- and what it answers, as `says` has it, is whether `kept` keeps the cell
pub record Tells (p : Params) (says : ℕ → ℕ → Bool → Type 0) (kept : ℕ → Bool) (s at n first : ℕ) : Type 0 where
  pub told : (k : ℕ) (t : Bool) → k < n → says (at + k * s) (first + k * (s / 8)) t → kept (p.base + (at + k * s)) ≡ t
