-- The searches step by step: what the calls say, one after the other, put together to the definition. One law for each way on
-- or out of a loop: what remains from here is the whole. Plain values alone stand here. Assumes nothing.
use Prim.Native.Nat.{ℕ, zero, suc, ◌+◌, ◌<◌, ◌≤◌}
use mathlib.Core.Path.{◌≡◌, refl}
use mathlib.Core.Bool.{Bool, true, false}
use mathlib.Core.List.{List}
use native.Mathlib.Nat.{add-zero, not-suc-le-zero}
use native.Mathlib.Omega.{arith}
use lib.ListN.{get_or}
use borrow.Author.Tests.{eq-eqb, ne_eqb}
use Rattle.model.specs.declared.Params.{Params}
use Rattle.model.specs.Base.{filter}
use Rattle.model.specs.Params.{block_at, available, unswept, consumed}
use Rattle.model.specs.Tables.{Words}
use Rattle.model.specs.BlockList.{popped, pop, push}
use Rattle.model.specs.Events.{event_heap, events_heap, is_sweep, sweeps}
use Rattle.model.specs.FreeListAllocator.{found, find_free_block_with, recycle_local_blocks}
use Rattle.native_ms.specs.Block.{Swept}
use Rattle.native_ms.specs.Closing.{Filed, skimmed, reached, closed}

-- an address that is not 0 is none
pub not_none : {a : ℕ} → 0 < a → a ≡ 0 → ⊥
not_none h e = omega arith

-- ---- the local available list

module _ (p : Params) (avail full : ℕ) (t : Words) where
  pub skim_end : (k : ℕ) → k ≤ 0 → popped 0 t ≡ skimmed (find_free_block_with k p avail full t)
  unfolding find_free_block_with
  skim_end zero h = refl
  skim_end (suc k) h = absurd (not-suc-le-zero h)

  module _ {f : ℕ} (ef : f ≡ get_or t.first avail 0) where
    pub skim_none : (k : ℕ) → f ≡ 0 → popped 0 t ≡ skimmed (find_free_block_with k p avail full t)
    unfolding find_free_block_with
    skim_none zero h = refl
    skim_none (suc k) h = rw (← ef, eq-eqb f 0 h)

    module _ {i x : ℕ} (hf : f ≡ 0 → ⊥) (ei : i ≡ block_at p f) (ex : x ≡ get_or t.free i 0) where
      pub skim_found : (k : ℕ) → 0 < k → (x ≡ 0 → ⊥) → found f t ≡ find_free_block_with k p avail full t
      unfolding find_free_block_with
      skim_found zero u h = absurd (not-suc-le-zero u)
      skim_found (suc k) u h = rw (← ef, ne_eqb f 0 hf, ← ei, ← ex, ne_eqb x 0 h)

      pub skim_step : {k j v : ℕ} {t₁ t₂ : Words} → k ≡ suc j → x ≡ 0 → popped v t₁ ≡ pop p avail t → t₂ ≡ push p full i t₁
          → skimmed (find_free_block_with j p avail full t₂) ≡ skimmed (find_free_block_with k p avail full t)
      unfolding find_free_block_with
      skim_step ek h e₁ e₂ = rw (ek, ← ef, ne_eqb f 0 hf, ← ei, ← ex, eq-eqb x 0 h, ← e₁, e₂)

-- ---- local unswept blocks

-- one sweep more
pub more : (n x : ℕ) → n + 1 + x ≡ n + suc x
more n x = omega arith

pub one_more : (n : ℕ) → n + 1 ≡ n + suc 0
one_more n = omega arith

module _ (p : Params) (ms : List ℕ) (owner bin n : ℕ) (t : Words) (h : List ℕ) where
  pub recycle_end : (k : ℕ) → k ≤ 0 → reached 0 n t h ≡ closed p n h (recycle_local_blocks k p ms owner bin t)
  unfolding recycle_local_blocks events_heap sweeps filter
  recycle_end zero l = rw (add-zero n)
  recycle_end (suc k) l = absurd (not-suc-le-zero l)

  module _ {u v : ℕ} {t₁ : Words} (eu : u ≡ unswept owner bin) (e : popped v t₁ ≡ pop p u t) where
    pub recycle_none : (k : ℕ) → 0 < k → v ≡ 0 → reached 0 n t₁ h ≡ closed p n h (recycle_local_blocks k p ms owner bin t)
    unfolding recycle_local_blocks events_heap sweeps filter
    recycle_none zero l z = absurd (not-suc-le-zero l)
    recycle_none (suc k) l z = rw (← eu, ← e, eq-eqb v 0 z, add-zero n)

    module _ {a b c : ℕ} {q : Bool} {t₂ t₃ : Words} {h₁ : List ℕ} (nz : v ≡ 0 → ⊥) (eb : b ≡ block_at p v) (es : Swept p ms b t₁ h t₂ h₁) (ea : a ≡ available owner bin) (ec : c ≡ consumed owner bin) (ef : Filed p a c b t₂ q t₃) where
      pub recycle_found : (k : ℕ) → 0 < k → q ≡ true → reached v (n + 1) t₃ h₁ ≡ closed p n h (recycle_local_blocks k p ms owner bin t)
      unfolding recycle_local_blocks events_heap event_heap sweeps filter is_sweep
      recycle_found zero l z = absurd (not-suc-le-zero l)
      recycle_found (suc k) l z =
          rw (← eu, ← e, ne_eqb v 0 nz, ← eb, ← es.words, ef.none, ef.words, z, ← ea, es.heap, one_more n)

      pub recycle_step : {k j : ℕ} → k ≡ suc j → q ≡ false
          → closed p (n + 1) h₁ (recycle_local_blocks j p ms owner bin t₃) ≡ closed p n h (recycle_local_blocks k p ms owner bin t)
      unfolding recycle_local_blocks events_heap event_heap sweeps filter is_sweep
      recycle_step ek z =
          rw (ek, ← eu, ← e, ne_eqb v 0 nz, ← eb, ← es.words, ef.none, ef.words, z, ← ec, es.heap, more)
