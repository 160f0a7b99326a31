-- The search of abandoned blocks, turn by turn: one law for each way on or out. Plain values alone stand here. Assumes nothing.
use Rattle.std.specs.Prelude.{if◌then◌else◌}
use Prim.Native.Nat.{ℕ, zero, suc, ◌+◌, ◌<◌, ◌≤◌}
use mathlib.Core.Path.{◌≡◌, refl}
use mathlib.Core.Bool.{Bool, true, false}
use mathlib.Core.List.{List}
use mir.Val.{bool_byte}
use native.Mathlib.Nat.{add-zero, not-suc-le-zero}
use native.Mathlib.Omega.{arith}
use lib.Dec.{eqb}
use lib.ListN.{get_or}
use borrow.Author.Tests.{eq-eqb, ne_eqb}
use Rattle.model.specs.declared.Params.{Params}
use Rattle.model.specs.Base.{filter}
use Rattle.model.specs.Params.{block_at, local_sets, available, unswept, consumed}
use Rattle.model.specs.Tables.{Words, set_tls}
use Rattle.model.specs.BlockList.{Popped, popped, pop, push}
use Rattle.model.specs.Block.{swept_words}
use Rattle.model.specs.Events.{spent, event_heap, events_heap, is_sweep, sweeps}
use Rattle.model.specs.FreeListAllocator.{Found, found, after, sweep_of, acquire_abandoned}
use Rattle.native_ms.specs.Block.{Swept}
use Rattle.native_ms.specs.Closing.{Filed, reached, closed}
use Rattle.native_ms.proofs.Search.{more, one_more}
use Rattle.native_ms.specs.Abandoned.{Next, next_of, pop_abandoned, owned_words, TakenOver}

-- ---- the next block

module _ (p : Params) (bin : ℕ) (t : Words) {x v : ℕ} {t₁ : Words} (ex : x ≡ available 24 bin) (e : popped v t₁ ≡ pop p x t) where
  pub next_available : (v ≡ 0 → ⊥) → next_of v false t₁ ≡ pop_abandoned p bin t
  unfolding pop_abandoned
  next_available n = rw (← ex, ← e, ne_eqb v 0 n)

  pub next_unswept : {y u : ℕ} {t₂ : Words} → v ≡ 0 → y ≡ unswept 24 bin → popped u t₂ ≡ pop p y t₁ → next_of u true t₂ ≡ pop_abandoned p bin t
  unfolding pop_abandoned
  next_unswept z ey i = rw (← ex, ← e, eq-eqb v 0 z, ← ey, ← i)

-- ---- a block taken over

module _ (p : Params) (ms : List ℕ) (holder bin b : ℕ) (t : Words) (h : List ℕ) {o a c : ℕ} {q r : Bool} {t₁ t₃ : Words} (eo : o ≡ local_sets holder) (ea : a ≡ available o bin) (ec : c ≡ consumed o bin) (et : t₁ ≡ set_tls b holder t) where
  pub over_available : q ≡ false → Filed p a c b t₁ r t₃ → TakenOver p ms holder bin b q t h r t₃ h
  unfolding owned_words
  over_available z f =
      record { none = rw (z, ← et) f.none; words = rw (z, ← et, ← eo, ← ea, ← ec) f.words; heap = rw z }

  pub over_unswept : {t₂ : Words} {h₁ : List ℕ} → q ≡ true → Swept p ms b t₁ h t₂ h₁ → Filed p a c b t₂ r t₃ → TakenOver p ms holder bin b q t h r t₃ h₁
  unfolding owned_words
  over_unswept z s f =
      record {
        none = rw (z, ← et, ← s.words) f.none;
        words = rw (z, ← et, ← s.words, ← eo, ← ea, ← ec) f.words;
        heap = rw (z, ← et) s.heap;
      }

-- ---- turns

pub one_at_most : (q : Bool) {r : ℕ} → r ≡ bool_byte q → r ≤ 1
one_at_most true e = omega arith
one_at_most false e = omega arith

module _ (p : Params) (ms : List ℕ) (holder bin : ℕ) where
  -- a turn with k blocks left, from the next block on
  turn : ℕ → Next → Found
  turn k x =
      let b : ℕ = block_at p x.at in
      let w : Words = owned_words p ms holder b x.unswept x.words in
      let rest : Found = if eqb (get_or w.free b 0) 0 then after (spent b) (acquire_abandoned k p ms holder bin (push p (consumed (local_sets holder) bin) b w))
      else found x.at (push p (available (local_sets holder) bin) b w) in
      if eqb x.at 0 then found 0 x.words
      else if x.unswept then after (sweep_of p ms b (set_tls b holder x.words)) rest else rest

  turn_is : (k : ℕ) (t : Words) → acquire_abandoned (suc k) p ms holder bin t ≡ turn k (pop_abandoned p bin t)
  unfolding acquire_abandoned pop_abandoned turn owned_words
  turn_is k t = go (eqb g.at 0) refl
    where
      g : Popped
      g = pop p (available 24 bin) t

      g' : Popped
      g' = pop p (unswept 24 bin) g.words

      rest : ℕ → ℕ → Words → Found
      rest at b w = if eqb (get_or w.free b 0) 0 then after (spent b) (acquire_abandoned k p ms holder bin (push p (consumed (local_sets holder) bin) b w))
          else found at (push p (available (local_sets holder) bin) b w)

      from_unswept : Found
      from_unswept = if eqb g'.at 0 then found 0 g'.words
          else after (sweep_of p ms (block_at p g'.at) (set_tls (block_at p g'.at) holder g'.words))
          (rest g'.at (block_at p g'.at) (swept_words p ms (block_at p g'.at) (set_tls (block_at p g'.at) holder g'.words)))

      from_available : Found
      from_available = rest g.at (block_at p g.at) (set_tls (block_at p g.at) holder g.words)

      go : (q : Bool) → eqb g.at 0 ≡ q → (if q then from_unswept else from_available) ≡ turn k (if q then next_of g'.at true g'.words else next_of g.at false g.words)
      go true e = refl
      go false e = rw e

  pub acquire_end : (n : ℕ) (t : Words) (h : List ℕ) (k : ℕ) → k ≤ 0 → reached 0 n t h ≡ closed p n h (acquire_abandoned k p ms holder bin t)
  unfolding acquire_abandoned events_heap sweeps filter
  acquire_end n t h zero l = rw (add-zero n)
  acquire_end n t h (suc k) l = absurd (not-suc-le-zero l)

  module _ (n : ℕ) (t : Words) (h : List ℕ) {v : ℕ} {t₁ : Words} where
    pub acquire_none : {q : Bool} (k : ℕ) → next_of v q t₁ ≡ pop_abandoned p bin t → 0 < k → v ≡ 0 → reached 0 n t₁ h ≡ closed p n h (acquire_abandoned k p ms holder bin t)
    unfolding turn events_heap sweeps filter
    acquire_none zero e l z = absurd (not-suc-le-zero l)
    acquire_none (suc k) e l z = rw (turn_is k t, ← e, eq-eqb v 0 z, add-zero n)

    module _ {b m : ℕ} {r : Bool} {t₂ : Words} {h₁ : List ℕ} (nz : v ≡ 0 → ⊥) (eb : b ≡ block_at p v) where
      pub acquire_found : (k : ℕ) (q : Bool) → next_of v q t₁ ≡ pop_abandoned p bin t → TakenOver p ms holder bin b q t₁ h r t₂ h₁ → m ≡ bool_byte q → 0 < k → r ≡ true
          → reached v (n + m) t₂ h₁ ≡ closed p n h (acquire_abandoned k p ms holder bin t)
      unfolding turn events_heap event_heap sweeps filter is_sweep
      acquire_found zero q e o em l z = absurd (not-suc-le-zero l)
      acquire_found (suc k) true e o em l z =
          rw (turn_is k t, ← e, ne_eqb v 0 nz, ← eb, o.none, o.words, z, o.heap, em, one_more n)
      acquire_found (suc k) false e o em l z =
          rw (turn_is k t, ← e, ne_eqb v 0 nz, ← eb, o.none, o.words, z, o.heap, em)

      pub acquire_step : {k j : ℕ} (q : Bool) → next_of v q t₁ ≡ pop_abandoned p bin t → TakenOver p ms holder bin b q t₁ h r t₂ h₁ → m ≡ bool_byte q → k ≡ suc j → r ≡ false
          → closed p (n + m) h₁ (acquire_abandoned j p ms holder bin t₂) ≡ closed p n h (acquire_abandoned k p ms holder bin t)
      unfolding turn events_heap event_heap sweeps filter is_sweep
      acquire_step {j = j} true e o em ek z =
          rw (ek, turn_is j t, ← e, ne_eqb v 0 nz, ← eb, o.none, o.words, z, o.heap, em, more)
      acquire_step {j = j} false e o em ek z =
          rw (ek, turn_is j t, ← e, ne_eqb v 0 nz, ← eb, o.none, o.words, z, o.heap, em, add-zero n)
