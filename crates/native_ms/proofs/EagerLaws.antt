-- The end of a collection with eager sweeping: the last part, the sweep of all blocks, filing anew, and the whole of it behind a
-- part's own work. One law for each way on or out of a loop. Plain values alone stand here. Assumes nothing.
use Prim.Native.Nat.{ℕ, zero, suc, ◌+◌, ◌<◌, ◌≤◌}
use mathlib.Core.Path.{◌≡◌, refl, sym, ap, ◌∙◌}
use mathlib.Core.Bool.{Bool, true, false, ◌&&◌}
use mathlib.Core.List.{List, [], ◌∷◌, ◌++◌, append_assoc, append-nil}
use native.Mathlib.Nat.{not-suc-le-zero, zero-add, add-zero}
use native.Mathlib.Numerals.{add-one}
use native.Mathlib.Omega.{arith}
use lib.Dec.{eqb}
use lib.ListN.{length, get_or, set, length-take, length-drop}
use lib.Seq.{get_or-set_same, get_or-set_other}
use borrow.Author.Tests.{eq-eqb, ne_eqb}
use Rattle.model.specs.declared.Params.{Params}
use Rattle.model.specs.Base.{each_below, filter}
use Rattle.model.specs.Params.{block_at, abandoned, in_gc, available, consumed}
use Rattle.model.specs.Tables.{Words, view, set_phase, set_released}
use Rattle.model.specs.BlockList.{push, remove}
use Rattle.model.specs.Block.{state_unallocated}
use Rattle.model.specs.Events.{Event, swept, event_heap, events_heap, is_sweep, is_release, sweeps, releases}
use Rattle.model.specs.Global.{Freed, freed, has_released, all_released, is_last, sweep_block, sweep_all, recycle_from, recycle_bin, recycle_blocks, swept_eagerly, eagerly}
use Rattle.laws.proofs.Below.{and_both}
use Rattle.laws.proofs.Base.{if_cases, if_true}
use Rattle.laws.proofs.Frame.{each_keeps}
use Rattle.laws.proofs.Walks.{all_keeps, eagerly_keeps}
use Rattle.native_ms.specs.Block.{Swept}
use Rattle.native_ms.specs.Eager.{Done, done, swept_in, recycle_block, after_part}
use Rattle.native_ms.proofs.Ending.{events_append, sweeps_append}
use Rattle.native_ms.proofs.Releases.{Quiet, releases_append}

-- ---- the last part

pub released_nine : (w : List ℕ) → 2958 ≤ length w → length (view w).released ≡ 9
unfolding view
released_nine w h = simp (length-take, length-drop) (omega arith)

module _ (w : List ℕ) (last part : ℕ) where
  pub with_last : 2958 ≤ length w → last < 9 → part ≡ last → eqb part last ≡ has_released (after_part last (view w)) part
  unfolding has_released set_released set_phase
  with_last long low e =
      let here : get_or (set (view w).released last 1) last 0 ≡ 1 = get_or-set_same (view w).released last 1 0 (omega (arith, released_nine w long)) in
      rw (eq-eqb part last e, e, here)

  pub with_other : {r : Bool} → (part ≡ last → ⊥) → r ≡ has_released (view w) part → r ≡ has_released (after_part last (view w)) part
  unfolding has_released set_released set_phase
  with_other n e = e ∙ ap (λ (x : ℕ). eqb x 1) (sym (get_or-set_other (view w).released last part 1 0 n))

pub same_bound : (w : Words) (part : ℕ) → (after_part part w).bound ≡ w.bound
unfolding set_released set_phase
same_bound w part = refl

pub last_is_lem : (w : Words) (part : ℕ) {r : Bool} → r ≡ all_released (after_part part w) → r ≡ is_last part w
unfolding is_last
last_is_lem w part e = e

-- ---- one block swept

module _ (p : Params) (ms : List ℕ) (b : ℕ) (w : Words) (st h : List ℕ) {s : ℕ} (es : s ≡ get_or st b 0) where
  pub block_unused : s ≡ 0 → done 0 w h ≡ swept_in p h (sweep_block p ms b (freed w st))
  unfolding swept_in sweep_block sweeps filter events_heap
  block_unused z = rw (← es, eq-eqb s 0 z)

  pub block_swept : {w₁ : Words} {h₁ : List ℕ} → (s ≡ 0 → ⊥) → Swept p ms b w h w₁ h₁ → done 1 w₁ h₁ ≡ swept_in p h (sweep_block p ms b (freed w st))
  unfolding swept_in sweep_block sweeps filter is_sweep events_heap event_heap
  block_swept n e = rw (← es, ne_eqb s 0 n, e.words, e.heap)

-- ---- what was done behind other events

abbrev behind : List Event → Freed → Freed
behind es f = record { words = f.words; states = f.states; events = es ++ f.events }

behind_none : (f : Freed) → behind f.events (freed f.words f.states) ≡ f
behind_none f = ap (λ (es : List Event). record { words = f.words; states = f.states; events = es }) (append-nil f.events)

block_behind : (p : Params) (ms : List ℕ) (b : ℕ) (es : List Event) (f : Freed) → sweep_block p ms b (behind es f) ≡ behind es (sweep_block p ms b f)
unfolding sweep_block
block_behind p ms b es f = go (eqb (get_or f.states b 0) state_unallocated) refl
  where
    go : (x : Bool) → eqb (get_or f.states b 0) state_unallocated ≡ x → sweep_block p ms b (behind es f) ≡ behind es (sweep_block p ms b f)
    go true z = rw z
    go false z = rw (z, append_assoc)

each_behind : (k : ℕ) (p : Params) (ms : List ℕ) (es : List Event) (f : Freed)
    → each_below k (sweep_block p ms) (behind es f) ≡ behind es (each_below k (sweep_block p ms) f)
unfolding each_below
each_behind zero p ms es f = refl
each_behind (suc k) p ms es f = ap (sweep_block p ms k) (each_behind k p ms es f) ∙ block_behind p ms k es (each_below k (sweep_block p ms) f)

eagerly_behind : (p : Params) (ms : List ℕ) (part : ℕ) (es : List Event) (f : Freed) → eagerly p ms part (behind es f) ≡ behind es (eagerly p ms part f)
unfolding eagerly swept_eagerly sweep_all
eagerly_behind p ms part es f = go (p.eager && is_last part f.words) refl
  where
    recycled : Freed → Freed
    recycled g = record { words = recycle_blocks p in_gc (recycle_blocks p abandoned g.words); states = g.states; events = g.events }

    go : (x : Bool) → (p.eager && is_last part f.words) ≡ x → eagerly p ms part (behind es f) ≡ behind es (eagerly p ms part f)
    go true z = rw z (ap recycled (each_behind p.blocks p ms es f))
    go false z = rw z

-- seen so
swept_behind : (p : Params) (es : List Event) (f : Freed) (h : List ℕ)
    → swept_in p h (behind es f) ≡ done (sweeps es + sweeps f.events) f.words (events_heap p f.events (events_heap p es h))
unfolding swept_in
swept_behind p es f h = rw (sweeps_append es f.events, events_append p es f.events h)

-- ---- the sweep of all

all_states : (k : ℕ) (p : Params) (ms : List ℕ) (f : Freed) → (each_below k (sweep_block p ms) f).states ≡ f.states
unfolding sweep_block
all_states k p ms f =
    each_keeps (λ g. g.states ≡ f.states) k (sweep_block p ms)
    (λ b l g o. if_cases (λ (x : Freed). x.states ≡ f.states) (eqb (get_or g.states b 0) state_unallocated) (λ z. o) (λ z. o)) f refl

pub all_none : (p : Params) (ms : List ℕ) (w : Words) (st h : List ℕ) → done 0 w h ≡ swept_in p h (each_below 0 (sweep_block p ms) (freed w st))
unfolding swept_in each_below sweeps filter events_heap
all_none p ms w st h = refl

module _ (p : Params) (ms : List ℕ) (i : ℕ) (st : List ℕ) where
  block_counts : (w : Words) → sweeps (sweep_block p ms i (freed w st)).events ≤ 1
  unfolding sweep_block sweeps filter is_sweep
  block_counts w = if_cases (λ (f : Freed). sweeps f.events ≤ 1) (eqb (get_or st i 0) state_unallocated) (λ z. omega arith) (λ z. omega arith)

  pub block_few : (w : Words) (h : List ℕ) {r : ℕ} {w₁ : Words} {h₁ : List ℕ} → done r w₁ h₁ ≡ swept_in p h (sweep_block p ms i (freed w st)) → r ≤ 1
  unfolding swept_in
  block_few w h {r} e =
      let number : r ≡ sweeps (sweep_block p ms i (freed w st)).events = ap (λ (d : Done). d.number) e in
      omega (arith, block_counts w)

module _ (p : Params) (ms : List ℕ) (i : ℕ) (w₀ : Words) (st h₀ : List ℕ) where
  pub all_more : {n r : ℕ} {w w₁ : Words} {h h₁ : List ℕ} → done n w h ≡ swept_in p h₀ (each_below i (sweep_block p ms) (freed w₀ st))
      → done r w₁ h₁ ≡ swept_in p h (sweep_block p ms i (freed w st)) → done (n + r) w₁ h₁ ≡ swept_in p h₀ (each_below (i + 1) (sweep_block p ms) (freed w₀ st))
  unfolding each_below swept_in
  all_more {n} {r} {w} {w₁} {h} {h₁} e q =
      let f : Freed = each_below i (sweep_block p ms) (freed w₀ st) in
      let es : List Event = f.events in
      let g : Freed = sweep_block p ms i (freed f.words f.states) in
      let number : n ≡ sweeps es = ap (λ (d : Done). d.number) e in
      let words : w ≡ f.words = ap (λ (d : Done). d.words) e in
      let heap : h ≡ events_heap p es h₀ = ap (λ (d : Done). d.heap) e in
      let states : st ≡ f.states = sym (all_states i p ms (freed w₀ st)) in
      let step : sweep_block p ms i f ≡ behind es g = ap (sweep_block p ms i) (sym (behind_none f)) ∙ block_behind p ms i es (freed f.words f.states) in
      let q' : done r w₁ h₁ ≡ done (sweeps g.events) g.words (events_heap p g.events (events_heap p es h₀)) =
      q ∙ ap (λ (u : Words). swept_in p h (sweep_block p ms i (freed u st))) words
      ∙ ap (λ (v : List ℕ). swept_in p h (sweep_block p ms i (freed f.words v))) states ∙ ap (λ (k : List ℕ). swept_in p k g) heap in
      let back = swept_behind p es g h₀ in
      rw add-one
      (ap (λ (d : Done). done (n + d.number) d.words d.heap) q'
      ∙ ap (λ (k : ℕ). done (k + sweeps g.events) g.words (events_heap p g.events (events_heap p es h₀))) number
      ∙ sym back ∙ ap (swept_in p h₀) (sym step))

  pub all_end : {d : Done} → i ≤ p.blocks → p.blocks ≤ i → d ≡ swept_in p h₀ (each_below i (sweep_block p ms) (freed w₀ st)) → d ≡ swept_in p h₀ (sweep_all p ms (freed w₀ st))
  unfolding sweep_all
  all_end l g e = let q : i ≡ p.blocks = omega arith in e ∙ ap (λ (k : ℕ). swept_in p h₀ (each_below k (sweep_block p ms) (freed w₀ st))) q

-- ---- filing anew

module _ (p : Params) (avail full b : ℕ) (w : Words) {x : ℕ} (ex : x ≡ get_or w.free b 0) where
  pub recycle_no : x ≡ 0 → w ≡ recycle_block p avail full b w
  unfolding recycle_block
  recycle_no z = rw (← ex, eq-eqb x 0 z)

  pub recycle_yes : {w₁ w₂ : Words} → (x ≡ 0 → ⊥) → w₁ ≡ remove p full b w → w₂ ≡ push p avail b w₁ → w₂ ≡ recycle_block p avail full b w
  unfolding recycle_block
  recycle_yes n e₁ e₂ = rw (← ex, ne_eqb x 0 n, e₂, e₁)

-- what is left from here is the whole
module _ (p : Params) (avail full a : ℕ) (w : Words) where
  pub list_end : (k : ℕ) → k ≤ 0 → w ≡ recycle_from k p avail full a w
  unfolding recycle_from
  list_end zero l = refl
  list_end (suc k) l = absurd (not-suc-le-zero l)

  pub list_stop : (k : ℕ) → a ≡ 0 → w ≡ recycle_from k p avail full a w
  unfolding recycle_from
  list_stop zero z = refl
  list_stop (suc k) z = rw (eq-eqb a 0 z)

  pub list_step : {k j b x : ℕ} {w₁ : Words} → k ≡ suc j → (a ≡ 0 → ⊥) → b ≡ block_at p a → x ≡ get_or w.next b 0 → w₁ ≡ recycle_block p avail full b w
      → recycle_from j p avail full x w₁ ≡ recycle_from k p avail full a w
  unfolding recycle_from recycle_block
  list_step {k} {j} {b} {x} {w₁} ek n eb ex e = go (eqb (get_or w.free b 0) 0) refl
    where
      go : (y : Bool) → eqb (get_or w.free b 0) 0 ≡ y → recycle_from j p avail full x w₁ ≡ recycle_from k p avail full a w
      go true z = rw (ek, ne_eqb a 0 n, ← eb, e, z, ex)
      go false z = rw (ek, ne_eqb a 0 n, ← eb, e, z, ex)

-- the walk starts at the list's first block
pub list_at : (p : Params) (avail full : ℕ) (w : Words) {a : ℕ} → a ≡ get_or w.first full 0
    → recycle_from p.blocks p avail full a w ≡ recycle_from p.blocks p avail full (get_or w.first full 0) w
list_at p avail full w e = ap (λ (k : ℕ). recycle_from p.blocks p avail full k w) e

pub bin_recycled : (p : Params) (owner bin : ℕ) {a c : ℕ} (w : Words) {w₁ : Words} → a ≡ available owner bin → c ≡ consumed owner bin
    → w₁ ≡ recycle_from p.blocks p a c (get_or w.first c 0) w → w₁ ≡ recycle_bin p owner bin w
unfolding recycle_bin
bin_recycled p owner bin w ea ec e = rw (← ea, ← ec) e

pub bins_recycled : (p : Params) (owner i : ℕ) (w : Words) {w₁ : Words} → i ≤ 49 → 49 ≤ i → w₁ ≡ each_below i (recycle_bin p owner) w → w₁ ≡ recycle_blocks p owner w
unfolding recycle_blocks
bins_recycled p owner i w l g e = let q : i ≡ 49 = omega arith in e ∙ ap (λ (k : ℕ). each_below k (recycle_bin p owner) w) q

-- ---- the whole

module _ (p : Params) (ms : List ℕ) (part : ℕ) (w : Words) (st h : List ℕ) where
  pub eager_off : p.eager ≡ false → done 0 w h ≡ swept_in p h (eagerly p ms part (freed w st))
  unfolding eagerly swept_in sweeps filter events_heap
  eager_off z = rw z

  module _ (on : p.eager ≡ true) {l : Bool} (el : l ≡ is_last part w) where
    pub eager_early : l ≡ false → done 0 w h ≡ swept_in p h (eagerly p ms part (freed w st))
    unfolding eagerly swept_in sweeps filter events_heap
    eager_early z = rw (on, ← el, z)

    pub eager_last : {n : ℕ} {w₁ w₂ w₃ : Words} {h₁ : List ℕ} → l ≡ true → done n w₁ h₁ ≡ swept_in p h (sweep_all p ms (freed w st))
        → w₂ ≡ recycle_blocks p abandoned w₁ → w₃ ≡ recycle_blocks p in_gc w₂ → done n w₃ h₁ ≡ swept_in p h (eagerly p ms part (freed w st))
    unfolding eagerly swept_eagerly swept_in
    eager_last {n} {w₁} {w₂} {w₃} {h₁} z e e₂ e₃ =
        let last : (p.eager && is_last part w) ≡ true = and_both on (sym el ∙ z) in
        ap (λ (u : Words). done n u h₁) (e₃ ∙ ap (recycle_blocks p in_gc) e₂)
        ∙ ap (λ (d : Done). done d.number (recycle_blocks p in_gc (recycle_blocks p abandoned d.words)) d.heap) e
        ∙ ap (swept_in p h) (sym (if_true (p.eager && is_last part w) (swept_eagerly p ms (freed w st)) (freed w st) last))

-- ---- and behind the part's own work

-- after f and the end of the collection, if it is one: n blocks were swept, and these are words and heap
pub record AfterPart (p : Params) (ms : List ℕ) (part : ℕ) (h : List ℕ) (f : Freed) (n : ℕ) (w : Words) (h₁ : List ℕ) : Type 0 where
  pub words : w ≡ (eagerly p ms part f).words
  pub states : (eagerly p ms part f).states ≡ f.states
  pub released : releases (eagerly p ms part f).events ≡ releases f.events
  pub swept : n ≡ sweeps (eagerly p ms part f).events
  pub heap : h₁ ≡ events_heap p (eagerly p ms part f).events h

no_release : (es : List Event) (b : ℕ) (chain : List ℕ) → releases (es ++ (swept b chain ∷ [])) ≡ releases es
unfolding releases filter is_release
no_release es b chain = releases_append es (swept b chain ∷ []) ∙ add-zero (length (filter is_release es))

module _ (p : Params) (ms : List ℕ) (part : ℕ) (h : List ℕ) (f : Freed) where
  eager_states : (eagerly p ms part f).states ≡ f.states
  eager_states =
      eagerly_keeps p ms part (λ g. g.states ≡ f.states) (λ g o on. all_keeps p ms (λ x. x.states ≡ f.states) (λ b l x k u. k) g o)
      (λ g owner o on w. o) f refl

  eager_released : releases (eagerly p ms part f).events ≡ releases f.events
  eager_released =
      eagerly_keeps p ms part (λ g. releases g.events ≡ releases f.events)
      (λ g o on. all_keeps p ms (λ x. releases x.events ≡ releases f.events) (λ b l x k u. no_release x.events b _ ∙ k) g o)
      (λ g owner o on w. o) f refl

  pub after_part_lem : Quiet p f.events → {n : ℕ} {w : Words} {h₁ : List ℕ} → done n w h₁ ≡ swept_in p h (eagerly p ms part (freed f.words f.states))
      → AfterPart p ms part h f n w h₁
  unfolding swept_in
  after_part_lem quiet {n} {w} {h₁} e =
      let es : List Event = f.events in
      let g : Freed = eagerly p ms part (freed f.words f.states) in
      let all : eagerly p ms part f ≡ behind es g = ap (eagerly p ms part) (sym (behind_none f)) ∙ eagerly_behind p ms part es (freed f.words f.states) in
      let number : n ≡ sweeps g.events = ap (λ (d : Done). d.number) e in
      let count : sweeps (es ++ g.events) ≡ sweeps g.events = sweeps_append es g.events ∙ ap (λ (k : ℕ). k + sweeps g.events) quiet.none ∙ zero-add (sweeps g.events) in
      let made : events_heap p (es ++ g.events) h ≡ events_heap p g.events h = events_append p es g.events h ∙ ap (events_heap p g.events) (quiet.heap h) in
      record {
        words = ap (λ (d : Done). d.words) e ∙ ap (λ (x : Freed). x.words) (sym all);
        states = eager_states;
        released = eager_released;
        swept = number ∙ sym count ∙ ap (λ (x : Freed). sweeps x.events) (sym all);
        heap = ap (λ (d : Done). d.heap) e ∙ sym made ∙ ap (λ (x : Freed). events_heap p x.events h) (sym all);
      }
