-- Loops that link a block's cells, one after the other: what is linked so far; and what a whole sweep or init makes of it.
-- Leans on the laws of cells; assumes nothing.
use Prim.Native.Nat.{ℕ, suc, ◌+◌, ◌-◌, ◌*◌, ◌^◌, ◌≤◌, ◌<◌}
use mathlib.Core.Path.{◌≡◌, refl, sym, ap, ◌∙◌}
use mathlib.Core.Bool.{Bool, true, false, not, ◌&&◌}
use mathlib.Core.Logic.{◌⊎◌, inl, inr}
use mathlib.Core.List.{List, ◌∷◌, head_d}
use native.Mathlib.Nat.{div-zero, mul-le-mul_right, suc-mul, div-mul-le_self}
use native.Mathlib.Omega.{arith}
use lib.Dec.{ltb}
use lib.ListN.{length, get_or, set}
use borrow.Author.Tests.{ltb-true, lt-ltb}
use Rattle.model.specs.declared.Params.{Params}
use Rattle.model.specs.Params.{good_params, start}
use Rattle.model.specs.Memory.{load, store, zeroed}
use Rattle.model.specs.Tables.{Words, set_next, set_prev, set_free, set_size, set_list, set_tls, set_cells}
use Rattle.model.specs.Block.{simple, cell_count, cells_down, link_all, keeps, sweep_chain, swept_words, clear_block, frees_cell}
use Rattle.laws.proofs.Below.{and_left, and_right, and_both}
use Rattle.laws.proofs.Params.{Bounds, good_bounds, start_out, start_end}
use Rattle.laws.proofs.Memory.{length_store}
use Rattle.laws.proofs.Cells.{cells_down_kept, cells_down_freed, tri}
use Rattle.native_ms.specs.Block.{kept_by, Room, Built, SweptBy, Swept, Cleared, took, take_free}

-- ---- counts and the choice of a sweep

pub count_none : (p : Params) (s : ℕ) → s ≡ 0 → 0 ≡ cell_count p s
unfolding cell_count
count_none p s e = rw e (sym (div-zero p.bytes))

-- ---- room

start_low : (p : Params) (b : ℕ) → Bounds p → start p b ≤ 2 ^ 47
start_low p b g = go (tri b p.blocks)
  where
    go : (b < p.blocks) ⊎ ((b ≡ p.blocks) ⊎ (p.blocks < b)) → start p b ≤ 2 ^ 47
    go (inl l) = omega (arith, start_end p g b l, g.end_high)
    go (inr (inl e)) = rw (start_out p b (omega arith)) (omega arith)
    go (inr (inr l)) = rw (start_out p b (omega arith)) (omega arith)

-- a block's cells have room
pub block_room : (p : Params) (b s : ℕ) {n from : ℕ} → good_params p ≡ true → n ≡ cell_count p s → from ≡ start p b → Room p from s n
unfolding cell_count
block_room p b s e en ef =
    record { good = e; low = rw ef (start_low p b (good_bounds p e)); fits = rw en (div-mul-le_self p.bytes s) }

-- the next of the cells ends in the block's room
pub next_fits : (p : Params) (from s n k : ℕ) {cell : ℕ} → Room p from s n → k < n → cell ≡ from + k * s
    → (cell + s ≤ 2 ^ 47 + 65536) × (s ≤ 65536)
next_fits p from s n k r l e =
    let g : Bounds p = good_bounds p r.good in
    let step : k * s + s ≤ n * s = omega (arith, mul-le-mul_right {m = suc k} {n = n} s l, suc-mul k s) in
    (omega (arith, r.low, r.fits, g.bytes_high), omega (arith, r.fits, g.bytes_high))

-- the k-th whole cell, if there is one, ends in it too
pub cell_fits : (p : Params) (b s k : ℕ) → (good_params p && ltb k (cell_count p s)) ≡ true
    → (start p b + k * s + s ≤ 2 ^ 47 + 65536) × (s ≤ 65536)
cell_fits p b s k e =
    next_fits p (start p b) s (cell_count p s) k
    (block_room p b s (and_left (good_params p) (ltb k (cell_count p s)) e) refl refl)
    (ltb-true k (cell_count p s) (and_right (good_params p) (ltb k (cell_count p s)) e)) refl

-- as the code tests that there is one
pub cell_far : (p : Params) (b s k : ℕ) {g : Bool} {n : ℕ} → g ≡ good_params p → g ≡ true → n ≡ cell_count p s → k < n
    → start p b + k * s + s ≤ 2 ^ 47 + 65536
cell_far p b s k eg y en l = (cell_fits p b s k (and_both (sym eg ∙ y) (lt-ltb k (cell_count p s) (rw (sym en) l)))).0

-- whether a sweep frees it, by what it keeps
pub frees_kept : (p : Params) (ms : List ℕ) (b s k : ℕ) {f kept : Bool} {a : ℕ} → (good_params p && ltb k (cell_count p s)) ≡ true
    → f ≡ simple p → a ≡ start p b + k * s → kept ≡ kept_by f p ms s a → not kept ≡ frees_cell p ms b s k
unfolding frees_cell kept_by keeps
frees_kept p ms b s k here ef ea ek = rw (here, ek, ef, ea)

-- ---- linked so far: k of the cells were looked at, so many are linked, and h is what the heap h₀ became

pub record Linking (p : Params) (kept : ℕ → Bool) (from s k : ℕ) (h₀ : List ℕ) (last linked : ℕ) (h : List ℕ) : Type 0 where
  pub same : length h ≡ length h₀
  pub few : linked ≤ k
  pub built : Built p (cells_down kept from s k) h₀ last linked h

pub linking_start : (p : Params) (kept : ℕ → Bool) (from s : ℕ) (h : List ℕ) → Linking p kept from s 0 h 0 0 h
unfolding cells_down head_d link_all
linking_start p kept from s h =
    record {
      same = refl;
      few = omega arith;
      built = record { linked = record { head = refl; heap = refl }; count = refl };
    }

module _ (p : Params) (kept : ℕ → Bool) (from s k : ℕ) (h₀ : List ℕ) (last linked : ℕ) (h : List ℕ)
    (r : Linking p kept from s k h₀ last linked h) where
  pub linking_kept : kept (from + k * s) ≡ true → Linking p kept from s (k + 1) h₀ last linked h
  linking_kept e =
      let c : cells_down kept from s k ≡ cells_down kept from s (k + 1) = cells_down_kept kept from s k refl e in
      let l = r.built.linked in
      record {
        same = r.same;
        few = omega (arith, r.few);
        built = record {
          linked = record { head = l.head ∙ ap (λ (y : List ℕ). head_d y 0) c; heap = l.heap ∙ ap (λ (y : List ℕ). link_all p y h₀) c };
          count = r.built.count ∙ ap length c;
        };
      }

  pub linking_freed : {h₁ : List ℕ} → kept (from + k * s) ≡ false → h₁ ≡ store p h (from + k * s) last
      → Linking p kept from s (k + 1) h₀ (from + k * s) (linked + 1) h₁
  unfolding head_d link_all
  linking_freed e st =
      let c : ((from + k * s) ∷ cells_down kept from s k) ≡ cells_down kept from s (k + 1) = cells_down_freed kept from s k refl e in
      let l = r.built.linked in
      record {
        same = ap length st ∙ length_store p h (from + k * s) last ∙ r.same;
        few = omega (arith, r.few);
        built = record {
          linked = record {
            head = ap (λ (y : List ℕ). head_d y 0) c;
            heap = st ∙ (λ i. store p (l.heap i) (from + k * s) (l.head i)) ∙ ap (λ (y : List ℕ). link_all p y h₀) c;
          };
          count = omega (arith, r.built.count, ap length c);
        };
      }

-- ---- a whole sweep

pub swept_by : (p : Params) (kept : ℕ → ℕ → Bool) (b : ℕ) {s n from r linked : ℕ} {t₁ : Words} {h₁ : List ℕ} (t : Words) (h : List ℕ)
    → s ≡ get_or t.size b 0 → n ≡ cell_count p s → from ≡ start p b → Built p (cells_down (kept s) from s n) h r linked h₁
    → t₁ ≡ set_cells b linked (set_free b r t) → SweptBy p kept b t h t₁ h₁
swept_by p kept b t h es en ef l e₁ =
    record { words = rw (e₁, l.linked.head, l.count, en, ef, es); heap = rw (l.linked.heap, en, ef, es) }

pub swept : (p : Params) (ms : List ℕ) (b : ℕ) (f : Bool) {t t₁ : Words} {h h₁ : List ℕ} → f ≡ simple p
    → SweptBy p (kept_by f p ms) b t h t₁ h₁ → Swept p ms b t h t₁ h₁
unfolding kept_by keeps swept_words sweep_chain
swept p ms b f e r = record { words = rw e at r.words; heap = rw e at r.heap }

-- ---- release

pub cleared : (b : ℕ) {t₁ t₂ t₃ t₄ t₅ t₆ t₇ : Words} {s₁ : List ℕ} (t : Words) (st : List ℕ) → t₁ ≡ set_next b 0 t → t₂ ≡ set_prev b 0 t₁
    → t₃ ≡ set_free b 0 t₂ → t₄ ≡ set_size b 0 t₃ → t₅ ≡ set_list b 0 t₄ → t₆ ≡ set_tls b 0 t₅ → t₇ ≡ set_cells b 0 t₆ → s₁ ≡ set st b 0
    → Cleared b t st t₇ s₁
unfolding clear_block
cleared b t st e₁ e₂ e₃ e₄ e₅ e₆ e₇ es = record { words = rw (e₇, e₆, e₅, e₄, e₃, e₂, e₁); states = es }

-- ---- taking a cell

pub take : (p : Params) (b : ℕ) {cell s n link head less : ℕ} {t₁ : Words} {h₁ : List ℕ} (t : Words) (h : List ℕ) → cell ≡ get_or t.free b 0
    → s ≡ get_or t.size b 0 → n ≡ get_or t.cells b 0 → link ≡ load p h cell → (head ≡ link) × (less ≡ n - 1)
    → t₁ ≡ set_cells b less (set_free b head t) → h₁ ≡ zeroed p h cell s
    → took (record { at = record { 0 = cell }; size = s }) t₁ h₁ ≡ take_free p b t h
unfolding take_free
take p b t h ec es en el (eh, eo) e₁ ez = rw (e₁, ez, eo, eh, en, el, ec, es)
