-- The list operations step by step: what is read and stored, one value after the other, put together to the definition.
-- One law for each way out of a function. Plain values alone stand here. Assumes nothing.
use Rattle.std.specs.Prelude.{if◌then◌else◌}
use Prim.Native.Nat.{ℕ, zero, suc, ◌-◌, ◌<◌, ◌≤◌}
use mathlib.Core.Path.{◌≡◌, refl}
use native.Mathlib.Omega.{arith}
use native.Mathlib.Nat.{not-suc-le-zero}
use lib.Dec.{eqb}
use lib.ListN.{get_or}
use borrow.Author.Tests.{eq-eqb, ne_eqb}
use Rattle.model.specs.declared.Params.{Params}
use Rattle.model.specs.Params.{start, block_at, list_word}
use Rattle.model.specs.Tables.{Words, set_first, set_last, set_next, set_prev, set_list}
use Rattle.model.specs.BlockList.{push, popped, pop_head, pop, remove_between, remove, relabel, link, append}

-- ---- push and pop, case by case

unfoldable pub push_only : Params → ℕ → ℕ → Words → Words
push_only p l b t =
    set_list b (list_word l) (set_last l (start p b) (set_first l (start p b) (set_prev b 0 (set_next b 0 t))))

unfoldable pub push_ahead : Params → ℕ → ℕ → ℕ → Words → Words
push_ahead p l b head t =
    set_list b (list_word l)
    (set_first l (start p b) (set_prev b 0 (set_prev (block_at p head) (start p b) (set_next b head t))))

unfoldable pub pop_only : ℕ → ℕ → Words → Words
pop_only l h t = set_prev h 0 (set_next h 0 (set_last l 0 (set_first l 0 t)))

unfoldable pub pop_ahead : Params → ℕ → ℕ → ℕ → Words → Words
pop_ahead p l h next t =
    set_prev h 0 (set_next h 0 (set_list (block_at p next) (list_word l) (set_prev (block_at p next) 0 (set_first l next t))))

unfoldable pub pop_at : Params → ℕ → ℕ → Words → Words
pop_at p l h t =
    if eqb (get_or t.next h 0) 0 then pop_only l h t else pop_ahead p l h (get_or t.next h 0) t

module _ (p : Params) (l b : ℕ) {a m f : ℕ} (t : Words) (ea : a ≡ start p b) (em : m ≡ list_word l) (ef : f ≡ get_or t.first l 0) where
  pub push_only_lem : {t₁ t₂ t₃ t₄ t₅ : Words} → f ≡ 0 → t₁ ≡ set_next b 0 t → t₂ ≡ set_prev b 0 t₁ → t₃ ≡ set_first l a t₂ → t₄ ≡ set_last l a t₃ → t₅ ≡ set_list b m t₄ → t₅ ≡ push p l b t
  unfolding push
  push_only_lem h e₁ e₂ e₃ e₄ e₅ = rw (← ef, eq-eqb f 0 h, e₅, e₄, e₃, e₂, e₁, ea, em)

  pub push_ahead_lem : {j : ℕ} {t₁ t₂ t₃ t₄ t₅ : Words} → (f ≡ 0 → ⊥) → j ≡ block_at p f → t₁ ≡ set_next b f t → t₂ ≡ set_prev j a t₁ → t₃ ≡ set_prev b 0 t₂ → t₄ ≡ set_first l a t₃ → t₅ ≡ set_list b m t₄ → t₅ ≡ push p l b t
  unfolding push
  push_ahead_lem h ej e₁ e₂ e₃ e₄ e₅ = rw (← ef, ne_eqb f 0 h, e₅, e₄, e₃, e₂, e₁, ej, ea, em)

module _ (p : Params) (l : ℕ) {f : ℕ} (t : Words) (ef : f ≡ get_or t.first l 0) where
  pub pop_none : f ≡ 0 → popped 0 t ≡ pop p l t
  unfolding pop pop_head
  pop_none h = rw (← ef, eq-eqb f 0 h)

  pub pop_only_lem : {i x : ℕ} {t₁ t₂ t₃ t₄ : Words} → (f ≡ 0 → ⊥) → i ≡ block_at p f → x ≡ get_or t.next i 0 → x ≡ 0 → t₁ ≡ set_first l 0 t → t₂ ≡ set_last l 0 t₁ → t₃ ≡ set_next i 0 t₂ → t₄ ≡ set_prev i 0 t₃ → popped f t₄ ≡ pop p l t
  unfolding pop pop_head
  pop_only_lem {x} h ei ex hx e₁ e₂ e₃ e₄ = rw (← ef, ne_eqb f 0 h, ← ei, ← ex, eq-eqb x 0 hx, e₄, e₃, e₂, e₁)

  pub pop_ahead_lem : {i x j m : ℕ} {t₁ t₂ t₃ t₄ t₅ : Words} → (f ≡ 0 → ⊥) → i ≡ block_at p f → x ≡ get_or t.next i 0 → (x ≡ 0 → ⊥) → j ≡ block_at p x → m ≡ list_word l → t₁ ≡ set_first l x t → t₂ ≡ set_prev j 0 t₁ → t₃ ≡ set_list j m t₂ → t₄ ≡ set_next i 0 t₃ → t₅ ≡ set_prev i 0 t₄ → popped f t₅ ≡ pop p l t
  unfolding pop pop_head
  pop_ahead_lem {x} h ei ex hx ej em e₁ e₂ e₃ e₄ e₅ = rw (← ef, ne_eqb f 0 h, ← ei, ← ex, ne_eqb x 0 hx, ← ej, ← em, e₅, e₄, e₃, e₂, e₁)

module _ (p : Params) (l b : ℕ) {q x m jq jx : ℕ} (t : Words) (eq : q ≡ get_or t.prev b 0) (ex : x ≡ get_or t.next b 0) (em : m ≡ list_word l) (ejq : jq ≡ block_at p q) (ejx : jx ≡ block_at p x) where
  pub remove_only : {t₁ t₂ : Words} → q ≡ 0 → x ≡ 0 → t₁ ≡ set_first l 0 t → t₂ ≡ set_last l 0 t₁ → t₂ ≡ remove p l b t
  unfolding remove remove_between
  remove_only hq hx e₁ e₂ = rw (← eq, ← ex, eq-eqb q 0 hq, eq-eqb x 0 hx, e₂, e₁)

  pub remove_first : {t₁ t₂ t₃ : Words} → q ≡ 0 → (x ≡ 0 → ⊥) → t₁ ≡ set_prev jx 0 t → t₂ ≡ set_first l x t₁ → t₃ ≡ set_list jx m t₂ → t₃ ≡ remove p l b t
  unfolding remove remove_between
  remove_first hq hx e₁ e₂ e₃ = rw (← eq, ← ex, eq-eqb q 0 hq, ne_eqb x 0 hx, ← ejx, ← em, e₃, e₂, e₁)

  pub remove_last : {t₁ t₂ t₃ : Words} → (q ≡ 0 → ⊥) → x ≡ 0 → t₁ ≡ set_next jq 0 t → t₂ ≡ set_last l q t₁ → t₃ ≡ set_list jq m t₂ → t₃ ≡ remove p l b t
  unfolding remove remove_between
  remove_last hq hx e₁ e₂ e₃ = rw (← eq, ← ex, ne_eqb q 0 hq, eq-eqb x 0 hx, ← ejq, ← em, e₃, e₂, e₁)

  pub remove_inner : {t₁ t₂ : Words} → (q ≡ 0 → ⊥) → (x ≡ 0 → ⊥) → t₁ ≡ set_next jq x t → t₂ ≡ set_prev jx q t₁ → t₂ ≡ remove p l b t
  unfolding remove remove_between
  remove_inner hq hx e₁ e₂ = rw (← eq, ← ex, ne_eqb q 0 hq, ne_eqb x 0 hx, ← ejq, ← ejx, e₂, e₁)

-- ---- relabel: what remains to be done from here is the whole

module _ (p : Params) (l a : ℕ) (t : Words) where
  pub relabel_end : (k : ℕ) → k ≤ 0 → t ≡ relabel k p l a t
  unfolding relabel
  relabel_end zero h = refl
  relabel_end (suc k) h = absurd (not-suc-le-zero h)

  pub relabel_stop : (k : ℕ) → a ≡ 0 → t ≡ relabel k p l a t
  unfolding relabel
  relabel_stop zero h = refl
  relabel_stop (suc k) h = rw (eq-eqb a 0 h)

  pub relabel_step : (k : ℕ) {i x m : ℕ} {t₁ : Words} → 0 < k → (a ≡ 0 → ⊥) → i ≡ block_at p a → m ≡ list_word l → x ≡ get_or t.next i 0 → t₁ ≡ set_list i m t → relabel (k - 1) p l x t₁ ≡ relabel k p l a t
  unfolding relabel
  relabel_step zero s h ei em ex e₁ = absurd (not-suc-le-zero s)
  relabel_step (suc k) {i} {x} {m} {t₁} s h ei em ex e₁ =
      let d : suc k - 1 ≡ k = omega arith in
      rw (d, ne_eqb a 0 h, ← ei, ← em, ← e₁, ← ex)

-- ---- append

module _ (p : Params) (l o : ℕ) {f e q own : ℕ} (t : Words) (ef : f ≡ get_or t.first o 0) (ee : e ≡ get_or t.last o 0) (eq : q ≡ get_or t.last l 0) (eo : own ≡ get_or t.first l 0) where
  pub link_empty : {t₁ t₂ : Words} → own ≡ 0 → t₁ ≡ set_first l f t → t₂ ≡ set_last l e t₁ → t₂ ≡ link p l o t
  unfolding link
  link_empty h e₁ e₂ = rw (← eo, eq-eqb own 0 h, ← ef, ← ee, e₂, e₁)

  pub link_behind : {jq jf : ℕ} {t₁ t₂ t₃ : Words} → (own ≡ 0 → ⊥) → jq ≡ block_at p q → jf ≡ block_at p f → t₁ ≡ set_next jq f t → t₂ ≡ set_prev jf q t₁ → t₃ ≡ set_last l e t₂ → t₃ ≡ link p l o t
  unfolding link
  link_behind h ejq ejf e₁ e₂ e₃ = rw (← eo, ne_eqb own 0 h, ← ef, ← ee, ← eq, ← ejq, ← ejf, e₃, e₂, e₁)

module _ (p : Params) (l o : ℕ) {f : ℕ} (t : Words) (ef : f ≡ get_or t.first o 0) where
  pub append_none : f ≡ 0 → t ≡ append p l o t
  unfolding append
  append_none h = rw (← ef, eq-eqb f 0 h)

  pub append_some : {t₁ t₂ t₃ t₄ : Words} → (f ≡ 0 → ⊥) → t₁ ≡ link p l o t → t₂ ≡ relabel p.blocks p l f t₁ → t₃ ≡ set_first o 0 t₂ → t₄ ≡ set_last o 0 t₃ → t₄ ≡ append p l o t
  unfolding append
  append_some h e₁ e₂ e₃ e₄ = rw (← ef, ne_eqb f 0 h, e₄, e₃, e₂, e₁)
