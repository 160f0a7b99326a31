-- "push, pop, remove and append change a list record the caller lends (first, last, cell size)": a record and the words that
-- hold its ends at the number of its list.
use Prim.Native.Nat.{ℕ}
use mathlib.Core.Path.{◌≡◌, ap, ◌∙◌}
use lib.ListN.{get_or}
use Rattle.model.specs.declared.Address.{Address}
use Rattle.model.specs.declared.Params.{Params}
use Rattle.model.specs.Tables.{Words, set_first, set_last}
use Rattle.model.specs.BlockList.{Popped, popped, pop}
use Rattle.native_ms.specs.declared.block_list.BlockList.{BlockList}
use Rattle.native_ms.specs.Moved.{Moved, moved, append_moves}
use Rattle.native_ms.specs.Records.{append_on, append_both, beside, beside_both, beside_popped, on_record, pop_on, record_at, with_record}

-- ---- the two, store by store and read by read

module _ (l : ℕ) where
  pub with_record_lem : (r : BlockList) (t : Words) {t₁ t₂ : Words} → t₁ ≡ set_first l r.first.0 t → t₂ ≡ set_last l r.last.0 t₁
      → t₂ ≡ with_record l r t
  unfolding with_record
  with_record_lem r t e₁ e₂ = rw (e₂, e₁)

  pub record_at_lem : (size : ℕ) (t : Words) {a b : Address} → a.0 ≡ get_or t.first l 0 → b.0 ≡ get_or t.last l 0
      → ◌≡◌ {A = BlockList} (record { first = a; last = b; size = size }) (record_at l size t)
  unfolding record_at
  record_at_lem size t e₁ e₂ = λ i. record { first = record { 0 = e₁ i }; last = record { 0 = e₂ i }; size = size }

-- ---- the operations, by the words before, those with the record put there, and those after

module _ (l : ℕ) (r : BlockList) (t : Words) {t₁ t₂ : Words} (e₁ : t₁ ≡ with_record l r t) where
  pub on_record_lem : (f : Words → Words) {s : BlockList} → t₂ ≡ f t₁ → s ≡ record_at l r.size t₂ → beside s t₂ ≡ on_record l f r t
  unfolding on_record
  on_record_lem f e₂ e =
      let v : t₂ ≡ f (with_record l r t) = e₂ ∙ ap f e₁ in
      λ i. beside ((e ∙ ap (record_at l r.size) v) i) (v i)

  pub pop_on_lem : (p : Params) {s : BlockList} {a : ℕ} → popped a t₂ ≡ pop p l t₁ → s ≡ record_at l r.size t₂
      → beside_popped s (popped a t₂) ≡ pop_on p l r t
  unfolding pop_on
  pop_on_lem p {a} e₂ e =
      let v : popped a t₂ ≡ pop p l (with_record l r t) = e₂ ∙ ap (pop p l) e₁ in
      λ i. beside_popped ((e ∙ ap (λ (q : Popped). record_at l r.size q.words) v) i) (v i)

  pub append_on_lem : (p : Params) (o : ℕ) (k : BlockList) {n : ℕ} {t₃ : Words} {s u : BlockList} → t₂ ≡ with_record o k t₁
      → moved n t₃ ≡ append_moves p l o t₂
      → s ≡ record_at l r.size t₃ → u ≡ record_at o k.size t₃ → beside_both s u (moved n t₃) ≡ append_on p l o r k t
  unfolding append_on
  append_on_lem p o k {n} {t₃} e₂ e₃ e e' =
      let v : moved n t₃ ≡ append_both p l o r k t = e₃ ∙ ap (append_moves p l o) (e₂ ∙ ap (with_record o k) e₁) in
      λ i. beside_both ((e ∙ ap (λ (q : Moved). record_at l r.size q.words) v) i)
      ((e' ∙ ap (λ (q : Moved). record_at o k.size q.words) v) i) (v i)
