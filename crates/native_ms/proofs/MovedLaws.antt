-- Blocks counted and appended, one law for each way out. Plain values alone stand here. Assumes nothing.
use Prim.Native.Nat.{ℕ, zero, suc, ◌+◌, ◌≤◌}
use mathlib.Core.Path.{◌≡◌, refl, sym, ap, ◌∙◌}
use mathlib.Core.Bool.{Bool, true, false}
use mathlib.Core.List.{List}
use native.Mathlib.Nat.{not-suc-le-zero, zero-add}
use native.Mathlib.Numerals.{add-one}
use native.Mathlib.Omega.{arith}
use lib.ListN.{length, get_or, replicate}
use borrow.Author.Tests.{eq-eqb, ne_eqb}
use Rattle.model.specs.declared.Params.{Params}
use Rattle.model.specs.Base.{sum_below, each_below}
use Rattle.model.specs.Params.{good_params, abandoned, in_gc, block_at, available, unswept, consumed}
use Rattle.model.specs.Tables.{Words, set_first, set_last, set_phase, set_released, with_released}
use Rattle.model.specs.BlockList.{relabel, link, append, walk, blocks_on, appended}
use Rattle.model.specs.Global.{abandon_bin, abandon_blocks, abandoned_bin, abandoned_below, abandoned_blocks, all_released, part_released, merged}
use Rattle.laws.proofs.Base.{if_true, if_false}
use Rattle.laws.proofs.Params.{good_bounds}
use Rattle.laws.proofs.BlockList.{append_none, append_some}
use Rattle.native_ms.specs.Space.{collected}
use Rattle.native_ms.specs.Moved.{Moved, moved, append_moves, bin_moves, bins_move, end_moves, part_moves}
use Rattle.native_ms.proofs.CountedLaws.{walk_few}

-- ---- the walk that counts: n blocks, and what remains from here, are the whole

module _ (p : Params) (next : List ℕ) (n a : ℕ) where
  pub count_end : (k : ℕ) → k ≤ 0 → n ≡ n + length (walk k p next a)
  unfolding walk
  count_end zero h = omega arith
  count_end (suc k) h = absurd (not-suc-le-zero h)

  pub count_stop : (k : ℕ) → a ≡ 0 → n ≡ n + length (walk k p next a)
  unfolding walk
  count_stop zero h = omega arith
  count_stop (suc k) h = rw (eq-eqb a 0 h) (omega arith)

  pub count_step : {k j i x : ℕ} → k ≡ suc j → (a ≡ 0 → ⊥) → i ≡ block_at p a → x ≡ get_or next i 0
      → n + 1 + length (walk j p next x) ≡ n + length (walk k p next a)
  unfolding walk
  count_step {k} {j} {i} {x} ek h ei ex =
      let m : n + 1 + length (walk j p next x) ≡ n + suc (length (walk j p next x)) = omega arith in
      rw (ek, ne_eqb a 0 h, ← ei, ← ex) m

-- ---- one append

module _ (p : Params) (l o : ℕ) {f : ℕ} (t : Words) (ef : f ≡ get_or t.first o 0) where
  pub moves_none : f ≡ 0 → moved 0 t ≡ append_moves p l o t
  unfolding append_moves appended blocks_on
  moves_none h =
      let none : 0 ≡ length (walk p.blocks p t.next (get_or t.first o 0)) = count_stop p t.next 0 (get_or t.first o 0) p.blocks (sym ef ∙ h) ∙ zero-add _ in
      λ i. moved (none i) (append_none p l o t ef h i)

  pub moves_some : {n : ℕ} {t₁ t₂ t₃ t₄ : Words} → (f ≡ 0 → ⊥) → n ≡ length (walk p.blocks p t.next f) → t₁ ≡ link p l o t
      → t₂ ≡ relabel p.blocks p l f t₁ → t₃ ≡ set_first o 0 t₂ → t₄ ≡ set_last o 0 t₃ → moved n t₄ ≡ append_moves p l o t
  unfolding append_moves appended blocks_on
  moves_some h en e₁ e₂ e₃ e₄ =
      λ i. moved ((en ∙ ap (λ (a : ℕ). length (walk p.blocks p t.next a)) ef) i) (append_some p l o t ef h e₁ e₂ e₃ e₄ i)

module _ (p : Params) (l o : ℕ) (t : Words) {n : ℕ} {u : Words} (e : moved n u ≡ append_moves p l o t) where
  pub moves_words : u ≡ append p l o t
  unfolding append_moves
  moves_words = ap (λ (q : Moved). q.words) e

  moves_number : n ≡ appended p o t
  unfolding append_moves
  moves_number = ap (λ (q : Moved). q.number) e

-- ---- an owner's lists, bin by bin

pub over_bin : (p : Params) (to from bin : ℕ) {a u c fa fu fc : ℕ} (t : Words) {n m k : ℕ} {t₁ t₂ t₃ : Words} → a ≡ available to bin
    → u ≡ unswept to bin → c ≡ consumed to bin → fa ≡ available from bin → fu ≡ unswept from bin → fc ≡ consumed from bin
    → moved n t₁ ≡ append_moves p a fa t → moved m t₂ ≡ append_moves p c fc t₁ → moved k t₃ ≡ append_moves p u fu t₂
    → moved (n + m + k) t₃ ≡ bin_moves p to from bin t
unfolding bin_moves abandoned_bin abandon_bin
over_bin p to from bin {a} {u} {c} {fa} {fu} {fc} t {n} {m} {k} {t₁} {t₂} {t₃} ea eu ec efa efu efc e₁ e₂ e₃ =
    λ i. moved (number i) (words i)
  where
    T₁ : Words
    T₁ = append p (available to bin) (available from bin) t

    T₂ : Words
    T₂ = append p (consumed to bin) (consumed from bin) T₁

    words : t₃ ≡ append p (unswept to bin) (unswept from bin) T₂
    words = rw (moves_words p u fu t₂ e₃, moves_words p c fc t₁ e₂, moves_words p a fa t e₁, ea, eu, ec, efa, efu, efc)

    number : n + m + k ≡ appended p (available from bin) t + appended p (consumed from bin) T₁ + appended p (unswept from bin) T₂
    number =
        rw (moves_number p a fa t e₁, moves_number p c fc t₁ e₂, moves_number p u fu t₂ e₃, moves_words p c fc t₁ e₂, moves_words p a fa t e₁, ea, ec, efa, efu, efc)

appended_few : (p : Params) (o : ℕ) (t : Words) → appended p o t ≤ p.blocks
unfolding appended blocks_on
appended_few p o t = walk_few p.blocks p t.next (get_or t.first o 0)

-- the blocks of one list are few
pub moves_low : (p : Params) → good_params p ≡ true → (l o : ℕ) (t : Words) {n : ℕ} {u : Words} → moved n u ≡ append_moves p l o t → n ≤ 1024
moves_low p g l o t e = omega (arith, moves_number p l o t e, appended_few p o t, (good_bounds p g).blocks_high)

-- those of one bin too
pub over_few : (p : Params) (to from bin : ℕ) (t : Words) {m : ℕ} {u : Words} → p.blocks ≤ 1024 → moved m u ≡ bin_moves p to from bin t → m ≤ 3072
unfolding bin_moves abandoned_bin
over_few p to from bin t {m} h e =
    let T₁ : Words = append p (available to bin) (available from bin) t in
    let T₂ : Words = append p (consumed to bin) (consumed from bin) T₁ in
    let n : m ≡ appended p (available from bin) t + appended p (consumed from bin) T₁ + appended p (unswept from bin) T₂ = ap (λ (q : Moved). q.number) e in
    omega (arith, appended_few p (available from bin) t, appended_few p (consumed from bin) T₁, appended_few p (unswept from bin) T₂)

module _ (p : Params) (to from : ℕ) (t : Words) where
  pub over_none : moved 0 t ≡ bins_move 0 p to from t
  unfolding bins_move abandoned_below sum_below each_below
  over_none = refl

  pub over_more : (bin : ℕ) {n m : ℕ} {u v : Words} → moved n u ≡ bins_move bin p to from t → moved m v ≡ bin_moves p to from bin u
      → moved (n + m) v ≡ bins_move (bin + 1) p to from t
  unfolding bins_move bin_moves abandoned_below sum_below each_below
  over_more bin {n} {m} {u} {v} e q = rw (add-one bin) (λ i. moved (number i) (words i))
    where
      before : u ≡ each_below bin (abandon_bin p to from) t
      before = ap (λ (x : Moved). x.words) e

      words : v ≡ abandon_bin p to from bin (each_below bin (abandon_bin p to from) t)
      words = ap (λ (x : Moved). x.words) q ∙ ap (abandon_bin p to from bin) before

      here : m ≡ abandoned_bin p to from bin (each_below bin (abandon_bin p to from) t)
      here = ap (λ (x : Moved). x.number) q ∙ ap (abandoned_bin p to from bin) before

      number : n + m ≡ abandoned_bin p to from bin (each_below bin (abandon_bin p to from) t) + sum_below bin (λ k. abandoned_bin p to from k (each_below k (abandon_bin p to from) t))
      number = let sum : n ≡ sum_below bin (λ k. abandoned_bin p to from k (each_below k (abandon_bin p to from) t)) = ap (λ (x : Moved). x.number) e in omega (arith, here)

  pub over_words : {n : ℕ} {u : Words} → moved n u ≡ bins_move 49 p to from t → u ≡ abandon_blocks p to from t
  unfolding bins_move abandon_blocks
  over_words e = ap (λ (q : Moved). q.words) e

  pub over_number : {n : ℕ} {u : Words} → moved n u ≡ bins_move 49 p to from t → n ≡ abandoned_blocks p to from t
  unfolding bins_move abandoned_blocks
  over_number e = ap (λ (q : Moved). q.number) e

-- ---- the end of a collection

pub end_moves_lem : (p : Params) (t : Words) {n : ℕ} {t₁ t₂ t₃ : Words} → moved n t₁ ≡ bins_move 49 p abandoned in_gc t → t₂ ≡ with_released (replicate 9 0) t₁
    → t₃ ≡ set_phase 0 t₂ → moved n t₃ ≡ end_moves p t
unfolding end_moves bins_move collected abandon_blocks
end_moves_lem p t e₁ e₂ e₃ =
    λ i. moved (ap (λ (q : Moved). q.number) e₁ i) ((e₃ ∙ ap (set_phase 0) (e₂ ∙ ap (λ (q : Moved). with_released (replicate 9 0) q.words) e₁)) i)

module _ (p : Params) (part : ℕ) (t : Words) {t₁ t₂ : Words} {b : Bool} (e₁ : t₁ ≡ set_phase 2 t) (e₂ : t₂ ≡ set_released part 1 t₁) (eb : b ≡ all_released t₂) where
  part_at : t₂ ≡ set_released part 1 (set_phase 2 t)
  part_at = e₂ ∙ ap (set_released part 1) e₁

  pub part_last : {q : Moved} → b ≡ true → q ≡ end_moves p t₂ → q ≡ part_moves p part t
  unfolding part_moves part_released merged abandoned_blocks end_moves collected
  part_last z e₃ =
      let u : Words = set_released part 1 (set_phase 2 t) in
      let y : all_released u ≡ true = sym (ap all_released part_at) ∙ sym eb ∙ z in
      let number = sym (if_true (all_released u) (abandoned_blocks p abandoned in_gc u) 0 y) in
      let words = sym (if_true (all_released u) (collected p u) u y) in
      e₃ ∙ ap (end_moves p) part_at ∙ (λ i. moved (number i) (words i))

  pub part_due : b ≡ false → moved 0 t₂ ≡ part_moves p part t
  unfolding part_moves part_released merged collected
  part_due z =
      let u : Words = set_released part 1 (set_phase 2 t) in
      let y : all_released u ≡ false = sym (ap all_released part_at) ∙ sym eb ∙ z in
      let number = sym (if_false (all_released u) (abandoned_blocks p abandoned in_gc u) 0 y) in
      let words = part_at ∙ sym (if_false (all_released u) (collected p u) u y) in
      λ i. moved (number i) (words i)
