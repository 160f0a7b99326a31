-- The short way of an alloc: the head block of a list, and what lies where its free head is a cell. Assumes nothing.
use Prim.Native.Nat.{ℕ, ◌+◌, ◌-◌, ◌/◌, ◌%◌, ◌^◌, ◌<◌, ◌≤◌}
use mathlib.Core.Path.{◌≡◌, refl, sym, ap, ◌∙◌}
use mathlib.Core.Bool.{true}
use native.Mathlib.Omega.{arith}
use lib.Dec.{eqb, ltb, leb}
use lib.ListN.{get_or}
use borrow.Author.Tests.{leb-true}
use Rattle.model.specs.declared.Params.{Params}
use Rattle.model.specs.Params.{good_params, heap_bytes, start, block_at}
use Rattle.model.specs.Tables.{Words}
use Rattle.model.specs.Block.{is_cell}
use Rattle.laws.proofs.Below.{and_four}
use Rattle.laws.proofs.Params.{good_bounds, start_in, start_end, block_at_from}
use Rattle.native_ms.specs.Places.{Known, HasFree, HeadCell, Takeable}

-- the block at the head, its number by a shift
pub head_free : (p : Params) (t : Words) (l log : ℕ) {f c : ℕ} → good_params p ≡ true → f ≡ get_or t.first l 0 → p.base ≤ f
    → p.bytes ≡ 2 ^ log → c ≡ get_or t.free ((f - p.base) / 2 ^ log) 0 → (c ≡ 0 → ⊥) → HasFree p t l ((f - p.base) / 2 ^ log)
head_free p t l log {f} g ef low power ec nz =
    record {
      some = λ z. absurd (omega (arith, ef, low, (good_bounds p g).base_low));
      here = ap (λ (x : ℕ). (f - p.base) / x) (sym power) ∙ sym (block_at_from p f low) ∙ ap (block_at p) ef;
      cell = λ z. nz (ec ∙ z);
    }

-- where the free head is a cell, it lies in the heap
module _ (p : Params) (t : Words) {words heap b cell size : ℕ} (k : Takeable p t words heap b) (ec : cell ≡ get_or t.free b 0) (es : size ≡ get_or t.size b 0) where
  inside : (start p b ≤ cell) × ((cell - start p b) + size ≤ p.bytes)
  unfolding is_cell
  inside =
      let e : is_cell p b size cell ≡ true = rw (ec, es) k.head.cell in
      let f = and_four (ltb 0 size) (leb (start p b) cell) (eqb ((cell - start p b) % size) 0) (leb ((cell - start p b) + size) p.bytes) e in
      (leb-true _ _ f.1, leb-true _ _ f.3)

  pub head_from : p.base ≤ cell
  head_from = omega (arith, inside.0, start_in p b k.stands.block)

  pub head_room : (cell - p.base) + size ≤ heap
  unfolding heap_bytes
  head_room =
      omega (arith, inside.0, inside.1, start_in p b k.stands.block, start_end p (good_bounds p k.stands.good) b k.stands.block, k.stands.whole)

  pub head_word : (cell - p.base) + 8 ≤ heap
  head_word = omega (arith, head_room, es, k.head.word)

  pub head_low : cell < 2 ^ 47
  unfolding heap_bytes
  head_low =
      omega (arith, inside.0, inside.1, es, k.head.word, start_end p (good_bounds p k.stands.good) b k.stands.block, (good_bounds p k.stands.good).end_high)

pub taken_low : (p : Params) (t : Words) {words heap b a : ℕ} → Takeable p t words heap b → a ≡ get_or t.free b 0 → a < 2 ^ 47
taken_low p t k e = head_low p t k e refl

-- the head block found, in tables whose free heads are cells
pub head_takeable : (p : Params) (t : Words) {words marks heap l b : ℕ} → Known p words marks heap
    → ((x : ℕ) → x < p.blocks → (get_or t.free x 0 ≡ 0 → ⊥) → HeadCell p t x) → (b < p.blocks) × HasFree p t l b
    → Takeable p t words heap b
head_takeable p t k cells f =
    record { stands = record { good = k.good; count = k.count; whole = k.whole; block = f.0 }; head = cells _ f.0 f.1.cell }
