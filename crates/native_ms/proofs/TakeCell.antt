-- What `block_alloc` answers, beside the machine's `take_cell`. Assumes nothing.
use Prim.Native.Nat.{ℕ, ◌-◌}
use mathlib.Core.Path.{◌≡◌, ap}
use mathlib.Core.Bool.{Bool}
use mathlib.Core.List.{List, [], ◌∷◌, ◌++◌}
use lib.ListN.{get_or}
use Rattle.model.specs.declared.Params.{Params}
use Rattle.model.specs.Base.{flag}
use Rattle.model.specs.Tables.{Words, Tables, with_words, set_free, set_cells}
use Rattle.model.specs.Memory.{load, zeroed}
use Rattle.model.specs.SizeClasses.{align_allocation}
use Rattle.model.specs.Events.{Event, taken, event_heap, sweeps}
use Rattle.model.specs.Calls.{answered, take_cell}
use Rattle.native_ms.specs.Block.{TakenOut, took, take_free}
use Rattle.native_ms.specs.declared.block.Taken.{Taken}

module _ (p : Params) (t : Tables) (es : List Event) (h : List ℕ) (b align offset : ℕ) (fresh : Bool) {r : Taken} {w : Words} {h₁ : List ℕ} where
  pub took_cell : took r w h₁ ≡ take_free p b t.words h
      → take_cell p t es h b align offset fresh
      ≡ record {
        reply = answered (align_allocation r.at.0 align offset ∷ r.size ∷ flag fresh ∷ sweeps es ∷ []);
        tables = with_words w t;
        heap = h₁;
        events = es ++ (taken r.at.0 r.size ∷ []);
      }
  unfolding take_cell take_free event_heap
  took_cell e =
      let ea : r.at.0 ≡ get_or t.words.free b 0 = ap (λ (x : TakenOut). x.answer.at.0) e in
      let es' : r.size ≡ get_or t.words.size b 0 = ap (λ (x : TakenOut). x.answer.size) e in
      let ew : w ≡ set_cells b (get_or t.words.cells b 0 - 1) (set_free b (load p h (get_or t.words.free b 0)) t.words) = ap (λ (x : TakenOut). x.words) e in
      let eh : h₁ ≡ zeroed p h (get_or t.words.free b 0) (get_or t.words.size b 0) = ap (λ (x : TakenOut). x.heap) e in
      rw (ea, es', ew, eh)
