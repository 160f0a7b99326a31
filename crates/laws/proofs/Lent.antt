-- Lent buffers that hold tables and a heap: what set-up makes of buffers that fit, and what a call makes of such. Assumes nothing.
use mathlib.Core.Path.{◌≡◌, refl, sym, ap, ◌∙◌}
use mathlib.Core.Bool.{Bool, true, false}
use mathlib.Core.List.{List, []}
use Prim.Native.Nat.{ℕ, ◌/◌}
use native.Mathlib.Omega.{arith}
use lib.Dec.{eqb}
use lib.ListN.{length}
use borrow.Author.Tests.{eq-eqb, eqb-true}
use Rattle.model.specs.declared.Params.{Params}
use Rattle.model.specs.Params.{good_params, Lent, fits, word_count, heap_bytes}
use Rattle.model.specs.Tables.{Words, Tables, tables_of}
use Rattle.model.specs.Classes.{classes_fit}
use Rattle.model.specs.Global.{fresh_tables}
use Rattle.model.specs.Calls.{Reply, answered, refusal_number, Call, step, Returned, tables_in, lent_of, result_from, bad_setup, bad_classes, call, set_up}
use Rattle.laws.proofs.Base.{if_true, if_false}
use Rattle.laws.proofs.Below.{and_both, and_five}
use Rattle.laws.proofs.Tables.{Sized, view_flat, length_flat}

-- what `fits` says
pub record Fitting (p : Params) (l : Lent) : Type 0 where
  pub good : good_params p ≡ true
  pub words : length l.words ≡ word_count p
  pub states : length l.states ≡ p.blocks
  pub marks : length l.marks ≡ heap_bytes p / 64
  pub heap : length l.heap ≡ heap_bytes p

pub fitting : (p : Params) (l : Lent) → fits p l ≡ true → Fitting p l
unfolding fits
fitting p l f =
    let r = and_five (good_params p) (eqb (length l.words) (word_count p)) (eqb (length l.states) p.blocks)
    (eqb (length l.marks) (heap_bytes p / 64)) (eqb (length l.heap) (heap_bytes p)) f in
    record { good = r.0; words = eqb-true _ _ r.1; states = eqb-true _ _ r.2; marks = eqb-true _ _ r.3; heap = eqb-true _ _ r.4 }

-- of the parameters and the heap
pub fits_parts : (p : Params) (l : Lent) → fits p l ≡ true → (good_params p ≡ true) × (length l.heap ≡ heap_bytes p)
fits_parts p l f = ((fitting p l f).good, (fitting p l f).heap)

-- a set-up that is answered had buffers that fit, and rows that are accepted
pub answered_fits : (p : Params) (l : Lent) → (set_up p l).reply ≡ answered [] → fits p l ≡ true
unfolding set_up refusal_number
answered_fits p l e = go (fits p l) refl
  where
    go : (b : Bool) → fits p l ≡ b → fits p l ≡ true
    go true f = f
    go false f = absurd (omega (arith, ap (λ (r : Reply). r.number) (sym (ap (λ (x : Returned). x.reply) (if_false (fits p l) _ (bad_setup l) f)) ∙ e)))

pub answered_classes : (p : Params) (l : Lent) → (set_up p l).reply ≡ answered [] → classes_fit p ≡ true
unfolding set_up refusal_number
answered_classes p l e = go (classes_fit p) refl
  where
    go : (b : Bool) → classes_fit p ≡ b → classes_fit p ≡ true
    go true f = f
    go false f =
        absurd
        (omega
        (arith, ap (λ (r : Reply). r.number) (sym (ap (λ (x : Returned). x.reply) (if_true (fits p l) _ (bad_setup l) (answered_fits p l e) ∙ if_false (classes_fit p) _ (bad_classes l) f)) ∙ e)))

-- and what it leaves
pub set_up_is : (p : Params) (l : Lent) → fits p l ≡ true → classes_fit p ≡ true
    → set_up p l ≡ record { reply = answered []; lent = lent_of (fresh_tables p) l.heap }
unfolding set_up
set_up_is p l f k = if_true (fits p l) _ _ f ∙ if_true (classes_fit p) _ _ k

-- the tables in the buffers
pub lent_tables : (n : ℕ) (t : Tables) (h : List ℕ) → Sized n t.words → tables_in (lent_of t h) ≡ t
lent_tables n t h z = ap (λ (w : Words). tables_of w t.states t.marks) (view_flat n t.words z)

-- buffers with tables and a heap of the right lengths fit
pub lent_fits : (p : Params) (t : Tables) (h : List ℕ) → good_params p ≡ true → Sized p.blocks t.words → length t.states ≡ p.blocks
    → length t.marks ≡ heap_bytes p / 64 → length h ≡ heap_bytes p → fits p (lent_of t h) ≡ true
unfolding fits word_count
lent_fits p t h fine z es em eh =
    and_both (and_both (and_both (and_both fine (eq-eqb _ _ (length_flat p.blocks t.words z))) (eq-eqb _ _ es)) (eq-eqb _ _ em)) (eq-eqb _ _ eh)

-- a call on them is its step on what they hold
pub call_is : (p : Params) (t : Tables) (h : List ℕ) → good_params p ≡ true → classes_fit p ≡ true → Sized p.blocks t.words → length t.states ≡ p.blocks
    → length t.marks ≡ heap_bytes p / 64 → length h ≡ heap_bytes p → (c : Call) → call p (lent_of t h) c ≡ result_from (step p t h c)
unfolding call
call_is p t h fine rows z es em eh c =
    if_true (fits p (lent_of t h)) _ _ (lent_fits p t h fine z es em eh)
    ∙ if_true (classes_fit p) _ _ rows
    ∙ ap (λ (x : Tables). result_from (step p x h c)) (lent_tables p.blocks t h z)
