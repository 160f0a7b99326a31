-- The tests of an alloc and its whole call: one law for each way out. Plain values alone stand here. Assumes nothing.
use Rattle.std.specs.Prelude.{if◌then◌else◌, Result, ⊤, Ok, Err, Option, None, Some, ok_or}
use Prim.Native.Nat.{ℕ, ◌<◌, ◌≤◌}
use mathlib.Core.Path.{◌≡◌, refl, sym, ap, ◌∙◌}
use mathlib.Core.Bool.{Bool, true, false}
use mathlib.Core.List.{List}
use native.Mathlib.Omega.{arith}
use lib.Dec.{eqb, ltb}
use lib.ListN.{length, get_or}
use borrow.Author.Tests.{lt-ltb, le-ltb, ltb-true}
use Rattle.model.specs.declared.Params.{Params}
use Rattle.model.specs.declared.Block.{Block}
use Rattle.model.specs.declared.Refusal.{Refusal}
use Rattle.model.specs.declared.Refusal.TheVariants.{BadRequest, TooBig, BadOffer}
use Rattle.model.specs.Tables.{Words, Tables, tables_of, view}
use Rattle.model.specs.SizeClasses.{bin_of, raised}
use Rattle.model.specs.FreeListAllocator.{find_block}
use Rattle.model.specs.Sound.{state_of}
use Rattle.model.specs.Calls.{Reply, refused, good_request, too_big, good_offer, take_plan, and_then, request_tests, call_tests, plan_passed, carried, Call, alloc}
use Rattle.model.specs.Promise.{lend}
use Rattle.laws.proofs.Params.{good_bounds}
use Rattle.laws.proofs.Below.{and_left}
use Rattle.laws.proofs.Tables.{sized_view}
use Rattle.laws.proofs.Classes.{Chosen, chosen, request, fits_raised}
use Rattle.laws.proofs.Tests.{alloc_passed}
use Rattle.native_ms.specs.Raised.{raised_to}
use Rattle.native_ms.specs.Checked.{lent_tests, bin_after}
use Rattle.native_ms.specs.Ending.{stepped, shown, Does, ServedBy, Ready, Shiftable}
use Rattle.native_ms.specs.Places.{Known, Offered}
use Rattle.native_ms.proofs.Tests.{opened, open_known, step_refused, step_passed}
use Rattle.native_ms.proofs.SpaceCalls.{bound_low, bound_high}
use Rattle.native_ms.specs.SoundLent.{Lengths}
use Rattle.native_ms.proofs.Heads.{sound_low, sound_cells}

-- ---- the offer

module _ (p : Params) (st : List ℕ) {offer : Option Block} where
  pub offer_none : offer ≡ None → (t : Words) (m : List ℕ) → true ≡ good_offer p (tables_of t st m) offer
  unfolding good_offer
  offer_none e t m = rw e

  module _ {b : Block} (e : offer ≡ Some b) where
    pub offer_out : p.blocks ≤ b.0 → (t : Words) (m : List ℕ) → false ≡ good_offer p (tables_of t st m) offer
    unfolding good_offer
    offer_out l t m = rw (e, le-ltb b.0 p.blocks l)

    pub offer_in : {s : ℕ} → b.0 < p.blocks → s ≡ get_or st b.0 0 → (t : Words) (m : List ℕ) → eqb s 0 ≡ good_offer p (tables_of t st m) offer
    unfolding good_offer state_of
    offer_in l es t m = rw (e, lt-ltb b.0 p.blocks l, es)

-- ---- the raised size, as the code answers it

raised_no : (a : Bool) (n : ℕ) → None ≡ (if a then None else Some n) → a ≡ true
raised_no true n e = refl
raised_no false n e = let z : ◌≡◌ {A = ℕ} 0 1 = cc in absurd (omega arith)

raised_yes : (a : Bool) (m n : ℕ) → Some m ≡ (if a then None else Some n) → (a ≡ false) × (m ≡ n)
raised_yes true m n e = let z : ◌≡◌ {A = ℕ} 0 1 = cc in absurd (omega arith)
raised_yes false m n e = (refl, cc)

-- a size that is raised or else too big
pub raised_some : (o : Option ℕ) (x : Refusal) {r : Result ℕ Refusal} {k : ℕ} → r ≡ ok_or o x → r ≡ Ok k → o ≡ Some k
raised_some (Some n) x {r} {k} e z = let f : ◌≡◌ {A = Result ℕ Refusal} (Ok n) (Ok k) = sym e ∙ z in cc
raised_some None x {r} {k} e z = let f : ◌≡◌ {A = Result ℕ Refusal} (Err x) (Ok k) = sym e ∙ z in absurd (let q : ◌≡◌ {A = ℕ} 0 1 = cc in omega arith)

pub raised_none : (o : Option ℕ) (x : Refusal) {y : Refusal} {r : Result ℕ Refusal} → r ≡ ok_or o x → r ≡ Err y → (o ≡ None) × (y ≡ x)
raised_none (Some n) x {y} {r} e z = let f : ◌≡◌ {A = Result ℕ Refusal} (Ok n) (Err y) = sym e ∙ z in absurd (let q : ◌≡◌ {A = ℕ} 0 1 = cc in omega arith)
raised_none None x {y} {r} e z = let f : ◌≡◌ {A = Result ℕ Refusal} (Err x) (Err y) = sym e ∙ z in (refl, cc)

-- ---- the tests

module _ (p : Params) (t : Words) (st m : List ℕ) (size align offset : ℕ) (offer : Option Block) {q : Bool}
    (e₃ : q ≡ good_request p size align offset) where
  abbrev K : Result ℕ Refusal
  K = bin_after (request_tests p (tables_of t st m) size align offset offer) (bin_of p (raised p size align))

  pub check_request : q ≡ false → Err BadRequest ≡ K
  unfolding request_tests bin_after and_then
  check_request n = rw (← e₃, n)

  module _ (z₃ : q ≡ true) {s : Option ℕ} (e₄ : s ≡ raised_to p size align) where
    pub check_size : s ≡ None → Err TooBig ≡ K
    unfolding request_tests raised_to bin_after and_then
    check_size n = rw (← e₃, z₃, raised_no (too_big p size align) (raised p size align) (sym n ∙ e₄))

    module _ {k : ℕ} (z₄ : s ≡ Some k) {o : Bool}
        (e₅ : (u : Words) (v : List ℕ) → o ≡ good_offer p (tables_of u st v) offer) where
      fit_size : (too_big p size align ≡ false) × (k ≡ raised p size align)
      unfolding raised_to
      fit_size = raised_yes (too_big p size align) k (raised p size align) (sym z₄ ∙ e₄)

      pub check_offer : o ≡ false → Err BadOffer ≡ K
      unfolding request_tests bin_after and_then
      check_offer n = rw (← e₅ t m, n, ← e₃, z₃, fit_size.0)

      pub check_bin : {r : ℕ} → o ≡ true → r ≡ bin_of p k → Ok r ≡ K
      unfolding request_tests bin_after and_then
      check_bin {r} n er = rw (← e₅ t m, n, ← e₃, z₃, fit_size.0, er, fit_size.1)

-- those of the holder before those of the request
module _ {a r : Result ⊤ Refusal} (b : Result ⊤ Refusal) (bin : ℕ) (e : r ≡ a) where
  pub bin_refused : {x : Refusal} → r ≡ Err x → Err x ≡ bin_after (and_then a b) bin
  unfolding bin_after and_then
  bin_refused z = rw (sym e ∙ z)

  pub bin_passed : {v : Result ℕ Refusal} → r ≡ Ok tt → v ≡ bin_after b bin → v ≡ bin_after (and_then a b) bin
  unfolding bin_after and_then
  bin_passed z q = rw (sym e ∙ z) q

-- what the answer says of the tests
bin_no : (a : Result ⊤ Refusal) (bin : ℕ) {x : Refusal} → Err x ≡ bin_after a bin → a ≡ Err x
unfolding bin_after
bin_no (Ok tt) bin e = let z : ◌≡◌ {A = ℕ} 0 1 = cc in absurd (omega arith)
bin_no (Err x) bin e = cc

bin_yes : (a : Result ⊤ Refusal) (bin : ℕ) {k : ℕ} → Ok k ≡ bin_after a bin → (a ≡ Ok tt) × (k ≡ bin)
unfolding bin_after
bin_yes (Ok tt) bin e = (refl, cc)
bin_yes (Err x) bin e = let z : ◌≡◌ {A = ℕ} 0 1 = cc in absurd (omega arith)

-- a good offer is a block
offered_low : (p : Params) (t : Tables) (b : Block) → good_offer p t (Some b) ≡ true → b.0 < p.blocks
unfolding good_offer
offered_low p t b e = ltb-true b.0 p.blocks (and_left (ltb b.0 p.blocks) _ e)

-- ---- the call on sound tables

pub call_lengths : (p : Params) (w st ms h : List ℕ) → lent_tests p (lend w st ms h) ≡ Ok tt → Lengths p w st
call_lengths p w st ms h e =
    let o = opened p w st ms h e in
    record { good = o.parts.good; words = o.parts.words; states = o.parts.states }

module _ (p : Params) (w st ms h : List ℕ) (holder size align offset : ℕ) (offer : Option Block) {k : Result ℕ Refusal}
    (ek : (m : List ℕ) → k ≡ bin_after (call_tests p (tables_of (view w) st m) (alloc holder size align offset offer)) (bin_of p (raised p size align))) where
  abbrev T : Tables
  T = tables_of (view w) st ms

  abbrev C : Call
  C = alloc holder size align offset offer

  pub call_refused : {x : Refusal} → k ≡ Err x → Does p T h C (refused x) T h
  call_refused z = step_refused p T h C (sym (bin_no (call_tests p T C) (bin_of p (raised p size align)) (sym z ∙ ek ms))) refl

  module _ {bin : ℕ} (z : k ≡ Ok bin) where
    passing : (call_tests p T C ≡ Ok tt) × (bin ≡ bin_of p (raised p size align))
    passing = bin_yes (call_tests p T C) (bin_of p (raised p size align)) (sym z ∙ ek ms)

    pub call_ready : lent_tests p (lend w st ms h) ≡ Ok tt → Ready p (view w)
    call_ready e =
        let o = opened p w st ms h e in
        let B = good_bounds p o.parts.good in
        record {
          heads = sound_low p B T (sized_view p.blocks w o.parts.words).free o.sane;
          cells = sound_cells p B T o.sane;
        }

    pub call_holder : (1 ≤ holder) × (holder ≤ 8)
    call_holder =
        let a = alloc_passed p T holder size align offset offer passing.0 in
        (bound_low (view w) holder a.bound, bound_high (view w) holder a.bound)

    pub call_bin : lent_tests p (lend w st ms h) ≡ Ok tt → bin < 49
    call_bin e =
        let o = opened p w st ms h e in
        let a = alloc_passed p T holder size align offset offer passing.0 in
        omega (arith, passing.1, (chosen p (good_bounds p o.parts.good) o.classes (raised p size align) (fits_raised p size align a.small)).to)

    pub call_shift : lent_tests p (lend w st ms h) ≡ Ok tt → Shiftable align offset
    call_shift e =
        let B = good_bounds p (opened p w st ms h e).parts.good in
        let r = request p size align offset (alloc_passed p T holder size align offset offer passing.0).good in
        record {
          align_from = omega (arith, r.align_from, B.min_low);
          align_to = omega (arith, r.align_to, B.max_high);
          offset_low = r.offset_low;
        }

    pub call_known : lent_tests p (lend w st ms h) ≡ Ok tt → Known p (length w) (length ms) (length h)
    call_known e = open_known p w st ms h e

    pub call_offered : lent_tests p (lend w st ms h) ≡ Ok tt → Offered p bin offer
    call_offered e =
        let o = opened p w st ms h e in
        let a = alloc_passed p T holder size align offset offer passing.0 in
        let B = good_bounds p o.parts.good in
        let k : Chosen p (raised p size align) = chosen p B o.classes (raised p size align) (fits_raised p size align a.small) in
        record {
          block = λ b q. offered_low p T b (ap (λ (x : Option Block). good_offer p T x) (sym q) ∙ a.offered);
          class = rw passing.1 (record { word = k.word; most = omega (arith, k.room, B.bytes_high) });
        }

    pub call_served : {r : Reply} {t₁ : Tables} {h₁ : List ℕ}
        → stepped r t₁ h₁ ≡ ServedBy p align offset h (find_block p holder bin offer T) → Does p T h C r t₁ h₁
    unfolding ServedBy plan_passed
    call_served e =
        e ∙ ap (λ (n : ℕ). shown (carried p h (take_plan p align offset (find_block p holder n offer T)))) passing.1
        ∙ step_passed p T h C (sym passing.0) refl
