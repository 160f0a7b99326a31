-- The tests of the calls: a call that is answered passed them, and a refused one changes nothing (`plan_cases`); what a call that
-- passed may lean on; which refusals are theirs. Assumes nothing.
use Rattle.std.specs.Prelude.{Result, ⊤, Ok, Err, Option}
use Prim.Native.Nat.{ℕ, ◌≤◌}
use mathlib.Core.Path.{◌≡◌, refl}
use mathlib.Core.Logic.{◌≢◌, ⊎_elim}
use mathlib.Core.Bool.{Bool, true, false, not, ◌&&◌, ◌||◌}
use native.Mathlib.Omega.{arith}
use lib.Dec.{eqb}
use borrow.Author.Tests.{eqb-true, not-false}
use Rattle.model.specs.declared.Params.{Params}
use Rattle.model.specs.declared.Block.{Block}
use Rattle.model.specs.declared.Refusal.{Refusal}
use Rattle.model.specs.declared.Refusal.TheVariants.{WrongPhase, BadHolder, BadRequest, TooBig, BadOffer, BadObject}
use Rattle.model.specs.Tables.{Words, Tables}
use Rattle.model.specs.Global.{phase_running, phase_marking, is_holder, is_bound, has_released}
use Rattle.model.specs.Calls.{refusal_number, Call, bind, destroy, alloc, prepare, mark, release, shared_release, Plan, refuses, good_request, too_big, good_offer, good_object, may_leave, may_release, refused_if, and_then, phase_test, bind_tests, leave_tests, bound_tests, request_tests, mark_tests, release_tests, shared_tests, call_tests, plan_passed, if_passed, plan_sound}
use Rattle.laws.proofs.Base.{or_cases, or_none_left}

-- ---- one test, and tests in order

-- no test is both passed and refused
pub clash : {P : Type 0} {r : Refusal} → ◌≡◌ {A = Result ⊤ Refusal} (Err r) (Ok tt) → P
clash e = let z : ◌≡◌ {A = ℕ} 0 1 = cc in absurd (omega arith)

pub passed_if : (a : Bool) (r : Refusal) → refused_if a r ≡ Ok tt → a ≡ false
passed_if false r e = refl
passed_if true r e = clash e

pub passed_not : (a : Bool) (r : Refusal) → refused_if (not a) r ≡ Ok tt → a ≡ true
passed_not true r e = refl
passed_not false r e = clash e

pub passed_both : (a b : Result ⊤ Refusal) → and_then a b ≡ Ok tt → (a ≡ Ok tt) × (b ≡ Ok tt)
unfolding and_then
passed_both (Ok tt) b e = (refl, e)
passed_both (Err r) b e = clash e

-- ---- what a call that passed may lean on

pub phase_passed : (w : Words) (phase : ℕ) → phase_test w phase ≡ Ok tt → w.phase ≡ phase
unfolding phase_test
phase_passed w phase e = eqb-true _ _ (passed_not (eqb w.phase phase) WrongPhase e)

module _ (w : Words) (holder : ℕ) where
  pub bind_passed : bind_tests w holder ≡ Ok tt → (w.phase ≡ phase_running) × (is_holder holder ≡ true)
  unfolding bind_tests
  bind_passed e =
      let q = passed_both (phase_test w phase_running) _ e in
      let f = passed_if (not (is_holder holder) || is_bound w holder) BadHolder q.1 in
      (phase_passed w phase_running q.0, not-false _ (or_none_left (not (is_holder holder)) (is_bound w holder) f))

  pub leave_passed : leave_tests w holder ≡ Ok tt → (w.phase ≤ 1) × (is_bound w holder ≡ true)
  unfolding leave_tests may_leave
  leave_passed e =
      let q = passed_both (refused_if (not (may_leave w)) WrongPhase) _ e in (
        ⊎_elim (λ r. omega (arith, eqb-true w.phase 0 r)) (λ r. omega (arith, eqb-true w.phase 1 r))
            (or_cases (eqb w.phase 0) (eqb w.phase 1) (passed_not (may_leave w) WrongPhase q.0)),
        passed_not (is_bound w holder) BadHolder q.1,
      )

  pub bound_passed : bound_tests w holder ≡ Ok tt → (w.phase ≡ phase_running) × (is_bound w holder ≡ true)
  unfolding bound_tests
  bound_passed e =
      let q = passed_both (phase_test w phase_running) _ e in
      (phase_passed w phase_running q.0, passed_not (is_bound w holder) BadHolder q.1)

  pub release_passed : release_tests w holder ≡ Ok tt → (may_release w ≡ true) × (is_bound w holder ≡ true)
  unfolding release_tests
  release_passed e =
      let again : Bool = is_holder holder && has_released w holder in
      let q = passed_both (refused_if (not (may_release w) || again) WrongPhase) _ e in (
        not-false _ (or_none_left (not (may_release w)) again (passed_if (not (may_release w) || again) WrongPhase q.0)),
        passed_not (is_bound w holder) BadHolder q.1,
      )

pub shared_passed : (w : Words) → shared_tests w ≡ Ok tt → may_release w ≡ true
unfolding shared_tests
shared_passed w e =
    not-false _ (or_none_left (not (may_release w)) (has_released w 0) (passed_if (not (may_release w) || has_released w 0) WrongPhase e))

pub mark_passed : (p : Params) (t : Tables) (place b : ℕ) → mark_tests p t place b ≡ Ok tt
    → (t.words.phase ≡ phase_marking) × (good_object p t place b ≡ true)
unfolding mark_tests
mark_passed p t place b e =
    let q = passed_both (phase_test t.words phase_marking) _ e in
    (phase_passed t.words phase_marking q.0, passed_not (good_object p t place b) BadObject q.1)

module _ (p : Params) (t : Tables) (size align offset : ℕ) (offer : Option Block) where
  pub request_passed : request_tests p t size align offset offer ≡ Ok tt
      → (good_request p size align offset ≡ true) × (too_big p size align ≡ false) × (good_offer p t offer ≡ true)
  unfolding request_tests
  request_passed e =
      let q = passed_both (refused_if (not (good_request p size align offset)) BadRequest) _ e in
      let r = passed_both (refused_if (too_big p size align) TooBig) _ q.1 in (
        passed_not (good_request p size align offset) BadRequest q.0,
        passed_if (too_big p size align) TooBig r.0,
        passed_not (good_offer p t offer) BadOffer r.1,
      )

-- alloc
pub record Asked (p : Params) (t : Tables) (holder size align offset : ℕ) (offer : Option Block) : Type 0 where
  pub running : t.words.phase ≡ phase_running
  pub bound : is_bound t.words holder ≡ true
  pub good : good_request p size align offset ≡ true
  pub small : too_big p size align ≡ false
  pub offered : good_offer p t offer ≡ true

pub alloc_passed : (p : Params) (t : Tables) (holder size align offset : ℕ) (offer : Option Block)
    → call_tests p t (alloc holder size align offset offer) ≡ Ok tt → Asked p t holder size align offset offer
unfolding call_tests
alloc_passed p t holder size align offset offer e =
    let q = passed_both (bound_tests t.words holder) _ e in
    let b = bound_passed t.words holder q.0 in
    let r = request_passed p t size align offset offer q.1 in
    record { running = b.0; bound = b.1; good = r.0; small = r.1; offered = r.2 }

-- ---- whose refusals are the tests'

-- WrongPhase to BadOffer, and BadObject
pub record ByTest (r : Refusal) : Type 0 where
  pub from : 3 ≤ refusal_number r
  pub to : refusal_number r ≤ 10
  pub no_link : refusal_number r ≢ 8
  pub no_search : refusal_number r ≢ 9

Early : Result ⊤ Refusal → Type 0
Early (Ok tt) = Unit {0}
Early (Err r) = ByTest r

early_if : (a : Bool) (r : Refusal) → ByTest r → Early (refused_if a r)
unfolding Early
early_if true r b = b
early_if false r b = tt

early_both : (a b : Result ⊤ Refusal) → Early a → Early b → Early (and_then a b)
unfolding Early and_then
early_both (Ok tt) b x y = y
early_both (Err r) b x y = x

early_refused : (a : Result ⊤ Refusal) {r : Refusal} → Early a → a ≡ Err r → ByTest r
unfolding Early
early_refused (Ok tt) x e = let z : ◌≡◌ {A = ℕ} 0 1 = cc in absurd (omega arith)
early_refused (Err s) {r} x e = let i : r ≡ s = cc in rw i x

wrong_phase : ByTest WrongPhase
unfolding refusal_number
wrong_phase = record { from = omega arith; to = omega arith; no_link = λ q. omega (arith, q); no_search = λ q. omega (arith, q) }

bad_holder : ByTest BadHolder
unfolding refusal_number
bad_holder = record { from = omega arith; to = omega arith; no_link = λ q. omega (arith, q); no_search = λ q. omega (arith, q) }

bad_request : ByTest BadRequest
unfolding refusal_number
bad_request = record { from = omega arith; to = omega arith; no_link = λ q. omega (arith, q); no_search = λ q. omega (arith, q) }

too_big_lem : ByTest TooBig
unfolding refusal_number
too_big_lem = record { from = omega arith; to = omega arith; no_link = λ q. omega (arith, q); no_search = λ q. omega (arith, q) }

bad_offer : ByTest BadOffer
unfolding refusal_number
bad_offer = record { from = omega arith; to = omega arith; no_link = λ q. omega (arith, q); no_search = λ q. omega (arith, q) }

bad_object : ByTest BadObject
unfolding refusal_number
bad_object = record { from = omega arith; to = omega arith; no_link = λ q. omega (arith, q); no_search = λ q. omega (arith, q) }

module _ (w : Words) where
  early_phase : (phase : ℕ) → Early (phase_test w phase)
  unfolding phase_test
  early_phase phase = early_if (not (eqb w.phase phase)) WrongPhase wrong_phase

  early_bound : (holder : ℕ) → Early (bound_tests w holder)
  unfolding bound_tests
  early_bound holder = early_both _ _ (early_phase phase_running) (early_if (not (is_bound w holder)) BadHolder bad_holder)

early : (p : Params) (t : Tables) (c : Call) → Early (call_tests p t c)
unfolding call_tests bind_tests leave_tests request_tests mark_tests release_tests shared_tests
early p t (bind holder) =
    early_both _ _ (early_phase t.words phase_running)
    (early_if (not (is_holder holder) || is_bound t.words holder) BadHolder bad_holder)
early p t (destroy holder) =
    early_both _ _ (early_if (not (may_leave t.words)) WrongPhase wrong_phase)
    (early_if (not (is_bound t.words holder)) BadHolder bad_holder)
early p t (alloc holder size align offset offer) =
    early_both _ _ (early_bound t.words holder)
    (early_both _ _ (early_if (not (good_request p size align offset)) BadRequest bad_request)
    (early_both _ _ (early_if (too_big p size align) TooBig too_big_lem) (early_if (not (good_offer p t offer)) BadOffer bad_offer)))
early p t prepare = early_phase t.words phase_running
early p t (mark place b) =
    early_both _ _ (early_phase t.words phase_marking) (early_if (not (good_object p t place b)) BadObject bad_object)
early p t (release holder) =
    early_both _ _
    (early_if (not (may_release t.words) || (is_holder holder && has_released t.words holder)) WrongPhase wrong_phase)
    (early_if (not (is_bound t.words holder)) BadHolder bad_holder)
early p t shared_release = early_if (not (may_release t.words) || has_released t.words 0) WrongPhase wrong_phase

-- ---- a plan on sound tables: refused by a test, or passed

pub plan_cases {ℓ} : (P : Plan → Type ℓ) (p : Params) (t : Tables) (c : Call)
    → ((r : Refusal) → ByTest r → P (refuses t r)) → (call_tests p t c ≡ Ok tt → P (plan_passed p t c)) → P (plan_sound p t c)
unfolding plan_sound if_passed
plan_cases P p t c refusal passed = go (call_tests p t c) refl
  where
    go : (a : Result ⊤ Refusal) → call_tests p t c ≡ a → P (if_passed a t (plan_passed p t c))
    go (Ok tt) e = passed e
    go (Err r) e = refusal r (early_refused (call_tests p t c) (early p t c) e)
