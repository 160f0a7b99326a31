-- Every call, on tables and a heap under the invariant: its plan, and its step.
use Rattle.std.specs.Prelude.{if◌then◌else◌, Ok, Option}
use mathlib.Core.Path.{◌≡◌, refl, ap, ◌∙◌}
use mathlib.Core.Bool.{Bool, true, false, ◌&&◌}
use mathlib.Core.List.{List}
use Prim.Native.Nat.{ℕ, ◌+◌, ◌%◌, ◌≤◌}
use native.Mathlib.Omega.{arith}
use lib.Dec.{leb}
use lib.ListN.{get_or}
use borrow.Author.Tests.{leb-true}
use Rattle.model.specs.declared.Params.{Params}
use Rattle.model.specs.declared.Block.{Block}
use Rattle.model.specs.declared.Refusal.TheVariants.{BadTables}
use Rattle.model.specs.Params.{good_params}
use Rattle.model.specs.Tables.{Words, Tables}
use Rattle.model.specs.SizeClasses.{bin_of, raised, align_allocation}
use Rattle.model.specs.Classes.{classes_fit}
use Rattle.model.specs.Events.{Event, events_heap}
use Rattle.model.specs.FreeListAllocator.{find_block}
use Rattle.model.specs.Global.{is_holder, is_bound}
use Rattle.model.specs.Sound.{sound, eager_ok, chained, sound_on}
use Rattle.model.specs.Calls.{Call, bind, destroy, alloc, prepare, mark, release, shared_release, End, says, takes, Plan, refuses, take_plan, call_tests, plan_passed, plan_sound, plan, finish, step}
use Rattle.model.specs.Runs.{Book, book_events, taker_of}
use Rattle.laws.proofs.Base.{and_left, and_right, if_cases}
use Rattle.laws.proofs.Params.{Bounds, good_bounds}
use Rattle.laws.proofs.Good.{Good, good}
use Rattle.laws.proofs.Classes.{Chosen, chosen, request, fits_raised, object_in_cell}
use Rattle.laws.proofs.Tests.{Asked, leave_passed, alloc_passed, mark_passed, release_passed, shared_passed, plan_cases}
use Rattle.soundness.proofs.Chains.{shadow_events}
use Rattle.soundness.proofs.Chained.{chained_by}
use Rattle.runs.proofs.Steps.{EventsOk}
use Rattle.runs.proofs.Plans.{book_for, Serves, Inv, Taking, EndOk, Planned, refuses_planned, bind_planned, destroy_planned, prepare_planned, mark_planned, release_planned, shared_planned}
use Rattle.runs.proofs.AllocPlan.{alloc_planned}
use Rattle.runs.proofs.Finish.{ShadowStep, shadow_finish, StepOk, said_ok, taken_step, step_is, shadow_is, taken_ok}

-- what the tables say of `sound_on`
abbrev pub sound_tables : Params → Tables → Bool
sound_tables p t = sound p t && eager_ok p t

-- what a call's plan is where the chains are sound: the heap does not matter
unfoldable pub shadow_plan : Params → Tables → Call → Plan
shadow_plan p t c = if sound_tables p t then plan_sound p t c else refuses t BadTables

-- what its step is by the shadow
unfoldable pub shadow_step : Params → Tables → List (List ℕ) → Call → ShadowStep
shadow_step p t sh c =
    let q : Plan = shadow_plan p t c in
    shadow_finish q.tables q.events (shadow_events q.events sh) q.end

and_yes : (b : Bool) → (b && true) ≡ b
and_yes true = refl
and_yes false = refl

holder_range : (h : ℕ) → is_holder h ≡ true → (1 ≤ h) × (h ≤ 8)
unfolding is_holder
holder_range h e = (leb-true _ _ (and_left (leb 1 h) (leb h 8) e), leb-true _ _ (and_right (leb 1 h) (leb h 8) e))

bound_range : (w : Words) (h : ℕ) → is_bound w h ≡ true → (1 ≤ h) × (h ≤ 8)
unfolding is_bound
bound_range w h e = holder_range h (and_left (is_holder h) _ e)

module _ (p : Params) (fine : good_params p ≡ true) where
  pub B : Bounds p
  B = good_bounds p fine

  module _ (rows : classes_fit p ≡ true) (t : Tables) (h : List ℕ) (sh : List (List ℕ)) (bk : Book) (I : Inv p B t h sh bk) where
    planned_alloc : (d size align offset : ℕ) (offer : Option Block) → sound p t ≡ true → Asked p t d size align offset offer
        → Planned p B t h sh bk (alloc d size align offset offer) (take_plan p align offset (find_block p d (bin_of p (raised p size align)) offer t))
    planned_alloc d size align offset offer s a =
        let g : Good p = good p fine in
        let r = bound_range t.words d a.bound in
        let q = request p size align offset a.good in
        let f = fits_raised p size align a.small in
        let k : Chosen p (raised p size align) = chosen p B rows (raised p size align) f in
        alloc_planned p B t h sh bk I s a.running d r.0 r.1 (bin_of p (raised p size align)) k.from (omega (arith, k.to))
        k.word k.room size align offset offer a.offered (object_in_cell p g q rows a.small)

    planned_passed : (c : Call) → sound p t ≡ true → call_tests p t c ≡ Ok tt → Planned p B t h sh bk c (plan_passed p t c)
    unfolding call_tests plan_passed
    planned_passed (bind d) s e = bind_planned p B t h sh bk I d
    planned_passed (destroy d) s e =
        let r = bound_range t.words d (leave_passed t.words d e).1 in
        destroy_planned p B t h sh bk I d r.0 r.1 _
    planned_passed (alloc d size align offset offer) s e =
        planned_alloc d size align offset offer s (alloc_passed p t d size align offset offer e)
    planned_passed prepare s e = prepare_planned p B t h sh bk I
    planned_passed (mark place b) s e = mark_planned p B t h sh bk I place b (mark_passed p t place b e).1
    planned_passed (release d) s e =
        let q = release_passed t.words d e in
        let r = bound_range t.words d q.1 in
        release_planned p B t h sh bk I s q.0 d r.0 r.1
    planned_passed shared_release s e = shared_planned p B t h sh bk I s (shared_passed t.words e)

    planned_sound : (c : Call) → sound p t ≡ true → Planned p B t h sh bk c (plan_sound p t c)
    planned_sound c s =
        plan_cases (λ q. Planned p B t h sh bk c q) p t c (λ r b. refuses_planned p B t h sh bk I c r) (λ e. planned_passed c s e)

    planned : (c : Call) → Planned p B t h sh bk c (shadow_plan p t c)
    unfolding shadow_plan
    planned c = if_cases (λ q. Planned p B t h sh bk c q) (sound_tables p t) (λ s. planned_sound c (and_left (sound p t) (eager_ok p t) s)) (λ s. refuses_planned p B t h sh bk I c BadTables)

    -- the chains are sound, by the shadow
    pub chains_pass : chained p t h ≡ true
    chains_pass = chained_by p B t h sh I.core.chains

    pub sound_same : sound_on p t h ≡ sound_tables p t
    sound_same = ap (λ (b : Bool). sound_tables p t && b) chains_pass ∙ and_yes (sound_tables p t)

    plan_is : (c : Call) → plan p t h c ≡ shadow_plan p t c
    unfolding plan shadow_plan
    plan_is c = ap (λ (b : Bool). if b then plan_sound p t c else refuses t BadTables) sound_same

    -- ---- the step

    module _ (t' : Tables) (es : List Event) where
      -- an alloc that takes a cell
      alloc_end : (d size align offset : ℕ) (offer : Option Block) (b : ℕ) (fresh : Bool) → EventsOk p B d es h bk
          → Inv p B t' (events_heap p es h) (shadow_events es sh) (book_events p d es bk)
          → Taking p B t' (shadow_events es sh) b
          → ((x : ℕ) → x % 8 ≡ 0 → align_allocation x align offset + size ≤ x + get_or t'.words.size b 0)
          → StepOk p B h bk (alloc d size align offset offer) (finish p t' es (events_heap p es h) (takes b align offset fresh))
          (shadow_finish t' es (shadow_events es sh) (takes b align offset fresh))
      unfolding taker_of taken_step
      alloc_end d size align offset offer b fresh o J k fits =
          rw (
            step_is p B t h sh bk (alloc d size align offset offer) t' es b align offset fresh k.cell k.rest o J k.inside k.occupied k.settled k.running k.chain,
            shadow_is p B t h sh bk (alloc d size align offset offer) t' es b align offset fresh k.cell k.rest o J k.inside k.occupied k.settled k.running k.chain,
          )
          (taken_ok p B t h sh bk d size align offset offer t' es b fresh k.cell k.rest o J k.inside k.occupied k.settled k.running k.chain fits)

      end_ok : (c : Call) (e : End) → EventsOk p B (taker_of c) es h bk
          → Inv p B t' (events_heap p es h) (shadow_events es sh) (book_for c e (book_events p (taker_of c) es bk))
          → EndOk p B t' (shadow_events es sh) e → Serves c t'.words e
          → StepOk p B h bk c (finish p t' es (events_heap p es h) e) (shadow_finish t' es (shadow_events es sh) e)
      unfolding Serves book_for taker_of EndOk
      end_ok c (says r) o J k v = said_ok p B t h sh bk c t' es r o J v
      end_ok (alloc d size align offset offer) (takes b align' offset' fresh) o J k v =
          rw (v.0, v.1) (alloc_end d size align offset offer b fresh o J k v.2)
      end_ok (bind d) (takes b align offset fresh) o J k v = absurd v
      end_ok (destroy d) (takes b align offset fresh) o J k v = absurd v
      end_ok prepare (takes b align offset fresh) o J k v = absurd v
      end_ok (mark place a) (takes b align offset fresh) o J k v = absurd v
      end_ok (release d) (takes b align offset fresh) o J k v = absurd v
      end_ok shared_release (takes b align offset fresh) o J k v = absurd v

    pub step_ok : (c : Call) → StepOk p B h bk c (step p t h c) (shadow_step p t sh c)
    unfolding step shadow_step
    step_ok c =
        let q : Plan = shadow_plan p t c in
        let P : Planned p B t h sh bk c q = planned c in
        rw (plan_is c) (end_ok q.tables q.events c q.end P.events P.inv P.end P.serves)
