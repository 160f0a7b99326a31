-- What a call answers: on sound tables 0 or a refusal other than BadTables, on others BadTables; what Exhausted tells. Assumes nothing.
use mathlib.Core.Path.{◌≡◌, refl, sym, ap, ◌∙◌}
use mathlib.Core.Logic.{◌≢◌, ⊎_elim}
use mathlib.Core.Bool.{true, false}
use mathlib.Core.List.{List, [], ◌∷◌}
use Prim.Native.Nat.{ℕ, ◌≤◌}
use native.Mathlib.Omega.{arith}
use lib.Dec.{eqb}
use Rattle.model.specs.declared.Params.{Params}
use Rattle.model.specs.declared.Refusal.{Refusal}
use Rattle.model.specs.declared.Refusal.TheVariants.{BadTables}
use Rattle.model.specs.Tables.{Tables}
use Rattle.model.specs.Events.{Event, events_heap, sweeps}
use Rattle.model.specs.FreeListAllocator.{Search}
use Rattle.model.specs.Params.{Lent, fits}
use Rattle.model.specs.Classes.{classes_fit}
use Rattle.model.specs.Sound.{sound_on}
use Rattle.model.specs.Calls.{refusal_number, refused, Call, bind, destroy, alloc, prepare, mark, release, shared_release, End, says, takes, Plan, refuses, take_plan, release_plan, plan_passed, plan_sound, plan, Reply, Returned, Step, take_cell, finish, step, tables_in, call}
use Rattle.model.specs.Refusals.{NeverBadLink}
use Rattle.laws.proofs.Base.{if_cases, Bool_cases}
use Rattle.laws.proofs.Tests.{plan_cases}

-- 0, or a refusal's number up to BadObject that is not BadTables and, since R-7, not BadLink
abbrev pub Fair : ℕ → Type 0
Fair n = (n ≤ 10) × (n ≢ 2) × (n ≢ 8)

-- an end that says so
Says : End → Type 0
Says (says r) = Fair r.number
Says (takes b align offset fresh) = Unit {0}

module _ (p : Params) where
  finish_says : (t : Tables) (es : List Event) (h : List ℕ) (e : End) → Says e → Fair (finish p t es h e).reply.number
  unfolding Says finish take_cell refusal_number
  finish_says t es h (says r) s = s
  finish_says t es h (takes b align offset fresh) s = (omega arith, λ z. omega (arith, z), λ z. omega (arith, z))

  module _ (t : Tables) where
    abbrev Plans : Plan → Type 0
    Plans q = Says q.end

    done : Fair 0
    done = (omega arith, λ z. omega (arith, z), λ z. omega (arith, z))

    take_says : (align offset : ℕ) (s : Search) → Plans (take_plan p align offset s)
    unfolding take_plan Says refusal_number
    take_says align offset s = if_cases Says (eqb s.at 0) (λ e. (omega arith, λ z. omega (arith, z), λ z. omega (arith, z))) (λ e. tt)

    passed_says : (c : Call) → Plans (plan_passed p t c)
    unfolding plan_passed release_plan Says
    passed_says (bind h) = done
    passed_says (destroy h) = done
    passed_says (alloc h size align offset offer) = take_says align offset _
    passed_says prepare = done
    passed_says (mark place b) = done
    passed_says (release h) = done
    passed_says shared_release = done

    plan_says : (c : Call) → Plans (plan_sound p t c)
    unfolding Says
    plan_says c = plan_cases Plans p t c (λ r b. (b.to, λ z. omega (arith, z, b.from), b.no_link)) (λ e. passed_says c)

    -- on sound tables
    pub fair_reply : (h : List ℕ) (c : Call) → sound_on p t h ≡ true → Fair (step p t h c).reply.number
    unfolding step plan
    fair_reply h c e = rw (e, plan) (finish_says _ _ _ _ (plan_says c))

    pub never_bad : (h : List ℕ) (c : Call) → sound_on p t h ≡ true → (step p t h c).reply.number ≢ 2
    never_bad h c e = (fair_reply h c e).1

    -- on others
    pub bad_reply : (h : List ℕ) (c : Call) → sound_on p t h ≡ false → (step p t h c).reply ≡ refused BadTables
    unfolding step plan finish
    bad_reply h c e = rw (e, plan)

-- "number 8 never occurs"
pub never_bad_link : NeverBadLink
unfolding NeverBadLink call refusal_number
never_bad_link p l c =
    if_cases (λ (r : Returned). r.reply.number ≢ 8) (fits p l)
    (λ f. if_cases (λ (r : Returned). r.reply.number ≢ 8) (classes_fit p)
    (λ k. ⊎_elim (λ e. (fair_reply p (tables_in l) l.heap c e).2)
    (λ e q. omega (arith, sym (ap (λ (r : Reply). r.number) (bad_reply p (tables_in l) l.heap c e)) ∙ q)) (Bool_cases (sound_on p (tables_in l) l.heap)))
    (λ k q. omega (arith, q)))
    (λ f q. omega (arith, q))

-- ---- 02, R-12: "Exhausted must report its swept count too"

module _ (p : Params) (t : Tables) (h : List ℕ) where
  -- of a step: its fourth number is the count, zeros before it
  abbrev Tells : Step → Type 0
  Tells s = s.reply.number ≡ 9 → s.reply.values ≡ 0 ∷ 0 ∷ 0 ∷ sweeps s.events ∷ []

  abbrev TellsOf : Plan → Type 0
  TellsOf q = Tells (finish p q.tables q.events (events_heap p q.events h) q.end)

  refuses_tells : (r : Refusal) → refusal_number r ≢ 9 → TellsOf (refuses t r)
  unfolding finish
  refuses_tells r f e = absurd (f e)

  take_tells : (align offset : ℕ) (s : Search) → TellsOf (take_plan p align offset s)
  unfolding take_plan finish take_cell
  take_tells align offset s =
      if_cases (λ (e : End). Tells (finish p s.tables s.events (events_heap p s.events h) e)) (eqb s.at 0) (λ e z. refl)
      (λ e z. absurd (omega (arith, z)))

  passed_tells : (c : Call) → TellsOf (plan_passed p t c)
  unfolding plan_passed release_plan finish
  passed_tells (bind d) = λ z. absurd (omega (arith, z))
  passed_tells (destroy d) = λ z. absurd (omega (arith, z))
  passed_tells (alloc d size align offset offer) = take_tells align offset _
  passed_tells prepare = λ z. absurd (omega (arith, z))
  passed_tells (mark place b) = λ z. absurd (omega (arith, z))
  passed_tells (release d) = λ z. absurd (omega (arith, z))
  passed_tells shared_release = λ z. absurd (omega (arith, z))

  pub step_tells : (c : Call) → Tells (step p t h c)
  unfolding step plan refusal_number
  step_tells c =
      if_cases TellsOf (sound_on p t h) (λ e. plan_cases TellsOf p t c (λ r b. refuses_tells r b.no_search) (λ e. passed_tells c))
      (λ e. refuses_tells BadTables (λ z. omega (arith, z)))

pub exhausted_tells : (p : Params) (l : Lent) (c : Call) → (call p l c).reply.number ≡ 9
    → (call p l c).reply.values ≡ 0 ∷ 0 ∷ 0 ∷ sweeps (step p (tables_in l) l.heap c).events ∷ []
unfolding call refusal_number
exhausted_tells p l c =
    if_cases Told (fits p l) (λ f. if_cases Told (classes_fit p) (λ k. step_tells p (tables_in l) l.heap c) (λ k z. absurd (omega (arith, z))))
    (λ f z. absurd (omega (arith, z)))
  where
    Told : Returned → Type 0
    Told r = r.reply.number ≡ 9 → r.reply.values ≡ 0 ∷ 0 ∷ 0 ∷ sweeps (step p (tables_in l) l.heap c).events ∷ []
