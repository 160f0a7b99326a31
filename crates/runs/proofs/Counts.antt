-- The counts that a call answers are those of its events, on any tables and heap. Assumes nothing.
use Rattle.std.specs.Prelude.{Option}
use mathlib.Core.Path.{◌≡◌, refl, sym, ap}
use mathlib.Core.List.{List, [], ◌∷◌, ◌++◌}
use Prim.Native.Nat.{ℕ, suc}
use native.Mathlib.Omega.{arith}
use lib.Dec.{eqb}
use borrow.Author.Tests.{eq-eqb}
use Rattle.model.specs.declared.Params.{Params}
use Rattle.model.specs.declared.Block.{Block}
use Rattle.model.specs.declared.Refusal.{Refusal}
use Rattle.model.specs.declared.Refusal.TheVariants.{BadTables}
use Rattle.model.specs.Base.{filter}
use Rattle.model.specs.Tables.{Tables}
use Rattle.model.specs.Events.{Event, initialised, swept, released, taken, spent, events_heap, is_sweep, sweeps}
use Rattle.model.specs.FreeListAllocator.{Search}
use Rattle.model.specs.Sound.{sound_on}
use Rattle.model.specs.Calls.{refusal_number, refused, Call, bind, destroy, alloc, prepare, mark, release, shared_release, End, Plan, refuses, take_plan, release_plan, plan_passed, plan_sound, plan, Step, take_cell, finish, step}
use Rattle.model.specs.Runs.{Counted}
use Rattle.laws.proofs.Base.{if_cases, not_both}
use Rattle.laws.proofs.Tests.{plan_cases}
use Rattle.runs.proofs.Plans.{refusal_some}

-- the cell taken is no sweep
pub sweeps_taken : (es : List Event) (a s : ℕ) → sweeps (es ++ (taken a s ∷ [])) ≡ sweeps es
unfolding sweeps filter is_sweep
sweeps_taken [] a s = refl
sweeps_taken (initialised b chain ∷ es) a s = sweeps_taken es a s
sweeps_taken (swept b chain ∷ es) a s = ap suc (sweeps_taken es a s)
sweeps_taken (released b ∷ es) a s = sweeps_taken es a s
sweeps_taken (taken b z ∷ es) a s = sweeps_taken es a s
sweeps_taken (spent b ∷ es) a s = sweeps_taken es a s

-- a call that a test refuses: nothing happened
refused_counted : (c : Call) (r : Refusal) → Counted c (refused r) []
unfolding Counted sweeps filter
refused_counted (bind h) r = tt
refused_counted (destroy h) r = tt
refused_counted (alloc h size align offset offer) r = (λ e. absurd (not_both _ (eq-eqb _ _ e) (refusal_some r)), λ e. refl)
refused_counted prepare r = tt
refused_counted (mark place b) r = tt
refused_counted (release h) r = λ e. absurd (not_both _ (eq-eqb _ _ e) (refusal_some r))
refused_counted shared_release r = λ e. absurd (not_both _ (eq-eqb _ _ e) (refusal_some r))

module _ (p : Params) (t : Tables) (h : List ℕ) where
  -- of a step, and of a plan once it is carried out
  abbrev CountedIn : Call → Step → Type 0
  CountedIn c s = Counted c s.reply s.events

  abbrev Counts : Call → Plan → Type 0
  Counts c q = CountedIn c (finish p q.tables q.events (events_heap p q.events h) q.end)

  refuses_counts : (c : Call) (r : Refusal) → Counts c (refuses t r)
  unfolding finish
  refuses_counts c r = refused_counted c r

  take_counts : (d size align offset : ℕ) (offer : Option Block) (s : Search) → Counts (alloc d size align offset offer) (take_plan p align offset s)
  unfolding take_plan finish take_cell Counted refusal_number
  take_counts d size align offset offer s =
      if_cases (λ (e : End). CountedIn c (finish p s.tables s.events (events_heap p s.events h) e)) (eqb s.at 0)
      (λ e. (λ z. absurd (omega (arith, z)), λ z. refl))
      (λ e. (λ z. sym (sweeps_taken s.events _ _), λ z. absurd (omega (arith, z))))
    where
      c : Call
      c = alloc d size align offset offer

  passed_counts : (c : Call) → Counts c (plan_passed p t c)
  unfolding plan_passed release_plan finish Counted
  passed_counts (bind d) = tt
  passed_counts (destroy d) = tt
  passed_counts (alloc d size align offset offer) = take_counts d size align offset offer _
  passed_counts prepare = tt
  passed_counts (mark place b) = tt
  passed_counts (release d) = λ z. (refl, refl)
  passed_counts shared_release = λ z. (refl, refl)

  plan_counts : (c : Call) → Counts c (plan_sound p t c)
  plan_counts c = plan_cases (Counts c) p t c (λ r b. refuses_counts c r) (λ e. passed_counts c)

  pub counts : (c : Call) → Counted c (step p t h c).reply (step p t h c).events
  unfolding step plan
  counts c = if_cases (Counts c) (sound_on p t h) (λ e. plan_counts c) (λ e. refuses_counts c BadTables)
