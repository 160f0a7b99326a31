-- What the listing prints for a block on U, u or g is what its sweep builds, if the next alloc sweeps it. A search keeps sizes
-- and marks, and every sweep in it goes by them. Rides on the walk of the search. Assumes nothing.
use Rattle.std.specs.Prelude.{Option, None, Some}
use mathlib.Core.Path.{◌≡◌, refl, sym, ap, ◌∙◌, subst}
use mathlib.Core.Logic.{⊎_elim}
use mathlib.Core.List.{List, [], ◌∷◌, ◌++◌}
use Prim.Native.Nat.{ℕ}
use lib.ListN.{get_or}
use Rattle.model.specs.declared.Params.{Params}
use Rattle.model.specs.declared.Block.{Block}
use Rattle.model.specs.Base.{In}
use Rattle.model.specs.Tables.{Words, Tables, set_free, set_tls, set_cells}
use Rattle.model.specs.SizeClasses.{bin_of, raised}
use Rattle.model.specs.BlockList.{push, pop}
use Rattle.model.specs.Block.{sweep_chain, swept_words}
use Rattle.model.specs.Events.{Event, initialised, swept, released, taken, spent}
use Rattle.model.specs.FreeListAllocator.{sweep_of, Found, Search, acquire_fresh, find_block}
use Rattle.model.specs.Sound.{sound_on}
use Rattle.model.specs.Calls.{alloc, Plan, take_plan, plan_passed, plan, End, says, takes, take_cell, finish, step}
use Rattle.model.specs.Census.{census_params, printed_chain, PrintedIsBuilt}
use Rattle.laws.proofs.Base.{if_cases, in_append}
use Rattle.laws.proofs.Frame.{links_refl, push_links, pop_links}
use Rattle.laws.proofs.Walks.{Files, Steps, find_keeps}
use Rattle.laws.proofs.Tests.{plan_cases}

module _ (p : Params) (ms sz : List ℕ) where
  -- a sweep built its chain from these marks and sizes; of other events nothing is said
  unfoldable pub Built : Event → Type 0
  Built (initialised b l) = Unit {0}
  Built (swept b l) = l ≡ sweep_chain p ms b (get_or sz b 0)
  Built (released b) = Unit {0}
  Built (taken a s) = Unit {0}
  Built (spent b) = Unit {0}

  abbrev pub AllBuilt : List Event → Type 0
  AllBuilt es = (e : Event) → In e es → Built e

  none_built : AllBuilt []
  unfolding In
  none_built e i = absurd i

  one_more : (es : List Event) (e : Event) → AllBuilt es → Built e → AllBuilt (es ++ (e ∷ []))
  unfolding In
  one_more es e f g x i =
      ⊎_elim (f x) (λ j. ⊎_elim (λ q. subst Built (sym q) g) (λ z. absurd z) j) (in_append x es (e ∷ []) i)

  -- of a search: the sizes are as they were, and what it swept so far was built so
  record So (es : List Event) (w : Words) : Type 0 where
    size : w.size ≡ sz
    built : AllBuilt es

  out : (l : ℕ) {es : List Event} {w : Words} → So es w → So es (pop p l w).words
  out l {w = w} o = record { size = (pop_links p l w (links_refl w)).size ∙ o.size; built = o.built }

  onto : (l b : ℕ) {es : List Event} {w : Words} → So es w → So es (push p l b w)
  onto l b {w = w} o = record { size = (push_links p l b w (links_refl w)).size ∙ o.size; built = o.built }

  mine : (b h : ℕ) {es : List Event} {w : Words} → So es w → So es (set_tls b h w)
  unfolding set_tls
  mine b h o = record { size = o.size; built = o.built }

  sweep : (b : ℕ) {es : List Event} {w : Words} → So es w → So (es ++ (sweep_of p ms b w ∷ [])) (swept_words p ms b w)
  unfolding swept_words set_free set_cells Built
  sweep b {es} {w} o =
      record { size = o.size; built = one_more es _ o.built (ap (λ (z : List ℕ). sweep_chain p ms b (get_or z b 0)) o.size) }

  -- a block goes to a consumed list
  full : (l b : ℕ) {es : List Event} {w : Words} → So es w → So (es ++ (spent b ∷ [])) (push p l b w)
  unfolding Built
  full l b {es} o = record { size = (onto l b o).size; built = one_more es _ o.built tt }

  module _ (h bin : ℕ) where
    file : {es : List Event} {a : ℕ} {w : Words} → So es w → Files p ms h bin (λ es w. So es w) (λ es a w. So es w) es a w
    file o = record { full = λ e. full _ _ o; has = λ e. onto _ _ o }

    steps : Steps p ms h bin (λ es w. So es w) (λ es a w. So es w)
    steps =
        record {
          moved = λ es w o f e. full _ _ (out _ o);
          seen = λ es w o f e. o;
          recycled = λ es w o f. file (sweep _ (out _ o));
          over = λ es w o f. file (mine _ h (out _ o));
          swept = λ es w o e f. file (sweep _ (mine _ h (out _ o)));
        }

module _ (p : Params) (t : Tables) where
  abbrev All : List Event → Type 0
  All es = AllBuilt p t.marks t.words.size es

  fresh_built : (h bin : ℕ) (offer : Option Block) (f : Found) → All f.events → All (acquire_fresh p h bin offer f t).events
  unfolding acquire_fresh Built
  fresh_built h bin None f a = a
  fresh_built h bin (Some b) f a = one_more p t.marks t.words.size f.events _ a tt

  find_built : (h bin : ℕ) (offer : Option Block) → All (find_block p h bin offer t).events
  find_built h bin offer =
      find_keeps p h bin t _ _ (steps p t.marks t.words.size h bin) (λ (s : Search). All s.events) offer
      (λ f z o. fresh_built h bin offer f o.built) (λ f z o. o.built)
      (record { size = refl; built = none_built p t.marks t.words.size })

  plan_built : (heap : List ℕ) (h size align offset : ℕ) (offer : Option Block) → All (plan p t heap (alloc h size align offset offer)).events
  unfolding plan plan_passed take_plan
  plan_built heap h size align offset offer =
      if_cases Q (sound_on p t heap)
      (λ s. plan_cases Q p t (alloc h size align offset offer) (λ r b. none) (λ e. find_built h (bin_of p (raised p size align)) offer))
      (λ s. none)
    where
      Q : Plan → Type 0
      Q q = All q.events

      none : All []
      none = none_built p t.marks t.words.size

  finish_built : (u : Tables) (es : List Event) (h : List ℕ) (e : End) → All es → All (finish p u es h e).events
  unfolding finish take_cell Built
  finish_built u es h (says r) a = a
  finish_built u es h (takes b align offset fresh) a = one_more p t.marks t.words.size es _ a tt

  pub alloc_built : (h size align offset : ℕ) (offer : Option Block) (heap : List ℕ) → All (step p t heap (alloc h size align offset offer)).events
  unfolding step
  alloc_built h size align offset offer heap = finish_built _ _ _ _ (plan_built heap h size align offset offer)

pub printed_is_built : PrintedIsBuilt
unfolding printed_chain Built
printed_is_built t heap holder size align offset offer b chain y i =
    rw y (alloc_built census_params t holder size align offset offer heap (swept b chain) i)
