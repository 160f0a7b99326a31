-- A refused call changes nothing, save for the block moves and sweeps of an alloc that is refused Exhausted.
-- Assumes nothing.
use Rattle.std.specs.Prelude.{Ok, Option, None, Some}
use mathlib.Core.Path.{◌≡◌, refl, sym, ap, ◌∙◌, subst}
use mathlib.Core.Logic.{◌≢◌, ◌⊎◌, inl, inr}
use mathlib.Core.Bool.{true, ◌&&◌}
use mathlib.Core.List.{List, [], ◌∷◌}
use Prim.Native.Nat.{ℕ, ◌-◌, ◌<◌, ◌≤◌}
use native.Mathlib.Omega.{arith}
use lib.Dec.{ltb}
use lib.ListN.{get_or, length, get_or-eq_default}
use borrow.Author.Tests.{ltb-true, eq-eqb, ne_eqb}
use Rattle.model.specs.declared.Params.{Params}
use Rattle.model.specs.declared.Block.{Block}
use Rattle.model.specs.declared.Refusal.{Refusal}
use Rattle.model.specs.declared.Refusal.TheVariants.{BadTables}
use Rattle.model.specs.Base.{In}
use Rattle.model.specs.Params.{Lent, fits, word_count}
use Rattle.model.specs.Tables.{Words, Tables, tables_of, view, flat}
use Rattle.model.specs.SizeClasses.{bin_of, raised}
use Rattle.model.specs.Classes.{classes_fit}
use Rattle.model.specs.BlockList.{blocks_on}
use Rattle.model.specs.Block.{ChainStands}
use Rattle.model.specs.Events.{Event, events_heap}
use Rattle.model.specs.FreeListAllocator.{Found, Search, in_found, acquire_fresh, find_block}
use Rattle.model.specs.Sound.{sound, eager_ok, chained, sound_on}
use Rattle.model.specs.Calls.{refusal_number, Call, bind, destroy, alloc, prepare, mark, release, shared_release, Plan, refuses, changes, good_offer, take_plan, release_plan, call_tests, plan_passed, plan_sound, plan, take_cell, finish, step, Returned, tables_in, lent_of, result_from, bad_setup, bad_classes, call, set_up}
use Rattle.model.specs.Refusals.{PassedOver, SearchKeeps, KeptExhausted, OfAlloc, RefusalKeeps, SetUpKeeps}
use Rattle.laws.proofs.Base.{if_cases, and_left, and_right}
use Rattle.laws.proofs.Params.{Bounds, good_bounds, some_start}
use Rattle.laws.proofs.Tables.{Sized, sized_view, flat_view, view_flat, by_lt}
use Rattle.laws.proofs.Lent.{Fitting, fitting}
use Rattle.laws.proofs.Classes.{chosen, fits_raised}
use Rattle.laws.proofs.Cells.{Whole, whole_nonzero}
use Rattle.laws.proofs.Walks.{find_keeps}
use Rattle.laws.proofs.Tests.{alloc_passed, plan_cases}
use Rattle.soundness.proofs.Replies.{exhausted_tells}
use Rattle.soundness.proofs.SoundLists.{sound_good}
use Rattle.soundness.proofs.Owners.{Framed, framed_refl}
use Rattle.soundness.proofs.GoodTables.{GoodTables}
use Rattle.soundness.proofs.Flags.{bound_at}
use Rattle.soundness.proofs.Chains.{Chains}
use Rattle.soundness.proofs.Chained.{shadow_of, chains_found}
use Rattle.soundness.proofs.Alloc.{SearchedSoFar}
use Rattle.soundness.proofs.Searches.{Quiet, quiet_start, Going, search_steps}

-- ---- what was lent, with what the search left in it

module _ (p : Params) (h bin : ℕ) (l : Lent) (w : Words) (heap : List ℕ) (Z : Sized p.blocks w) (same : heap ≡ l.heap) where
  abbrev w₀ : Words
  w₀ = view l.words

  abbrev m : Lent
  m = lent_of (tables_of w l.states l.marks) heap

  seen : view (flat w) ≡ w
  seen = view_flat p.blocks w Z

  keeps_lent : Quiet h bin w₀ w → Framed (h - 1) 8 w₀ w → SearchKeeps h bin l m
  keeps_lent Q F =
      record {
        heap = same;
        states = refl;
        marks = refl;
        size = ap (λ (x : Words). x.size) seen ∙ Q.size;
        phase = ap (λ (x : Words). x.phase) seen ∙ F.phase;
        bound = ap (λ (x : Words). x.bound) seen ∙ F.bound;
        released = ap (λ (x : Words). x.released) seen ∙ F.released;
        first = λ n e. ap (λ (x : Words). get_or x.first n 0) seen ∙ Q.first n e;
        last = λ n e. ap (λ (x : Words). get_or x.last n 0) seen ∙ Q.last n e;
        next = λ b f. ap (λ (x : Words). get_or x.next b 0) seen ∙ Q.next b f;
        prev = λ b f. ap (λ (x : Words). get_or x.prev b 0) seen ∙ Q.prev b f;
      }

  exhausted_lent : Quiet h bin w₀ w → Framed (h - 1) 8 w₀ w → ((b : ℕ) → PassedOver p l.marks h bin w₀ w b) → KeptExhausted p h bin l m
  exhausted_lent Q F f =
      record { keeps = keeps_lent Q F; blocks = λ b. subst (λ (x : Words). PassedOver p l.marks h bin w₀ x b) (sym seen) (f b) }

-- ---- calls on buffers that fit

-- what is said of a refused call, but for the count that Exhausted tells (Replies.antt)
record Leaves (p : Params) (l : Lent) (c : Call) (r : Returned) : Type 0 where
  values : r.reply.number ≢ 9 → r.reply.values ≡ []
  nothing : r.reply.number ≢ 9 → r.lent ≡ l
  exhausted : r.reply.number ≡ 9 → OfAlloc p (λ holder bin. KeptExhausted p holder bin l r.lent) c

module _ (p : Params) (l : Lent) where
  abbrev t : Tables
  t = tables_in l

  abbrev Leaving : Call → Returned → Type 0
  Leaving c r = r.reply.number ≢ 0 → Leaves p l c r

  abbrev Fine : Call → Plan → Type 0
  Fine c q = Leaving c (result_from (finish p q.tables q.events (events_heap p q.events l.heap) q.end))

  -- a plan that is refused changes nothing
  module _ (e : length l.words ≡ word_count p) where
    back : lent_of t l.heap ≡ l
    unfolding word_count
    back = ap (λ (w : List ℕ). record { words = w; states = l.states; marks = l.marks; heap = l.heap }) (flat_view p.blocks l.words e)

    plain : (c : Call) (r : Refusal) → refusal_number r ≢ 9 → Fine c (refuses t r)
    unfolding finish refusal_number events_heap
    plain c r g z = record { values = λ b. refl; nothing = λ b. back; exhausted = λ q. absurd (g q) }

  done : (c : Call) (u : Tables) (vs : List ℕ) → Fine c (changes u vs)
  unfolding finish
  done c u vs z = absurd (z refl)

-- ---- an alloc's search and what it ends in

module _ (p : Params) (l : Lent) (B : Bounds p) (H : GoodTables p l.marks (view l.words) l.states)
    (bare : (b : ℕ) → get_or (view l.words).free b 0 ≡ 0 → get_or (view l.words).cells b 0 ≡ 0)
    (h size align offset : ℕ) (offer : Option Block) (lo : 1 ≤ h) (hi : h ≤ 8) (low : bin_of p (raised p size align) < 49) where
  abbrev bin : ℕ
  bin = bin_of p (raised p size align)

  abbrev c : Call
  c = alloc h size align offset offer

  abbrev R : Search → Type 0
  R s = Fine p l c (take_plan p align offset s)

  abbrev Going' : List Event → Words → Type 0
  Going' = Going p B l.states l.marks h bin lo hi low (view l.words) l.heap bare

  none_found : (g : Found) → g.at ≡ 0 → Going' g.events g.words → R (in_found g (tables_in l))
  unfolding take_plan finish refusal_number OfAlloc
  none_found g e G =
      rw (eq-eqb _ _ e)
      (λ z. record {
        values = λ b. absurd (b refl);
        nothing = λ b. absurd (b refl);
        exhausted = λ q.
            exhausted_lent p h bin l g.words (events_heap p g.events l.heap) G.good.good.sized G.idle
            G.quiet G.good.frame G.blocks;
      })

  -- a cell is taken, and the alloc is served
  some_found : (s : Search) → s.at ≢ 0 → R s
  unfolding take_plan finish take_cell
  some_found s e = rw (ne_eqb _ _ e) (λ z. absurd (z refl))

  fresh_found : (o : Option Block) → good_offer p (tables_in l) o ≡ true → (g : Found) → g.at ≡ 0 → Going' g.events g.words
      → R (acquire_fresh p h bin o g (tables_in l))
  unfolding acquire_fresh good_offer
  fresh_found None y g e G = none_found g e G
  fresh_found (Some b) y g e G = some_found _ (some_start p B b.0 (ltb-true _ _ (and_left (ltb b.0 p.blocks) _ y)))

  alloc_fine : good_offer p (tables_in l) offer ≡ true → R (find_block p h bin offer (tables_in l))
  unfolding events_heap
  alloc_fine y =
      find_keeps p h bin (tables_in l) Going' (λ es a w. SearchedSoFar p B l.states l.marks h bin lo hi low (view l.words) w)
      (search_steps p B l.states l.marks h bin lo hi low (view l.words) l.heap bare) R offer
      (λ g e G. fresh_found offer y g e G) (λ g e G. some_found (in_found g (tables_in l)) e)
      (record {
        good = record { good = H; frame = framed_refl (view l.words) };
        quiet = quiet_start h bin (view l.words);
        idle = refl;
        blocks = λ b. inl (record { list = refl; free = refl; tls = refl; cells = refl });
      })

-- ---- every call

module _ (p : Params) (l : Lent) (f : fits p l ≡ true) where
  parts : Fitting p l
  parts = fitting p l f

  abbrev B : Bounds p
  B = good_bounds p parts.good

  abbrev w : Words
  w = view l.words

  Z : Sized p.blocks w
  unfolding word_count
  Z = sized_view p.blocks l.words parts.words

  module _ (rows : classes_fit p ≡ true) (all : sound_on p (tables_in l) l.heap ≡ true) where
    ok : sound p (tables_in l) ≡ true
    ok = and_left (sound p (tables_in l)) (eager_ok p (tables_in l)) (and_left (sound p (tables_in l) && eager_ok p (tables_in l)) (chained p (tables_in l) l.heap) all)

    H : GoodTables p l.marks w l.states
    H = record { lists = λ n. blocks_on p n w; good = sound_good p B (tables_in l) ok; sized = Z; states = parts.states }

    -- a block without a free head counts no free cell
    C : Chains p w.free w.size w.cells l.heap (shadow_of p l.heap w)
    C = chains_found p B (tables_in l) l.heap ok (and_right (sound p (tables_in l) && eager_ok p (tables_in l)) (chained p (tables_in l) l.heap) all) Z parts.heap

    bare : (b : ℕ) → get_or w.free b 0 ≡ 0 → get_or w.cells b 0 ≡ 0
    unfolding ChainStands In
    bare b e =
        by_lt b p.blocks (λ low. let K = C.blocks b low in K.count ∙ no_chain (get_or w.free b 0) (get_or (shadow_of p l.heap w) b []) e low K.stands K.cells)
        (λ far. get_or-eq_default w.cells 0 {n = b} (omega (arith, Z.cells)))
      where
        no_chain : (a : ℕ) (c : List ℕ) → a ≡ 0 → b < p.blocks → ChainStands p l.heap a c → ((x : ℕ) → In x c → Whole p b (get_or w.size b 0) x) → length c ≡ 0
        no_chain a [] q low s k = refl
        no_chain a (x ∷ c) q low s k = absurd (omega (arith, sym s.0 ∙ q, whole_nonzero p B b (get_or w.size b 0) x low (k x (inl refl))))

    passed_fine : (c : Call) → call_tests p (tables_in l) c ≡ Ok tt → Fine p l c (plan_passed p (tables_in l) c)
    unfolding plan_passed release_plan finish
    passed_fine (bind h) e = done p l (bind h) _ []
    passed_fine (destroy h) e = done p l (destroy h) _ _
    passed_fine (alloc h size align offset offer) e =
        let a = alloc_passed p (tables_in l) h size align offset offer e in
        let P = bound_at w h a.bound in
        let f = fits_raised p size align a.small in
        let n = chosen p B rows (raised p size align) f in
        alloc_fine p l B H bare h size align offset offer P.low P.high (omega (arith, n.to)) a.offered
    passed_fine prepare e = done p l prepare _ []
    passed_fine (mark place b) e = done p l (mark place b) _ _
    passed_fine (release h) e = λ z. absurd (z refl)
    passed_fine shared_release e = λ z. absurd (z refl)

    plan_fine : (c : Call) → Fine p l c (plan_sound p (tables_in l) c)
    plan_fine c =
        plan_cases (Fine p l c) p (tables_in l) c (λ r b. plain p l parts.words c r b.no_search) (λ e. passed_fine c e)

leaves : (p : Params) (l : Lent) (c : Call) → Leaving p l c (call p l c)
unfolding call step plan refusal_number
leaves p l c =
    if_cases (Leaving p l c) (fits p l)
    (λ f. if_cases (Leaving p l c) (classes_fit p)
    (λ k. if_cases (Fine p l c) (sound_on p (tables_in l) l.heap) (λ s. plan_fine p l f k s c)
    (λ s. plain p l (parts p l f).words c BadTables (λ q. omega (arith, q))))
    (λ k z. record { values = λ b. refl; nothing = λ b. refl; exhausted = λ q. absurd (omega (arith, q)) }))
    (λ f z. record { values = λ b. refl; nothing = λ b. refl; exhausted = λ q. absurd (omega (arith, q)) })

pub refusal_keeps : RefusalKeeps
unfolding RefusalKeeps refusal_number
refusal_keeps p l c z =
    let k : Leaves p l c (call p l c) = leaves p l c z in
    record { values = k.values; told = exhausted_tells p l c; nothing = k.nothing; exhausted = k.exhausted }

pub set_up_keeps : SetUpKeeps
unfolding SetUpKeeps set_up
set_up_keeps p l = if_cases Left (fits p l) (λ e. if_cases Left (classes_fit p) (λ k z. absurd (z refl)) (λ k z. inr refl)) (λ e z. inl refl)
  where
    Left : Returned → Type 0
    Left r = r.reply.number ≢ 0 → (r ≡ bad_setup l) ⊎ (r ≡ bad_classes l)
