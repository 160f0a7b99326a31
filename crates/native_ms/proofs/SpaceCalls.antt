-- The calls of the space and their steps: one law for each way out. Plain values alone stand here. Assumes nothing.
use Rattle.std.specs.Prelude.{Result, ⊤, Ok, Err}
use Prim.Native.Nat.{ℕ, suc, ◌+◌, ◌-◌, ◌*◌, ◌/◌, ◌%◌, ◌^◌, ◌<◌, ◌≤◌}
use mathlib.Core.Path.{◌≡◌, refl, sym, ap, ◌∙◌}
use mathlib.Core.Bool.{Bool, true, false, ◌&&◌}
use mathlib.Core.List.{List, [], ◌∷◌, map}
use native.Mathlib.Omega.{arith}
use native.Mathlib.Numerals.{add-one}
use lib.Dec.{ltb, leb}
use lib.ListN.{length, get_or, set, replicate, length-replicate}
use borrow.Author.Tests.{eq-eqb, ne_eqb, leb-true, lt-ltb, le-ltb, lt-leb, le-leb}
use Rattle.model.specs.declared.Params.{Params}
use Rattle.model.specs.declared.Refusal.{Refusal}
use Rattle.model.specs.declared.Refusal.TheVariants.{BadSetup, BadClasses}
use Rattle.model.specs.Base.{each_below, flag}
use Rattle.model.specs.Params.{good_params, fits, word_count, heap_bytes, start, minus_lower, in_heap, local_sets, abandoned, head_words, block_tables, bins}
use Rattle.model.specs.Memory.{marked, set_mark, cleared}
use Rattle.model.specs.Tables.{Words, Tables, tables_of, view, flat, set_bound, set_phase, set_released, with_released}
use Rattle.model.specs.Block.{state_marked}
use Rattle.model.specs.Events.{releases, events_heap}
use Rattle.model.specs.Global.{phase_running, phase_marking, fresh_words, fresh_tables, is_holder, is_bound, has_released, bind_holder, destroy_holder, abandon_blocks, unmarked_state, prepared, mark_place, Freed, freed, release_holder, sweep_later, eagerly, part_released, merged}
use Rattle.model.specs.Sound.{state_of}
use Rattle.model.specs.Classes.{classes_fit}
use Rattle.model.specs.Calls.{answered, refused, Call, bind, destroy, prepare, mark, release, shared_release, good_object, phase_test, bind_tests, leave_tests, mark_tests, release_tests, shared_tests, call_tests, release_plan, plan_passed, finish, carried, set_up}
use Rattle.laws.proofs.Below.{and_left, and_right}
use Rattle.laws.proofs.Params.{good_bounds, start_in, block_small}
use Rattle.laws.proofs.Tables.{flat_view}
use Rattle.laws.proofs.Tests.{bind_passed, leave_passed, release_passed}
use Rattle.model.specs.Promise.{lend, SetUpPromised}
use Rattle.native_ms.specs.Released.{Out, out, total}
use Rattle.native_ms.specs.Moved.{Moved, moved, bins_move, part_moves}
use Rattle.native_ms.specs.Space.{in_block}
use Rattle.native_ms.specs.Ending.{stepped, shown, Does}
use Rattle.native_ms.proofs.Tests.{fit_parts, step_refused, step_passed}
use Rattle.native_ms.specs.Eager.{done, swept_in}
use Rattle.native_ms.proofs.Releases.{Quiet, quiet_holder, quiet_shared}
use Rattle.native_ms.proofs.EagerLaws.{released_nine, AfterPart, after_part_lem}
use Rattle.native_ms.proofs.MovedLaws.{over_words, over_number}

-- ---- holders

pub holder_low : (n : ℕ) {b : Bool} → b ≡ is_holder n → b ≡ true → 1 ≤ n
unfolding is_holder
holder_low n e z = leb-true _ _ (and_left _ _ (sym e ∙ z))

holder_high : (n : ℕ) {b : Bool} → b ≡ is_holder n → b ≡ true → n ≤ 8
unfolding is_holder
holder_high n e z = leb-true _ _ (and_right (leb 1 n) _ (sym e ∙ z))

-- a bound holder is one
bound_holder : (t : Words) (n : ℕ) → is_bound t n ≡ true → is_holder n ≡ true
unfolding is_bound
bound_holder t n e = and_left _ _ e

pub bound_low : (t : Words) (n : ℕ) → is_bound t n ≡ true → 1 ≤ n
bound_low t n e = holder_low n (sym (bound_holder t n e)) refl

pub bound_high : (t : Words) (n : ℕ) → is_bound t n ≡ true → n ≤ 8
bound_high t n e = holder_high n (sym (bound_holder t n e)) refl

-- ---- bind

pub bind_low : (t : Words) (n : ℕ) {r : Result ⊤ Refusal} → r ≡ bind_tests t n → r ≡ Ok tt → 1 ≤ n
bind_low t n e z = holder_low n refl (bind_passed t n (sym e ∙ z)).1

pub bind_done : (t : Words) (n : ℕ) {t₁ : Words} {r : Result ⊤ Refusal} → r ≡ bind_tests t n → r ≡ Ok tt → t₁ ≡ set_bound (n - 1) 1 t
    → (p : Params) (s m h : List ℕ) → Does p (tables_of t s m) h (bind n) (answered []) (tables_of t₁ s m) h
unfolding call_tests plan_passed bind_holder finish events_heap
bind_done t n e z v p s m h =
    ap (λ (u : Words). stepped (answered []) (tables_of u s m) h) v ∙ step_passed p (tables_of t s m) h (bind n) e z

pub bind_refused : (t : Words) (n : ℕ) {r : Result ⊤ Refusal} {x : Refusal} → r ≡ bind_tests t n → r ≡ Err x
    → (p : Params) (s m h : List ℕ) → Does p (tables_of t s m) h (bind n) (refused x) (tables_of t s m) h
unfolding call_tests
bind_refused t n e z p s m h = step_refused p (tables_of t s m) h (bind n) e z

-- ---- destroy

pub leaves_bound : (t : Words) (n : ℕ) {r : Result ⊤ Refusal} → r ≡ leave_tests t n → r ≡ Ok tt → (1 ≤ n) × (n ≤ 8)
leaves_bound t n e z = let b = (leave_passed t n (sym e ∙ z)).1 in (bound_low t n b, bound_high t n b)

module _ (p : Params) (t : Words) (n : ℕ) {r : Result ⊤ Refusal} (e : r ≡ leave_tests t n) where
  pub destroy_done : {owner k : ℕ} {t₁ t₂ : Words} → r ≡ Ok tt → owner ≡ local_sets n → moved k t₁ ≡ bins_move bins p abandoned owner t
      → t₂ ≡ set_bound (n - 1) 0 t₁ → (s m h : List ℕ) → Does p (tables_of t s m) h (destroy n) (answered (k ∷ [])) (tables_of t₂ s m) h
  unfolding call_tests plan_passed destroy_holder finish events_heap
  destroy_done {owner} {k} {t₁} z eo e₁ e₂ s m h =
      let o : moved k t₁ ≡ bins_move bins p abandoned (local_sets n) t = e₁ ∙ ap (λ (x : ℕ). bins_move bins p abandoned x t) eo in
      ap (λ (u : Words). stepped (answered (k ∷ [])) (tables_of u s m) h) (e₂ ∙ ap (set_bound (n - 1) 0) (over_words p abandoned (local_sets n) t o))
      ∙ ap (λ (x : ℕ). stepped (answered (x ∷ [])) (tables_of (set_bound (n - 1) 0 (abandon_blocks p abandoned (local_sets n) t)) s m) h)
      (over_number p abandoned (local_sets n) t o)
      ∙ step_passed p (tables_of t s m) h (destroy n) e z

  pub destroy_refused : {x : Refusal} → r ≡ Err x → (s m h : List ℕ)
      → Does p (tables_of t s m) h (destroy n) (refused x) (tables_of t s m) h
  unfolding call_tests
  destroy_refused z s m h = step_refused p (tables_of t s m) h (destroy n) e z

-- ---- bin by bin

pub each_none : {A : Type 0} (f : ℕ → A → A) (x : A) → x ≡ each_below 0 f x
unfolding each_below
each_none f x = refl

pub each_more : {A : Type 0} (f : ℕ → A → A) (x : A) (i : ℕ) {y z : A} → y ≡ each_below i f x → z ≡ f i y → z ≡ each_below (i + 1) f x
unfolding each_below
each_more f x i e q = rw (add-one i) (q ∙ ap (f i) e)

-- ---- prepare

pub unmark_none : (s : ℕ) → s ≡ 0 → 0 ≡ unmarked_state s
unfolding unmarked_state
unmark_none s h = rw (eq-eqb s 0 h)

pub unmark_some : (s : ℕ) → (s ≡ 0 → ⊥) → 255 ≡ unmarked_state s
unfolding unmarked_state
unmark_some s h = rw (ne_eqb s 0 h)

module _ (w s m : List ℕ) {r : Result ⊤ Refusal} (e : r ≡ phase_test (view w) phase_running) where
  pub prepare_done : {t₁ : Words} {s₁ m₁ : List ℕ} → r ≡ Ok tt → head_words ≤ length w → (2940 < length w → t₁ ≡ set_phase phase_marking (view w))
      → s₁ ≡ map unmarked_state s → m₁ ≡ cleared m
      → (p : Params) (h : List ℕ) → Does p (tables_of (view w) s m) h prepare (answered []) (tables_of t₁ s₁ m₁) h
  unfolding call_tests plan_passed prepared finish events_heap
  prepare_done z long v es em p h =
      let t : Tables = tables_of (view w) s m in
      rw (v (omega arith), es, em) (step_passed p t h prepare e z)

  pub prepare_refused : {x : Refusal} → r ≡ Err x
      → (p : Params) (h : List ℕ) → Does p (tables_of (view w) s m) h prepare (refused x) (tables_of (view w) s m) h
  unfolding call_tests
  prepare_refused z p h = step_refused p (tables_of (view w) s m) h prepare e z

-- ---- set-up

fresh_flat : (p : Params) (k : ℕ) → k ≡ head_words + block_tables * p.blocks → flat (fresh_words p) ≡ replicate k 0
unfolding fresh_words word_count
fresh_flat p k e =
    flat_view p.blocks (replicate (head_words + block_tables * p.blocks) 0) (length-replicate (head_words + block_tables * p.blocks) 0)
    ∙ ap (λ (n : ℕ). replicate n 0) (sym e)

module _ (p : Params) (w s m h : List ℕ) {f : Bool} (ef : f ≡ fits p (lend w s m h)) where
  pub bad_set_up : f ≡ false → SetUpPromised p (lend w s m h) (refused BadSetup) (lend w s m h)
  unfolding set_up
  bad_set_up e = let q : fits p (lend w s m h) ≡ false = sym ef ∙ e in record { reply = rw q; lent = rw q }

  pub bad_rows : {k : Bool} → f ≡ true → k ≡ classes_fit p → k ≡ false → SetUpPromised p (lend w s m h) (refused BadClasses) (lend w s m h)
  unfolding set_up
  bad_rows e ek z =
      let q : fits p (lend w s m h) ≡ true = sym ef ∙ e in
      let y : classes_fit p ≡ false = sym ek ∙ z in
      record { reply = rw (q, y); lent = rw (q, y) }

  pub set_up_done : {k : Bool} {w' s' m' : List ℕ} → f ≡ true → k ≡ classes_fit p → k ≡ true → w' ≡ replicate (length w) 0 → s' ≡ cleared s → m' ≡ cleared m
      → SetUpPromised p (lend w s m h) (answered []) (lend w' s' m' h)
  unfolding set_up fresh_tables cleared
  set_up_done e ek z ew es em =
      let q : fits p (lend w s m h) ≡ true = sym ef ∙ e in
      let y : classes_fit p ≡ true = sym ek ∙ z in
      let parts = fit_parts p w s m h ef e in
      let v : replicate (length w) 0 ≡ flat (fresh_words p) = sym (fresh_flat p (length w) parts.words) in
      let ls : length s ≡ p.blocks = parts.states in
      let lm : length m ≡ heap_bytes p / 64 = parts.marks in
      record { reply = rw (q, y); lent = rw (q, y, ew, es, em, ls, lm, ← v) }

-- ---- mark

module _ (p : Params) (t : Words) (s m : List ℕ) (place b : ℕ) {r : Result ⊤ Refusal}
    (e : (m₀ : List ℕ) → r ≡ mark_tests p (tables_of t s m₀) place b) where
  pub mark_refused : {x : Refusal} → r ≡ Err x → (h : List ℕ)
      → Does p (tables_of t s m) h (mark place b) (refused x) (tables_of t s m) h
  unfolding call_tests
  mark_refused z h = step_refused p (tables_of t s m) h (mark place b) (e m) z

  module _ (z : r ≡ Ok tt) {x : Bool} (ex : x ≡ marked p m place) where
    pub mark_old : x ≡ true → (h : List ℕ) → Does p (tables_of t s m) h (mark place b) (answered (0 ∷ [])) (tables_of t s m) h
    unfolding call_tests plan_passed mark_place flag finish events_heap
    mark_old y h =
        let k : marked p m place ≡ true = sym ex ∙ y in
        let c : stepped (answered (0 ∷ [])) (tables_of t s m) h ≡ shown (carried p h (plan_passed p (tables_of t s m) (mark place b))) = rw k in
        c ∙ step_passed p (tables_of t s m) h (mark place b) (e m) z

    pub mark_new : {s₁ m₁ : List ℕ} → x ≡ false → s₁ ≡ set s b state_marked → m₁ ≡ set_mark p m place → (h : List ℕ)
        → Does p (tables_of t s m) h (mark place b) (answered (1 ∷ [])) (tables_of t s₁ m₁) h
    unfolding call_tests plan_passed mark_place flag finish events_heap
    mark_new {s₁} {m₁} y es em h =
        let k : marked p m place ≡ false = sym ex ∙ y in
        let c : stepped (answered (1 ∷ [])) (tables_of t s₁ m₁) h ≡ shown (carried p h (plan_passed p (tables_of t s m) (mark place b))) = rw (k, es, em) in
        c ∙ step_passed p (tables_of t s m) h (mark place b) (e m) z

-- whether a place can be marked

pub in_block_under : (p : Params) (b a : ℕ) {v : ℕ} → v ≡ start p b → a < v → false ≡ in_block p b a
unfolding in_block
in_block_under p b a {v} e h = rw (← e, lt-leb v a h)

pub in_block_from : (p : Params) (b a : ℕ) {v : ℕ} → v ≡ start p b → v ≤ a → ltb a (v + p.bytes) ≡ in_block p b a
unfolding in_block
in_block_from p b a {v} e h = rw (← e, le-leb v a h)

pub start_room : (p : Params) (b : ℕ) → good_params p ≡ true → b < p.blocks → {v : ℕ} → v ≡ start p b → v + p.bytes ≤ 2 ^ 47
start_room p b g l e =
    let q = start_in p b l in
    omega (arith, block_small p (good_bounds p g) b l)

module _ (p : Params) (s : List ℕ) (place b : ℕ) {x : Bool} (ex : x ≡ in_heap p place) (w : Words) (m : List ℕ) where
  pub object_out : x ≡ false → false ≡ good_object p (tables_of w s m) place b
  unfolding good_object
  object_out z = rw (← ex, z)

  module _ (z : x ≡ true) where
    pub object_odd : (place % 8 ≡ 0 → ⊥) → false ≡ good_object p (tables_of w s m) place b
    unfolding good_object
    object_odd q = rw (← ex, z, ne_eqb (place % 8) 0 q)

    module _ (q : place % 8 ≡ 0) where
      pub object_past : p.blocks ≤ b → false ≡ good_object p (tables_of w s m) place b
      unfolding good_object
      object_past l = rw (← ex, z, eq-eqb (place % 8) 0 q, le-ltb b p.blocks l)

      module _ (l : b < p.blocks) {v : ℕ} (ev : v ≡ get_or s b 0) where
        pub object_none : v ≡ 0 → false ≡ good_object p (tables_of w s m) place b
        unfolding good_object state_of
        object_none n = rw (← ex, z, eq-eqb (place % 8) 0 q, lt-ltb b p.blocks l, ← ev, eq-eqb v 0 n)

        pub object_at : {a : ℕ} {r : Bool} → (v ≡ 0 → ⊥) → a ≡ minus_lower p place → r ≡ in_block p b a → r ≡ good_object p (tables_of w s m) place b
        unfolding good_object state_of in_block
        object_at n ea er =
            rw (← ex, z, eq-eqb (place % 8) 0 q, lt-ltb b p.blocks l, ← ev, ne_eqb v 0 n, ← ea, er)

-- ---- releases

pub already_none : (t : Words) (n : ℕ) {a : Bool} → a ≡ is_holder n → a ≡ false → false ≡ (is_holder n && has_released t n)
already_none t n e z = rw (← e, z)

pub already_holder : (t : Words) (n : ℕ) {a r : Bool} → a ≡ is_holder n → a ≡ true → r ≡ has_released t n → r ≡ (is_holder n && has_released t n)
already_holder t n e z q = rw (← e, z, q)

-- a part's own work, f, then the end of the collection if it is the last, then the mark
module _ (p : Params) (c : Call) (part : ℕ) (t : Words) (s m h : List ℕ) (f : Freed)
    (planned : plan_passed p (tables_of t s m) c ≡ release_plan p part (tables_of t s m) f) (quiet : Quiet p f.events) where
  freed_done : {n j k : ℕ} {t₁ t₂ t₃ : Words} {s₁ h₁ : List ℕ} → out n t₁ s₁ ≡ total f → done j t₂ h₁ ≡ swept_in p h (eagerly p m part (freed t₁ s₁))
      → moved k t₃ ≡ part_moves p part t₂ → stepped (answered (n ∷ k ∷ j ∷ [])) (tables_of t₃ s₁ m) h₁ ≡ shown (carried p h (plan_passed p (tables_of t s m) c))
  unfolding release_plan total finish part_moves
  freed_done {n} {j} {k} {t₁} {t₂} {t₃} {s₁} {h₁} q d v =
      let g : Freed = eagerly p m part f in
      let en : n ≡ releases f.events = ap (λ (x : Out). x.number) q in
      let ew : t₁ ≡ f.words = ap (λ (x : Out). x.words) q in
      let es : s₁ ≡ f.states = ap (λ (x : Out). x.states) q in
      let e : done j t₂ h₁ ≡ swept_in p h (eagerly p m part (freed f.words f.states)) =
      d ∙ ap (λ (x : Out). swept_in p h (eagerly p m part (freed x.words x.states))) q in
      let a : AfterPart p m part h f j t₂ h₁ = after_part_lem p m part h f quiet e in
      let ek : k ≡ merged p part g.words = ap (λ (x : Moved). x.number) v ∙ ap (merged p part) a.words in
      let et : t₃ ≡ part_released p part g.words = ap (λ (x : Moved). x.words) v ∙ ap (part_released p part) a.words in
      rw (planned, et, es ∙ sym a.states, en ∙ sym a.released, ek, a.swept, a.heap)

pub release_bound : (t : Words) (n : ℕ) {r : Result ⊤ Refusal} → r ≡ release_tests t n → r ≡ Ok tt → (1 ≤ n) × (n ≤ 8)
release_bound t n e z = let b = (release_passed t n (sym e ∙ z)).1 in (bound_low t n b, bound_high t n b)

module _ (p : Params) (t : Words) (s : List ℕ) (n : ℕ) {r : Result ⊤ Refusal} (e : r ≡ release_tests t n) where
  pub release_refused : {x : Refusal} → r ≡ Err x → (m h : List ℕ)
      → Does p (tables_of t s m) h (release n) (refused x) (tables_of t s m) h
  unfolding call_tests
  release_refused z m h = step_refused p (tables_of t s m) h (release n) e z

  pub release_done : (m h : List ℕ) {k i j : ℕ} {t₁ t₂ t₃ : Words} {s₁ h₁ : List ℕ} → r ≡ Ok tt → out k t₁ s₁ ≡ total (release_holder p n t s)
      → done i t₂ h₁ ≡ swept_in p h (eagerly p m n (freed t₁ s₁)) → moved j t₃ ≡ part_moves p n t₂
      → Does p (tables_of t s m) h (release n) (answered (k ∷ j ∷ i ∷ [])) (tables_of t₃ s₁ m) h₁
  unfolding call_tests plan_passed
  release_done m h z q d v =
      freed_done p (release n) n t s m h (release_holder p n t s) refl (quiet_holder p n t s) q d v
      ∙ step_passed p (tables_of t s m) h (release n) e z

module _ (p : Params) (t : Words) (s : List ℕ) {r : Result ⊤ Refusal} (e : r ≡ shared_tests t) where
  pub shared_refused : {x : Refusal} → r ≡ Err x → (m h : List ℕ)
      → Does p (tables_of t s m) h shared_release (refused x) (tables_of t s m) h
  unfolding call_tests
  shared_refused z m h = step_refused p (tables_of t s m) h shared_release e z

  pub shared_done : (m h : List ℕ) {k i j : ℕ} {t₁ t₂ t₃ : Words} {s₁ h₁ : List ℕ} → r ≡ Ok tt → out k t₁ s₁ ≡ total (sweep_later p t s)
      → done i t₂ h₁ ≡ swept_in p h (eagerly p m 0 (freed t₁ s₁)) → moved j t₃ ≡ part_moves p 0 t₂
      → Does p (tables_of t s m) h shared_release (answered (k ∷ j ∷ i ∷ [])) (tables_of t₃ s₁ m) h₁
  unfolding call_tests plan_passed
  shared_done m h z q d v =
      freed_done p shared_release 0 t s m h (sweep_later p t s) refl (quiet_shared p t s) q d v
      ∙ step_passed p (tables_of t s m) h shared_release e z

-- ---- the end of a collection

nine : (l : List ℕ) → length l ≡ 9 → set (set (set (set (set (set (set (set (set l 0 0) 1 0) 2 0) 3 0) 4 0) 5 0) 6 0) 7 0) 8 0 ≡ replicate 9 0
nine (a ∷ b ∷ c ∷ d ∷ e ∷ f ∷ g ∷ h ∷ i ∷ []) q = refl
nine [] q = absurd (let z : ◌≡◌ {A = ℕ} 0 9 = q in omega arith)
nine (a ∷ []) q = absurd (let z : ◌≡◌ {A = ℕ} 1 9 = q in omega arith)
nine (a ∷ b ∷ []) q = absurd (let z : ◌≡◌ {A = ℕ} 2 9 = q in omega arith)
nine (a ∷ b ∷ c ∷ []) q = absurd (let z : ◌≡◌ {A = ℕ} 3 9 = q in omega arith)
nine (a ∷ b ∷ c ∷ d ∷ []) q = absurd (let z : ◌≡◌ {A = ℕ} 4 9 = q in omega arith)
nine (a ∷ b ∷ c ∷ d ∷ e ∷ []) q = absurd (let z : ◌≡◌ {A = ℕ} 5 9 = q in omega arith)
nine (a ∷ b ∷ c ∷ d ∷ e ∷ f ∷ []) q = absurd (let z : ◌≡◌ {A = ℕ} 6 9 = q in omega arith)
nine (a ∷ b ∷ c ∷ d ∷ e ∷ f ∷ g ∷ []) q = absurd (let z : ◌≡◌ {A = ℕ} 7 9 = q in omega arith)
nine (a ∷ b ∷ c ∷ d ∷ e ∷ f ∷ g ∷ h ∷ []) q = absurd (let z : ◌≡◌ {A = ℕ} 8 9 = q in omega arith)
nine (a ∷ b ∷ c ∷ d ∷ e ∷ f ∷ g ∷ h ∷ i ∷ j ∷ l) q =
    absurd (let z : suc (suc (suc (suc (suc (suc (suc (suc (suc (suc (length l)))))))))) ≡ 9 = q in omega arith)

-- the released marks below i are 0
unfoldable pub unreleased : ℕ → Words → Words
unreleased n t = each_below n (λ i u. set_released i 0 u) t

pub unreleased_none : (t : Words) → t ≡ unreleased 0 t
unfolding unreleased each_below
unreleased_none t = refl

pub unreleased_more : (t : Words) (i : ℕ) {u v : Words} → u ≡ unreleased i t → v ≡ set_released i 0 u → v ≡ unreleased (i + 1) t
unfolding unreleased
unreleased_more t i e q = each_more (λ j u. set_released j 0 u) t i e q

unreleased_all : (t : Words) → length t.released ≡ 9 → unreleased 9 t ≡ with_released (replicate 9 0) t
unfolding unreleased each_below set_released with_released
unreleased_all t e = rw (nine t.released e)

pub unreleased_end : (w : List ℕ) (i : ℕ) {u : Words} → 2958 ≤ length w → i ≤ 9 → 9 ≤ i → u ≡ unreleased i (view w) → u ≡ with_released (replicate 9 0) (view w)
unreleased_end w i h l g e =
    let q : i ≡ 9 = omega arith in
    e ∙ ap (λ (k : ℕ). unreleased k (view w)) q ∙ unreleased_all (view w) (released_nine w h)
