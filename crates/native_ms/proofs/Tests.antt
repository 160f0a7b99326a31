-- What the tests of a call say: refused at one of them, or open to what the call does. A public call is its first tests and its
-- step on sound tables; that step is its own tests and its plan. Plain values alone stand here. Assumes nothing.
use Rattle.std.specs.Prelude.{Result, ⊤, Ok, Err}
use Prim.Native.Nat.{ℕ, ◌+◌, ◌-◌, ◌*◌, ◌/◌, ◌≤◌}
use mathlib.Core.Path.{◌≡◌, refl, sym, ap, ◌∙◌}
use mathlib.Core.Bool.{Bool, true, false, not, ◌&&◌, ◌||◌}
use mathlib.Core.List.{List}
use native.Mathlib.Omega.{arith}
use lib.Dec.{eqb, leb}
use lib.ListN.{length, get_or}
use borrow.Author.Tests.{eq-eqb, ne_eqb, eqb-true, leb-true}
use Rattle.model.specs.declared.Params.{Params}
use Rattle.model.specs.declared.Refusal.{Refusal}
use Rattle.model.specs.declared.Refusal.TheVariants.{BadSetup, BadTables, BadClasses, WrongPhase, BadHolder}
use Rattle.model.specs.Params.{good_params, fits, word_count, heap_bytes, head_words, block_tables}
use Rattle.model.specs.Tables.{Words, Tables, tables_of, view, flat}
use Rattle.model.specs.Events.{events_heap}
use Rattle.model.specs.Global.{is_holder, is_bound}
use Rattle.model.specs.Classes.{classes_fit}
use Rattle.model.specs.Sound.{sound, eager_ok, chained, sound_on}
use Rattle.model.specs.Calls.{Reply, refused, Call, refused_if, and_then, phase_test, bound_tests, call_tests, plan_passed, if_passed, plan_sound, plan, finish, carried, sound_step, step, call}
use Rattle.model.specs.Promise.{lend, Promised}
use Rattle.laws.proofs.Below.{or_left, or_right, or_neither, and_left, and_right, and_three, and_five}
use Rattle.laws.proofs.Base.{if_true, if_false}
use Rattle.laws.proofs.Tables.{words_flat, flat_view}
use Rattle.laws.proofs.Tests.{clash}
use Rattle.native_ms.specs.Checked.{lent_tests}
use Rattle.native_ms.specs.Places.{Known}
use Rattle.native_ms.specs.Ending.{Stepped, shown, Does}

-- ---- parameters and lengths

-- what fits, part by part
pub record Fitting (p : Params) (w s m h : List ℕ) : Type 0 where
  pub good : good_params p ≡ true
  pub words : length w ≡ head_words + block_tables * p.blocks
  pub states : length s ≡ p.blocks
  pub marks : length m ≡ heap_bytes p / 64
  pub heap : length h ≡ heap_bytes p

module _ (p : Params) (w s m h : List ℕ) where
  pub fits_bad : {g : Bool} → g ≡ good_params p → g ≡ false → false ≡ fits p (lend w s m h)
  unfolding fits
  fits_bad e f = rw (← e, f)

  pub fits_good : {g r : Bool} → g ≡ good_params p → g ≡ true
      → r ≡ (eqb (length w) (word_count p) && eqb (length s) p.blocks && eqb (length m) (heap_bytes p / 64) && eqb (length h) (heap_bytes p))
      → r ≡ fits p (lend w s m h)
  unfolding fits
  fits_good e f q = rw (← e, f, q)

  pub fit_parts : {f : Bool} → f ≡ fits p (lend w s m h) → f ≡ true → Fitting p w s m h
  unfolding fits word_count
  fit_parts e z =
      let r = and_five (good_params p) (eqb (length w) (word_count p)) (eqb (length s) p.blocks)
      (eqb (length m) (heap_bytes p / 64)) (eqb (length h) (heap_bytes p)) (sym e ∙ z) in
      record {
        good = r.0;
        words = eqb-true _ _ r.1;
        states = eqb-true _ _ r.2;
        marks = eqb-true _ _ r.3;
        heap = eqb-true _ _ r.4;
      }

-- ---- one test

module _ (x : Refusal) where
  pub test_no : {a A : Bool} → a ≡ A → a ≡ false → Err x ≡ refused_if (not A) x
  test_no e z = sym (if_true _ _ _ (ap not (sym e ∙ z)))

  pub test_yes : {a A : Bool} → a ≡ A → a ≡ true → (Ok tt) ≡ refused_if (not A) x
  test_yes e z = sym (if_false _ _ _ (ap not (sym e ∙ z)))

  pub either_no : {a A : Bool} (B : Bool) → a ≡ A → a ≡ false → Err x ≡ refused_if (not A || B) x
  either_no B e z = sym (if_true _ _ _ (or_left B (ap not (sym e ∙ z))))

  pub either_yes : {a A b B : Bool} → a ≡ A → b ≡ B → b ≡ true → Err x ≡ refused_if (not A || B) x
  either_yes {A = A} e d y = sym (if_true _ _ _ (or_right (not A) (sym d ∙ y)))

  pub neither : {a A b B : Bool} → a ≡ A → a ≡ true → b ≡ B → b ≡ false → (Ok tt) ≡ refused_if (not A || B) x
  neither e z d y = sym (if_false _ _ _ (or_neither (ap not (sym e ∙ z)) (sym d ∙ y)))

module _ (t : Words) (k : ℕ) {f : ℕ} (ef : f ≡ t.phase) where
  pub phase_other : (f ≡ k → ⊥) → Err WrongPhase ≡ phase_test t k
  unfolding phase_test
  phase_other q = test_no WrongPhase (sym (ne_eqb t.phase k (λ e. q (ef ∙ e)))) refl

  pub phase_this : f ≡ k → (Ok tt) ≡ phase_test t k
  unfolding phase_test
  phase_this q = test_yes WrongPhase (sym (eq-eqb t.phase k (sym ef ∙ q))) refl

-- ---- tests in order

module _ {a r : Result ⊤ Refusal} (b : Result ⊤ Refusal) (e : r ≡ a) where
  pub then_refused : {x : Refusal} → r ≡ Err x → Err x ≡ and_then a b
  unfolding and_then
  then_refused z = rw (sym e ∙ z)

  pub then_passed : {v : Result ⊤ Refusal} → r ≡ Ok tt → v ≡ b → v ≡ and_then a b
  unfolding and_then
  then_passed z q = rw (sym e ∙ z) q

-- ---- what was lent passed the first tests: it fits, and its tables are sound

pub record Open (p : Params) (w s m h : List ℕ) : Type 0 where
  pub fit : fits p (lend w s m h) ≡ true
  pub parts : Fitting p w s m h
  pub classes : classes_fit p ≡ true
  pub sane : sound p (tables_of (view w) s m) ≡ true
  -- R-8 and R-7: what the choice of sweeping asks, and the chains
  pub whole : sound_on p (tables_of (view w) s m) h ≡ true

module _ (p : Params) (w s m h : List ℕ) where
  pub opened : lent_tests p (lend w s m h) ≡ Ok tt → Open p w s m h
  unfolding lent_tests and_then
  opened e = go (fits p (lend w s m h)) (classes_fit p) (sound_on p (tables_of (view w) s m) h) refl refl refl e
    where
      go : (f k g : Bool) → fits p (lend w s m h) ≡ f → classes_fit p ≡ k → sound_on p (tables_of (view w) s m) h ≡ g
          → and_then (refused_if (not f) BadSetup) (and_then (refused_if (not k) BadClasses) (refused_if (not g) BadTables)) ≡ Ok tt → Open p w s m h
      go false k g ef ek eg q = clash q
      go true false g ef ek eg q = clash q
      go true true false ef ek eg q = clash q
      go true true true ef ek eg q =
          record { fit = ef; parts = fit_parts p w s m h refl ef; classes = ek; sane = (and_three (sound p (tables_of (view w) s m)) (eager_ok p (tables_of (view w) s m)) (chained p (tables_of (view w) s m) h) eg).0; whole = eg }

  pub open_good : lent_tests p (lend w s m h) ≡ Ok tt → good_params p ≡ true
  open_good e = (opened e).parts.good

  pub open_known : lent_tests p (lend w s m h) ≡ Ok tt → Known p (length w) (length m) (length h)
  unfolding word_count
  open_known e =
      let o = opened e in
      record { good = o.parts.good; count = o.parts.words; lines = o.parts.marks; whole = o.parts.heap }

  -- the words are long enough for all that comes before the block tables
  pub open_long : lent_tests p (lend w s m h) ≡ Ok tt → head_words ≤ length w
  open_long e = let l = (opened e).parts.words in omega arith

-- ---- a public call: its first tests, and its step on sound tables

module _ (p : Params) (w s m h : List ℕ) (c : Call) {r : Result ⊤ Refusal} (e : r ≡ lent_tests p (lend w s m h)) where
  pub lent_refused : {x : Refusal} → r ≡ Err x → Promised p (lend w s m h) c (refused x) (lend w s m h)
  unfolding lent_tests and_then call step plan finish events_heap
  lent_refused {x} z = go (fits p (lend w s m h)) (classes_fit p) (sound_on p (tables_of (view w) s m) h) refl refl refl (sym e ∙ z)
    where
      go : (f k g : Bool) → fits p (lend w s m h) ≡ f → classes_fit p ≡ k → sound_on p (tables_of (view w) s m) h ≡ g
          → and_then (refused_if (not f) BadSetup) (and_then (refused_if (not k) BadClasses) (refused_if (not g) BadTables)) ≡ Err x
          → Promised p (lend w s m h) c (refused x) (lend w s m h)
      go false k g ef ek eg y =
          let i : x ≡ BadSetup = cc in
          rw i (record { reply = rw ef; lent = rw ef })
      go true false g ef ek eg y =
          let i : x ≡ BadClasses = cc in
          rw i (record { reply = rw (ef, ek); lent = rw (ef, ek) })
      go true true false ef ek eg y =
          let i : x ≡ BadTables = cc in
          let v : flat (view w) ≡ w = flat_view p.blocks w (fit_parts p w s m h refl ef).words in
          rw i (record { reply = rw (ef, ek, eg); lent = rw (ef, ek, eg, v) })
      go true true true ef ek eg y = clash (sym y)

  pub lent_passed : {y : Reply} {w' s' m' h' : List ℕ} → r ≡ Ok tt → length w' ≡ length w
      → Does p (tables_of (view w) s m) h c y (tables_of (view w') s' m') h' → Promised p (lend w s m h) c y (lend w' s' m' h')
  unfolding call step plan sound_step
  lent_passed {y} {w'} {s'} {m'} {h'} z l d =
      let o = opened p w s m h (sym e ∙ z) in
      let f = o.fit in
      let k = o.classes in
      let g = o.whole in
      record {
        reply = rw (f, k, g) (ap (λ (x : Stepped). x.reply) d);
        lent = rw (f, k, g) (ap (λ (u : List ℕ). lend u s' m' h') (words_flat p.blocks w' w (view w') o.parts.words l refl)
            ∙ ap (λ (x : Stepped). lend (flat x.tables.words) x.tables.states x.tables.marks x.heap) d);
      }

-- ---- its step on sound tables: its own tests, and its plan

module _ (p : Params) (t : Tables) (h : List ℕ) (c : Call) {r : Result ⊤ Refusal} (e : r ≡ call_tests p t c) where
  pub step_refused : {x : Refusal} → r ≡ Err x → Does p t h c (refused x) t h
  unfolding sound_step plan_sound if_passed finish events_heap
  step_refused z = rw (sym e ∙ z)

  pub step_passed : r ≡ Ok tt → shown (carried p h (plan_passed p t c)) ≡ shown (sound_step p t h c)
  unfolding sound_step plan_sound if_passed
  step_passed z = rw (sym e ∙ z)

-- ---- the holder of an alloc

module _ (w : Words) (holder : ℕ) {f : ℕ} (ef : f ≡ w.phase) where
  pub bound_phase : (f ≡ 0 → ⊥) → Err WrongPhase ≡ bound_tests w holder
  unfolding bound_tests phase_test and_then
  bound_phase n = rw (← ef, ne_eqb f 0 n)

  module _ (z : f ≡ 0) {q : Bool} (eq : q ≡ is_holder holder) where
    pub bound_number : q ≡ false → Err BadHolder ≡ bound_tests w holder
    unfolding bound_tests phase_test and_then is_bound
    bound_number n = rw (← ef, eq-eqb f 0 z, ← eq, n)

    module _ (y : q ≡ true) {b : ℕ} (eb : b ≡ get_or w.bound (holder - 1) 0) where
      pub bound_not : (b ≡ 1 → ⊥) → Err BadHolder ≡ bound_tests w holder
      unfolding bound_tests phase_test and_then is_bound
      bound_not n = rw (← ef, eq-eqb f 0 z, ← eq, y, ← eb, ne_eqb b 1 n)

      pub bound_passed : b ≡ 1 → (Ok tt) ≡ bound_tests w holder
      unfolding bound_tests phase_test and_then is_bound
      bound_passed n = rw (← ef, eq-eqb f 0 z, ← eq, y, ← eb, eq-eqb b 1 n)

pub holder_range : (holder : ℕ) {q : Bool} → q ≡ is_holder holder → q ≡ true → (1 ≤ holder) × (holder ≤ 8)
unfolding is_holder
holder_range holder e y =
    let t : (leb 1 holder && leb holder 8) ≡ true = sym e ∙ y in
    (leb-true 1 holder (and_left _ _ t), leb-true holder 8 (and_right (leb 1 holder) _ t))
