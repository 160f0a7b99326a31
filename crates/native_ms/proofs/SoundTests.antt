-- The code's tests of soundness: one law on plain values for each way out of a function. Assumes nothing.
use Rattle.std.specs.Prelude.{if◌then◌else◌}
use Prim.Native.Nat.{ℕ, zero, suc, ◌+◌, ◌-◌, ◌%◌, ◌<◌, ◌≤◌}
use mathlib.Core.Path.{◌≡◌, refl, sym, ap, ◌∙◌, subst}
use mathlib.Core.Bool.{Bool, true, false, not, ◌&&◌, ◌||◌}
use mathlib.Core.List.{List}
use native.Mathlib.Nat.{not-suc-le-zero}
use native.Mathlib.Omega.{arith}
use lib.Dec.{eqb, leb}
use lib.ListN.{get_or}
use mir.Val.{bool_byte}
use borrow.Author.Tests.{eq-eqb, ne_eqb, lt-ltb, le-ltb, le-leb, lt-leb}
use Rattle.model.specs.declared.Params.{Params}
use Rattle.model.specs.Base.{all_below, sum_below, flag}
use Rattle.model.specs.Params.{start, block_at, is_start, list_of, holders, parts}
use Rattle.model.specs.Tables.{Words}
use Rattle.model.specs.Block.{is_cell}
use Rattle.model.specs.Global.{is_holder, is_bound, has_released, all_released}
use Rattle.model.specs.Sound.{owner_empty, in_gc_empty, phase_known, released_some}
use Rattle.laws.proofs.Below.{and_second, all_below_off, all_below_from}
use Rattle.laws.proofs.Tables.{by_lt}
use Rattle.std.specs.Option.{option_eq}
use Rattle.std.proofs.Common.{Option, None, Some}
use Rattle.native_ms.specs.SoundWalk.{block_fits, unused, unused_if_fit, stands_on, last_is, pass_from, passes, holder_fits, part_fits, parts_sound}
use Rattle.native_ms.proofs.SoundWalkLaws.{lists_full, sound_walk}

-- ---- small ones

pred_suc : (j : ℕ) → suc j - 1 ≡ j
pred_suc j = omega arith

and_yes : (a : Bool) {b : Bool} → b ≡ true → (a && b) ≡ a
and_yes true e = e
and_yes false e = refl

and_never : (x : Bool) → false ≡ (x && false)
and_never true = refl
and_never false = refl

and_always : (x : Bool) → x ≡ (x && true)
and_always true = refl
and_always false = refl

-- ---- is_cell and link_ok

module _ (p : Params) (b s a : ℕ) {v : ℕ} (ev : v ≡ start p b) where
  pub cell_none : s ≡ 0 → false ≡ is_cell p b s a
  unfolding is_cell
  cell_none z = rw (le-ltb 0 s (omega arith))

  module _ (q : s ≡ 0 → ⊥) where
    pos : 0 < s
    pos = omega arith

    pub cell_before : a < v → false ≡ is_cell p b s a
    unfolding is_cell
    cell_before h = rw (lt-ltb 0 s pos, ← ev, lt-leb v a h)

    module _ (h : v ≤ a) where
      pub cell_large : p.bytes < s → false ≡ is_cell p b s a
      unfolding is_cell
      cell_large k =
          rw (lt-ltb 0 s pos, ← ev, le-leb v a h, lt-leb ((a - v) + s) p.bytes (omega arith)) (and_never (eqb ((a - v) % s) 0))

      module _ (k : s ≤ p.bytes) where
        pub cell_past : p.bytes - s < a - v → false ≡ is_cell p b s a
        unfolding is_cell
        cell_past l =
            rw (lt-ltb 0 s pos, ← ev, le-leb v a h, lt-leb ((a - v) + s) p.bytes (omega arith)) (and_never (eqb ((a - v) % s) 0))

        pub cell_here : a - v ≤ p.bytes - s → eqb ((a - v) % s) 0 ≡ is_cell p b s a
        unfolding is_cell
        cell_here l =
            rw (lt-ltb 0 s pos, ← ev, le-leb v a h, le-leb ((a - v) + s) p.bytes (omega arith)) (and_always (eqb ((a - v) % s) 0))

module _ (p : Params) (b s a : ℕ) where
  pub link_none : a ≡ 0 → true ≡ (eqb a 0 || is_cell p b s a)
  link_none e = rw (eq-eqb a 0 e)

  pub link_some : {r : Bool} → (a ≡ 0 → ⊥) → r ≡ is_cell p b s a → r ≡ (eqb a 0 || is_cell p b s a)
  link_some n e = e ∙ rw (ne_eqb a 0 n)

-- ---- the list named, its size and its holder

-- ---- block_fits

-- ---- walks

module _ (p : Params) (w : Words) (s : List ℕ) (l before a : ℕ) {i : Bool} (ei : i ≡ is_start p a) where
  pub stands_off : i ≡ false → false ≡ stands_on p w s l before a
  unfolding stands_on
  stands_off z = rw (sym ei ∙ z)

module _ (w : Words) (l before k : ℕ) {e : ℕ} (ee : e ≡ get_or w.last l 0) where
  pub last_here : e ≡ before → Some k ≡ last_is w l before k
  unfolding last_is
  last_here h = rw (← ee, eq-eqb e before h)

  pub last_off : (e ≡ before → ⊥) → None ≡ last_is w l before k
  unfolding last_is
  last_off h = rw (← ee, ne_eqb e before h)

module _ (p : Params) (w : Words) (s : List ℕ) (l before a : ℕ) where
  pub pass_last : (k : ℕ) {r : Option ℕ} → a ≡ 0 → r ≡ last_is w l before k → r ≡ pass_from k p w s l before a
  unfolding pass_from
  pass_last zero z e = rw (eq-eqb a 0 z, e)
  pass_last (suc k) z e = rw (eq-eqb a 0 z, e)

  pub pass_long : (k : ℕ) → (a ≡ 0 → ⊥) → k ≤ 0 → None ≡ pass_from k p w s l before a
  unfolding pass_from
  pass_long zero n h = rw (ne_eqb a 0 n)
  pass_long (suc k) n h = absurd (not-suc-le-zero h)

  module _ {o : Bool} (n : a ≡ 0 → ⊥) (eo : o ≡ stands_on p w s l before a) where
    pub pass_bad : (k : ℕ) → 0 < k → o ≡ false → None ≡ pass_from k p w s l before a
    unfolding pass_from
    pass_bad zero h z = absurd (not-suc-le-zero h)
    pass_bad (suc k) h z = rw (ne_eqb a 0 n, ← eo, z)

    pub pass_step : {b x : ℕ} (k : ℕ) → 0 < k → o ≡ true → b ≡ block_at p a → x ≡ get_or w.next b 0
        → pass_from (k - 1) p w s l a x ≡ pass_from k p w s l before a
    unfolding pass_from
    pass_step zero h z eb ex = absurd (not-suc-le-zero h)
    pass_step (suc k) h z eb ex =
        let d : suc k - 1 ≡ k = omega arith in
        rw (ne_eqb a 0 n, ← eo, z, ← eb, ← ex, d)

pub pass_at : (k : ℕ) (p : Params) (w : Words) (s : List ℕ) (l : ℕ) {a b : ℕ} → a ≡ b → pass_from k p w s l 0 a ≡ pass_from k p w s l 0 b
pass_at k p w s l e = ap (λ (x : ℕ). pass_from k p w s l 0 x) e

module _ (p : Params) (w : Words) (s : List ℕ) (left : ℕ) where
  pub passes_end : (j : ℕ) → j ≤ 0 → Some left ≡ passes j p w s left
  unfolding passes
  passes_end zero h = refl
  passes_end (suc j) h = absurd (not-suc-le-zero h)

  bad_pass : (j : ℕ) → None ≡ pass_from left p w s j 0 (get_or w.first j 0) → None ≡ passes (suc j) p w s left
  unfolding passes
  bad_pass j e = rw (← e)

  left_pass : (j x : ℕ) → Some x ≡ pass_from left p w s j 0 (get_or w.first j 0) → passes j p w s x ≡ passes (suc j) p w s left
  unfolding passes
  left_pass j x e = rw (← e)

  module _ (j : ℕ) (h : 0 < j) {r : Option ℕ} (e : r ≡ pass_from left p w s (j - 1) 0 (get_or w.first (j - 1) 0)) where
    pub passes_bad : r ≡ None → None ≡ passes j p w s left
    passes_bad z = go j h (sym z ∙ e)
      where
        go : (j : ℕ) → 0 < j → None ≡ pass_from left p w s (j - 1) 0 (get_or w.first (j - 1) 0) → None ≡ passes j p w s left
        go zero l q = absurd (not-suc-le-zero l)
        go (suc j) l q = bad_pass j (subst (λ (i : ℕ). None ≡ pass_from left p w s i 0 (get_or w.first i 0)) (pred_suc j) q)

    pub passes_step : {x : ℕ} → r ≡ Some x → passes (j - 1) p w s x ≡ passes j p w s left
    passes_step {x} z = go j h (sym z ∙ e)
      where
        go : (j : ℕ) → 0 < j → Some x ≡ pass_from left p w s (j - 1) 0 (get_or w.first (j - 1) 0) → passes (j - 1) p w s x ≡ passes j p w s left
        go zero l q = absurd (not-suc-le-zero l)
        go (suc j) l q =
            ap (λ (i : ℕ). passes i p w s x) (pred_suc j)
            ∙ left_pass j x (subst (λ (i : ℕ). Some x ≡ pass_from left p w s i 0 (get_or w.first i 0)) (pred_suc j) q)

-- ---- the count of Unallocated blocks

module _ (s : List ℕ) where
  abbrev pub free_at : ℕ → ℕ
  free_at b = flag (eqb (get_or s b 0) 0)

  byte_flag : (t : Bool) → bool_byte t ≡ flag t
  unfolding flag
  byte_flag true = refl
  byte_flag false = refl

  pub counts : (b : ℕ) {x y : ℕ} → x ≡ get_or s b 0 → y ≡ bool_byte (eqb x 0) → y ≡ free_at b
  counts b ex ey = ey ∙ ap (λ (v : ℕ). bool_byte (eqb v 0)) ex ∙ byte_flag (eqb (get_or s b 0) 0)

  flag_one_at_most : (t : Bool) {y : ℕ} → y ≡ flag t → y ≤ 1
  unfolding flag
  flag_one_at_most true q = omega (arith, q)
  flag_one_at_most false q = omega (arith, q)

  pub counts_one : (b : ℕ) {y : ℕ} → y ≡ free_at b → y ≤ 1
  counts_one b e = flag_one_at_most (eqb (get_or s b 0) 0) e

  -- one block fewer is left, and x counts it
  pub unused_step : (n k : ℕ) {whole x : ℕ} → 0 < k → n + sum_below k free_at ≡ whole → x ≡ free_at (k - 1) → n + x + sum_below (k - 1) free_at ≡ whole
  unfolding sum_below
  unused_step n zero h inv ex = absurd (not-suc-le-zero h)
  unused_step n (suc k) h inv ex =
      let d : suc k - 1 ≡ k = omega arith in
      let e : free_at (suc k - 1) ≡ free_at k = ap free_at d in
      let o : sum_below (suc k - 1) free_at ≡ sum_below k free_at = ap (λ (j : ℕ). sum_below j free_at) d in
      omega (arith, inv, ex, e, o)

  pub unused_end : (n k : ℕ) {whole : ℕ} → k ≤ 0 → n + sum_below k free_at ≡ whole → n ≡ whole
  unfolding sum_below
  unused_end n zero h inv = omega (arith, inv)
  unused_end n (suc k) h inv = absurd (not-suc-le-zero h)

module _ (p : Params) (w : Words) (s : List ℕ) where
  pub fit_bad : all_below p.blocks (block_fits p w s) ≡ false → None ≡ unused_if_fit p w s
  unfolding unused_if_fit
  fit_bad e = rw e

  pub fit_some : {n : ℕ} → all_below p.blocks (block_fits p w s) ≡ true → n ≡ sum_below p.blocks (free_at s) → Some n ≡ unused_if_fit p w s
  unfolding unused_if_fit unused
  fit_some e q = rw (e, q)

  bad_if : (b : Bool) (u : ℕ) {r : Option ℕ} → r ≡ (if b then Some u else None) → r ≡ None → b ≡ false
  bad_if true u {r} e z = let x : ◌≡◌ {A = ℕ} 0 1 = cc in absurd (omega arith)
  bad_if false u e z = refl

  left_if : (b : Bool) (u : ℕ) {r : Option ℕ} {n : ℕ} → r ≡ (if b then Some u else None) → r ≡ Some n → (b ≡ true) × (n ≡ u)
  left_if true u e z = (refl, cc)
  left_if false u e z = let x : ◌≡◌ {A = ℕ} 0 1 = cc in absurd (omega arith)

  module _ {r : Option ℕ} (er : r ≡ unused_if_fit p w s) where
    pub bad_fit : r ≡ None → all_below p.blocks (block_fits p w s) ≡ false
    unfolding unused_if_fit
    bad_fit z = bad_if (all_below p.blocks (block_fits p w s)) (unused p s) er z

    pub left_fit : {n : ℕ} → r ≡ Some n → (all_below p.blocks (block_fits p w s) ≡ true) × (n ≡ unused p s)
    unfolding unused_if_fit
    left_fit z = left_if (all_below p.blocks (block_fits p w s)) (unused p s) er z

-- ---- holders, parts and phases

module _ (h : ℕ) where
  pub holder_none : h < 1 → leb 1 h ≡ is_holder h
  unfolding is_holder
  holder_none k = rw (lt-leb 1 h k)

  pub holder_low : 1 ≤ h → leb h 8 ≡ is_holder h
  unfolding is_holder
  holder_low k = rw (le-leb 1 h k)

  module _ (w : Words) where
    module _ {r : Bool} (er : r ≡ is_holder h) where
      pub bound_none : r ≡ false → r ≡ is_bound w h
      unfolding is_bound
      bound_none z = z ∙ sym (ap (λ (q : Bool). q && eqb (get_or w.bound (h - 1) 0) 1) (sym er ∙ z))

      pub bound_word : {x : ℕ} → r ≡ true → x ≡ get_or w.bound (h - 1) 0 → eqb x 1 ≡ is_bound w h
      unfolding is_bound
      bound_word z e = rw (← er, z, e)

pub released_word : (w : Words) (part : ℕ) {x : ℕ} → x ≡ get_or w.released part 0 → eqb x 1 ≡ has_released w part
unfolding has_released
released_word w part e = rw e

module _ (w : Words) (owner : ℕ) where
  unfoldable pub empty_at : ℕ → Bool
  empty_at i = eqb (get_or w.first (list_of owner i) 0) 0

  pub owner_lists : all_below 147 empty_at ≡ owner_empty w owner
  unfolding owner_empty empty_at
  owner_lists = refl

module _ (w : Words) where
  pub due_off : (h : ℕ) {b : Bool} → b ≡ is_bound w h → b ≡ false → true ≡ (not (is_bound w h) || has_released w h)
  due_off h e z = rw (sym e ∙ z)

  pub due_on : (h : ℕ) {b r : Bool} → b ≡ is_bound w h → b ≡ true → r ≡ has_released w h → r ≡ (not (is_bound w h) || has_released w h)
  due_on h e y q = q ∙ rw (sym e ∙ y)

  -- the holder k, at k − 1
  abbrev pub not_due : ℕ → Bool
  not_due i = not (is_bound w (suc i)) || has_released w (suc i)

  pub due_at : (k : ℕ) {r : Bool} → 0 < k → r ≡ (not (is_bound w k) || has_released w k) → not_due (k - 1) ≡ r
  due_at k {r} h e =
      let d : suc (k - 1) ≡ k = omega arith in
      ap (λ (i : ℕ). not (is_bound w i) || has_released w i) d ∙ sym e

  -- no holder below k is due
  abbrev pub NoneDue : ℕ → Type 0
  NoneDue k = (i : ℕ) → suc i < k → not_due i ≡ true

  pub none_first : (k : ℕ) → k ≤ 1 → NoneDue k
  none_first k h i l = absurd (omega arith)

  module _ (k : ℕ) {r : Bool} (from : 1 ≤ k) (e : r ≡ (not (is_bound w k) || has_released w k)) where
    pub one_due : k ≤ 8 → r ≡ false → false ≡ all_released w
    unfolding all_released
    one_due h z = sym (and_second (has_released w 0) (all_below_off 8 not_due (k - 1) (omega arith) (due_at k from e ∙ z)))

  pub none_due : {r : Bool} (k : ℕ) → 9 ≤ k → NoneDue k → r ≡ has_released w 0 → r ≡ all_released w
  unfolding all_released
  none_due k l h q = q ∙ sym (and_yes (has_released w 0) (all_below_from 8 not_due (λ i m. h i (omega arith))))

-- where `t` has the bounds of w, and maybe other parts have released
module _ (w t : Words) (same : t.bound ≡ w.bound) (k : ℕ) {b : Bool} (eb : b ≡ is_bound w k) where
  bound_same : b ≡ is_bound t k
  unfolding is_bound
  bound_same = eb ∙ ap (λ (l : List ℕ). is_holder k && eqb (get_or l (k - 1) 0) 1) (sym same)

  next_passed : (not (is_bound t k) || has_released t k) ≡ true → NoneDue t k → NoneDue t (k + 1)
  next_passed e h i l =
      by_lt (suc i) k (h i)
      (λ far. let d : k ≡ suc i = omega arith in subst (λ (x : ℕ). (not (is_bound t x) || has_released t x) ≡ true) d e)

  pub then_unbound : b ≡ false → NoneDue t k → NoneDue t (k + 1)
  then_unbound z = next_passed (sym (due_off t k bound_same z))

  module _ {r : Bool} (z : b ≡ true) (er : r ≡ has_released t k) where
    pub then_passed : r ≡ true → NoneDue t k → NoneDue t (k + 1)
    then_passed y = next_passed (sym (due_on t k bound_same z er) ∙ y)

  pub then_due : {r : Bool} → 1 ≤ k → b ≡ true → r ≡ has_released t k → k ≤ 8 → r ≡ false → false ≡ all_released t
  then_due from z er = one_due t k from (due_on t k bound_same z er)

-- ---- all of it

five : (a b c d e : Bool) → ((a && b && c) && (d && e)) ≡ (a && b && c && d && e)
five true true true d e = refl
five true true false d e = refl
five true false c d e = refl
five false b c d e = refl

-- the tests before the lists are read, and those of lists
pub parts_both : (w : Words) {a b : Bool} → a ≡ (phase_known w && all_below parts (part_fits w) && released_some w)
    → b ≡ (all_below holders (holder_fits w) && in_gc_empty w) → (a && b) ≡ parts_sound w
unfolding parts_sound
parts_both w ea eb = rw (ea, eb) (five (phase_known w) (all_below parts (part_fits w)) (released_some w) (all_below holders (holder_fits w)) (in_gc_empty w))

module _ (p : Params) (w : Words) (s : List ℕ) {a : Bool} (ea : a ≡ parts_sound w) where
  pub walk_parts : a ≡ false → false ≡ sound_walk p w s
  unfolding sound_walk
  walk_parts z = rw (sym ea ∙ z)

  module _ (za : a ≡ true) {u : Option ℕ} (eu : u ≡ unused_if_fit p w s) where
    pub walk_blocks : u ≡ None → false ≡ sound_walk p w s
    unfolding sound_walk
    walk_blocks z = rw (sym ea ∙ za, bad_fit p w s eu z)

    pub walk_lists : {n : ℕ} {q : Option ℕ} {r : Bool} → u ≡ Some n → q ≡ passes 1470 p w s p.blocks → r ≡ option_eq eqb q (Some n) → r ≡ sound_walk p w s
    unfolding sound_walk lists_full
    walk_lists z eq er = let f = left_fit p w s eu z in er ∙ rw (sym ea ∙ za, f.0, f.1, eq)
