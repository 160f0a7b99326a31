-- The code's soundness is 01's: `sound_walk_lem`. The lists' part is the counting of laws/proofs/Linked.antt. Assumes nothing.
use Rattle.std.specs.Prelude.{if◌then◌else◌}
use Prim.Native.Nat.{ℕ, zero, suc, ◌+◌, ◌-◌, ◌<◌, ◌≤◌}
use mathlib.Core.Path.{◌≡◌, refl, sym, ap, ◌∙◌, subst}
use mathlib.Core.Bool.{Bool, true, false, not, ◌&&◌, ◌||◌}
use mathlib.Core.List.{List}
use mathlib.Core.Logic.{◌⊎◌, inl, inr, ⊎_elim}
use native.Mathlib.Nat.{not-suc-le-zero, lt-suc_self, le_step, eq-or-lt_of_le, le_of_suc-le-suc}
use native.Mathlib.Numerals.{add-one}
use native.Mathlib.Omega.{arith}
use lib.Dec.{eqb, leb}
use lib.ListN.{length, get_or}
use borrow.Author.Tests.{eqb-true, eqb-false, eq-eqb, ne_eqb, not-true}
use Rattle.model.specs.declared.Params.{Params}
use Rattle.model.specs.Base.{all_below, sum_below, flag}
use Rattle.model.specs.Params.{good_params, block_at, local_sets}
use Rattle.model.specs.Tables.{Words, Tables, tables_of}
use Rattle.model.specs.BlockList.{walk, blocks_on}
use Rattle.model.specs.Global.{is_bound, has_released}
use Rattle.model.specs.Sound.{state_of, state_known, on_list_named, size_ok, link_ok, tls_ok, block_sound, linked_from, linked, owner_empty, unbound_empty, in_gc_empty, phase_known, flags_known, released_few, released_some, released_empty, sound}
use Rattle.laws.proofs.Below.{true_not_false, and_left, and_right, and_three, and_four, and_both, test, same_test, all_below_at, all_below_from}
use Rattle.laws.proofs.Params.{Bounds, good_bounds}
use Rattle.laws.proofs.Linked.{linked_end, linked_long, linked_on, walk_end, walk_on, met_count, on_occupied}
use Rattle.laws.proofs.Pigeon.{sum_same, sum_squeeze, sum_not, flag_one, flag_yes, flag_le}
use Rattle.std.proofs.Common.{Option, None, Some}
use Rattle.native_ms.specs.SoundWalk.{names_list, block_fits, unused, stands_on, last_is, pass_from, passes, holder_fits, part_fits, parts_sound}
use Rattle.native_ms.proofs.SoundWalkLaws.{leaves, lists_full, sound_walk}

-- ---- one walk

module _ (p : Params) (w : Words) (s m : List ℕ) (l : ℕ) where
  abbrev tables : Tables
  tables = tables_of w s m

  bad_not_left : {x : ℕ} → None ≡ Some x → ⊥
  bad_not_left e = let z : ◌≡◌ {A = ℕ} 0 1 = cc in omega arith

  left_same : {x y : ℕ} → Some x ≡ Some y → x ≡ y
  left_same e = cc

  last_left : (before k x : ℕ) → last_is w l before k ≡ Some x → (eqb (get_or w.last l 0) before ≡ true) × (k ≡ x)
  unfolding last_is
  last_left before k x e = go (eqb (get_or w.last l 0) before) refl e
    where
      go : (b : Bool) → eqb (get_or w.last l 0) before ≡ b → (if b then Some k else None) ≡ Some x → (eqb (get_or w.last l 0) before ≡ true) × (k ≡ x)
      go true f g = (f, left_same g)
      go false f g = absurd (bad_not_left g)

  zero_or : (a : ℕ) → (a ≡ 0) ⊎ (a ≡ 0 → ⊥)
  zero_or a = ⊎_elim (λ y. inl (eqb-true a 0 y)) (λ z. inr (eqb-false a 0 z)) (test (eqb a 0))

  pass_end : (k before a : ℕ) → a ≡ 0 → pass_from k p w s l before a ≡ last_is w l before k
  unfolding pass_from
  pass_end zero before a e = rw (eq-eqb a 0 e)
  pass_end (suc k) before a e = rw (eq-eqb a 0 e)

  pass_long : (before a : ℕ) → (a ≡ 0 → ⊥) → pass_from zero p w s l before a ≡ None
  unfolding pass_from
  pass_long before a n = rw (ne_eqb a 0 n)

  pass_on : (k before a : ℕ) → (a ≡ 0 → ⊥) → stands_on p w s l before a ≡ true
      → pass_from (suc k) p w s l before a ≡ pass_from k p w s l a (get_or w.next (block_at p a) 0)
  unfolding pass_from
  pass_on k before a n e = rw (ne_eqb a 0 n, e)

  pass_off : (k before a : ℕ) → (a ≡ 0 → ⊥) → stands_on p w s l before a ≡ false → pass_from (suc k) p w s l before a ≡ None
  unfolding pass_from
  pass_off k before a n e = rw (ne_eqb a 0 n, e)

  -- a walk that leaves x of k blocks is linked, with any bound from k on
  pass_linked : (k n x before a : ℕ) → k ≤ n → pass_from k p w s l before a ≡ Some x
      → (linked_from n p tables l before a ≡ true) × (length (walk n p w.next a) + x ≡ k)
  unfolding stands_on state_of
  pass_linked zero n x before a h e =
      ⊎_elim
      (λ z.
      let c = last_left before zero x (sym (pass_end zero before a z) ∙ e) in
      let i : length (walk n p w.next a) ≡ 0 = ap length (walk_end p tables l n a z) in
      (linked_end p tables l n before a z ∙ c.0, omega (arith, c.1)))
      (λ q. absurd (bad_not_left (sym (pass_long before a q) ∙ e))) (zero_or a)
  pass_linked (suc k) zero x before a h e = absurd (not-suc-le-zero h)
  pass_linked (suc k) (suc n) x before a h e =
      ⊎_elim
      (λ z.
      let c = last_left before (suc k) x (sym (pass_end (suc k) before a z) ∙ e) in
      let i : length (walk (suc n) p w.next a) ≡ 0 = ap length (walk_end p tables l (suc n) a z) in
      (linked_end p tables l (suc n) before a z ∙ c.0, omega (arith, c.1)))
      (λ q.
      ⊎_elim
      (λ y.
      let next : ℕ = get_or w.next (block_at p a) 0 in
      let r = pass_linked k n x a next (le_of_suc-le-suc h) (sym (pass_on k before a q y) ∙ e) in
      let i : length (walk (suc n) p w.next a) ≡ length (walk n p w.next next) + 1 =
      ap length (walk_on p tables l n a q) ∙ sym (add-one (length (walk n p w.next next))) in
      (linked_on p tables l n before a q ∙ and_both y r.0, omega (arith, r.1)))
      (λ y. absurd (bad_not_left (sym (pass_off k before a q y) ∙ e))) (test (stands_on p w s l before a)))
      (zero_or a)

  -- a linked walk leaves what it does not meet
  linked_pass : (n k x before a : ℕ) → linked_from n p tables l before a ≡ true → length (walk n p w.next a) + x ≡ k
      → pass_from k p w s l before a ≡ Some x
  unfolding stands_on state_of last_is
  linked_pass zero k x before a e h =
      ⊎_elim
      (λ z.
      let i : length (walk zero p w.next a) ≡ 0 = ap length (walk_end p tables l zero a z) in
      let same : k ≡ x = omega arith in
      pass_end k before a z ∙ rw (sym (linked_end p tables l zero before a z) ∙ e, same))
      (λ q. absurd (true_not_false (sym e ∙ linked_long p tables l before a q))) (zero_or a)
  linked_pass (suc n) k x before a e h =
      ⊎_elim
      (λ z.
      let i : length (walk (suc n) p w.next a) ≡ 0 = ap length (walk_end p tables l (suc n) a z) in
      let same : k ≡ x = omega arith in
      pass_end k before a z ∙ rw (sym (linked_end p tables l (suc n) before a z) ∙ e, same))
      (λ q.
      let next : ℕ = get_or w.next (block_at p a) 0 in
      let r : (stands_on p w s l before a && linked_from n p tables l a next) ≡ true = sym (linked_on p tables l n before a q) ∙ e in
      let i : length (walk (suc n) p w.next a) ≡ length (walk n p w.next next) + 1 =
      ap length (walk_on p tables l n a q) ∙ sym (add-one (length (walk n p w.next next))) in
      let c : suc (k - 1) ≡ k = omega arith in
      subst (λ (j : ℕ). pass_from j p w s l before a ≡ Some x) c
      (pass_on (k - 1) before a q (and_left (stands_on p w s l before a) (linked_from n p tables l a next) r)
      ∙ linked_pass n (k - 1) x a next (and_right (stands_on p w s l before a) (linked_from n p tables l a next) r) (omega arith)))
      (zero_or a)

-- ---- all walks

module _ (p : Params) (w : Words) (s m : List ℕ) where
  long : ℕ → ℕ
  long l = length (blocks_on p l w)

  passes_on : (j left x : ℕ) → pass_from left p w s j 0 (get_or w.first j 0) ≡ Some x → passes (suc j) p w s left ≡ passes j p w s x
  unfolding passes
  passes_on j left x e = rw e

  passes_off : (j left : ℕ) → pass_from left p w s j 0 (get_or w.first j 0) ≡ None → passes (suc j) p w s left ≡ None
  unfolding passes
  passes_off j left e = rw e

  -- what a walk gave
  walked : (r : Option ℕ) → (r ≡ None) ⊎ ((x : ℕ) × (r ≡ Some x))
  walked None = inl refl
  walked (Some x) = inr (x, refl)

  below_last : (j : ℕ) (P : ℕ → Type 0) → ((l : ℕ) → l < j → P l) → P j → (l : ℕ) → l < suc j → P l
  below_last j P all here l h =
      ⊎_elim (λ e. subst P (sym e) here) (λ k. all l k) (eq-or-lt_of_le (le_of_suc-le-suc h))

  passes_linked : (j left x : ℕ) → left ≤ p.blocks → passes j p w s left ≡ Some x
      → ((l : ℕ) → l < j → linked p (tables_of w s m) l ≡ true) × (sum_below j long + x ≡ left)
  unfolding passes sum_below linked blocks_on long
  passes_linked zero left x h e =
      let q : left ≡ x = left_same p w s m 0 e in
      ((λ l k. absurd (not-suc-le-zero k)), omega arith)
  passes_linked (suc j) left x h e =
      ⊎_elim (λ b. absurd (bad_not_left p w s m 0 (sym (passes_off j left b) ∙ e)))
      (λ c.
      let y : ℕ = c.0 in
      let one = pass_linked p w s m j left p.blocks y 0 (get_or w.first j 0) h c.1 in
      let rest = passes_linked j y x (omega (arith, one.1)) (sym (passes_on j left y c.1) ∙ e) in
      (below_last j (λ l. linked p (tables_of w s m) l ≡ true) rest.0 one.0, omega (arith, one.1, rest.1)))
      (walked (pass_from left p w s j 0 (get_or w.first j 0)))

  linked_passes : (j left x : ℕ) → ((l : ℕ) → l < j → linked p (tables_of w s m) l ≡ true) → sum_below j long + x ≡ left
      → passes j p w s left ≡ Some x
  unfolding passes sum_below linked blocks_on long
  linked_passes zero left x all h = let q : left ≡ x = omega arith in rw q
  linked_passes (suc j) left x all h =
      let y : ℕ = sum_below j long + x in
      passes_on j left y (linked_pass p w s m j p.blocks left y 0 (get_or w.first j 0) (all j (lt-suc_self j)) (omega arith))
      ∙ linked_passes j y x (λ l k. all l (le_step k)) refl

  -- ---- the blocks left are as many as are Unallocated: every occupied block is on its list
  module _ (g : Bounds p) where
    occ : ℕ → Bool
    occ b = not (eqb (get_or s b 0) 0)

    on : ℕ → Bool
    on b = on_list_named p w b

    counted : unused p s + sum_below p.blocks (λ b. flag (occ b)) ≡ p.blocks
    unfolding unused occ
    counted = sum_not p.blocks (λ b. eqb (get_or s b 0) 0)

    on_occ : ((l : ℕ) → l < 1470 → linked p (tables_of w s m) l ≡ true) → (b : ℕ) → on b ≡ true → occ b ≡ true
    unfolding on occ state_of
    on_occ all b e = rw (on_occupied p (tables_of w s m) g all b e)

    total : ((l : ℕ) → l < 1470 → linked p (tables_of w s m) l ≡ true) → sum_below 1470 long ≡ sum_below p.blocks (λ b. flag (on b))
    unfolding long on
    total all = met_count p (tables_of w s m) g all

    pub full_from : ((l : ℕ) → l < 1470 → linked p (tables_of w s m) l ≡ true)
        → ((b : ℕ) → b < p.blocks → eqb (get_or s b 0) 0 ≡ false → on_list_named p w b ≡ true) → lists_full p w s ≡ true
    unfolding lists_full occ on
    full_from all each =
        let same : sum_below p.blocks (λ b. flag (on b)) ≡ sum_below p.blocks (λ b. flag (occ b)) =
        sum_same p.blocks (λ b. flag (on b)) (λ b. flag (occ b)) (λ b h. ap flag (alike b h)) in
        let t = total all in
        let c = counted in
        let r : passes 1470 p w s p.blocks ≡ Some (unused p s) = linked_passes 1470 p.blocks (unused p s) all (omega arith) in
        ap (leaves (unused p s)) r ∙ eq-eqb (unused p s) (unused p s) refl
      where
        alike : (b : ℕ) → b < p.blocks → on b ≡ occ b
        alike b h = same_test (on b) (occ b) (on_occ all b) (λ o. each b h (not-true (eqb (get_or s b 0) 0) o))

    pub full_to : lists_full p w s ≡ true
        → ((l : ℕ) → l < 1470 → linked p (tables_of w s m) l ≡ true)
        × ((b : ℕ) → b < p.blocks → eqb (get_or s b 0) 0 ≡ false → on_list_named p w b ≡ true)
    unfolding lists_full occ on
    full_to e =
        ⊎_elim (λ b. absurd (true_not_false (sym e ∙ ap (leaves (unused p s)) b)))
        (λ c.
        let x : ℕ = c.0 in
        let q : x ≡ unused p s = eqb-true x (unused p s) (sym (ap (leaves (unused p s)) c.1) ∙ e) in
        let r = passes_linked 1470 p.blocks x (omega arith) c.1 in
        let t = total r.0 in
        let d = counted in
        let same : sum_below p.blocks (λ b. flag (on b)) ≡ sum_below p.blocks (λ b. flag (occ b)) = omega (arith, r.1) in (
          r.0,
          (λ b h o.
              flag_yes (on b)
              (sum_squeeze (λ b. flag (on b)) (λ b. flag (occ b)) p.blocks (λ i k. flag_le (on i) (occ i) (on_occ r.0 i)) same b h
              ∙ flag_one (rw o))),
        ))
        (walked (passes 1470 p w s p.blocks))

-- ---- each block

module _ (p : Params) (w : Words) (s m : List ℕ) (b : ℕ) where
  block_fits_lem : block_sound p (tables_of w s m) b ≡ true → (block_fits p w s b ≡ true) × (eqb (get_or s b 0) 0 ≡ false → on_list_named p w b ≡ true)
  unfolding block_sound block_fits state_of state_known on_list_named
  block_fits_lem e = ⊎_elim free_case used_case (test (eqb (get_or s b 0) 0))
    where
      free_case : eqb (get_or s b 0) 0 ≡ true → (block_fits p w s b ≡ true) × (eqb (get_or s b 0) 0 ≡ false → on_list_named p w b ≡ true)
      free_case z = (rw z (sym (rw z) ∙ e), λ n. absurd (true_not_false (sym z ∙ n)))

      used_case : eqb (get_or s b 0) 0 ≡ false → (block_fits p w s b ≡ true) × (eqb (get_or s b 0) 0 ≡ false → on_list_named p w b ≡ true)
      used_case z =
          let known : Bool = eqb (get_or s b 0) 255 || eqb (get_or s b 0) 254 in
          let f : (known && on_list_named p w b && size_ok p w b && link_ok p w b (get_or w.free b 0) && tls_ok w b) ≡ true = sym (rw z) ∙ e in
          let r = and_four (known && on_list_named p w b) (size_ok p w b) (link_ok p w b (get_or w.free b 0)) (tls_ok w b) f in
          let k = and_left known (on_list_named p w b) r.0 in
          let o = and_right known (on_list_named p w b) r.0 in
          let n = and_left (names_list w b) _ o in
          (rw z (and_both (and_both (and_both (and_both k n) r.1) r.2) r.3), λ q. o)

  fits_block : block_fits p w s b ≡ true → (eqb (get_or s b 0) 0 ≡ false → on_list_named p w b ≡ true) → block_sound p (tables_of w s m) b ≡ true
  unfolding block_sound block_fits state_of state_known
  fits_block e o = ⊎_elim free_case used_case (test (eqb (get_or s b 0) 0))
    where
      free_case : eqb (get_or s b 0) 0 ≡ true → block_sound p (tables_of w s m) b ≡ true
      free_case z = rw z (sym (rw z) ∙ e)

      used_case : eqb (get_or s b 0) 0 ≡ false → block_sound p (tables_of w s m) b ≡ true
      used_case z =
          let known : Bool = eqb (get_or s b 0) 255 || eqb (get_or s b 0) 254 in
          let f : (known && names_list w b && size_ok p w b && link_ok p w b (get_or w.free b 0) && tls_ok w b) ≡ true = sym (rw z) ∙ e in
          let r = and_four (known && names_list w b) (size_ok p w b) (link_ok p w b (get_or w.free b 0)) (tls_ok w b) f in
          rw z (and_both (and_both (and_both (and_both (and_left known (names_list w b) r.0) (o z)) r.1) r.2) r.3)

-- ---- holders and parts

module _ (w : Words) where
  bound_at : ℕ → Bool
  bound_at i = leb (get_or w.bound i 0) 1

  empty_at_lem : ℕ → Bool
  empty_at_lem i = is_bound w (suc i) || owner_empty w (local_sets (suc i))

  done_at : ℕ → Bool
  done_at i = not (has_released w (suc i)) || owner_empty w (local_sets (suc i))

  released_at : ℕ → Bool
  released_at i = leb (get_or w.released i 0) 1

  few_at : ℕ → Bool
  few_at i = not (has_released w i) || (eqb w.phase 2 && (eqb i 0 || is_bound w i))

  holders_say : all_below 8 (holder_fits w) ≡ true → (all_below 8 bound_at ≡ true) × (all_below 8 empty_at_lem ≡ true) × (all_below 8 done_at ≡ true)
  unfolding holder_fits bound_at empty_at_lem done_at
  holders_say e =
      let at : (i : ℕ) → i < 8 → (bound_at i ≡ true) × (empty_at_lem i ≡ true) × (done_at i ≡ true) =
      λ i h. and_three (bound_at i) (empty_at_lem i) (done_at i) (all_below_at 8 (holder_fits w) e i h) in
      (all_below_from 8 bound_at (λ i h. (at i h).0), all_below_from 8 empty_at_lem (λ i h. (at i h).1), all_below_from 8 done_at (λ i h. (at i h).2))

  holders_from : all_below 8 bound_at ≡ true → all_below 8 empty_at_lem ≡ true → all_below 8 done_at ≡ true → all_below 8 (holder_fits w) ≡ true
  unfolding holder_fits bound_at empty_at_lem done_at
  holders_from a b c =
      all_below_from 8 (holder_fits w)
      (λ i h. and_both (and_both (all_below_at 8 bound_at a i h) (all_below_at 8 empty_at_lem b i h)) (all_below_at 8 done_at c i h))

  parts_say : all_below 9 (part_fits w) ≡ true → (all_below 9 released_at ≡ true) × (all_below 9 few_at ≡ true)
  unfolding part_fits released_at few_at
  parts_say e = (
    all_below_from 9 released_at (λ i h. and_left (released_at i) (few_at i) (all_below_at 9 (part_fits w) e i h)),
    all_below_from 9 few_at (λ i h. and_right (released_at i) (few_at i) (all_below_at 9 (part_fits w) e i h)),
  )

  parts_from : all_below 9 released_at ≡ true → all_below 9 few_at ≡ true → all_below 9 (part_fits w) ≡ true
  unfolding part_fits released_at few_at
  parts_from a b = all_below_from 9 (part_fits w) (λ i h. and_both (all_below_at 9 released_at a i h) (all_below_at 9 few_at b i h))

-- ---- all of it

module _ (p : Params) (good : good_params p ≡ true) (w : Words) (s m : List ℕ) where
  bounds : Bounds p
  bounds = good_bounds p good

  to_sound : sound_walk p w s ≡ true → sound p (tables_of w s m) ≡ true
  unfolding sound_walk parts_sound sound unbound_empty flags_known released_few released_empty bound_at empty_at_lem done_at released_at few_at
  to_sound e =
      let start : Bool = phase_known w && all_below 9 (part_fits w) && released_some w && all_below 8 (holder_fits w) in
      let r = and_four start (in_gc_empty w) (all_below p.blocks (block_fits p w s)) (lists_full p w s) e in
      let q = and_four (phase_known w) (all_below 9 (part_fits w)) (released_some w) (all_below 8 (holder_fits w)) r.0 in
      let h = holders_say w q.3 in
      let f = parts_say w q.1 in
      let l = full_to p w s m bounds r.3 in
      let blocks : all_below p.blocks (block_sound p (tables_of w s m)) ≡ true =
      all_below_from p.blocks (block_sound p (tables_of w s m))
      (λ b k. fits_block p w s m b (all_below_at p.blocks (block_fits p w s) r.2 b k) (l.1 b k)) in
      and_both (and_both (and_both (and_both (and_both (and_both blocks
      (all_below_from 1470 (linked p (tables_of w s m)) l.0)) h.1) r.1) (and_both q.0 (and_both h.0 f.0)))
      (and_both f.1 q.2)) h.2

  from_sound : sound p (tables_of w s m) ≡ true → sound_walk p w s ≡ true
  unfolding sound_walk parts_sound sound unbound_empty flags_known released_few released_empty bound_at empty_at_lem done_at released_at few_at
  from_sound e =
      let blocks : Bool = all_below p.blocks (block_sound p (tables_of w s m)) in
      let lists : Bool = all_below 1470 (linked p (tables_of w s m)) in
      let flags : Bool = all_below 8 (λ i. bound_at w i) && all_below 9 (λ i. released_at w i) in
      let start : Bool = blocks && lists && all_below 8 (λ i. empty_at_lem w i) && in_gc_empty w in
      let r = and_four start (phase_known w && flags) (all_below 9 (λ i. few_at w i) && released_some w) (all_below 8 (λ i. done_at w i)) e in
      let q = and_four blocks lists (all_below 8 (λ i. empty_at_lem w i)) (in_gc_empty w) r.0 in
      let known = and_left (phase_known w) flags r.1 in
      let flag_r = and_right (phase_known w) flags r.1 in
      let at : (b : ℕ) → b < p.blocks → (block_fits p w s b ≡ true) × (eqb (get_or s b 0) 0 ≡ false → on_list_named p w b ≡ true) =
      λ b k. block_fits_lem p w s m b (all_below_at p.blocks (block_sound p (tables_of w s m)) q.0 b k) in
      let full : lists_full p w s ≡ true =
      full_from p w s m bounds (all_below_at 1470 (linked p (tables_of w s m)) q.1) (λ b k. (at b k).1) in
      and_both (and_both (and_both (and_both (and_both (and_both known
      (parts_from w (and_right (all_below 8 (λ i. bound_at w i)) (all_below 9 (λ i. released_at w i)) flag_r)
      (and_left (all_below 9 (λ i. few_at w i)) (released_some w) r.2)))
      (and_right (all_below 9 (λ i. few_at w i)) (released_some w) r.2))
      (holders_from w (and_left (all_below 8 (λ i. bound_at w i)) (all_below 9 (λ i. released_at w i)) flag_r) q.2 r.3)) q.3)
      (all_below_from p.blocks (block_fits p w s) (λ b k. (at b k).0))) full

  pub sound_walk_lem : sound_walk p w s ≡ sound p (tables_of w s m)
  sound_walk_lem = same_test (sound_walk p w s) (sound p (tables_of w s m)) to_sound from_sound
