-- What sound tables say of the phase, bound holders, released marks and empty lists, and what each call keeps of it.
-- The owner of the list l is l / 147: 0 to 7 the holders 1 to 8, 8 abandoned, 9 in-gc. Assumes nothing.
use mathlib.Core.Path.{◌≡◌, refl, sym, ap, ◌∙◌}
use mathlib.Core.Logic.{◌≢◌, ◌⊎◌, inl, inr, ⊎_elim}
use mathlib.Core.Bool.{Bool, true, false, not, ◌&&◌, ◌||◌}
use mathlib.Core.List.{List}
use Prim.Native.Nat.{ℕ, zero, suc, ◌+◌, ◌-◌, ◌*◌, ◌/◌, ◌%◌, ◌≤◌, ◌<◌}
use native.Mathlib.Omega.{arith}
use native.Mathlib.Decide.{ℕ_discrete}
use lib.Dec.{eqb, leb}
use lib.ListN.{length, get_or, set, replicate}
use borrow.Author.Tests.{eqb-true, eqb-false, eq-eqb, leb-true, le-leb, not-true}
use Rattle.model.specs.declared.Params.{Params}
use Rattle.model.specs.Base.{all_below, any_below}
use Rattle.model.specs.Params.{list_of, local_sets, abandoned, in_gc, lists}
use Rattle.model.specs.Tables.{Words, Tables, set_bound, set_released, set_phase, with_released}
use Rattle.model.specs.Global.{is_holder, is_bound, has_released, all_released, is_last, abandon_blocks, part_released}
use Rattle.model.specs.Sound.{block_sound, linked, owner_empty, unbound_empty, in_gc_empty, phase_known, flags_known, released_few, released_some, released_empty, sound}
use Rattle.laws.proofs.Base.{and_left, and_right, or_cases, or_left, or_right, Bool_cases, not_both, if_cases, all_below_lem, below_all, below_any}
use Rattle.laws.proofs.Below.{and_both, and_seven, any_below_at}
use Rattle.laws.proofs.Stores.{set_at, set_off, set_all, set_keeps}
use Rattle.laws.proofs.Memory.{get_d_zeros}
use Rattle.laws.proofs.Tables.{Sized, sized_same, kept_lengths}
use Rattle.soundness.proofs.Owners.{Framed, abandon_framed, abandon_empties}

-- ---- the tests of sound tables that go by firsts, phase, bound holders and released marks

pub record Flags (w : Words) : Type 0 where
  pub unbound : unbound_empty w ≡ true
  pub in_gc_lem : in_gc_empty w ≡ true
  pub phase : phase_known w ≡ true
  pub flags : flags_known w ≡ true
  pub few : released_few w ≡ true
  pub some : released_some w ≡ true
  pub empty : released_empty w ≡ true

-- sound tables pass them
pub sound_flags : (p : Params) (t : Tables) → sound p t ≡ true → Flags t.words
unfolding sound
sound_flags p t s =
    let w : Words = t.words in
    let h = and_seven (all_below p.blocks (block_sound p t)) (all_below lists (linked p t)) (unbound_empty w) (in_gc_empty w)
    (phase_known w && flags_known w) (released_few w && released_some w) (released_empty w) s in
    record {
      unbound = h.2;
      in_gc_lem = h.3;
      phase = and_left (phase_known w) (flags_known w) h.4;
      flags = and_right (phase_known w) (flags_known w) h.4;
      few = and_left (released_few w) (released_some w) h.5;
      some = and_right (released_few w) (released_some w) h.5;
      empty = h.6;
    }

-- ---- empty owners

-- the owner whose first set is o has no block, by the firsts of its 147 lists
pub owner_empty_lem : (w : Words) (o : ℕ) → ((i : ℕ) → i < 147 → get_or w.first (49 * o + i) 0 ≡ 0) → owner_empty w o ≡ true
unfolding owner_empty list_of
owner_empty_lem w o h = below_all 147 _ (λ i l. eq-eqb _ 0 (h i l))

-- and back
pub empty_owner : (w : Words) (o : ℕ) → owner_empty w o ≡ true → (i : ℕ) → i < 147 → get_or w.first (49 * o + i) 0 ≡ 0
unfolding owner_empty list_of
empty_owner w o e i l = eqb-true _ 0 (all_below_lem 147 _ e i l)

-- all lists of the owner number o are empty
unfoldable pub Empty : Words → ℕ → Type 0
Empty w o = (l : ℕ) → l / 147 ≡ o → get_or w.first l 0 ≡ 0

-- the test says that
pub empty_test : (w : Words) (o : ℕ) → Empty w o → owner_empty w (3 * o) ≡ true
unfolding Empty
empty_test w o E = owner_empty_lem w (3 * o) (λ i l. E (49 * (3 * o) + i) (omega arith))

pub test_empty : (w : Words) (o : ℕ) → owner_empty w (3 * o) ≡ true → Empty w o
unfolding Empty
test_empty w o e l q =
    let at : 49 * (3 * o) + l % 147 ≡ l = omega arith in
    rw at at (empty_owner w (3 * o) e (l % 147) (omega arith))

-- the sets of the holder number i + 1 are those of the owner number i
holder_sets : (i : ℕ) → local_sets (suc i) ≡ 3 * i
unfolding local_sets
holder_sets i = omega arith

-- ---- bound holders

pub record BoundAt (w : Words) (h : ℕ) : Type 0 where
  pub low : 1 ≤ h
  pub high : h ≤ 8
  pub is : get_or w.bound (h - 1) 0 ≡ 1

-- a number from 1 to 8
pub holder_low : (h : ℕ) → is_holder h ≡ true → 1 ≤ h
unfolding is_holder
holder_low h e = leb-true 1 h (and_left (leb 1 h) (leb h 8) e)

pub holder_high : (h : ℕ) → is_holder h ≡ true → h ≤ 8
unfolding is_holder
holder_high h e = leb-true h 8 (and_right (leb 1 h) (leb h 8) e)

-- what the test of a bound holder says, and back
pub bound_at : (w : Words) (h : ℕ) → is_bound w h ≡ true → BoundAt w h
unfolding is_bound
bound_at w h e =
    let q : is_holder h ≡ true = and_left (is_holder h) (eqb (get_or w.bound (h - 1) 0) 1) e in
    record {
      low = holder_low h q;
      high = holder_high h q;
      is = eqb-true _ 1 (and_right (is_holder h) (eqb (get_or w.bound (h - 1) 0) 1) e);
    }

pub at_bound : (w : Words) (h : ℕ) → BoundAt w h → is_bound w h ≡ true
unfolding is_bound is_holder
at_bound w h b = and_both (and_both (le-leb 1 h b.low) (le-leb h 8 b.high)) (eq-eqb _ 1 b.is)

-- ---- the tests as facts

pub record FlagFacts (w : Words) : Type 0 where
  -- an unbound holder has no block
  pub unbound : (i : ℕ) → i < 8 → get_or w.bound i 0 ≢ 1 → Empty w i
  -- in-gc has none unless Releasing
  pub in_gc_lem : w.phase ≢ 2 → Empty w 9
  pub phase : w.phase ≤ 2
  pub bound : (i : ℕ) → i < 8 → get_or w.bound i 0 ≤ 1
  pub released : (i : ℕ) → i < 9 → get_or w.released i 0 ≤ 1
  -- released marks are set only in Releasing, and only for bound holders and the shared part
  pub only : (part : ℕ) → part < 9 → get_or w.released part 0 ≡ 1 → w.phase ≡ 2
  pub whose : (i : ℕ) → i < 8 → get_or w.released (suc i) 0 ≡ 1 → get_or w.bound i 0 ≡ 1
  -- in Releasing one is set, and one is due
  pub some : w.phase ≡ 2 → (part : ℕ) × (part < 9) × (get_or w.released part 0 ≡ 1)
  pub due : w.phase ≡ 2 → all_released w ≡ false
  -- a released holder has no block
  pub empty : (i : ℕ) → i < 8 → get_or w.released (suc i) 0 ≡ 1 → Empty w i

suc_less : (i : ℕ) → suc i - 1 ≡ i
suc_less i = omega arith

-- `not a || b` for a test a that passes
not_or : (a b : Bool) → (not a || b) ≡ true → a ≡ true → b ≡ true
not_or true b e q = e
not_or false b e q = absurd (not_both false q refl)

-- and for a test that need not pass
or_not : (a b : Bool) → (a ≡ true → b ≡ true) → (not a || b) ≡ true
or_not true b f = f refl
or_not false b f = refl

or_else : (a b : Bool) → (a ≡ false → b ≡ true) → (a || b) ≡ true
or_else true b f = refl
or_else false b f = f refl

not_is : (a : Bool) → a ≡ false → not a ≡ true
not_is a e = rw e

module _ (w : Words) where
  has_released_lem : (part : ℕ) → has_released w part ≡ true → get_or w.released part 0 ≡ 1
  unfolding has_released
  has_released_lem part e = eqb-true _ 1 e

  released_has : (part : ℕ) → get_or w.released part 0 ≡ 1 → has_released w part ≡ true
  unfolding has_released
  released_has part e = eq-eqb _ 1 e

  bound_word : (i : ℕ) → is_bound w (suc i) ≡ true → get_or w.bound i 0 ≡ 1
  bound_word i e = rw suc_less at (bound_at w (suc i) e).is

  word_bound : (i : ℕ) → i < 8 → get_or w.bound i 0 ≡ 1 → is_bound w (suc i) ≡ true
  word_bound i l e = at_bound w (suc i) (record { low = omega arith; high = omega arith; is = rw (suc_less i) e })

  holder_empty : (i : ℕ) → owner_empty w (local_sets (suc i)) ≡ true → Empty w i
  holder_empty i e = test_empty w i (rw (holder_sets i) at e)

  empty_holder : (i : ℕ) → Empty w i → owner_empty w (local_sets (suc i)) ≡ true
  empty_holder i E = rw (holder_sets i) (empty_test w i E)

  pub flag_facts : Flags w → FlagFacts w
  unfolding unbound_empty in_gc_empty phase_known flags_known released_few released_some released_empty
  flag_facts F =
      record {
        unbound = λ i l ne.
            ⊎_elim (λ b. absurd (ne (bound_word i b))) (λ e. holder_empty i e)
            (or_cases (is_bound w (suc i)) (owner_empty w (local_sets (suc i))) (all_below_lem 8 _ F.unbound i l));
        in_gc_lem = λ ne.
            ⊎_elim (λ b. absurd (ne (eqb-true _ 2 b))) (λ e. test_empty w 9 e)
            (or_cases (eqb w.phase 2) (owner_empty w in_gc) F.in_gc_lem);
        phase = ⊎_elim (λ a. low a) (λ b. omega (arith, eqb-true w.phase 2 b)) (or_cases (eqb w.phase 0 || eqb w.phase 1) (eqb w.phase 2) F.phase);
        bound = λ i l. leb-true _ 1 (all_below_lem 8 (λ i. leb (get_or w.bound i 0) 1) (and_left bs rs F.flags) i l);
        released = λ i l. leb-true _ 1 (all_below_lem 9 (λ i. leb (get_or w.released i 0) 1) (and_right bs rs F.flags) i l);
        only = λ part l e. eqb-true _ 2 (and_left (eqb w.phase 2) (eqb part 0 || is_bound w part) (of part l e));
        whose = λ i l e.
            ⊎_elim (λ z. absurd (omega (arith, eqb-true (suc i) 0 z))) (λ b. bound_word i b)
            (or_cases (eqb (suc i) 0) (is_bound w (suc i)) (and_right (eqb w.phase 2) (eqb (suc i) 0 || is_bound w (suc i)) (of (suc i) (omega arith) e)));
        some = λ e. let a = any_below_at 9 (λ part. has_released w part) (and_left _ (not (all_released w)) (late e)) in (a.0, a.1, has_released_lem a.0 a.2);
        due = λ e. not-true (all_released w) (and_right (any_below 9 (λ part. has_released w part)) (not (all_released w)) (late e));
        empty = λ i l e. holder_empty i (not_or (has_released w (suc i)) _ (all_below_lem 8 _ F.empty i l) (released_has (suc i) e));
      }
    where
      bs : Bool
      bs = all_below 8 (λ i. leb (get_or w.bound i 0) 1)

      rs : Bool
      rs = all_below 9 (λ i. leb (get_or w.released i 0) 1)

      low : (eqb w.phase 0 || eqb w.phase 1) ≡ true → w.phase ≤ 2
      low a = ⊎_elim (λ b. omega (arith, eqb-true w.phase 0 b)) (λ b. omega (arith, eqb-true w.phase 1 b)) (or_cases (eqb w.phase 0) (eqb w.phase 1) a)

      of : (part : ℕ) → part < 9 → get_or w.released part 0 ≡ 1 → (eqb w.phase 2 && (eqb part 0 || is_bound w part)) ≡ true
      of part l e = not_or (has_released w part) _ (all_below_lem 9 (λ part. not (has_released w part) || (eqb w.phase 2 && (eqb part 0 || is_bound w part))) F.few part l) (released_has part e)

      late : w.phase ≡ 2 → (any_below 9 (λ part. has_released w part) && not (all_released w)) ≡ true
      late e = not_or (eqb w.phase 2) _ F.some (eq-eqb _ 2 e)

  pub facts_flags : FlagFacts w → Flags w
  unfolding unbound_empty in_gc_empty phase_known flags_known released_few released_some released_empty
  facts_flags F =
      record {
        unbound = below_all 8 _ (λ i l. or_else (is_bound w (suc i)) _ (λ e. empty_holder i (F.unbound i l (λ q. not_both _ (word_bound i l q) e))));
        in_gc_lem = or_else (eqb w.phase 2) _ (λ e. empty_test w 9 (F.in_gc_lem (eqb-false _ 2 e)));
        phase = or_else (eqb w.phase 0 || eqb w.phase 1) _ (λ e. eq-eqb _ 2 (top (Bool_cases (eqb w.phase 0)) (Bool_cases (eqb w.phase 1)) e));
        flags = and_both (below_all 8 _ (λ i l. le-leb _ 1 (F.bound i l))) (below_all 9 _ (λ i l. le-leb _ 1 (F.released i l)));
        few = below_all 9 _ (λ part l. or_not (has_released w part) _ (λ e. and_both (eq-eqb _ 2 (F.only part l (has_released_lem part e))) (whose part l (has_released_lem part e))));
        some = or_not (eqb w.phase 2) _ (λ e. let q = eqb-true _ 2 e in and_both (below_any 9 _ (F.some q).0 (F.some q).1 (released_has _ (F.some q).2)) (not_is _ (F.due q)));
        empty = below_all 8 _ (λ i l. or_not (has_released w (suc i)) _ (λ e. empty_holder i (F.empty i l (has_released_lem (suc i) e))));
      }
    where
      top : (eqb w.phase 0 ≡ true) ⊎ (eqb w.phase 0 ≡ false) → (eqb w.phase 1 ≡ true) ⊎ (eqb w.phase 1 ≡ false)
          → (eqb w.phase 0 || eqb w.phase 1) ≡ false → w.phase ≡ 2
      top (inl a) b e = absurd (not_both _ (or_left _ a) e)
      top (inr a) (inl b) e = absurd (not_both _ (or_right (eqb w.phase 0) b) e)
      top (inr a) (inr b) e = omega (arith, F.phase, eqb-false w.phase 0 a, eqb-false w.phase 1 b)

      whose : (part : ℕ) → part < 9 → get_or w.released part 0 ≡ 1 → (eqb part 0 || is_bound w part) ≡ true
      whose zero l e = refl
      whose (suc i) l e = or_right (eqb (suc i) 0) (word_bound i (omega arith) (F.whose i (omega arith) e))

-- ---- calls in Running, and destroy

-- Running or Marking before and after, released marks unchanged: what is left to show is of bound holders and of in-gc
quiet_flags :
    (w w' : Words) → FlagFacts w → w.phase ≤ 1 → w'.released ≡ w.released → w'.phase ≤ 1
    → ((i : ℕ) → i < 8 → get_or w'.bound i 0 ≤ 1)
    → ((i : ℕ) → i < 8 → get_or w'.bound i 0 ≢ 1 → Empty w' i)
    → Empty w' 9 → Flags w'
quiet_flags w w' F run same low known unbound in_gc_lem =
    facts_flags w'
    (record {
      unbound = unbound;
      in_gc_lem = λ ne. in_gc_lem;
      phase = omega arith;
      bound = known;
      released = λ i l. rw same (F.released i l);
      only = λ part l e. absurd (none part l e);
      whose = λ i l e. absurd (none (suc i) (omega arith) e);
      some = λ e. absurd (omega arith);
      due = λ e. absurd (omega arith);
      empty = λ i l e. absurd (none (suc i) (omega arith) e);
    })
  where
    none : (part : ℕ) → part < 9 → get_or w'.released part 0 ≡ 1 → ⊥
    none part l e = let q : w.phase ≡ 2 = F.only part l (rw same at e) in omega arith

-- a word of a list after a store of v, which is 0 or 1
set_known : (l : List ℕ) (j v i : ℕ) → v ≤ 1 → get_or l i 0 ≤ 1 → j < length l → get_or (set l j v) i 0 ≤ 1
set_known l j v i lv li lj = set_all l j v (λ x. x ≤ 1) i lj (λ y. lv) (λ n. li)

-- bind
pub bind_flags : {n : ℕ} (w : Words) (h : ℕ) → Sized n w → Flags w → w.phase ≡ 0 → is_holder h ≡ true → Flags (set_bound (h - 1) 1 w)
unfolding set_bound Empty
bind_flags w h z G run is =
    quiet_flags w (set_bound (h - 1) 1 w) F (omega arith) refl (omega arith)
    (λ i l. set_known w.bound (h - 1) 1 i (omega arith) (F.bound i l) low)
    (λ i l ne. F.unbound i l (λ e. ne (set_keeps w.bound (h - 1) 1 i 1 refl e low)))
    (F.in_gc_lem (omega arith))
  where
    F : FlagFacts w
    F = flag_facts w G

    low : h - 1 < length w.bound
    low = omega (arith, z.bound, holder_low h is, holder_high h is)

-- prepare
pub prepare_flags : (w : Words) → Flags w → w.phase ≡ 0 → Flags (set_phase 1 w)
unfolding set_phase Empty
prepare_flags w G run =
    let F : FlagFacts w = flag_facts w G in
    quiet_flags w (set_phase 1 w) F (omega arith) refl (omega arith) F.bound F.unbound (F.in_gc_lem (omega arith))

-- alloc: only lists of a bound holder and abandoned ones change
pub same_flags : (w w' : Words) → Flags w → w.phase ≡ 0 → (h : ℕ) → is_bound w h ≡ true → Framed (h - 1) 8 w w' → Flags w'
unfolding Empty
same_flags w w' G run h is R =
    quiet_flags w w' F (omega arith) R.released (omega (arith, R.phase))
    (λ i l. rw R.bound (F.bound i l))
    (λ i l ne. still i l (rw R.bound at ne))
    (λ m e. R.first m (omega (arith, B.high, B.low)) (omega arith) ∙ F.in_gc_lem (omega arith) m e)
  where
    F : FlagFacts w
    F = flag_facts w G

    B : BoundAt w h
    B = bound_at w h is

    still : (i : ℕ) → i < 8 → get_or w.bound i 0 ≢ 1 → (m : ℕ) → m / 147 ≡ i → get_or w'.first m 0 ≡ 0
    still i l ne m e =
        R.first m (λ q. ne (ap (λ (x : ℕ). get_or w.bound x 0) (sym e ∙ q) ∙ B.is)) (omega arith) ∙ F.unbound i l ne m e

-- destroy: the holder's lists go behind the abandoned ones
pub destroy_flags :
    (p : Params) (w : Words) (h : ℕ) → Sized p.blocks w → Flags w → w.phase ≤ 1 → is_bound w h ≡ true
    → Flags (set_bound (h - 1) 0 (abandon_blocks p abandoned (local_sets h) w))
unfolding set_bound local_sets Empty
destroy_flags p w h z G run is =
    quiet_flags w (set_bound (h - 1) 0 W) F run R.released (omega (arith, R.phase))
    (λ i l. rw R.bound (set_known w.bound (h - 1) 0 i (omega arith) (F.bound i l) (omega (arith, z.bound, b.low, b.high))))
    (λ i l ne. gone i l (rw R.bound at ne) (ℕ_discrete i (h - 1)))
    (λ m e. R.first m (omega (arith, b.low, b.high)) (omega arith) ∙ F.in_gc_lem (omega arith) m e)
  where
    F : FlagFacts w
    F = flag_facts w G

    b : BoundAt w h
    b = bound_at w h is

    W : Words
    W = abandon_blocks p abandoned (3 * (h - 1)) w

    low : h - 1 < 10
    low = omega (arith, b.high)

    R : Framed (h - 1) 8 w W
    R = abandon_framed p (h - 1) 8 low (omega arith) w

    gone : (i : ℕ) → i < 8 → get_or (set w.bound (h - 1) 0) i 0 ≢ 1 → Dec (i ≡ h - 1) → (m : ℕ) → m / 147 ≡ i → get_or W.first m 0 ≡ 0
    gone i l ne (yes q) m e = abandon_empties p 8 (h - 1) w z (omega (arith, b.low, b.high)) (omega arith) low m (e ∙ q)
    gone i l ne (no f) m e =
        R.first m (λ q. f (sym e ∙ q)) (omega arith)
        ∙ F.unbound i l (λ q. ne (set_off w.bound (h - 1) 0 i f ∙ q)) m e

-- ---- the releases

-- w₁ is what the release of a part made of w: the lists of its own holder, if any, are empty; those of other holders stay
module _ (p : Params) (w w₁ : Words) (part : ℕ) (z : Sized p.blocks w₁) (G : Flags w) (whose : (part ≡ 0) ⊎ (is_bound w part ≡ true))
    (bound : w₁.bound ≡ w.bound) (released : w₁.released ≡ w.released)
    (others : (l : ℕ) → l / 147 < 8 → suc (l / 147) ≢ part → get_or w₁.first l 0 ≡ get_or w.first l 0)
    (own : (l : ℕ) → suc (l / 147) ≡ part → get_or w₁.first l 0 ≡ 0) where
  F : FlagFacts w
  F = flag_facts w G

  low : part < 9
  low = ⊎_elim (λ e. omega arith) (λ e. omega (arith, (bound_at w part e).high)) whose

  room : part < length w₁.released
  room = omega (arith, z.released, low)

  -- lists of a holder that were empty are empty
  still : (i : ℕ) → i < 8 → Empty w i → Empty w₁ i
  unfolding Empty
  still i l E = λ m e. go m e (ℕ_discrete (suc i) part)
    where
      go : (m : ℕ) → m / 147 ≡ i → Dec (suc i ≡ part) → get_or w₁.first m 0 ≡ 0
      go m e (yes q) = own m (ap suc e ∙ q)
      go m e (no f) = others m (omega arith) (λ q. f (sym (ap suc e) ∙ q)) ∙ E m e

  unbound : (i : ℕ) → i < 8 → get_or w₁.bound i 0 ≢ 1 → Empty w₁ i
  unbound i l ne = still i l (F.unbound i l (rw bound at ne))

  -- the mark of another part is that of before
  before : (k : ℕ) → k ≢ part → get_or (set w₁.released part 1) k 0 ≡ get_or w.released k 0
  before k ne = set_off w₁.released part 1 k ne ∙ ap (λ (x : List ℕ). get_or x k 0) released

  -- a holder that has released has no block
  none : (i : ℕ) → i < 8 → get_or (set w₁.released part 1) (suc i) 0 ≡ 1 → Dec (suc i ≡ part) → Empty w₁ i
  unfolding Empty
  none i l e (yes q) = λ m d. own m (ap suc d ∙ q)
  none i l e (no f) = still i l (F.empty i l (sym (before (suc i) f) ∙ e))

  pub released_flags : Flags (part_released p part w₁)
  unfolding part_released set_released set_phase with_released Empty
  released_flags = if_cases Flags (all_released w₂) (λ e. facts_flags _ last) (λ e. facts_flags w₂ (more e))
    where
      w₂ : Words
      w₂ = set_released part 1 (set_phase 2 w₁)

      known : (i : ℕ) → i < 8 → get_or w₁.bound i 0 ≤ 1
      known i l = rw bound (F.bound i l)

      more : all_released w₂ ≡ false → FlagFacts w₂
      more left =
          record {
            unbound = unbound;
            in_gc_lem = λ ne. absurd (ne refl);
            phase = omega arith;
            bound = known;
            released = λ i l. set_known w₁.released part 1 i (omega arith) (rw released (F.released i l)) room;
            only = λ k l e. refl;
            whose = λ i l e. of i l e (ℕ_discrete (suc i) part);
            some = λ e. (part, low, set_at w₁.released part 1 room);
            due = λ e. left;
            empty = λ i l e. none i l e (ℕ_discrete (suc i) part);
          }
        where
          of : (i : ℕ) → i < 8 → get_or (set w₁.released part 1) (suc i) 0 ≡ 1 → Dec (suc i ≡ part) → get_or w₁.bound i 0 ≡ 1
          of i l e (yes q) = rw bound (⊎_elim (λ a. absurd (omega arith)) (λ a. bound_word w i (rw q a)) whose)
          of i l e (no f) = rw bound (F.whose i l (sym (before (suc i) f) ∙ e))

      W : Words
      W = abandon_blocks p abandoned in_gc w₂

      R : Framed 9 8 w₂ W
      R = abandon_framed p 9 8 (omega arith) (omega arith) w₂

      last : FlagFacts (set_phase 0 (with_released (replicate 9 0) W))
      last =
          record {
            unbound = λ i l ne m e. R.first m (omega arith) (omega arith) ∙ unbound i l (rw R.bound at ne) m e;
            in_gc_lem = λ ne. abandon_empties p 8 9 w₂ (sized_same (simp kept_lengths) z) (omega arith) (omega arith) (omega arith);
            phase = omega arith;
            bound = λ i l. rw R.bound (known i l);
            released = λ i l. rw (get_d_zeros 9 i) (omega arith);
            only = λ k l e. absurd (clear k e);
            whose = λ i l e. absurd (clear (suc i) e);
            some = λ e. absurd (omega arith);
            due = λ e. absurd (omega arith);
            empty = λ i l e. absurd (clear (suc i) e);
          }
        where
          clear : (k : ℕ) → get_or (replicate {A = ℕ} 9 0) k 0 ≡ 1 → ⊥
          clear k e = omega (arith, get_d_zeros 9 k)

  -- if the part is the last, no holder has a block, and the shared part is done
  pub last_empties : is_last part w₁ ≡ true → (i : ℕ) → i < 8 → Empty w₁ i
  unfolding is_last all_released has_released set_released set_phase
  last_empties e i l =
      let w₂ : Words = set_released part 1 (set_phase 2 w₁) in
      ⊎_elim (λ f. unbound i l (λ q. not_both (is_bound w₂ (suc i)) (at_bound w₂ (suc i) (record { low = omega arith; high = omega arith; is = ap (λ (k : ℕ). get_or w₁.bound k 0) (one_less i) ∙ q })) (not-true _ f)))
      (λ q. none i l (eqb-true _ 1 q) (ℕ_discrete (suc i) part))
      (or_cases (not (is_bound w₂ (suc i))) (has_released w₂ (suc i)) (all_below_lem 8 (λ i. not (is_bound w₂ (suc i)) || has_released w₂ (suc i)) (and_right (has_released w₂ 0) _ e) i l))
    where
      one_less : (k : ℕ) → suc k - 1 ≡ k
      one_less k = omega arith

  pub last_shared : is_last part w₁ ≡ true → get_or (set w₁.released part 1) 0 0 ≡ 1
  unfolding is_last all_released has_released set_released set_phase
  last_shared e =
      let w₂ : Words = set_released part 1 (set_phase 2 w₁) in
      eqb-true _ 1 (and_left (has_released w₂ 0) (all_below 8 (λ i. not (is_bound w₂ (suc i)) || has_released w₂ (suc i))) e)
