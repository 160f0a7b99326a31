-- What a release answers is the number of blocks whose state byte it made 0, and that of the blocks that went over to abandoned;
-- and destroy answers the number of its blocks, all of which go over. Each release in a walk is of an Unmarked block, and no other
-- state byte changes; who goes over is in Over.antt. Assumes nothing.
use Rattle.std.specs.Prelude.{if◌then◌else◌, Ok}
use mathlib.Core.Path.{◌≡◌, refl, sym, ap, ◌∙◌}
use mathlib.Core.Logic.{◌≢◌}
use mathlib.Core.Bool.{Bool, true, false, not, ◌&&◌}
use mathlib.Core.List.{List, [], ◌∷◌, ◌++◌}
use Prim.Native.Nat.{ℕ, suc, ◌+◌, ◌-◌, ◌*◌, ◌/◌, ◌<◌}
use native.Mathlib.Omega.{arith}
use native.Mathlib.Decide.{ℕ_discrete}
use lib.Dec.{eqb}
use lib.ListN.{length, get_or, set, length-set, length-append, get_or-eq_default}
use borrow.Author.Tests.{eqb-true, eq-eqb, ne_eqb}
use Rattle.model.specs.declared.Params.{Params}
use Rattle.model.specs.Base.{filter, flag, sum_below}
use Rattle.model.specs.Params.{good_params, Lent, fits, word_count, heap_bytes, local_sets}
use Rattle.model.specs.Tables.{Words, view, tables_of, set_bound, set_phase, set_released}
use Rattle.model.specs.Classes.{classes_fit}
use Rattle.model.specs.BlockList.{blocks_on}
use Rattle.model.specs.Block.{sweep_chain}
use Rattle.model.specs.Events.{Event, swept, released, events_heap, is_sweep, is_release, sweeps, releases}
use Rattle.model.specs.Global.{abandon_blocks, abandoned_blocks, destroy_holder, Freed, freed, release_blocks, append_to, is_bound, release_holder, sweep_later, is_last, sweep_block, sweep_all, swept_eagerly, eagerly, part_released, merged}
use Rattle.model.specs.Sound.{sound, eager_ok, chained, sound_on}
use Rattle.model.specs.Calls.{refusal_number, Call, destroy, release, shared_release, call_tests, Plan, changes, release_plan, plan_passed, plan, finish, carried, step, Returned, tables_in, lent_of, result_from, call}
use Rattle.model.specs.Refusals.{made_unallocated, blocks_of, went_over, swept_at_end, CountsReleased, ReleasedCounts, DestroyedCounts}
use Rattle.laws.proofs.Base.{and_left, if_cases, filter_append}
use Rattle.laws.proofs.Below.{and_five}
use Rattle.laws.proofs.Tables.{Sized, sized_same, sized_view, view_flat, lengths, kept_lengths, lengths_set_bound, by_lt}
use Rattle.laws.proofs.Params.{Bounds, good_bounds}
use Rattle.laws.proofs.Lent.{fits_parts}
use Rattle.laws.proofs.Stores.{set_at, set_off}
use Rattle.laws.proofs.Pigeon.{sum_same, sum_zero, sum_add, sum_one, flag_one, flag_none}
use Rattle.laws.proofs.Frame.{each_grows}
use Rattle.laws.proofs.Walks.{released_one, blocks_keep_any, bins_keep_any, later_keeps_any}
use Rattle.laws.proofs.Tests.{leave_passed, release_passed, plan_cases}
use Rattle.soundness.proofs.SoundLists.{sound_good}
use Rattle.soundness.proofs.GoodTables.{GoodTables}
use Rattle.soundness.proofs.Flags.{BoundAt, bound_at}
use Rattle.soundness.proofs.Owners.{eagerly_ended, eagerly_last, part_phase}
use Rattle.soundness.proofs.Release.{abandon_good}
use Rattle.soundness.proofs.Eagerly.{eagerly_good}
use Rattle.soundness.proofs.Kept.{still_good, part_good}
use Rattle.soundness.proofs.Over.{owner_of, count, same_owner, Apart, Over, holder_apart, shared_apart, abandoned_count, part_over, destroyed_over, went_over_lem, blocks_of_lem}

-- one release more is counted
releases_behind : (es : List Event) (b : ℕ) → releases (es ++ (released b ∷ [])) ≡ releases es + 1
unfolding releases filter is_release
releases_behind es b = ap length (filter_append is_release es (released b ∷ [])) ∙ length-append (filter is_release es) (released b ∷ [])

-- and is no sweep; a sweep is no release
sweeps_release : (es : List Event) (b : ℕ) → sweeps (es ++ (released b ∷ [])) ≡ sweeps es
unfolding sweeps filter is_sweep
sweeps_release es b = ap length (filter_append is_sweep es (released b ∷ [])) ∙ length-append (filter is_sweep es) [] ∙ omega arith

sweeps_behind : (es : List Event) (b : ℕ) (c : List ℕ) → sweeps (es ++ (swept b c ∷ [])) ≡ sweeps es + 1
unfolding sweeps filter is_sweep
sweeps_behind es b c = ap length (filter_append is_sweep es (swept b c ∷ [])) ∙ length-append (filter is_sweep es) (swept b c ∷ [])

releases_sweep : (es : List Event) (b : ℕ) (c : List ℕ) → releases (es ++ (swept b c ∷ [])) ≡ releases es
unfolding releases filter is_release
releases_sweep es b c = ap length (filter_append is_release es (swept b c ∷ [])) ∙ length-append (filter is_release es) [] ∙ omega arith

-- an occupied block is one of them
occupied_low : (s : List ℕ) (b : ℕ) → get_or s b 0 ≢ 0 → b < length s
occupied_low s b f = by_lt b (length s) (λ l. l) (λ g. absurd (f (get_or-eq_default s 0 g)))

-- the walk, from these state bytes on
module _ (n : ℕ) (s₀ : List ℕ) where
  -- the blocks made Unallocated
  gone : List ℕ → ℕ → ℕ
  gone s b = flag (not (eqb (get_or s₀ b 0) 0) && eqb (get_or s b 0) 0)

  -- as many as were counted; all others are as they were
  record Tally (f : Freed) : Type 0 where
    blocks : length f.states ≡ n
    count : releases f.events ≡ sum_below n (gone f.states)
    others : (b : ℕ) → get_or f.states b 0 ≢ 0 → get_or f.states b 0 ≡ get_or s₀ b 0
    unswept : sweeps f.events ≡ 0

  none_yet : (w : Words) → length s₀ ≡ n → Tally (freed w s₀)
  unfolding releases sweeps filter gone flag
  none_yet w e =
      record { blocks = e; count = sym (sum_same n (gone s₀) (λ i. 0) (λ i l. never (eqb (get_or s₀ i 0) 0)) ∙ sum_zero n); others = λ b f. refl; unswept = refl }
    where
      never : (x : Bool) → flag (not x && x) ≡ 0
      never true = refl
      never false = refl

  -- a block is released
  one_more : (p : Params) (l b : ℕ) (f : Freed) → Tally f → get_or f.states b 0 ≡ 255 → Tally (released_one p l b f)
  unfolding gone flag
  one_more p l b f T e =
      record {
        blocks = length-set f.states b 0 ∙ T.blocks;
        count = releases_behind f.events b ∙ ap (λ (x : ℕ). x + 1) T.count ∙ sym more;
        others = λ i o. stay i o (ℕ_discrete i b);
        unswept = sweeps_release f.events b ∙ T.unswept;
      }
    where
      was : get_or f.states b 0 ≢ 0
      was z = omega (arith, sym e ∙ z)

      low : b < length f.states
      low = occupied_low f.states b was

      now : get_or (set f.states b 0) b 0 ≡ 0
      now = set_at f.states b 0 low

      first : get_or s₀ b 0 ≢ 0
      first z = was (T.others b was ∙ z)

      at : (i : ℕ) → Dec (i ≡ b) → gone (set f.states b 0) i ≡ gone f.states i + flag (eqb i b)
      at i (yes q) = rw (q, now, ne_eqb _ _ first, ne_eqb _ _ was, eq-eqb b b refl)
      at i (no g) = rw (set_off f.states b 0 i g, ne_eqb i b g) (omega arith)

      alone : sum_below n (λ i. flag (eqb i b)) ≡ 1
      alone = sum_one n (λ i. flag (eqb i b)) b (omega (arith, low, T.blocks)) (λ i l g. ap flag (ne_eqb i b g)) ∙ ap flag (eq-eqb b b refl)

      more : sum_below n (gone (set f.states b 0)) ≡ sum_below n (gone f.states) + 1
      more =
          sum_same n (gone (set f.states b 0)) (λ i. gone f.states i + flag (eqb i b)) (λ i l. at i (ℕ_discrete i b))
          ∙ sum_add n (gone f.states) (λ i. flag (eqb i b)) ∙ ap (λ (x : ℕ). sum_below n (gone f.states) + x) alone

      stay : (i : ℕ) → get_or (set f.states b 0) i 0 ≢ 0 → Dec (i ≡ b) → get_or (set f.states b 0) i 0 ≡ get_or s₀ i 0
      stay i o (yes q) = absurd (o (ap (λ (y : ℕ). get_or (set f.states b 0) y 0) q ∙ now))
      stay i o (no g) = set_off f.states b 0 i g ∙ T.others i (λ z. o (set_off f.states b 0 i g ∙ z))

  module _ (p : Params) (w : Words) (e : length s₀ ≡ n) where
    lists_tally : (l : ℕ) (f : Freed) → Tally f → Tally (release_blocks p l f)
    lists_tally l = blocks_keep_any p l Tally (λ b f T u. one_more p l b f T u)

    append_tally : (l o : ℕ) (f : Freed) → Tally f → Tally (append_to p l o f)
    unfolding append_to
    append_tally l o f T = record { blocks = T.blocks; count = T.count; others = T.others; unswept = T.unswept }

    holder_tally : (h : ℕ) → Tally (release_holder p h w s₀)
    unfolding release_holder
    holder_tally h =
        let T = bins_keep_any p Tally lists_tally append_tally (local_sets h) (freed w s₀) (none_yet w e) in
        record { blocks = T.blocks; count = T.count; others = T.others; unswept = T.unswept }

    shared_tally : Tally (sweep_later p w s₀)
    unfolding sweep_later
    shared_tally = later_keeps_any p Tally lists_tally append_tally (freed w s₀) (none_yet w e)

-- ---- the end of a collection with eager sweeping: a sweep for each block in use

abbrev in_use : List ℕ → ℕ → ℕ
in_use st b = flag (not (eqb (get_or st b 0) 0))

module _ (p : Params) (ms : List ℕ) (f : Freed) where
  -- n are counted
  record More (n : ℕ) (g : Freed) : Type 0 where
    states : g.states ≡ f.states
    released : releases g.events ≡ releases f.events
    swept : sweeps g.events ≡ n + sweeps f.events

  one_swept : (i : ℕ) → i < p.blocks → (g : Freed) → More (sum_below i (in_use f.states)) g → More (sum_below (suc i) (in_use f.states)) (sweep_block p ms i g)
  unfolding sweep_block sum_below
  one_swept i li g M =
      if_cases (More (in_use f.states i + sum_below i (in_use f.states))) (eqb (get_or g.states i 0) 0)
      (λ e. record { states = M.states; released = M.released; swept = omega (arith, M.swept, flag_none (ap not (was e))) })
      (λ e. record {
        states = M.states;
        released = releases_sweep g.events i _ ∙ M.released;
        swept = omega (arith, sweeps_behind g.events i (sweep_chain p ms i (get_or g.words.size i 0)), M.swept, flag_one (ap not (was e)));
      })
    where
      was : {c : Bool} → eqb (get_or g.states i 0) 0 ≡ c → eqb (get_or f.states i 0) 0 ≡ c
      was e = ap (λ (s : List ℕ). eqb (get_or s i 0) 0) (sym M.states) ∙ e

  all_counted : More (sum_below p.blocks (in_use f.states)) (sweep_all p ms f)
  unfolding sweep_all sum_below
  all_counted = each_grows (λ n g. More (sum_below n (in_use f.states)) g) p.blocks (sweep_block p ms) one_swept f (record { states = refl; released = refl; swept = omega arith })

  end_counted : (part : ℕ) → More (if p.eager && is_last part f.words then sum_below p.blocks (in_use f.states) else 0) (eagerly p ms part f)
  unfolding eagerly swept_eagerly
  end_counted part = go (p.eager && is_last part f.words)
    where
      go : (c : Bool) → More (if c then sum_below p.blocks (in_use f.states) else 0) (if c then swept_eagerly p ms f else f)
      go true = record { states = all_counted.states; released = all_counted.released; swept = all_counted.swept }
      go false = record { states = refl; released = refl; swept = omega arith }

-- ---- the calls

-- what fits has a state byte for each block
fits_states : (p : Params) (l : Lent) → fits p l ≡ true → length l.states ≡ p.blocks
unfolding fits
fits_states p l e =
    eqb-true _ _ (and_five (good_params p) (eqb (length l.words) (word_count p)) (eqb (length l.states) p.blocks)
    (eqb (length l.marks) (heap_bytes p / 64)) (eqb (length l.heap) (heap_bytes p)) e).2

-- and words for all lists and blocks
fits_words : (p : Params) (l : Lent) → fits p l ≡ true → Sized p.blocks (view l.words)
unfolding fits word_count
fits_words p l e =
    sized_view p.blocks l.words
    (eqb-true _ _ (and_five (good_params p) (eqb (length l.words) (word_count p)) (eqb (length l.states) p.blocks)
    (eqb (length l.marks) (heap_bytes p / 64)) (eqb (length l.heap) (heap_bytes p)) e).1)

-- phase and released marks are no matter of lists
releasing_good : (p : Params) (B : Bounds p) (part : ℕ) {ms st : List ℕ} {w : Words} → GoodTables p ms w st → GoodTables p ms (set_released part 1 (set_phase 2 w)) st
unfolding set_released set_phase lengths
releasing_good p B part H = still_good p B _ refl (sized_same (simp kept_lengths) H.sized) H

module _ (p : Params) (l : Lent) where
  abbrev w : Words
  w = view l.words

  -- of an answer, of a plan once it is carried out
  abbrev Counts : (Lent → List ℕ) → Returned → Type 0
  Counts v r = r.reply.number ≡ 0 → r.reply.values ≡ v r.lent

  abbrev Planned : (Lent → List ℕ) → Plan → Type 0
  Planned v q = Counts v (result_from (finish p q.tables q.events (events_heap p q.events l.heap) q.end))

  -- the plan of a destroy that is answered
  abbrev destroyed : ℕ → Plan
  destroyed h = changes (destroy_holder p h (tables_in l)) (abandoned_blocks p 24 (local_sets h) w ∷ [])

  -- good tables are lent where a call is not refused
  module _ (f : fits p l ≡ true) (s : sound p (tables_in l) ≡ true) where
    abbrev B : Bounds p
    B = good_bounds p (fits_parts p l f).0

    good : GoodTables p l.marks w l.states
    good = record { lists = λ n. blocks_on p n w; good = sound_good p B (tables_in l) s; sized = fits_words p l f; states = fits_states p l f }

    -- what the end of a collection leaves
    end_apart : (part : ℕ) (f : Freed) → Apart p B l.marks w l.states f → Apart p B l.marks w l.states (eagerly p l.marks part f)
    unfolding owner_of
    end_apart part f A =
        let E = eagerly_good p B l.marks part f A.good in
        let N = eagerly_ended p l.marks part f in
        record {
          good = E.good;
          used = λ b occ. A.used b (rw N.states at occ);
          same = λ b low occ. ap (λ (x : ℕ). eqb x 8) (E.named.owner b) ∙ A.same b low (rw N.states at occ);
        }

    released_counts : (part : ℕ) (f : Freed) → Tally p.blocks l.states f → Apart p B l.marks w l.states f
        → Planned (λ m. made_unallocated p l m ∷ went_over p l m ∷ swept_at_end p m ∷ []) (release_plan p part (tables_in l) f)
    unfolding release_plan finish made_unallocated gone swept_at_end
    released_counts part f T A e = λ i.
        (M.released ∙ T.count ∙ ap (λ (s : List ℕ). sum_below p.blocks (gone p.blocks l.states s)) (sym M.states)) i
        ∷ (over ∙ sym (went_over_lem p l m v seen)) i ∷ (M.swept ∙ omega (arith, T.unswept) ∙ ended) i ∷ []
      where
        g : Freed
        g = eagerly p l.marks part f

        v : Words
        v = part_released p part g.words

        m : Lent
        m = lent_of (tables_of v g.states l.marks) (events_heap p g.events l.heap)

        X : Apart p B l.marks w l.states g
        X = end_apart part f A

        seen : view m.words ≡ v
        seen = view_flat p.blocks _ (part_good p B part g.words g.states l.marks X.good).sized

        over : merged p part g.words ≡ sum_below p.blocks (Over p B l.marks w l.states v g.states)
        over = part_over p B l.marks w l.states g X part (releasing_good p B part X.good)

        n : ℕ
        n = if p.eager && is_last part f.words then sum_below p.blocks (in_use f.states) else 0

        M : More p l.marks f n g
        M = end_counted p l.marks f part

        last : is_last part f.words ≡ eqb (view m.words).phase 0
        last = sym (eagerly_last p l.marks part f) ∙ sym (part_phase p part g.words) ∙ ap (λ (u : Words). eqb u.phase 0) (sym seen)

        ended : n ≡ (if p.eager && eqb (view m.words).phase 0 then sum_below p.blocks (in_use g.states) else 0)
        ended = λ i. if p.eager && last i then sum_below p.blocks (in_use (sym M.states i)) else 0

    destroyed_counts : (h : ℕ) → is_bound w h ≡ true → Planned (λ m. blocks_of p l h ∷ []) (destroyed h) × Planned (λ m. went_over p l m ∷ []) (destroyed h)
    unfolding destroy_holder finish local_sets set_bound events_heap
    destroyed_counts h o = (
      (λ e. ap (λ (x : ℕ). x ∷ []) (left ∙ sym (blocks_of_lem p l h))),
      λ e. ap (λ (x : ℕ). x ∷ [])
          (left ∙ destroyed_over p B l.marks w l.states good (h - 1) (omega (arith, P.low, P.high)) v (λ b. same_owner _ v b refl)
          ∙ sym (went_over_lem p l (lent_of (tables_of v l.states l.marks) l.heap) v (view_flat p.blocks v (sized_same (lengths_set_bound (h - 1) 0 u) A.sized)))),
    )
      where
        P : BoundAt w h
        P = bound_at w h o

        u : Words
        u = abandon_blocks p 24 (3 * (h - 1)) w

        v : Words
        v = set_bound (h - 1) 0 u

        A : GoodTables p l.marks u l.states
        A = abandon_good p B l.marks 8 (h - 1) (omega arith) (omega (arith, P.high)) (omega (arith, P.low, P.high)) (omega arith) l.states w good

        left : abandoned_blocks p 24 (3 * (h - 1)) w ≡ count p.blocks (h - 1) w l.states
        left = abandoned_count p B l.marks 8 (h - 1) (omega arith) (omega (arith, P.high)) (omega (arith, P.low, P.high)) (omega arith) l.states w good

  -- a call, by what holds where it is refused, and by what its plan says if it passed its tests
  pub call_passed : (P : Returned → Type 0) → ((r : Returned) → r.reply.number ≢ 0 → P r) → (c : Call)
      → (fits p l ≡ true → sound_on p (tables_in l) l.heap ≡ true → call_tests p (tables_in l) c ≡ Ok tt → P (result_from (carried p l.heap (plan_passed p (tables_in l) c))))
      → P (call p l c)
  unfolding call step plan refusal_number finish
  call_passed P off c h =
      if_cases P (fits p l)
      (λ e. if_cases P (classes_fit p)
      (λ k. if_cases (λ (q : Plan). P (result_from (carried p l.heap q))) (sound_on p (tables_in l) l.heap)
      (λ s. plan_cases (λ (q : Plan). P (result_from (carried p l.heap q))) p (tables_in l) c (λ r b. off _ (λ z. omega (arith, z, b.from))) (h e s))
      (λ s. off _ (λ z. omega (arith, z))))
      (λ k. off _ (λ z. omega (arith, z))))
      (λ e. off _ (λ z. omega (arith, z)))

  module _ (v : Lent → List ℕ) where
    call_counts : (c : Call) → (fits p l ≡ true → sound p (tables_in l) ≡ true → call_tests p (tables_in l) c ≡ Ok tt → Planned v (plan_passed p (tables_in l) c))
        → Counts v (call p l c)
    call_counts c h =
        call_passed (Counts v) (λ r off z. absurd (off z)) c
        (λ e s. h e (and_left (sound p (tables_in l)) (eager_ok p (tables_in l)) (and_left (sound p (tables_in l) && eager_ok p (tables_in l)) (chained p (tables_in l) l.heap) s)))

    destroy_counts : (h : ℕ) → (fits p l ≡ true → sound p (tables_in l) ≡ true → is_bound w h ≡ true → Planned v (destroyed h)) → Counts v (call p l (destroy h))
    unfolding call_tests plan_passed
    destroy_counts h k = call_counts (destroy h) (λ e s q. k e s (leave_passed w h q).1)

pub destroyed_counted : DestroyedCounts
unfolding DestroyedCounts
destroyed_counted p l h e = (
  destroy_counts p l (λ m. blocks_of p l h ∷ []) h (λ f s o. (destroyed_counts p l f s h o).0) e,
  destroy_counts p l (λ m. went_over p l m ∷ []) h (λ f s o. (destroyed_counts p l f s h o).1) e,
)

pub released_counted : ReleasedCounts
unfolding ReleasedCounts CountsReleased call_tests plan_passed
released_counted p l = (
  (λ h. call_counts p l v (release h)
      (λ e s q. let P = bound_at (w p l) h (release_passed (w p l) h q).1 in
      released_counts p l e s h _ (holder_tally p.blocks l.states p (w p l) (fits_states p l e) h)
      (holder_apart p (B p l e s) l.marks (w p l) l.states h P.low P.high (good p l e s)))),
  call_counts p l v shared_release
      (λ e s q. released_counts p l e s 0 _ (shared_tally p.blocks l.states p (w p l) (fits_states p l e))
      (shared_apart p (B p l e s) l.marks (w p l) l.states (good p l e s))),
)
  where
    v : Lent → List ℕ
    v m = made_unallocated p l m ∷ went_over p l m ∷ swept_at_end p m ∷ []
