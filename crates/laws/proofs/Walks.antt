-- The walks of the machine, each taken apart by induction once: the search of an alloc, the release of a list's blocks, and the
-- rows of releases and appends. What holds before a walk and is kept by each of its steps holds after it. What is kept may speak
-- of words, states and the events so far, and so of heap, book and counts, which go by events. Assumes nothing.
use Rattle.std.specs.Prelude.{if◌then◌else◌, Option}
use Prim.Native.Nat.{ℕ, zero, suc, ◌*◌, ◌/◌, ◌%◌, ◌<◌}
use mathlib.Core.Path.{◌≡◌, refl, ap, ◌∙◌, subst}
use mathlib.Core.Bool.{true, ◌&&◌}
use mathlib.Core.Logic.{◌≢◌, ◌⊎◌, inl, inr, ⊎_elim}
use mathlib.Core.List.{List, [], ◌∷◌, ◌++◌, append_assoc, append-nil}
use native.Mathlib.Omega.{arith}
use lib.Dec.{eqb}
use lib.ListN.{get_or, set}
use borrow.Author.Tests.{eqb-true, eqb-false, eq-eqb, ne_eqb}
use Rattle.model.specs.declared.Params.{Params}
use Rattle.model.specs.declared.Block.{Block}
use Rattle.model.specs.Base.{each_below}
use Rattle.model.specs.Params.{block_at, list_of, local_sets, abandoned, in_gc, available, unswept, consumed, bins}
use Rattle.model.specs.Tables.{Words, Tables, set_tls}
use Rattle.model.specs.BlockList.{popped, push, pop, remove, append}
use Rattle.model.specs.Block.{state_unallocated, state_unmarked, swept_words, clear_block}
use Rattle.model.specs.Events.{Event, released, spent}
use Rattle.model.specs.FreeListAllocator.{find_free_block_with, Found, found, after, sweep_of, followed_by, recycle_local_blocks, acquire_abandoned, Search, in_found, acquire_fresh, find_block}
use Rattle.model.specs.Global.{abandon_bin, abandon_blocks, Freed, release_from, release_blocks, append_to, left_unswept, release_bin, sweep_later_bin, sweep_block, sweep_all, recycle_from, recycle_bin, recycle_blocks, swept_eagerly, is_last, eagerly}
use Rattle.laws.proofs.Base.{if_cases, Bool_cases, and_left}
use Rattle.laws.proofs.Frame.{each_keeps}

-- ---- list numbers

-- the list l is of the owner i and of the bin n
pub record Numbered (l i n : ℕ) : Type 0 where
  pub low : l < 1470
  pub bin : l % 49 ≡ n
  pub owner : l / 147 ≡ i

module _ (i bin : ℕ) (li : i < 10) (lb : bin < 49) where
  pub available_numbered : Numbered (available (3 * i) bin) i bin
  unfolding available list_of
  available_numbered = record { low = omega arith; bin = omega arith; owner = omega arith }

  pub unswept_numbered : Numbered (unswept (3 * i) bin) i bin
  unfolding unswept list_of
  unswept_numbered = record { low = omega arith; bin = omega arith; owner = omega arith }

  pub consumed_numbered : Numbered (consumed (3 * i) bin) i bin
  unfolding consumed list_of
  consumed_numbered = record { low = omega arith; bin = omega arith; owner = omega arith }

  pub unswept_consumed : unswept (3 * i) bin ≢ consumed (3 * i) bin
  unfolding unswept consumed list_of
  unswept_consumed e = omega (arith, e)

  pub available_consumed : available (3 * i) bin ≢ consumed (3 * i) bin
  unfolding available consumed list_of
  available_consumed e = omega (arith, e)

  pub unswept_available : unswept (3 * i) bin ≢ available (3 * i) bin
  unfolding unswept available list_of
  unswept_available e = omega (arith, e)

-- ---- the search of an alloc

zero_or : (a : ℕ) → (a ≡ 0) ⊎ (a ≢ 0)
zero_or a = ⊎_elim (λ y. inl (eqb-true a 0 y)) (λ z. inr (eqb-false a 0 z)) (Bool_cases (eqb a 0))

-- a pop of an empty list does nothing, and any other takes its head
pop_empty : (p : Params) (l : ℕ) (w : Words) → get_or w.first l 0 ≡ 0 → pop p l w ≡ popped 0 w
unfolding pop
pop_empty p l w e = rw (eq-eqb _ _ e)

pop_head_lem : (p : Params) (l : ℕ) (w : Words) → get_or w.first l 0 ≢ 0 → (pop p l w).at ≡ get_or w.first l 0
unfolding pop
pop_head_lem p l w f = rw (ne_eqb _ _ f)

-- On es w: the search is on, es happened so far and the words are w. Got es a w: it has found a block with a free cell, at a
module _ (p : Params) (ms : List ℕ) (h bin : ℕ) (On : List Event → Words → Type 0) (Got : List Event → ℕ → Words → Type 0) where
  abbrev Head : ℕ → Words → ℕ
  Head l w = get_or w.first l 0

  -- the block at a, taken out of its list, is filed as the holder's
  pub record Files (es : List Event) (a : ℕ) (w : Words) : Type 0 where
    pub full : get_or w.free (block_at p a) 0 ≡ 0 → On (es ++ (spent (block_at p a) ∷ [])) (push p (consumed (local_sets h) bin) (block_at p a) w)
    pub has : get_or w.free (block_at p a) 0 ≢ 0 → Got es a (push p (available (local_sets h) bin) (block_at p a) w)

  -- the steps: a full block of the available list moves, or one with a free cell is found; a block of the unswept list is swept
  -- and filed; an abandoned available or, where there is none, unswept block is taken over, swept in the second case, and filed
  pub record Steps : Type 0 where
    pub moved : (es : List Event) (w : Words) → On es w → Head (available (local_sets h) bin) w ≢ 0
        → get_or w.free (block_at p (Head (available (local_sets h) bin) w)) 0 ≡ 0
        → On (es ++ (spent (block_at p (Head (available (local_sets h) bin) w)) ∷ []))
        (push p (consumed (local_sets h) bin) (block_at p (Head (available (local_sets h) bin) w)) (pop p (available (local_sets h) bin) w).words)
    pub seen : (es : List Event) (w : Words) → On es w → Head (available (local_sets h) bin) w ≢ 0
        → get_or w.free (block_at p (Head (available (local_sets h) bin) w)) 0 ≢ 0 → Got es (Head (available (local_sets h) bin) w) w
    pub recycled : (es : List Event) (w : Words) → On es w → Head (unswept (local_sets h) bin) w ≢ 0
        → let a : ℕ = Head (unswept (local_sets h) bin) w in
        let u : Words = (pop p (unswept (local_sets h) bin) w).words in
        Files (es ++ (sweep_of p ms (block_at p a) u ∷ [])) a (swept_words p ms (block_at p a) u)
    pub over : (es : List Event) (w : Words) → On es w → Head (available abandoned bin) w ≢ 0
        → let a : ℕ = Head (available abandoned bin) w in
        Files es a (set_tls (block_at p a) h (pop p (available abandoned bin) w).words)
    pub swept : (es : List Event) (w : Words) → On es w → Head (available abandoned bin) w ≡ 0 → Head (unswept abandoned bin) w ≢ 0
        → let a : ℕ = Head (unswept abandoned bin) w in
        let u : Words = set_tls (block_at p a) h (pop p (unswept abandoned bin) w).words in
        Files (es ++ (sweep_of p ms (block_at p a) u ∷ [])) a (swept_words p ms (block_at p a) u)

  -- how a part of the search ends: nothing found and still on, or found
  abbrev Ended : List Event → ℕ → Words → Type 0
  Ended es a w = ((a ≡ 0) × On es w) ⊎ ((a ≢ 0) × Got es a w)

  module _ (S : Steps) where
    -- the end of a part whose events come behind es
    abbrev Behind : List Event → Found → Type 0
    Behind es f = Ended (es ++ f.events) f.at f.words

    none_behind : (es : List Event) (w : Words) → On es w → Behind es (found 0 w)
    none_behind es w o = inl (refl, rw append-nil o)

    after_behind : (es : List Event) (e : Event) (f : Found) → Behind (es ++ (e ∷ [])) f → Behind es (after e f)
    after_behind es e f b = subst (λ (x : List Event). Ended x f.at f.words) (append_assoc es (e ∷ []) f.events) b

    skim_ends : (k : ℕ) (es : List Event) (w : Words) → On es w
        → Behind es (find_free_block_with k p (available (local_sets h) bin) (consumed (local_sets h) bin) w)
    unfolding find_free_block_with
    skim_ends zero es w o = none_behind es w o
    skim_ends (suc k) es w o =
        if_cases (Behind es) (eqb (Head (available (local_sets h) bin) w) 0) (λ e. none_behind es w o)
        (λ e. if_cases (Behind es) (eqb (get_or w.free (block_at p (Head (available (local_sets h) bin) w)) 0) 0)
        (λ f. after_behind es _ _ (skim_ends k _ _ (S.moved es w o (eqb-false _ _ e) (eqb-true _ _ f))))
        (λ f. inr (eqb-false _ _ e, rw append-nil (S.seen es w o (eqb-false _ _ e) (eqb-false _ _ f)))))

    filed_behind : (es : List Event) (a : ℕ) (w : Words) (more : Words → Found) → a ≢ 0 → Files es a w
        → ((v : Words) → On (es ++ (spent (block_at p a) ∷ [])) v → Behind (es ++ (spent (block_at p a) ∷ [])) (more v))
        → Behind es (if eqb (get_or w.free (block_at p a) 0) 0 then after (spent (block_at p a)) (more (push p (consumed (local_sets h) bin) (block_at p a) w))
        else found a (push p (available (local_sets h) bin) (block_at p a) w))
    filed_behind es a w more some F ih =
        if_cases (Behind es) (eqb (get_or w.free (block_at p a) 0) 0) (λ e. after_behind es _ _ (ih _ (F.full (eqb-true _ _ e))))
        (λ e. inr (some, rw append-nil (F.has (eqb-false _ _ e))))

    recycle_ends : (k : ℕ) (es : List Event) (w : Words) → On es w → Behind es (recycle_local_blocks k p ms (local_sets h) bin w)
    unfolding recycle_local_blocks
    recycle_ends zero es w o = none_behind es w o
    recycle_ends (suc k) es w o =
        ⊎_elim (λ e. rw (pop_empty p (unswept (local_sets h) bin) w e) (none_behind es w o))
        (λ f. rw (pop_head_lem p (unswept (local_sets h) bin) w f, ne_eqb _ _ f)
        (after_behind es _ _ (filed_behind _ _ _ (λ u. recycle_local_blocks k p ms (local_sets h) bin u) f (S.recycled es w o f) (recycle_ends k _))))
        (zero_or (Head (unswept (local_sets h) bin) w))

    acquire_ends : (k : ℕ) (es : List Event) (w : Words) → On es w → Behind es (acquire_abandoned k p ms h bin w)
    unfolding acquire_abandoned
    acquire_ends zero es w o = none_behind es w o
    acquire_ends (suc k) es w o =
        ⊎_elim
        (λ e. rw (pop_empty p (available abandoned bin) w e)
        (⊎_elim (λ f. rw (pop_empty p (unswept abandoned bin) w f) (none_behind es w o))
        (λ f. rw (pop_head_lem p (unswept abandoned bin) w f, ne_eqb _ _ f)
        (after_behind es _ _ (filed_behind _ _ _ (λ u. acquire_abandoned k p ms h bin u) f (S.swept es w o e f) (acquire_ends k _))))
        (zero_or (Head (unswept abandoned bin) w))))
        (λ f. rw (pop_head_lem p (available abandoned bin) w f, ne_eqb _ _ f)
        (filed_behind es _ _ (λ u. acquire_abandoned k p ms h bin u) f (S.over es w o f) (acquire_ends k _)))
        (zero_or (Head (available abandoned bin) w))

-- what every pop, push, holder stored and sweep keeps of the words
pub plain_steps : (p : Params) (ms : List ℕ) (h bin : ℕ) (P : Words → Type 0) → ((l : ℕ) (w : Words) → P w → P (pop p l w).words)
    → ((l b : ℕ) (w : Words) → P w → P (push p l b w)) → ((b : ℕ) (w : Words) → P w → P (set_tls b h w)) → ((b : ℕ) (w : Words) → P w → P (swept_words p ms b w))
    → Steps p ms h bin (λ es w. P w) (λ es a w. P w)
plain_steps p ms h bin P out onto mine sweep =
    record {
      moved = λ es w o f e. onto _ _ _ (out _ w o);
      seen = λ es w o f e. o;
      recycled = λ es w o f. file _ (sweep _ _ (out _ w o));
      over = λ es w o f. file _ (mine _ _ (out _ w o));
      swept = λ es w o e f. file _ (sweep _ _ (mine _ _ (out _ w o)));
    }
  where
    file : {es : List Event} {a : ℕ} (w : Words) → P w → Files p ms h bin (λ es w. P w) (λ es a w. P w) es a w
    file w o = record { full = λ e. onto _ _ w o; has = λ e. onto _ _ w o }

-- the whole search: its end is an offer after nothing was found, or a block found
module _ (p : Params) (h bin : ℕ) (t : Tables) (On : List Event → Words → Type 0) (Got : List Event → ℕ → Words → Type 0)
    (S : Steps p t.marks h bin On Got) where
  pub find_keeps : (R : Search → Type 0) (offer : Option Block)
      → ((f : Found) → f.at ≡ 0 → On f.events f.words → R (acquire_fresh p h bin offer f t))
      → ((f : Found) → f.at ≢ 0 → Got f.events f.at f.words → R (in_found f t))
      → On [] t.words → R (find_block p h bin offer t)
  unfolding find_block
  find_keeps R offer none some o =
      ⊎_elim
      (λ x. rw (eq-eqb _ _ x.0) (⊎_elim
      (λ y. rw (eq-eqb _ _ y.0) (⊎_elim
      (λ z. rw (eq-eqb _ _ z.0) (none a z.0 z.1)) (λ z. rw (ne_eqb _ _ z.0) (some a z.0 z.1))
      (acquire_ends p t.marks h bin On Got S p.blocks f.events f.words y.1)))
      (λ y. rw (ne_eqb _ _ y.0) (some f y.0 y.1))
      (recycle_ends p t.marks h bin On Got S p.blocks g.events g.words x.1)))
      (λ x. rw (ne_eqb _ _ x.0) (some g x.0 x.1))
      (skim_ends p t.marks h bin On Got S p.blocks [] t.words o)
    where
      g : Found
      g = find_free_block_with p.blocks p (available (local_sets h) bin) (consumed (local_sets h) bin) t.words

      f : Found
      f = followed_by g (recycle_local_blocks p.blocks p t.marks (local_sets h) bin g.words)

      a : Found
      a = followed_by f (acquire_abandoned p.blocks p t.marks h bin f.words)

-- ---- a list's Unmarked blocks released

-- the block b of the list l is released, after what was done before
abbrev pub released_one : Params → ℕ → ℕ → Freed → Freed
released_one p l b f =
    record { words = clear_block b (remove p l b f.words); states = set f.states b state_unallocated; events = f.events ++ (released b ∷ []) }

-- On k a f: the walk stands at a, with at most k blocks to come, and has made f. It ends where none is to come or there is no block
module _ (p : Params) (l : ℕ) (On : ℕ → ℕ → Freed → Type 0)
    (one : (k a : ℕ) (f : Freed) → On (suc k) a f → a ≢ 0 → get_or f.states (block_at p a) 0 ≡ state_unmarked
    → On k (get_or f.words.next (block_at p a) 0) (released_one p l (block_at p a) f))
    (other : (k a : ℕ) (f : Freed) → On (suc k) a f → a ≢ 0 → get_or f.states (block_at p a) 0 ≢ state_unmarked
    → On k (get_or f.words.next (block_at p a) 0) f) where
  from_ends : (P : Freed → Type 0) → ((k a : ℕ) (f : Freed) → On k a f → (k ≡ 0) ⊎ (a ≡ 0) → P f) → (k a : ℕ) (f : Freed) → On k a f
      → let g : Freed = release_from k p l a f.words f.states in P (record { words = g.words; states = g.states; events = f.events ++ g.events })
  unfolding release_from
  from_ends P end zero a f o = rw append-nil (end zero a f o (inl refl))
  from_ends P end (suc k) a f o =
      if_cases Q (eqb a 0) (λ e. rw append-nil (end (suc k) a f o (inr (eqb-true _ _ e))))
      (λ e. if_cases Q (eqb (get_or f.states (block_at p a) 0) state_unmarked)
      (λ u. subst (λ (es : List Event). P (record { words = R.words; states = R.states; events = es })) (append_assoc f.events (released (block_at p a) ∷ []) R.events)
      (from_ends P end k (get_or f.words.next (block_at p a) 0) (released_one p l (block_at p a) f) (one k a f o (eqb-false _ _ e) (eqb-true _ _ u))))
      (λ u. from_ends P end k (get_or f.words.next (block_at p a) 0) f (other k a f o (eqb-false _ _ e) (eqb-false _ _ u))))
    where
      Q : Freed → Type 0
      Q g = P (record { words = g.words; states = g.states; events = f.events ++ g.events })

      R : Freed
      R = release_from k p l (get_or f.words.next (block_at p a) 0) (clear_block (block_at p a) (remove p l (block_at p a) f.words)) (set f.states (block_at p a) state_unallocated)

  pub blocks_end : (P : Freed → Type 0) → ((k a : ℕ) (f : Freed) → On k a f → (k ≡ 0) ⊎ (a ≡ 0) → P f) → (f : Freed)
      → On p.blocks (get_or f.words.first l 0) f → P (release_blocks p l f)
  unfolding release_blocks
  blocks_end P end f o = from_ends P end p.blocks (get_or f.words.first l 0) f o

-- where it does not matter why a block stays and why the walk ends
module _ (p : Params) (l : ℕ) (On : ℕ → ℕ → Freed → Type 0)
    (one : (k a : ℕ) (f : Freed) → On (suc k) a f → a ≢ 0 → get_or f.states (block_at p a) 0 ≡ state_unmarked
    → On k (get_or f.words.next (block_at p a) 0) (released_one p l (block_at p a) f))
    (other : (k a : ℕ) (f : Freed) → On (suc k) a f → a ≢ 0 → On k (get_or f.words.next (block_at p a) 0) f) where
  pub from_keeps : (P : Freed → Type 0) → ((k a : ℕ) (f : Freed) → On k a f → P f) → (k a : ℕ) (f : Freed) → On k a f
      → let g : Freed = release_from k p l a f.words f.states in P (record { words = g.words; states = g.states; events = f.events ++ g.events })
  from_keeps P end = from_ends p l On one (λ k a f o some u. other k a f o some) P (λ k a f o z. end k a f o)

  pub blocks_keep : (P : Freed → Type 0) → ((k a : ℕ) (f : Freed) → On k a f → P f) → (f : Freed)
      → On p.blocks (get_or f.words.first l 0) f → P (release_blocks p l f)
  unfolding release_blocks
  blocks_keep P end f o = from_keeps P end p.blocks (get_or f.words.first l 0) f o

-- where the place of the walk does not matter
pub blocks_keep_any : (p : Params) (l : ℕ) (P : Freed → Type 0)
    → ((b : ℕ) (f : Freed) → P f → get_or f.states b 0 ≡ state_unmarked → P (released_one p l b f)) → (f : Freed) → P f → P (release_blocks p l f)
blocks_keep_any p l P one f o =
    blocks_keep p l (λ k a g. P g) (λ k a g o f e. one (block_at p a) g o e) (λ k a g o f. o) P (λ k a g o. o) f o

-- ---- rows of releases and appends

-- what an append keeps is kept where nothing is appended, with the choice of eager sweeping
pub left_keeps : (p : Params) (P : Freed → Type 0) (l o : ℕ) (f : Freed) → P f → P (append_to p l o f) → P (left_unswept p l o f)
unfolding left_unswept
left_keeps p P l o f k a = if_cases P p.eager (λ e. k) (λ e. a)

-- nothing is then: a bin's release is that of its lists
module _ (p : Params) (on : p.eager ≡ true) where
  left_none : (l o : ℕ) (f : Freed) → left_unswept p l o f ≡ f
  unfolding left_unswept
  left_none l o f = rw on

  pub eager_bin : (owner bin : ℕ) (f : Freed) → release_bin p owner bin f ≡ release_blocks p (consumed owner bin) (release_blocks p (available owner bin) f)
  unfolding release_bin
  eager_bin owner bin f = left_none _ _ _ ∙ ap (release_blocks p (consumed owner bin)) (left_none _ _ _)

  pub eager_later : (bin : ℕ) (f : Freed) → sweep_later_bin p bin f
      ≡ release_blocks p (unswept abandoned bin) (release_blocks p (consumed abandoned bin) (release_blocks p (available abandoned bin) f))
  unfolding sweep_later_bin
  eager_later bin f = left_none _ _ _ ∙ left_none _ _ _

-- where the lists do not matter
module _ (p : Params) (P : Freed → Type 0) (blocks : (l : ℕ) (f : Freed) → P f → P (release_blocks p l f))
    (to : (l o : ℕ) (f : Freed) → P f → P (append_to p l o f)) where
  left_any : (l o : ℕ) (f : Freed) → P f → P (left_unswept p l o f)
  left_any l o f k = left_keeps p P l o f k (to l o f k)

  pub bins_keep_any : (owner : ℕ) (f : Freed) → P f → P (each_below bins (release_bin p owner) f)
  unfolding release_bin
  bins_keep_any owner = each_keeps P bins (release_bin p owner) (λ bin lb f o. left_any _ _ _ (blocks _ _ (left_any _ _ _ (blocks _ f o))))

  pub later_keeps_any : (f : Freed) → P f → P (each_below bins (sweep_later_bin p) f)
  unfolding sweep_later_bin
  later_keeps_any = each_keeps P bins (sweep_later_bin p) (λ bin lb f o. left_any _ _ _ (left_any _ _ _ (blocks _ _ (blocks _ _ (blocks _ f o)))))

-- where they are those of the owner i
module _ (p : Params) (i : ℕ) (li : i < 10) (P : Freed → Type 0)
    (blocks : (l bin : ℕ) → Numbered l i bin → (f : Freed) → P f → P (release_blocks p l f))
    (to : (l o bin : ℕ) → Numbered l i bin → Numbered o i bin → l ≢ o → (f : Freed) → P f → P (append_to p l o f)) where
  left_owner : (l o bin : ℕ) → Numbered l i bin → Numbered o i bin → l ≢ o → (f : Freed) → P f → P (left_unswept p l o f)
  left_owner l o bin u c ne f k = left_keeps p P l o f k (to l o bin u c ne f k)

  pub bins_keep : (f : Freed) → P f → P (each_below bins (release_bin p (3 * i)) f)
  unfolding release_bin
  bins_keep = each_keeps P bins (release_bin p (3 * i))
      (λ bin lb f o.
      let a = available_numbered i bin li lb in
      let u = unswept_numbered i bin li lb in
      let c = consumed_numbered i bin li lb in
      left_owner _ _ bin u c (unswept_consumed i bin li lb) _ (blocks _ bin c _ (left_owner _ _ bin u a (unswept_available i bin li lb) _ (blocks _ bin a f o))))

-- the abandoned ones
module _ (p : Params) (P : Freed → Type 0)
    (blocks : (l bin : ℕ) → Numbered l 8 bin → (f : Freed) → P f → P (release_blocks p l f))
    (to : (l o bin : ℕ) → Numbered l 8 bin → Numbered o 8 bin → l ≢ o → (f : Freed) → P f → P (append_to p l o f)) where
  left_later : (l o bin : ℕ) → Numbered l 8 bin → Numbered o 8 bin → l ≢ o → (f : Freed) → P f → P (left_unswept p l o f)
  left_later l o bin u c ne f k = left_keeps p P l o f k (to l o bin u c ne f k)

  pub later_keeps : (f : Freed) → P f → P (each_below bins (sweep_later_bin p) f)
  unfolding sweep_later_bin
  later_keeps = each_keeps P bins (sweep_later_bin p)
      (λ bin lb f o.
      let li : 8 < 10 = omega arith in
      let a = available_numbered 8 bin li lb in
      let u = unswept_numbered 8 bin li lb in
      let c = consumed_numbered 8 bin li lb in
      left_later _ _ bin u c (unswept_consumed 8 bin li lb) _ (left_later _ _ bin u a (unswept_available 8 bin li lb) _ (blocks _ bin u _ (blocks _ bin c _ (blocks _ bin a f o)))))

-- the lists of the owner j go behind those of the owner i, each behind the one of its kind
pub abandon_keeps : (p : Params) (i j : ℕ) → i < 10 → j < 10 → (P : Words → Type 0)
    → ((l o bin : ℕ) → Numbered l i bin → Numbered o j bin → (w : Words) → P w → P (append p l o w))
    → (w : Words) → P w → P (abandon_blocks p (3 * i) (3 * j) w)
unfolding abandon_blocks abandon_bin
abandon_keeps p i j li lj P to = each_keeps P bins (abandon_bin p (3 * i) (3 * j))
    (λ bin lb w o.
    to _ _ bin (unswept_numbered i bin li lb) (unswept_numbered j bin lj lb) _
    (to _ _ bin (consumed_numbered i bin li lb) (consumed_numbered j bin lj lb) _
    (to _ _ bin (available_numbered i bin li lb) (available_numbered j bin lj lb) w o)))

-- ---- the end of a collection with eager sweeping

-- one occupied block is swept, after what was done before
abbrev pub swept_one : Params → List ℕ → ℕ → Freed → Freed
swept_one p ms b f =
    record { words = swept_words p ms b f.words; states = f.states; events = f.events ++ (sweep_of p ms b f.words ∷ []) }

pub all_keeps : (p : Params) (ms : List ℕ) (P : Freed → Type 0)
    → ((b : ℕ) → b < p.blocks → (f : Freed) → P f → get_or f.states b 0 ≢ state_unallocated → P (swept_one p ms b f)) → (f : Freed) → P f → P (sweep_all p ms f)
unfolding sweep_all sweep_block
all_keeps p ms P one = each_keeps P p.blocks (sweep_block p ms)
    (λ b low f o. if_cases P (eqb (get_or f.states b 0) state_unallocated) (λ e. o) (λ e. one b low f o (eqb-false _ _ e)))

-- a consumed block with a free cell goes to available
abbrev pub recycled_one : Params → ℕ → ℕ → ℕ → Words → Words
recycled_one p avail full b w = push p avail b (remove p full b w)

-- On k a w: the walk stands at a, with at most k blocks to come, and has made w
module _ (p : Params) (avail full : ℕ) (On : ℕ → ℕ → Words → Type 0)
    (one : (k a : ℕ) (w : Words) → On (suc k) a w → a ≢ 0 → get_or w.free (block_at p a) 0 ≢ 0
    → On k (get_or w.next (block_at p a) 0) (recycled_one p avail full (block_at p a) w))
    (other : (k a : ℕ) (w : Words) → On (suc k) a w → a ≢ 0 → get_or w.free (block_at p a) 0 ≡ 0 → On k (get_or w.next (block_at p a) 0) w) where
  pub recycle_from_keeps : (P : Words → Type 0) → ((k a : ℕ) (w : Words) → On k a w → P w) → (k a : ℕ) (w : Words) → On k a w → P (recycle_from k p avail full a w)
  unfolding recycle_from
  recycle_from_keeps P end zero a w o = end zero a w o
  recycle_from_keeps P end (suc k) a w o =
      if_cases P (eqb a 0) (λ e. end (suc k) a w o)
      (λ e. if_cases P (eqb (get_or w.free (block_at p a) 0) 0)
      (λ f. recycle_from_keeps P end k (get_or w.next (block_at p a) 0) w (other k a w o (eqb-false _ _ e) (eqb-true _ _ f)))
      (λ f. recycle_from_keeps P end k (get_or w.next (block_at p a) 0) (recycled_one p avail full (block_at p a) w) (one k a w o (eqb-false _ _ e) (eqb-false _ _ f))))

-- where the place of the walk does not matter
pub recycle_keeps_any : (p : Params) (P : Words → Type 0) → ((avail full b : ℕ) (w : Words) → P w → P (recycled_one p avail full b w))
    → (owner : ℕ) (w : Words) → P w → P (recycle_blocks p owner w)
unfolding recycle_blocks recycle_bin
recycle_keeps_any p P one owner = each_keeps P bins (recycle_bin p owner)
    (λ bin lb w o. recycle_from_keeps p (available owner bin) (consumed owner bin) (λ k a v. P v) (λ k a v o' f e. one _ _ _ v o') (λ k a v o' f e. o') P (λ k a v o'. o') _ _ w o)

-- where the lists are those of the owner i: what the walk of each bin keeps
pub recycle_keeps : (p : Params) (i : ℕ) → i < 10 → (P : Words → Type 0)
    → ((avail full bin : ℕ) → Numbered avail i bin → Numbered full i bin → avail ≢ full → (w : Words) → P w
    → P (recycle_from p.blocks p avail full (get_or w.first full 0) w))
    → (w : Words) → P w → P (recycle_blocks p (3 * i) w)
unfolding recycle_blocks recycle_bin
recycle_keeps p i li P bin_keeps = each_keeps P bins (recycle_bin p (3 * i))
    (λ bin lb w o. bin_keeps _ _ bin (available_numbered i bin li lb) (consumed_numbered i bin li lb) (available_consumed i bin li lb) w o)

-- the whole end, which only the last part makes and only with the choice on
pub eagerly_keeps : (p : Params) (ms : List ℕ) (part : ℕ) (P : Freed → Type 0) → ((f : Freed) → P f → p.eager ≡ true → P (sweep_all p ms f))
    → ((f : Freed) (owner : ℕ) → P f → p.eager ≡ true → ((owner ≡ abandoned) ⊎ (owner ≡ in_gc)) → P (record { words = recycle_blocks p owner f.words; states = f.states; events = f.events }))
    → (f : Freed) → P f → P (eagerly p ms part f)
unfolding eagerly swept_eagerly
eagerly_keeps p ms part P all again f o =
    if_cases P (p.eager && is_last part f.words)
    (λ e. let on : p.eager ≡ true = and_left p.eager (is_last part f.words) e in
    again _ in_gc (again _ abandoned (all f o on) on (inl refl)) on (inr refl))
    (λ e. o)
