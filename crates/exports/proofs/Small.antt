-- Every word of sound tables is below 2^64, and so every call that finds such words leaves such words. Leans on `sound` as lists
-- of blocks, and on that calls keep tables sound. Assumes nothing.
use mathlib.Core.Path.{◌≡◌, sym, ap, ◌∙◌, subst}
use mathlib.Core.Logic.{◌⊎◌, inl, inr, ⊎_elim}
use mathlib.Core.Bool.{Bool, true, false, ◌&&◌, ◌||◌}
use mathlib.Core.List.{List, [], ◌∷◌, ◌++◌}
use Prim.Native.Nat.{ℕ, zero, suc, ◌+◌, ◌*◌, ◌/◌, ◌%◌, ◌^◌, ◌≤◌, ◌<◌}
use native.Mathlib.Omega.{arith}
use native.Mathlib.Nat.{div-le_self}
use native.Mathlib.Decide.{dec_lt, ℕ_discrete}
use lib.Dec.{eqb, leb}
use lib.ListN.{length, get_or, get_or-eq_default}
use borrow.Author.Tests.{eqb-true, leb-true}
use Rattle.model.specs.declared.Params.{Params}
use Rattle.model.specs.Base.{all_below, In}
use Rattle.model.specs.Params.{good_params, Lent, fits, word_count, heap_bytes, start, list_word}
use Rattle.model.specs.Tables.{Words, Tables, flat}
use Rattle.model.specs.Classes.{classes_fit}
use Rattle.model.specs.BlockList.{blocks_on}
use Rattle.model.specs.Block.{cell_count, is_cell}
use Rattle.model.specs.Global.{is_holder}
use Rattle.model.specs.Sound.{state_of, block_clear, link_ok, phase_known, flags_known, sound, eager_ok, chained, sound_on}
use Rattle.model.specs.Calls.{Call, plan, finish, step, Returned, tables_in, call}
use Rattle.laws.proofs.Base.{if_cases}
use Rattle.laws.proofs.Below.{test, and_left, and_right, and_three, and_five, or_cases, all_below_at}
use Rattle.laws.proofs.Params.{Bounds, good_bounds, start_end}
use Rattle.laws.proofs.Classes.{cell_bytes_most}
use Rattle.laws.proofs.Cells.{is_cell_whole, whole_is_cell, whole_to}
use Rattle.laws.proofs.ChainTest.{cells_few}
use Rattle.laws.proofs.Tables.{Sized, sized_view, flat_view}
use Rattle.soundness.proofs.Lists.{Seg, AllOn, on_list}
use Rattle.soundness.proofs.SoundLists.{Good, Fit, sound_good}
use Rattle.soundness.proofs.Flags.{Flags, sound_flags}
use Rattle.soundness.proofs.Kept.{Kept, Sound, kept_sound, step_sound}

abbrev pub Small : List ℕ → Type 0
Small ws = (i : ℕ) → get_or ws i 0 < 2 ^ 64

small_cons : (x : ℕ) (ws : List ℕ) → x < 2 ^ 64 → Small ws → Small (x ∷ ws)
small_cons x ws h f zero = h
small_cons x ws h f (suc i) = f i

small_append : (a b : List ℕ) → Small a → Small b → Small (a ++ b)
small_append [] b f g = g
small_append (x ∷ a) b f g = small_cons x (a ++ b) (f 0) (small_append a b (λ i. f (suc i)) g)

-- what lies past the end reads as 0
small_below : (ws : List ℕ) (n : ℕ) → length ws ≡ n → ((i : ℕ) → i < n → get_or ws i 0 < 2 ^ 64) → Small ws
small_below ws n e f i = go (dec_lt i n)
  where
    go : Dec (i < n) → get_or ws i 0 < 2 ^ 64
    go (yes l) = f i l
    go (no l) = let past : length ws ≤ i = omega (arith, e, l) in rw (get_or-eq_default ws 0 past) (omega arith)

module _ (p : Params) (B : Bounds p) (rows : classes_fit p ≡ true) where
  -- the links of a list lead to blocks of the heap
  start_small : (b : ℕ) → b < p.blocks → start p b ≤ 2 ^ 47
  start_small b h = omega (arith, start_end p B b h, B.end_high)

  pub record Links (w : Words) (last a : ℕ) (xs : List ℕ) : Type 0 where
    pub here : a ≤ 2 ^ 47
    pub end : last ≤ 2 ^ 47
    pub next : (b : ℕ) → In b xs → get_or w.next b 0 ≤ 2 ^ 47
    pub prev : (b : ℕ) → In b xs → get_or w.prev b 0 ≤ 2 ^ 47

  seg_links : (st : List ℕ) (w : Words) (word last before a : ℕ) (xs : List ℕ) → Seg p st w word last before a xs
      → before ≤ 2 ^ 47 → Links w last a xs
  unfolding Seg In
  seg_links st w word last before a [] s h =
      record { here = omega (arith, s.0); end = omega (arith, s.1, h); next = λ b m. absurd m; prev = λ b m. absurd m }
  seg_links st w word last before a (x ∷ xs) s h =
      let H = s.0 in
      let r = seg_links st w word last (start p x) (get_or w.next x 0) xs s.1 (start_small x H.low) in
      record {
        here = omega (arith, H.at, start_small x H.low);
        end = r.end;
        next = λ b m. ⊎_elim (λ e. subst (λ (y : ℕ). get_or w.next y 0 ≤ 2 ^ 47) (sym e) r.here) (λ i. r.next b i) m;
        prev = λ b m. ⊎_elim (λ e. subst (λ (y : ℕ). get_or w.prev y 0 ≤ 2 ^ 47) (sym e) (omega (arith, H.prev, h))) (λ i. r.prev b i) m;
      }

  -- the words of a block but its free count
  record Block (w : Words) (b : ℕ) : Type 0 where
    next : get_or w.next b 0 < 2 ^ 64
    prev : get_or w.prev b 0 < 2 ^ 64
    free : get_or w.free b 0 < 2 ^ 64
    size : get_or w.size b 0 < 2 ^ 64
    list : get_or w.list b 0 < 2 ^ 64
    tls : get_or w.tls b 0 < 2 ^ 64

  clear_small : (w : Words) (b : ℕ) → block_clear w b ≡ true → Block w b
  unfolding block_clear
  clear_small w b e =
      let n = eqb (get_or w.next b 0) 0 in
      let r = eqb (get_or w.prev b 0) 0 in
      let f = eqb (get_or w.free b 0) 0 in
      let s = eqb (get_or w.size b 0) 0 in
      let l = eqb (get_or w.list b 0) 0 in
      let t = eqb (get_or w.tls b 0) 0 in
      let h = and_five n r f s l (and_left (n && r && f && s && l) t (and_left (n && r && f && s && l && t) _ e)) in
      record {
        next = omega (arith, eqb-true (get_or w.next b 0) 0 h.0);
        prev = omega (arith, eqb-true (get_or w.prev b 0) 0 h.1);
        free = omega (arith, eqb-true (get_or w.free b 0) 0 h.2);
        size = omega (arith, eqb-true (get_or w.size b 0) 0 h.3);
        list = omega (arith, eqb-true (get_or w.list b 0) 0 h.4);
        tls = omega (arith, eqb-true (get_or w.tls b 0) 0 (and_right (n && r && f && s && l) t (and_left (n && r && f && s && l && t) _ e)));
      }

  link_small : (w : Words) (b a : ℕ) → b < p.blocks → 8 ≤ get_or w.size b 0 → link_ok p w b a ≡ true → a < 2 ^ 64
  unfolding link_ok
  link_small w b a low word e =
      ⊎_elim (λ q. omega (arith, eqb-true a 0 q))
      (λ q. omega (arith, whole_to p B b (get_or w.size b 0) a low (is_cell_whole p b (get_or w.size b 0) a word q), B.end_high))
      (or_cases (eqb a 0) (is_cell p b (get_or w.size b 0) a) e)

  holder_small : (h : ℕ) → is_holder h ≡ true → h < 2 ^ 64
  unfolding is_holder
  holder_small h e = omega (arith, leb-true h 8 (and_right (leb 1 h) (leb h 8) e))

  module _ (t : Tables) (G : Good p t (λ l. blocks_on p l t.words)) where
    list_links : (l : ℕ) → l < 1470 → Links t.words (get_or t.words.last l 0) (get_or t.words.first l 0) (blocks_on p l t.words)
    list_links l h = seg_links t.states t.words _ _ 0 _ _ (G.lists.seg l h) (omega arith)

    on_small : (l b : ℕ) → l < 1470 → In b (blocks_on p l t.words) → Block t.words b
    unfolding list_word
    on_small l b h m =
        let F : Fit p t l b = G.fit l b h m in
        let O = on_list p G.lists l b h m in
        let bin : l % 49 < 49 = omega arith in
        record {
          next = omega (arith, (list_links l h).next b m);
          prev = omega (arith, (list_links l h).prev b m);
          free = link_small t.words b _ O.low (omega (arith, F.word)) F.free;
          size = omega (arith, F.size, cell_bytes_most p B rows (l % 49) bin);
          list = omega (arith, O.names, h);
          tls = holder_small _ F.holder;
        }

    block_small : (b : ℕ) → b < p.blocks → Block t.words b
    unfolding AllOn state_of
    block_small b low = go (ℕ_discrete (get_or t.states b 0) 0)
      where
        go : Dec (get_or t.states b 0 ≡ 0) → Block t.words b
        go (yes e) = clear_small t.words b (G.clear b low e)
        go (no ne) = let i = G.on b low ne in on_small i.0 b i.1 i.2

  phase_small : (w : Words) → phase_known w ≡ true → w.phase < 2 ^ 64
  unfolding phase_known
  phase_small w e =
      ⊎_elim (λ q. ⊎_elim (λ r. omega (arith, eqb-true w.phase 0 r)) (λ r. omega (arith, eqb-true w.phase 1 r)) (or_cases (eqb w.phase 0) (eqb w.phase 1) q))
      (λ q. omega (arith, eqb-true w.phase 2 q)) (or_cases (eqb w.phase 0 || eqb w.phase 1) (eqb w.phase 2) e)

  abbrev zero_or_one : List ℕ → ℕ → Bool
  zero_or_one xs i = leb (get_or xs i 0) 1

  flags_small : (w : Words) → flags_known w ≡ true
      → ((i : ℕ) → i < 8 → get_or w.bound i 0 < 2 ^ 64) × ((i : ℕ) → i < 9 → get_or w.released i 0 < 2 ^ 64)
  unfolding flags_known
  flags_small w e =
      let a = all_below 8 (zero_or_one w.bound) in
      let b = all_below 9 (zero_or_one w.released) in (
        λ i l. omega (arith, leb-true (get_or w.bound i 0) 1 (all_below_at 8 (zero_or_one w.bound) (and_left a b e) i l)),
        λ i l. omega (arith, leb-true (get_or w.released i 0) 1 (all_below_at 9 (zero_or_one w.released) (and_right a b e) i l)),
      )

  -- a chain's cells are distinct whole cells of its block, so that there are no more of them than the block has bytes
  cells_small : (t : Tables) (h : List ℕ) (S : Sound p B t h) (b : ℕ) → b < p.blocks → get_or t.words.cells b 0 < 2 ^ 64
  unfolding cell_count
  cells_small t h S b low =
      let K = S.chains.blocks b low in
      let s : ℕ = get_or t.words.size b 0 in
      let few : length (get_or S.shadow b []) ≤ p.bytes / s = cells_few p h b s (get_or S.shadow b []) (λ x m. whole_is_cell p b s x (K.cells x m)) K.once in
      omega (arith, K.count, few, div-le_self p.bytes s, B.bytes_high)

  -- all words of sound tables
  pub sound_small : (t : Tables) (h : List ℕ) → Sound p B t h → Small (flat t.words)
  unfolding flat
  sound_small t h S =
      let K : Kept p B t = S.kept in
      let w : Words = t.words in
      let n : ℕ = p.blocks in
      let G = sound_good p B t K.passes in
      let F : Flags w = sound_flags p t K.passes in
      let Z : Sized n w = K.sized in
      let links = list_links t G in
      let b = block_small t G in
      let of_tls : List ℕ = w.tls ++ w.cells in
      let of_list : List ℕ = w.list ++ of_tls in
      let of_size : List ℕ = w.size ++ of_list in
      let of_free : List ℕ = w.free ++ of_size in
      let of_prev : List ℕ = w.prev ++ of_free in
      let of_next : List ℕ = w.next ++ of_prev in
      let of_released : List ℕ = w.released ++ of_next in
      let of_bound : List ℕ = w.bound ++ of_released in
      small_append w.first (w.last ++ (w.phase ∷ of_bound)) (small_below w.first 1470 Z.first (λ i l. omega (arith, (links i l).here)))
      (small_append w.last (w.phase ∷ of_bound) (small_below w.last 1470 Z.last (λ i l. omega (arith, (links i l).end)))
      (small_cons w.phase of_bound (phase_small w F.phase)
      (small_append w.bound of_released (small_below w.bound 8 Z.bound (flags_small w F.flags).0)
      (small_append w.released of_next (small_below w.released 9 Z.released (flags_small w F.flags).1)
      (small_append w.next of_prev (small_below w.next n Z.next (λ i l. (b i l).next))
      (small_append w.prev of_free (small_below w.prev n Z.prev (λ i l. (b i l).prev))
      (small_append w.free of_size (small_below w.free n Z.free (λ i l. (b i l).free))
      (small_append w.size of_list (small_below w.size n Z.size (λ i l. (b i l).size))
      (small_append w.list of_tls (small_below w.list n Z.list (λ i l. (b i l).list))
      (small_append w.tls w.cells (small_below w.tls n Z.tls (λ i l. (b i l).tls))
      (small_below w.cells n Z.cells (λ i l. cells_small t h S i l))))))))))))

-- ---- a call

-- on tables that aren't sound nothing is touched
unsound_step : (p : Params) (t : Tables) (h : List ℕ) (c : Call) → sound_on p t h ≡ false → (step p t h c).tables ≡ t
unfolding step plan finish
unsound_step p t h c e = rw e

module _ (p : Params) (l : Lent) (c : Call) (h : Small l.words) where
  fit_small : fits p l ≡ true → classes_fit p ≡ true → Small (flat (step p (tables_in l) l.heap c).tables.words)
  unfolding fits word_count
  fit_small f rows = go (test (sound_on p (tables_in l) l.heap))
    where
      r : (good_params p ≡ true) × (eqb (length l.words) (2958 + 7 * p.blocks) ≡ true) × (eqb (length l.states) p.blocks ≡ true)
          × (eqb (length l.marks) (heap_bytes p / 64) ≡ true) × (eqb (length l.heap) (heap_bytes p) ≡ true)
      r = and_five (good_params p) (eqb (length l.words) (2958 + 7 * p.blocks)) (eqb (length l.states) p.blocks) (eqb (length l.marks) (heap_bytes p / 64)) (eqb (length l.heap) (heap_bytes p)) f

      B : Bounds p
      B = good_bounds p r.0

      long : length l.words ≡ 2958 + 7 * p.blocks
      long = eqb-true _ _ r.1

      go : (sound_on p (tables_in l) l.heap ≡ true) ⊎ (sound_on p (tables_in l) l.heap ≡ false) → Small (flat (step p (tables_in l) l.heap c).tables.words)
      go (inl s) =
          let q = and_three (sound p (tables_in l)) (eager_ok p (tables_in l)) (chained p (tables_in l) l.heap) s in
          sound_small p B rows _ _ (step_sound p B rows (tables_in l) l.heap c
          (kept_sound p B (tables_in l) l.heap
          (record { sized = sized_view p.blocks l.words long; states = eqb-true _ _ r.2; passes = q.0 }) (eqb-true _ _ r.4) q.1 q.2))
      go (inr n) = subst Small (sym (ap (λ (t : Tables). flat t.words) (unsound_step p (tables_in l) l.heap c n) ∙ flat_view p.blocks l.words long)) h

  pub call_small : Small (call p l c).lent.words
  unfolding call
  call_small =
      if_cases (λ (x : Returned). Small x.lent.words) (fits p l)
      (λ e. if_cases (λ (x : Returned). Small x.lent.words) (classes_fit p) (λ k. fit_small e k) (λ k. h)) (λ e. h)
