-- Releases and abandoning keep tables good: blocks go from list to list with their words, or are released and clear, and every
-- list still links its blocks both ways. Assumes nothing.
use mathlib.Core.Path.{◌≡◌, refl, sym, ap, ◌∙◌, subst}
use mathlib.Core.Logic.{◌≢◌, ◌⊎◌, inl, inr, ⊎_elim}
use mathlib.Core.Bool.{true, false, not}
use mathlib.Core.List.{List, [], ◌∷◌, ◌++◌, append_assoc, append-nil}
use Prim.Native.Nat.{ℕ, suc, ◌-◌, ◌*◌, ◌/◌, ◌%◌, ◌<◌, ◌≤◌}
use native.Mathlib.Omega.{arith}
use native.Mathlib.Decide.{ℕ_discrete}
use lib.Dec.{eqb}
use lib.ListN.{length, get_or, set, length-set, get_or-eq_default}
use borrow.Author.Tests.{eq-eqb, ne_eqb}
use Rattle.model.specs.declared.Params.{Params}
use Rattle.model.specs.Base.{In, member, filter}
use Rattle.model.specs.Params.{start, block_at, list_word, local_sets}
use Rattle.model.specs.Tables.{Words, tables_of, set_next, set_prev, set_free, set_size, set_list, set_tls, set_cells}
use Rattle.model.specs.BlockList.{remove, append}
use Rattle.model.specs.Block.{state_unmarked, clear_block}
use Rattle.model.specs.Global.{abandon_blocks, Freed, freed, release_blocks, append_to, release_holder, sweep_later}
use Rattle.model.specs.Sound.{state_of, block_clear}
use Rattle.laws.proofs.Base.{not_both, or_none_left, or_none_right, in_append, in_append_left, in_append_right, filter_append}
use Rattle.laws.proofs.Params.{Bounds, some_start, block_at_start, word_same}
use Rattle.laws.proofs.Stores.{set_at, set_off}
use Rattle.laws.proofs.Tables.{Sized, sized_same, lengths, kept_lengths, by_lt}
use Rattle.laws.proofs.Frame.{LinksOnly, links_refl, append_links, remove_links}
use Rattle.laws.proofs.Walks.{Numbered, released_one, blocks_end, bins_keep, later_keeps, abandon_keeps}
use Rattle.laws.proofs.Pigeon.{Distinct}
use Rattle.soundness.proofs.Lists.{Seg, seg_short, Run, Lists, AllOn, Off, OnSome, put, put_same, put_other, put_all, put_in_lem, in_put, on_list, one_list, free_off, lists_distinct}
use Rattle.soundness.proofs.Removes.{without, in_without, without_in, without_none, remove_lists, remove_stays, append_lists, append_stays, clear_lists}
use Rattle.soundness.proofs.SoundLists.{Fit}
use Rattle.soundness.proofs.GoodTables.{GoodTables, SameWords, links_words, fit_moves, fit_same, clear_same}

-- ---- a list from some block on

-- the link a leads to the head of the list, or is 0 if there is none
unfoldable pub At : Params → ℕ → List ℕ → Type 0
At p a [] = a ≡ 0
At p a (x ∷ xs) = a ≡ start p x

seg_at : (p : Params) (st : List ℕ) (w : Words) (word last before a : ℕ) (xs : List ℕ) → Seg p st w word last before a xs → At p a xs
unfolding Seg At
seg_at p st w word last before a [] s = s.0
seg_at p st w word last before a (x ∷ xs) s = s.0.at

-- the next word of a block leads to what follows it
seg_next : (p : Params) (st : List ℕ) (w : Words) (word last before a : ℕ) (ys : List ℕ) (x : ℕ) (xs : List ℕ)
    → Seg p st w word last before a (ys ++ (x ∷ xs)) → At p (get_or w.next x 0) xs
unfolding Seg
seg_next p st w word last before a [] x xs s = seg_at p st w word last (start p x) (get_or w.next x 0) xs s.1
seg_next p st w word last before a (y ∷ ys) x xs s = seg_next p st w word last (start p y) (get_or w.next y 0) ys x xs s.1

-- in a list without repetition a block stands neither before nor behind itself
split_distinct : (ys : List ℕ) (x : ℕ) (xs : List ℕ) → Distinct (ys ++ (x ∷ xs)) → (member x ys ≡ false) × (member x xs ≡ false)
unfolding Distinct member
split_distinct [] x xs d = (refl, d.0)
split_distinct (y ∷ ys) x xs d =
    let h = split_distinct ys x xs d.1 in
    (rw (ne_eqb x y (apart ys d.0)) h.0, h.1)
  where
    apart : (zs : List ℕ) → member y (zs ++ (x ∷ xs)) ≡ false → x ≢ y
    apart [] e q = not_both (eqb y x) (eq-eqb y x (sym q)) (or_none_left (eqb y x) (member y xs) e)
    apart (z ∷ zs) e q = apart zs (or_none_right (eqb y z) (member y (zs ++ (x ∷ xs))) e) q

-- the list after one block is taken out
without_middle : (ys : List ℕ) (x : ℕ) (xs : List ℕ) → Distinct (ys ++ (x ∷ xs)) → without x (ys ++ (x ∷ xs)) ≡ ys ++ xs
unfolding without filter
without_middle ys x xs d =
    let h = split_distinct ys x xs d in
    filter_append (λ (z : ℕ). not (eqb z x)) ys (x ∷ xs)
    ∙ rw (eq-eqb x x refl) (ap (λ (k : List ℕ). k ++ without x xs) (without_none x ys h.0) ∙ ap (λ (k : List ℕ). ys ++ k) (without_none x xs h.1))

in_middle : (ys : List ℕ) (x : ℕ) (xs : List ℕ) → In x (ys ++ (x ∷ xs))
unfolding In
in_middle ys x xs = in_append_right x ys (x ∷ xs) (inl refl)

-- clearing a block keeps all lengths
cleared_lengths : (b : ℕ) (w : Words) → lengths (clear_block b w) ≡ lengths w
unfolding clear_block
cleared_lengths b w = simp kept_lengths

module _ (p : Params) (B : Bounds p) (ms : List ℕ) where
  -- ---- one append

  module _ (w : Words) (st : List ℕ) (H : GoodTables p ms w st) (l o : ℕ) (ll : l < 1470) (lo : o < 1470) (ne : l ≢ o)
      (bin : l % 49 ≡ o % 49) (owner : l < 1176 → o / 147 ≡ l / 147) where
    abbrev L : ℕ → List ℕ
    L = H.lists

    abbrev M : ℕ → List ℕ
    M = put o [] (put l (L l ++ L o) L)

    K : LinksOnly w (append p l o w)
    K = append_links p l o w (links_refl w)

    on_l : (b : ℕ) → In b (L l ++ L o) → OnSome M b
    on_l b i = (l, ll, rw (put_other o [] (put l (L l ++ L o) L) l ne, put_same l (L l ++ L o) L) i)

    on_of : (b m : ℕ) → m < 1470 → In b (L m) → Dec (m ≡ o) → Dec (m ≡ l) → OnSome M b
    on_of b m low i (yes e) d = on_l b (in_append_right b (L l) (L o) (subst (λ (x : ℕ). In b (L x)) e i))
    on_of b m low i (no f) (yes e) = on_l b (in_append_left b (L l) (L o) (subst (λ (x : ℕ). In b (L x)) e i))
    on_of b m low i (no f) (no g) = (m, low, rw (put_other o [] (put l (L l ++ L o) L) m f, put_other l (L l ++ L o) L m g) i)

    abbrev Fits : ℕ → ℕ → List ℕ → Type 0
    Fits b m xs = m < 1470 → In b xs → Fit p (tables_of (append p l o w) st ms) m b

    fit_of : (m b : ℕ) → Fits b m (M m)
    unfolding In
    fit_of m b =
        put_all o [] (put l (L l ++ L o) L) (Fits b) (λ h i. absurd i)
        (λ m f. put_all l (L l ++ L o) L (Fits b)
        (λ h i. ⊎_elim (λ x. fit_same p ms l b refl (links_words K b) (H.good.fit l b ll x))
        (λ x. fit_moves p ms o l b refl (links_words K b) bin owner (H.good.fit o b lo x)) (in_append b (L l) (L o) i))
        (λ k g h i. fit_same p ms k b refl (links_words K b) (H.good.fit k b h i)) m)
        m

    pub append_good : GoodTables p ms (append p l o w) st
    unfolding AllOn Off state_of
    append_good =
        record {
          lists = M;
          good = record {
            lists = append_lists p B st w H.sized L H.good.lists l o ll lo ne;
            on = λ b low occ. let m = H.good.on b low occ in on_of b m.0 m.1 m.2 (ℕ_discrete m.0 o) (ℕ_discrete m.0 l);
            fit = λ m b low i. fit_of m b low i;
            clear = λ b low e.
                let off = free_off p H.good.lists b e in
                clear_same b (append_stays p B st w H.sized L H.good.lists l o ll lo ne b (off l ll) (off o lo)) (links_words K b) (H.good.clear b low e);
          };
          sized = sized_same K.lengths H.sized;
          states = H.states;
        }

  -- by the places of the lists
  pub append_placed : (w : Words) (st : List ℕ) {l o i j bin : ℕ} → Numbered l i bin → Numbered o j bin → l ≢ o → (i < 8 → j ≡ i) → GoodTables p ms w st
      → GoodTables p ms (append p l o w) st
  append_placed w st {l} {o} {i} {j} P Q ne own H =
      append_good w st H l o P.low Q.low ne (P.bin ∙ sym Q.bin) (λ low. Q.owner ∙ own (few low P.owner) ∙ sym P.owner)
    where
      few : l < 1176 → l / 147 ≡ i → i < 8
      few low e = omega arith

  -- an owner's lists put behind another's, which is no holder
  pub abandon_good : (i j : ℕ) → i < 10 → j < 10 → i ≢ j → 8 ≤ i → (st : List ℕ) (w : Words) → GoodTables p ms w st → GoodTables p ms (abandon_blocks p (3 * i) (3 * j) w) st
  abandon_good i j li lj ne shared st =
      abandon_keeps p i j li lj (λ (x : Words). GoodTables p ms x st)
      (λ l o bin P Q w H. append_placed w st P Q (λ e. ne (sym P.owner ∙ ap (λ (x : ℕ). x / 147) e ∙ Q.owner)) (λ low. absurd (omega arith)) H)

  -- ---- one block released

  module _ (w : Words) (st : List ℕ) (H : GoodTables p ms w st) (l b : ℕ) (ll : l < 1470) (i : In b (H.lists l)) where
    abbrev Ls : ℕ → List ℕ
    Ls = H.lists

    abbrev Left : ℕ → List ℕ
    Left = put l (without b (Ls l)) Ls

    abbrev R : Words
    R = remove p l b w

    links : LinksOnly w R
    links = remove_links p l b w (links_refl w)

    ZR : Sized p.blocks R
    ZR = sized_same links.lengths H.sized

    lb : b < p.blocks
    lb = (on_list p H.good.lists l b ll i).low

    -- what is on a list after was there before, and is not b
    pub left_old : (m x : ℕ) → m < 1470 → In x (Left m) → In x (Ls m) × (x ≢ b)
    left_old m x low y = ⊎_elim
        (λ q. let z = in_without b x (Ls l) q.1 in (subst (λ (k : ℕ). In x (Ls k)) (sym q.0) z.0, z.1))
        (λ q. (q.1, λ e. q.0 (one_list p H.good.lists m l b low ll (subst (λ (k : ℕ). In k (Ls m)) e q.1) i)))
        (in_put l (without b (Ls l)) Ls m x y)

    -- the words of other blocks
    words_of : (x : ℕ) → x ≢ b → SameWords w (clear_block b R) x
    unfolding clear_block set_cells set_tls set_list set_size set_free set_prev set_next
    words_of x ne =
        let S = links_words links x in
        record {
          free = set_off R.free b 0 x ne ∙ S.free;
          size = set_off R.size b 0 x ne ∙ S.size;
          tls = set_off R.tls b 0 x ne ∙ S.tls;
          cells = set_off R.cells b 0 x ne ∙ S.cells;
        }

    clear_of : (x : ℕ) → x < p.blocks → get_or (set st b 0) x 0 ≡ 0 → Dec (x ≡ b) → block_clear (clear_block b R) x ≡ true
    unfolding Off state_of block_clear clear_block set_cells set_tls set_list set_size set_free set_prev set_next
    clear_of x low e (yes q) =
        rw (
          q,
          set_at R.next b 0 (omega (arith, lb, ZR.next)),
          set_at R.prev b 0 (omega (arith, lb, ZR.prev)),
          set_at R.free b 0 (omega (arith, lb, ZR.free)),
          set_at R.size b 0 (omega (arith, lb, ZR.size)),
          set_at R.list b 0 (omega (arith, lb, ZR.list)),
          set_at R.tls b 0 (omega (arith, lb, ZR.tls)),
          set_at R.cells b 0 (omega (arith, lb, ZR.cells)),
        )
    clear_of x low e (no f) =
        let s : get_or st x 0 ≡ 0 = sym (set_off st b 0 x f) ∙ e in
        let S = remove_stays p B st w H.sized Ls H.good.lists l b ll i x (free_off p H.good.lists x s l ll) in
        clear_same {st = st} x
        (record {
          occupied = λ o. o;
          next = set_off R.next b 0 x f ∙ S.next;
          prev = set_off R.prev b 0 x f ∙ S.prev;
          list = set_off R.list b 0 x f ∙ S.list;
        })
        (words_of x f) (H.good.clear x low s)

    pub released_lists : Lists p (set st b 0) (clear_block b R) Left
    unfolding Off
    released_lists = clear_lists p (remove_lists p B st w H.sized Ls H.good.lists l b ll i) b (λ m low x. (left_old m b low x).1 refl)

    pub release_good : GoodTables p ms (clear_block b R) (set st b 0)
    unfolding AllOn Off state_of
    release_good =
        record {
          lists = Left;
          good = record {
            lists = released_lists;
            on = λ x low occ.
                let ne : x ≢ b = λ e. occ (ap (λ (k : ℕ). get_or (set st b 0) k 0) e ∙ set_at st b 0 (omega (arith, lb, H.states))) in
                let m = H.good.on x low (rw (set_off st b 0 x ne) at occ) in
                (m.0, m.1, put_in_lem l (without b (Ls l)) Ls m.0 x (λ e. without_in b x (Ls l) (subst (λ (k : ℕ). In x (Ls k)) e m.2) ne) (λ f. m.2));
            fit = λ m x low y. let z = left_old m x low y in fit_same p ms m x (set_off st b 0 x z.1) (words_of x z.1) (H.good.fit m x low z.0);
            clear = λ x low e. clear_of x low e (ℕ_discrete x b);
          };
          sized = sized_same (cleared_lengths b R) ZR;
          states = length-set st b 0 ∙ H.states;
        }

  -- ---- a list released

  abbrev pub GoodBy : Freed → Type 0
  GoodBy f = GoodTables p ms f.words f.states

  -- no Unmarked block names the list l
  unfoldable pub Clean : ℕ → Freed → Type 0
  Clean l f = (b : ℕ) → get_or f.states b 0 ≡ state_unmarked → get_or f.words.list b 0 ≢ list_word l

  -- the walk stands at a: `done` are left behind and not Unmarked, `rest` are still to come, at most k
  pub record Walking (l k a : ℕ) (f : Freed) : Type 0 where
    pub good : GoodBy f
    pub done : List ℕ
    pub rest : List ℕ
    pub split : good.lists l ≡ done ++ rest
    pub at : At p a rest
    pub short : length rest ≤ k

  -- those left behind are not Unmarked
  abbrev Passed : {l k a : ℕ} {f : Freed} → Walking l k a f → Type 0
  Passed {l} {k} {a} {f} W = (x : ℕ) → In x W.done → get_or f.states x 0 ≢ state_unmarked

  pub record Step (l k a : ℕ) (f : Freed) (W : Walking l (suc k) a f) : Type 0 where
    pub block : ℕ
    pub is : block_at p a ≡ block
    pub on : In block (W.good.lists l)
    pub behind : List ℕ
    pub rest : W.rest ≡ block ∷ behind
    pub next : At p (get_or f.words.next block 0) behind
    pub left : without block (W.good.lists l) ≡ W.done ++ behind

  -- the block at which it stands
  pub stands_at : (l k a : ℕ) (f : Freed) (W : Walking l (suc k) a f) → l < 1470 → a ≢ 0 → Step l k a f W
  unfolding At
  stands_at l k a f W ll some = go W.rest refl
    where
      H : GoodBy f
      H = W.good

      go : (rest : List ℕ) → W.rest ≡ rest → Step l k a f W
      go [] q = absurd (some (subst (At p a) q W.at))
      go (x ∷ xs) q =
          let e : H.lists l ≡ W.done ++ (x ∷ xs) = W.split ∙ ap (λ (ys : List ℕ). W.done ++ ys) q in
          let here : In x (H.lists l) = rw e (in_middle W.done x xs) in
          record {
            block = x;
            is = ap (block_at p) (subst (At p a) q W.at) ∙ block_at_start p B x (on_list p H.good.lists l x ll here).low;
            on = here;
            behind = xs;
            rest = q;
            next = seg_next p f.states f.words _ _ 0 _ W.done x xs (subst (Run p f.states f.words l) e (H.good.lists.seg l ll));
            left = rw e (without_middle W.done x xs (subst Distinct e (lists_distinct p H.good.lists B l ll)));
          }

  -- it goes on by a block that stays
  pub walk_on : (l k a : ℕ) (f : Freed) (W : Walking l (suc k) a f) (S : Step l k a f W) → Walking l k (get_or f.words.next (block_at p a) 0) f
  walk_on l k a f W S =
      record {
        good = W.good;
        done = W.done ++ (S.block ∷ []);
        rest = S.behind;
        split = W.split ∙ ap (λ (ys : List ℕ). W.done ++ ys) S.rest ∙ sym (append_assoc W.done (S.block ∷ []) S.behind);
        at = rw S.is S.next;
        short = omega (arith, W.short, ap length S.rest);
      }

  -- or by one that is taken off the list
  pub walk_off : (l k a : ℕ) (f : Freed) (W : Walking l (suc k) a f) (S : Step l k a f W) (g : Freed) (G : GoodBy g)
      → G.lists l ≡ without S.block (W.good.lists l) → Walking l k (get_or f.words.next (block_at p a) 0) g
  walk_off l k a f W S g G e =
      record { good = G; done = W.done; rest = S.behind; split = e ∙ S.left; at = rw S.is S.next; short = omega (arith, W.short, ap length S.rest) }

  pub walk_start : (l : ℕ) (f : Freed) → l < 1470 → (H : GoodBy f) → Walking l p.blocks (get_or f.words.first l 0) f
  walk_start l f ll H =
      record {
        good = H;
        done = [];
        rest = H.lists l;
        split = refl;
        at = seg_at p f.states f.words _ _ 0 _ (H.lists l) (H.good.lists.seg l ll);
        short = seg_short p B f.states f.words _ _ 0 _ (H.lists l) (H.good.lists.seg l ll);
      }

  -- at its end it has left all behind
  walk_done : (l k a : ℕ) (f : Freed) (W : Walking l k a f) → l < 1470 → (k ≡ 0) ⊎ (a ≡ 0) → W.good.lists l ≡ W.done
  unfolding At
  walk_done l k a f W ll end = go W.rest refl end
    where
      go : (rest : List ℕ) → W.rest ≡ rest → (k ≡ 0) ⊎ (a ≡ 0) → W.good.lists l ≡ W.done
      go [] q e = W.split ∙ ap (λ (ys : List ℕ). W.done ++ ys) q ∙ append-nil W.done
      go (x ∷ xs) q (inl e) = absurd (omega (arith, W.short, e, ap length q))
      go (x ∷ xs) q (inr e) =
          let at : a ≡ start p x = subst (At p a) q W.at in
          let here : In x (W.good.lists l) = rw (W.split, q) (in_middle W.done x xs) in
          absurd (some_start p B x (on_list p W.good.good.lists l x ll here).low (sym at ∙ e))

  -- a block that is not Unmarked, or is not in use, is no Unmarked one after a release
  still_marked : (st : List ℕ) (b x : ℕ) → get_or st x 0 ≢ state_unmarked → get_or (set st b 0) x 0 ≢ state_unmarked
  still_marked st b x f = go (ℕ_discrete x b)
    where
      none : get_or (set st b 0) b 0 ≢ state_unmarked
      none e = by_lt b (length st) (λ low. omega (arith, sym (set_at st b 0 low) ∙ e))
          (λ far. omega (arith, sym (get_or-eq_default (set st b 0) 0 {n = b} (omega (arith, length-set st b 0))) ∙ e))

      go : Dec (x ≡ b) → get_or (set st b 0) x 0 ≢ state_unmarked
      go (yes e) = rw e none
      go (no g) = rw (set_off st b 0 x g) f

  -- if all blocks of the list are not Unmarked, no Unmarked block names it
  clean_list : (l : ℕ) (f : Freed) (H : GoodBy f) → l < 1470 → ((x : ℕ) → In x (H.lists l) → get_or f.states x 0 ≢ state_unmarked) → Clean l f
  unfolding Clean AllOn
  clean_list l f H ll all b u names =
      let occ : get_or f.states b 0 ≢ 0 = λ z. omega (arith, sym u ∙ z) in
      let low : b < p.blocks = by_lt b p.blocks (λ k. k) (λ far. absurd (occ (get_or-eq_default f.states 0 {n = b} (omega (arith, H.states))))) in
      let m = H.good.on b low occ in
      let same : m.0 ≡ l = word_same m.0 l (sym (on_list p H.good.lists m.0 b m.1 m.2).names ∙ names) in
      all b (subst (λ (k : ℕ). In b (H.lists k)) same m.2) u

  -- good tables are kept, and with them what each release of a block on the list keeps; no Unmarked block is left
  pub blocks_good_clean : (l bin o : ℕ) → Numbered l o bin → (P : Freed → Type 0)
      → ((f : Freed) (H : GoodBy f) (b : ℕ) → In b (H.lists l) → P f → P (released_one p l b f))
      → (f : Freed) → GoodBy f → P f → GoodBy (release_blocks p l f) × P (release_blocks p l f) × Clean l (release_blocks p l f)
  unfolding release_good In walk_on walk_off walk_start
  blocks_good_clean l bin o N P one f H q =
      blocks_end p l On
      (λ k a g W some u.
      let S = stands_at l k a g W.0 N.low some in
      let i : In (block_at p a) (W.0.good.lists l) = rw S.is S.on in
      let G : GoodBy (released_one p l (block_at p a) g) = release_good g.words g.states W.0.good l (block_at p a) N.low i in (
        walk_off l k a g W.0 S (released_one p l (block_at p a) g) G
            (put_same l (without (block_at p a) (W.0.good.lists l)) W.0.good.lists ∙ ap (λ (x : ℕ). without x (W.0.good.lists l)) S.is),
        (λ x m. still_marked g.states (block_at p a) x (W.1 x m)),
        one g W.0.good (block_at p a) i W.2,
      ))
      (λ k a g W some u.
      let S = stands_at l k a g W.0 N.low some in (
        walk_on l k a g W.0 S,
        (λ x m. ⊎_elim (W.1 x) (λ y. ⊎_elim (λ e. subst (λ (y : ℕ). get_or g.states y 0 ≢ state_unmarked) (S.is ∙ sym e) u) (λ z. absurd z) y) (in_append x W.0.done (S.block ∷ []) m)),
        W.2,
      ))
      (λ g. GoodBy g × P g × Clean l g)
      (λ k a g W end. (W.0.good, W.2, clean_list l g W.0.good N.low (λ x m. W.1 x (subst (In x) (walk_done l k a g W.0 N.low end) m))))
      f (walk_start l f N.low H, (λ x m. absurd m), q)
    where
      On : ℕ → ℕ → Freed → Type 0
      On k a g = (W : Walking l k a g) × Passed W × P g

  pub blocks_good_with : (l bin o : ℕ) → Numbered l o bin → (P : Freed → Type 0)
      → ((f : Freed) (H : GoodBy f) (b : ℕ) → In b (H.lists l) → P f → P (released_one p l b f))
      → (f : Freed) → GoodBy f → P f → GoodBy (release_blocks p l f) × P (release_blocks p l f)
  blocks_good_with l bin o N P one f H q = let R = blocks_good_clean l bin o N P one f H q in (R.0, R.1)

  blocks_good : (l bin o : ℕ) → Numbered l o bin → (f : Freed) → GoodBy f → GoodBy (release_blocks p l f)
  blocks_good l bin o N f H = (blocks_good_with l bin o N (λ g. Unit {0}) (λ g G b i u. tt) f H tt).0

  -- ---- rows of releases and appends

  pub to_good : (l o bin i : ℕ) → Numbered l i bin → Numbered o i bin → l ≢ o → (f : Freed) → GoodBy f → GoodBy (append_to p l o f)
  unfolding append_to
  to_good l o bin i P Q ne f H = append_placed f.words f.states P Q ne (λ low. refl) H

  -- a holder's release, and the shared one
  pub holder_good : (h : ℕ) → 1 ≤ h → h ≤ 8 → (w : Words) (st : List ℕ) → GoodTables p ms w st → GoodBy (release_holder p h w st)
  unfolding release_holder local_sets
  holder_good h lo hi w st H =
      abandon_good 9 (h - 1) (omega arith) (omega arith) (omega arith) (omega arith) _ _
      (bins_keep p (h - 1) (omega arith) GoodBy (λ l bin. blocks_good l bin (h - 1)) (λ l o bin. to_good l o bin (h - 1)) (freed w st) H)

  pub shared_good : (w : Words) (st : List ℕ) → GoodTables p ms w st → GoodBy (sweep_later p w st)
  unfolding sweep_later
  shared_good w st H = later_keeps p GoodBy (λ l bin. blocks_good l bin 8) (λ l o bin. to_good l o bin 8) (freed w st) H
