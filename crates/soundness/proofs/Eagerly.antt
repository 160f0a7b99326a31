-- The end of a collection with eager sweeping keeps tables good: a sweep stores a free head and a count, and a consumed block with a
-- free cell is taken off its list and pushed on the available one of its owner and bin. So each block stays with its owner and in its
-- bin, and unswept lists that were empty stay so. Assumes nothing.
use mathlib.Core.Path.{◌≡◌, refl, sym, ap, ◌∙◌, subst}
use mathlib.Core.Logic.{◌≢◌, ◌⊎◌, inl, inr}
use mathlib.Core.List.{List, ◌∷◌}
use Prim.Native.Nat.{ℕ, ◌+◌, ◌-◌, ◌*◌, ◌/◌, ◌%◌, ◌<◌, ◌≤◌}
use native.Mathlib.Omega.{arith}
use native.Mathlib.Decide.{ℕ_discrete}
use lib.ListN.{get_or}
use Rattle.model.specs.declared.Params.{Params}
use Rattle.model.specs.Base.{In}
use Rattle.model.specs.Params.{start, block_at, list_of, list_word, abandoned, in_gc, available, unswept, consumed, bins}
use Rattle.model.specs.Memory.{marked}
use Rattle.model.specs.Tables.{Words, tables_of, set_free, set_cells}
use Rattle.model.specs.BlockList.{push, remove, append}
use Rattle.model.specs.Block.{keeps, sweep_chain, swept_words}
use Rattle.model.specs.Global.{Freed, freed, recycle_bin, recycle_blocks, eagerly}
use Rattle.model.specs.Sound.{state_of, list_named}
use Rattle.laws.proofs.Params.{Bounds}
use Rattle.laws.proofs.Stores.{set_at, set_off}
use Rattle.laws.proofs.Tables.{sized_same, kept_lengths}
use Rattle.laws.proofs.Frame.{LinksOnly, links_refl, push_links, remove_links, each_keeps, FirstsBut, push_list, push_first, append_first, append_none, remove_first}
use Rattle.laws.proofs.Walks.{Numbered, available_numbered, consumed_numbered, available_consumed, recycled_one, swept_one, all_keeps, recycle_from_keeps, eagerly_keeps}
use Rattle.soundness.proofs.Lists.{AllOn, Off, put, put_same, put_other, put_in_lem, on_list, free_off}
use Rattle.soundness.proofs.Removes.{without, without_in, words_same, remove_lists, remove_stays}
use Rattle.soundness.proofs.SoundLists.{Fit}
use Rattle.soundness.proofs.GoodTables.{GoodTables, links_words, fit_moves, fit_same, clear_same}
use Rattle.soundness.proofs.Release.{GoodBy, Walking, stands_at, walk_on, walk_off, walk_start, left_old}
use Rattle.soundness.proofs.Alloc.{Out, file_good, chain_link, take_good}

-- ---- where blocks are

-- each block is on a list of the owner and the bin that it was on
pub record Named (w u : Words) : Type 0 where
  pub owner : (b : ℕ) → list_named u b / 147 ≡ list_named w b / 147
  pub bin : (b : ℕ) → list_named u b % 49 ≡ list_named w b % 49

pub named_refl : (w : Words) → Named w w
named_refl w = record { owner = λ b. refl; bin = λ b. refl }

-- ---- unswept lists

-- none has a block
unfoldable pub Settled : Words → Type 0
Settled w = (l : ℕ) → l / 49 % 3 ≡ 1 → get_or w.first l 0 ≡ 0

pub available_kind : (i bin : ℕ) → bin < 49 → available (3 * i) bin / 49 % 3 ≢ 1
unfolding available list_of
available_kind i bin lb e = omega (arith, e)

pub consumed_kind : (i bin : ℕ) → bin < 49 → consumed (3 * i) bin / 49 % 3 ≢ 1
unfolding consumed list_of
consumed_kind i bin lb e = omega (arith, e)

pub unswept_kind : (i bin : ℕ) → bin < 49 → unswept (3 * i) bin / 49 % 3 ≡ 1
unfolding unswept list_of
unswept_kind i bin lb = omega arith

-- a list of another kind
other_kind : (l m : ℕ) → l / 49 % 3 ≢ 1 → m / 49 % 3 ≡ 1 → m ≢ l
other_kind l m f e q = f (ap (λ (x : ℕ). x / 49 % 3) (sym q) ∙ e)

pub settled_firsts : (w u : Words) (l o : ℕ) → l / 49 % 3 ≢ 1 → o / 49 % 3 ≢ 1 → FirstsBut l o w u → Settled w → Settled u
unfolding Settled FirstsBut
settled_firsts w u l o fl fo F S m e = F m (other_kind l m fl e) (other_kind o m fo e) ∙ S m e

module _ (p : Params) where
  pub push_settled : (l b : ℕ) (w : Words) → l / 49 % 3 ≢ 1 → Settled w → Settled (push p l b w)
  unfolding FirstsBut
  push_settled l b w f =
      settled_firsts w (push p l b w) l l f f
      (λ m g h. ap (λ (x : List ℕ). get_or x m 0) (push_first p l b w) ∙ set_off w.first l (start p b) m g)

  pub remove_settled : (l b : ℕ) (w : Words) → l / 49 % 3 ≢ 1 → Settled w → Settled (remove p l b w)
  remove_settled l b w f = settled_firsts w (remove p l b w) l l f f (remove_first p l b w)

  -- a list is put behind one of its kind
  pub append_settled : (l o : ℕ) (w : Words) → l / 49 % 3 ≡ o / 49 % 3 → Settled w → Settled (append p l o w)
  unfolding Settled
  append_settled l o w e S = go (ℕ_discrete (o / 49 % 3) 1)
    where
      go : Dec (o / 49 % 3 ≡ 1) → Settled (append p l o w)
      go (yes q) = rw (append_none p l o w (S o q)) S
      go (no f) = settled_firsts w (append p l o w) l o (λ q. f (sym e ∙ q)) f (append_first p l o w) S

module _ (p : Params) (B : Bounds p) (ms : List ℕ) where
  -- ---- one block swept

  swept_good : (w : Words) (st : List ℕ) (b : ℕ) → b < p.blocks → get_or st b 0 ≢ 0 → GoodTables p ms w st → GoodTables p ms (swept_words p ms b w) st
  unfolding swept_words sweep_chain AllOn state_of
  swept_good w st b low occ H =
      record {
        lists = H.lists;
        good = take_good p (tables_of w st ms) H.lists H.sized H.good b _ _ low occ
            (chain_link p w b (get_or w.size b 0) _ (keeps p (marked p ms) (get_or w.size b 0)) word refl refl);
        sized = sized_same (simp kept_lengths) H.sized;
        states = H.states;
      }
    where
      word : 8 ≤ get_or w.size b 0
      word = let m = H.good.on b low occ in (H.good.fit m.0 b m.1 m.2).word

  -- ---- one block put from a list to another of its owner and bin

  module _ (w : Words) (st : List ℕ) (H : GoodTables p ms w st) (avail full i bin b : ℕ) (A : Numbered avail i bin) (C : Numbered full i bin)
      (ne : avail ≢ full) (on : In b (H.lists full)) where
    abbrev L : ℕ → List ℕ
    L = H.lists

    abbrev Left : ℕ → List ℕ
    Left = put full (without b (L full)) L

    abbrev R : Words
    R = remove p full b w

    links : LinksOnly w R
    links = remove_links p full b w (links_refl w)

    removed_out : Out p (tables_of R st ms) Left b
    unfolding AllOn Off state_of
    removed_out =
        let here = on_list p H.good.lists full b C.low on in
        record {
          low = here.low;
          occupied = here.occupied;
          lists = remove_lists p B st w H.sized L H.good.lists full b C.low on;
          off = λ m lm x. (left_old p B ms w st H full b C.low on m b lm x).1 refl;
          on = λ x lx ox f.
              let m = H.good.on x lx ox in
              (m.0, m.1, put_in_lem full (without b (L full)) L m.0 x (λ e. without_in b x (L full) (subst (λ (k : ℕ). In x (L k)) e m.2) f) (λ g. m.2));
          fit = λ m x lm y.
              fit_same p ms m x refl (links_words links x) (H.good.fit m x lm (left_old p B ms w st H full b C.low on m x lm y).0);
          clear = λ x lx z.
              clear_same x (remove_stays p B st w H.sized L H.good.lists full b C.low on x (free_off p H.good.lists x z full C.low))
              (links_words links x) (H.good.clear x lx z);
        }

    moved_fit : Fit p (tables_of R st ms) avail b
    moved_fit = fit_moves p ms full avail b refl (links_words links b) (A.bin ∙ sym C.bin) (λ low. C.owner ∙ sym A.owner) (H.good.fit full b C.low on)

    recycled_good : GoodTables p ms (recycled_one p avail full b w) st
    recycled_good =
        record {
          lists = put avail (b ∷ Left avail) Left;
          good = file_good p B st ms R (sized_same links.lengths H.sized) Left b avail removed_out A.low moved_fit;
          sized = sized_same (push_links p avail b R links).lengths H.sized;
          states = H.states;
        }

    recycled_left : put avail (b ∷ Left avail) Left full ≡ without b (L full)
    recycled_left = put_other avail (b ∷ Left avail) Left full (λ e. ne (sym e)) ∙ put_same full (without b (L full)) L

    -- the list words after
    recycled_word : (x : ℕ) → Dec (x ≡ b) → ((list_named (recycled_one p avail full b w) x ≡ avail) × (list_named w x ≡ full))
        ⊎ (list_named (recycled_one p avail full b w) x ≡ list_named w x)
    unfolding list_named list_word
    recycled_word x (yes e) =
        let here = on_list p H.good.lists full b C.low on in
        let is : get_or (recycled_one p avail full b w).list b 0 ≡ 1 + avail =
        ap (λ (y : List ℕ). get_or y b 0) (push_list p avail b R)
        ∙ set_at R.list b (1 + avail) (omega (arith, here.low, (sized_same links.lengths H.sized).list)) in
        let was : get_or w.list b 0 ≡ 1 + full = here.names in
        inl (rw e (omega (arith, is)), rw e (omega (arith, was)))
    recycled_word x (no f) =
        inr (ap (λ (y : ℕ). y - 1)
        (ap (λ (y : List ℕ). get_or y x 0) (push_list p avail b R) ∙ set_off R.list b (list_word avail) x f
        ∙ words_same p B st w H.sized L H.good.lists full b C.low on x))

    recycled_named : Named w (recycled_one p avail full b w)
    recycled_named = record { owner = λ x. owner x (recycled_word x (ℕ_discrete x b)); bin = λ x. same_bin x (recycled_word x (ℕ_discrete x b)) }
      where
        owner : (x : ℕ) → ((list_named (recycled_one p avail full b w) x ≡ avail) × (list_named w x ≡ full)) ⊎ (list_named (recycled_one p avail full b w) x ≡ list_named w x)
            → list_named (recycled_one p avail full b w) x / 147 ≡ list_named w x / 147
        owner x (inl q) = rw (q.0, q.1) (A.owner ∙ sym C.owner)
        owner x (inr q) = ap (λ (y : ℕ). y / 147) q

        same_bin : (x : ℕ) → ((list_named (recycled_one p avail full b w) x ≡ avail) × (list_named w x ≡ full)) ⊎ (list_named (recycled_one p avail full b w) x ≡ list_named w x)
            → list_named (recycled_one p avail full b w) x % 49 ≡ list_named w x % 49
        same_bin x (inl q) = rw (q.0, q.1) (A.bin ∙ sym C.bin)
        same_bin x (inr q) = ap (λ (y : ℕ). y % 49) q

  -- ---- an owner's consumed lists gone through

  record Recycled (w₀ : Words) (st : List ℕ) (w : Words) : Type 0 where
    named : Named w₀ w
    settled : Settled w₀ → Settled w

  recycle_good : (i : ℕ) → i < 10 → (w₀ : Words) (st : List ℕ) (w : Words) → GoodTables p ms w st × Recycled w₀ st w
      → GoodTables p ms (recycle_blocks p (3 * i) w) st × Recycled w₀ st (recycle_blocks p (3 * i) w)
  unfolding recycle_blocks recycle_bin recycled_good
  recycle_good i li w₀ st =
      each_keeps (λ w. GoodTables p ms w st × Recycled w₀ st w) bins (recycle_bin p (3 * i))
      (λ bin lb w X.
      let avail = available (3 * i) bin in
      let full = consumed (3 * i) bin in
      let A = available_numbered i bin li lb in
      let C = consumed_numbered i bin li lb in
      let ne = available_consumed i bin li lb in
      recycle_from_keeps p avail full (λ k a v. Walking p B ms full k a (freed v st) × Recycled w₀ st v)
      (λ k a v W some has.
      let S = stands_at p B ms full k a (freed v st) W.0 C.low some in
      let H : GoodTables p ms v st = W.0.good in
      let on : In (block_at p a) (H.lists full) = rw S.is S.on in
      let b : ℕ = block_at p a in
      let N = recycled_named v st H avail full i bin b A C ne on in (
        walk_off p B ms full k a (freed v st) W.0 S (freed (recycled_one p avail full b v) st) (recycled_good v st H avail full i bin b A C ne on)
            (recycled_left v st H avail full i bin b A C ne on ∙ ap (λ (x : ℕ). without x (H.lists full)) S.is),
        record {
          named = record { owner = λ x. N.owner x ∙ W.1.named.owner x; bin = λ x. N.bin x ∙ W.1.named.bin x };
          settled = λ s. push_settled p avail b (remove p full b v) (available_kind i bin lb) (remove_settled p full b v (consumed_kind i bin lb) (W.1.settled s));
        },
      ))
      (λ k a v W some none. (walk_on p B ms full k a (freed v st) W.0 (stands_at p B ms full k a (freed v st) W.0 C.low some), W.1))
      (λ v. GoodTables p ms v st × Recycled w₀ st v) (λ k a v W. (W.0.good, W.1)) p.blocks (get_or w.first full 0) w
      (walk_start p B ms full (freed w st) C.low X.0, X.1))

  -- ---- the whole end

  pub record EndedGood (f g : Freed) : Type 0 where
    pub good : GoodBy p B ms g
    pub named : Named f.words g.words
    pub settled : Settled f.words → Settled g.words

  pub eagerly_good : (part : ℕ) (f : Freed) → GoodBy p B ms f → EndedGood f (eagerly p ms part f)
  unfolding swept_words set_free set_cells list_named Settled
  eagerly_good part f H =
      eagerly_keeps p ms part (EndedGood f)
      (λ g E on. all_keeps p ms (EndedGood f) one g E) (λ g owner E on which. again g owner E which) f
      (record { good = H; named = named_refl f.words; settled = λ s. s })
    where
      one : (b : ℕ) → b < p.blocks → (g : Freed) → EndedGood f g → get_or g.states b 0 ≢ 0 → EndedGood f (swept_one p ms b g)
      one b low g E occ =
          record {
            good = swept_good g.words g.states b low occ E.good;
            named = record { owner = E.named.owner; bin = E.named.bin };
            settled = E.settled;
          }

      of : (i : ℕ) → i < 10 → (g : Freed) → EndedGood f g → EndedGood f (record { words = recycle_blocks p (3 * i) g.words; states = g.states; events = g.events })
      of i li g E =
          let X = recycle_good i li f.words g.states g.words (E.good, record { named = E.named; settled = E.settled }) in
          record { good = X.0; named = X.1.named; settled = X.1.settled }

      again : (g : Freed) (owner : ℕ) → EndedGood f g → (owner ≡ abandoned) ⊎ (owner ≡ in_gc)
          → EndedGood f (record { words = recycle_blocks p owner g.words; states = g.states; events = g.events })
      again g owner E (inl e) = rw e (of 8 (omega arith) g E)
      again g owner E (inr e) = rw e (of 9 (omega arith) g E)
