-- What calls leave of the words that are no block's: phase, bound holders, released marks, lengths, and the firsts of lists of
-- other owners. The owner of the list l is l / 147: 0 to 7 the holders 1 to 8, 8 abandoned, 9 in-gc. Assumes nothing.
use Rattle.std.specs.Prelude.{if◌then◌else◌}
use mathlib.Core.Path.{◌≡◌, refl, sym, ap, ◌∙◌}
use mathlib.Core.Logic.{◌≢◌, ◌⊎◌, inl, inr, ⊎_elim}
use mathlib.Core.Bool.{Bool, true, false}
use mathlib.Core.List.{List}
use Prim.Native.Nat.{ℕ, zero, suc, ◌-◌, ◌*◌, ◌/◌, ◌%◌, ◌≤◌, ◌<◌}
use native.Mathlib.Omega.{arith}
use native.Mathlib.Decide.{ℕ_discrete}
use lib.Dec.{eqb}
use lib.ListN.{get_or}
use borrow.Author.Tests.{eq-eqb, ne_eqb}
use Rattle.model.specs.declared.Params.{Params}
use Rattle.model.specs.Base.{each_below}
use Rattle.model.specs.Params.{start, block_at, list_of, local_sets, abandoned, in_gc, available, unswept, consumed, bins}
use Rattle.model.specs.Tables.{Words, set_next, set_prev, set_free, set_size, set_list, set_tls, set_cells, set_phase, set_released}
use Rattle.model.specs.BlockList.{push, pop, remove, append}
use Rattle.model.specs.Block.{clear_block, swept_words}
use Rattle.model.specs.Global.{abandon_bin, abandon_blocks, Freed, freed, release_blocks, append_to, release_bin, release_holder, sweep_later, recycle_blocks, eagerly, phase_running, has_released, is_bound, all_released, is_last, part_released}
use Rattle.laws.proofs.Stores.{set_off}
use Rattle.laws.proofs.Tables.{Sized, sized_same, lengths, kept_lengths}
pub use Rattle.laws.proofs.Walks.{Numbered, available_numbered, unswept_numbered, consumed_numbered, unswept_consumed, unswept_available}
use Rattle.laws.proofs.Walks.{blocks_keep_any, bins_keep, later_keeps, abandon_keeps, all_keeps, recycled_one, recycle_from_keeps, recycle_keeps, recycle_keeps_any, eagerly_keeps}
use Rattle.laws.proofs.Frame.{LinksOnly, links_refl, push_links, pop_links, append_links, remove_links, each_keeps, FirstsBut, push_first, pop_firsts, append_first, remove_first, append_empties}

-- ---- list numbers

-- a list of an owner that is neither available nor consumed is unswept
pub third_list : (j bin m : ℕ) → m / 147 ≡ j → m % 49 ≡ bin → m ≢ available (3 * j) bin → m ≢ consumed (3 * j) bin → m ≡ unswept (3 * j) bin
unfolding available consumed unswept list_of
third_list j bin m em e na nc = omega (arith, na, nc)

-- ---- the frame

-- all that stays where lists of the owners j and k alone change
pub record Framed (j k : ℕ) (w w' : Words) : Type 0 where
  pub phase : w'.phase ≡ w.phase
  pub bound : w'.bound ≡ w.bound
  pub released : w'.released ≡ w.released
  pub lengths : lengths w' ≡ lengths w
  pub first : (m : ℕ) → m / 147 ≢ j → m / 147 ≢ k → get_or w'.first m 0 ≡ get_or w.first m 0

pub framed_refl : {j k : ℕ} (w : Words) → Framed j k w w
framed_refl w = record { phase = refl; bound = refl; released = refl; lengths = refl; first = λ m f g. refl }

pub framed_trans : {j k : ℕ} {t u v : Words} → Framed j k t u → Framed j k u v → Framed j k t v
framed_trans a b =
    record {
      phase = b.phase ∙ a.phase;
      bound = b.bound ∙ a.bound;
      released = b.released ∙ a.released;
      lengths = b.lengths ∙ a.lengths;
      first = λ m f g. b.first m f g ∙ a.first m f g;
    }

-- stores into words of a block that are no links, and into all of them
pub free_framed : {j k : ℕ} (b v : ℕ) (w : Words) → Framed j k w (set_free b v w)
unfolding set_free
free_framed b v w = record { phase = refl; bound = refl; released = refl; lengths = simp kept_lengths; first = λ m f g. refl }

pub size_framed : {j k : ℕ} (b v : ℕ) (w : Words) → Framed j k w (set_size b v w)
unfolding set_size
size_framed b v w = record { phase = refl; bound = refl; released = refl; lengths = simp kept_lengths; first = λ m f g. refl }

pub tls_framed : {j k : ℕ} (b v : ℕ) (w : Words) → Framed j k w (set_tls b v w)
unfolding set_tls
tls_framed b v w = record { phase = refl; bound = refl; released = refl; lengths = simp kept_lengths; first = λ m f g. refl }

pub cells_framed : {j k : ℕ} (b v : ℕ) (w : Words) → Framed j k w (set_cells b v w)
unfolding set_cells
cells_framed b v w = record { phase = refl; bound = refl; released = refl; lengths = simp kept_lengths; first = λ m f g. refl }

cleared_framed : {j k : ℕ} (b : ℕ) (w : Words) → Framed j k w (clear_block b w)
unfolding clear_block set_cells set_tls set_list set_size set_free set_prev set_next
cleared_framed b w = record { phase = refl; bound = refl; released = refl; lengths = simp kept_lengths; first = λ m f g. refl }

module _ (p : Params) (j k : ℕ) where
  -- the list l is one of theirs
  abbrev pub Theirs : ℕ → Type 0
  Theirs l = (l / 147 ≡ j) ⊎ (l / 147 ≡ k)

  not_theirs : (l m : ℕ) → Theirs l → m / 147 ≢ j → m / 147 ≢ k → m ≢ l
  not_theirs l m (inl e) f g x = f (ap (λ (y : ℕ). y / 147) x ∙ e)
  not_theirs l m (inr e) f g x = g (ap (λ (y : ℕ). y / 147) x ∙ e)

  -- list operations
  links_framed : {w w' : Words} (l o : ℕ) → Theirs l → Theirs o → LinksOnly w w' → FirstsBut l o w w' → Framed j k w w'
  unfolding FirstsBut
  links_framed l o hl ho K F =
      record {
        phase = K.phase;
        bound = K.bound;
        released = K.released;
        lengths = K.lengths;
        first = λ m f g. F m (not_theirs l m hl f g) (not_theirs o m ho f g);
      }

  pub push_framed : (l b : ℕ) (w : Words) → Theirs l → Framed j k w (push p l b w)
  unfolding FirstsBut
  push_framed l b w hl =
      links_framed l l hl hl (push_links p l b w (links_refl w))
      (λ m f g. ap (λ (y : List ℕ). get_or y m 0) (push_first p l b w) ∙ set_off w.first l (start p b) m f)

  pub pop_framed : (l : ℕ) (w : Words) → Theirs l → Framed j k w (pop p l w).words
  pop_framed l w hl = links_framed l l hl hl (pop_links p l w (links_refl w)) (pop_firsts p l w)

  append_framed : (l o : ℕ) (w : Words) → Theirs l → Theirs o → Framed j k w (append p l o w)
  append_framed l o w hl ho = links_framed l o hl ho (append_links p l o w (links_refl w)) (append_first p l o w)

  -- one block released
  release_framed : (l b : ℕ) (w : Words) → Theirs l → Framed j k w (clear_block b (remove p l b w))
  release_framed l b w hl =
      framed_trans (links_framed l l hl hl (remove_links p l b w (links_refl w)) (remove_first p l b w)) (cleared_framed b (remove p l b w))

  -- ---- releases, from the words w on

  module _ (w : Words) where
    blocks_framed : (l bin : ℕ) → Numbered l j bin → (f : Freed) → Framed j k w f.words → Framed j k w (release_blocks p l f).words
    blocks_framed l bin N =
        blocks_keep_any p l (λ f. Framed j k w f.words) (λ b f F e. framed_trans F (release_framed l b f.words (inl N.owner)))

    to_framed : (l o bin : ℕ) → Numbered l j bin → Numbered o j bin → l ≢ o → (f : Freed) → Framed j k w f.words → Framed j k w (append_to p l o f).words
    unfolding append_to
    to_framed l o bin N M ne f F = framed_trans F (append_framed l o f.words (inl N.owner) (inl M.owner))

  -- the lists of the owner j go behind those of the owner k
  pub abandon_framed : j < 10 → k < 10 → (w : Words) → Framed j k w (abandon_blocks p (3 * k) (3 * j) w)
  abandon_framed lj lk w =
      abandon_keeps p k j lk lj (Framed j k w) (λ l o bin N M x X. framed_trans X (append_framed l o x (inr N.owner) (inl M.owner))) w (framed_refl w)

module _ (p : Params) (w : Words) (st : List ℕ) where
  -- a holder's release changes the lists of this holder and of in-gc alone
  bins_framed : (h : ℕ) → 1 ≤ h → h ≤ 8 → Framed (h - 1) 9 w (each_below bins (release_bin p (3 * (h - 1))) (freed w st)).words
  bins_framed h lo hi =
      bins_keep p (h - 1) (omega arith) (λ f. Framed (h - 1) 9 w f.words) (blocks_framed p (h - 1) 9 w) (to_framed p (h - 1) 9 w) (freed w st) (framed_refl w)

  pub holder_framed : (h : ℕ) → 1 ≤ h → h ≤ 8 → Framed (h - 1) 9 w (release_holder p h w st).words
  unfolding release_holder local_sets
  holder_framed h lo hi = framed_trans (bins_framed h lo hi) (abandon_framed p (h - 1) 9 (omega arith) (omega arith) _)

  -- the shared release those of abandoned
  pub shared_framed : Framed 8 8 w (sweep_later p w st).words
  unfolding sweep_later
  shared_framed = later_keeps p (λ f. Framed 8 8 w f.words) (blocks_framed p 8 8 w) (to_framed p 8 8 w) (freed w st) (framed_refl w)

-- ---- the end of a collection with eager sweeping: lists of abandoned and in-gc alone change

-- one block swept, and one put from a list to another
swept_framed : {j k : ℕ} (p : Params) (ms : List ℕ) (b : ℕ) (w : Words) → Framed j k w (swept_words p ms b w)
unfolding swept_words
swept_framed p ms b w = framed_trans (free_framed b _ w) (cells_framed b _ _)

recycled_framed : (p : Params) (j k avail full b : ℕ) (w : Words) → Theirs p j k avail → Theirs p j k full → Framed j k w (recycled_one p avail full b w)
recycled_framed p j k avail full b w ha hf =
    framed_trans (links_framed p j k full full hf hf (remove_links p full b w (links_refl w)) (remove_first p full b w)) (push_framed p j k avail b (remove p full b w) ha)

module _ (p : Params) (ms : List ℕ) (part : ℕ) where
  pub eagerly_framed : (f : Freed) → Framed 8 9 f.words (eagerly p ms part f).words
  eagerly_framed f =
      eagerly_keeps p ms part (λ g. Framed 8 9 f.words g.words)
      (λ g F on. all_keeps p ms (λ x. Framed 8 9 f.words x.words) (λ b low x X occ. framed_trans X (swept_framed p ms b x.words)) g F)
      (λ g owner F on which. of owner which g.words F) f (framed_refl f.words)
    where
      walks : (i : ℕ) → i < 10 → (i ≡ 8) ⊎ (i ≡ 9) → (w : Words) → Framed 8 9 f.words w → Framed 8 9 f.words (recycle_blocks p (3 * i) w)
      walks i li is =
          recycle_keeps p i li (Framed 8 9 f.words)
          (λ avail full bin A C ne.
          let theirs : (l : ℕ) → l / 147 ≡ i → Theirs p 8 9 l = λ l e. ⊎_elim (λ q. inl (e ∙ q)) (λ q. inr (e ∙ q)) is in
          λ w F. recycle_from_keeps p avail full (λ k a v. Framed 8 9 f.words v)
          (λ k a v X some has. framed_trans X (recycled_framed p 8 9 avail full (block_at p a) v (theirs avail A.owner) (theirs full C.owner)))
          (λ k a v X some none. X) (Framed 8 9 f.words) (λ k a v X. X) p.blocks (get_or w.first full 0) w F)

      of : (owner : ℕ) → (owner ≡ abandoned) ⊎ (owner ≡ in_gc) → (w : Words) → Framed 8 9 f.words w → Framed 8 9 f.words (recycle_blocks p owner w)
      of owner (inl e) w F = rw e (walks 8 (omega arith) (inl refl) w F)
      of owner (inr e) w F = rw e (walks 9 (omega arith) (inr refl) w F)

  -- so whether the part is the last stays
  pub eagerly_last : (f : Freed) → is_last part (eagerly p ms part f).words ≡ is_last part f.words
  unfolding is_last all_released has_released is_bound set_released set_phase
  eagerly_last f = let R = eagerly_framed f in rw (R.bound, R.released)

  -- states stay, and of the words of blocks the cell sizes and holders
  pub record Ended (f g : Freed) : Type 0 where
    pub states : g.states ≡ f.states
    pub size : g.words.size ≡ f.words.size
    pub tls : g.words.tls ≡ f.words.tls

  pub eagerly_ended : (f : Freed) → Ended f (eagerly p ms part f)
  unfolding swept_words set_free set_cells
  eagerly_ended f =
      eagerly_keeps p ms part (Ended f)
      (λ g E on. all_keeps p ms (Ended f) (λ b low x X occ. record { states = X.states; size = X.size; tls = X.tls }) g E)
      (λ g owner E on which.
      recycle_keeps_any p (λ w. Ended f (record { words = w; states = g.states; events = g.events }))
      (λ avail full b w X.
      let L = push_links p avail b (remove p full b w) (remove_links p full b w (links_refl w)) in
      record { states = X.states; size = L.size ∙ X.size; tls = L.tls ∙ X.tls })
      owner g.words E)
      f (record { states = refl; size = refl; tls = refl })

-- the collection is over if the part was the last
pub part_phase : (p : Params) (part : ℕ) (w : Words) → eqb (part_released p part w).phase phase_running ≡ is_last part w
unfolding part_released is_last set_released set_phase
part_phase p part w = go (all_released (set_released part 1 (set_phase 2 w))) _ _ refl refl
  where
    go : (c : Bool) (x y : Words) → x.phase ≡ 0 → y.phase ≡ 2 → eqb (if c then x else y).phase 0 ≡ c
    go true x y e f = eq-eqb x.phase 0 e
    go false x y e f = ne_eqb y.phase 0 (λ z. omega (arith, sym f ∙ z))

-- ---- an owner's lists put behind another's

-- the links alone change
bin_links : (p : Params) (to from bin : ℕ) {t : Words} (w : Words) → LinksOnly t w → LinksOnly t (abandon_bin p to from bin w)
unfolding abandon_bin
bin_links p to from bin w K =
    append_links p (unswept to bin) (unswept from bin) _
    (append_links p (consumed to bin) (consumed from bin) _ (append_links p (available to bin) (available from bin) w K))

pub abandon_links : (p : Params) (to from : ℕ) (w : Words) → LinksOnly w (abandon_blocks p to from w)
unfolding abandon_blocks
abandon_links p to from w = each_keeps (LinksOnly w) bins (abandon_bin p to from) (λ bin lb x X. bin_links p to from bin x X) w (links_refl w)

module _ (p : Params) (i j : ℕ) (ne : i ≢ j) (li : i < 10) (lj : j < 10) (m : ℕ) (em : m / 147 ≡ j) where
  -- the list m of the owner j is empty if it was, or if it was appended to one of the owner i
  append_zero : (a o : ℕ) (w : Words) → a / 147 ≡ i → Sized p.blocks w → (m ≡ o) ⊎ (get_or w.first m 0 ≡ 0) → get_or (append p a o w).first m 0 ≡ 0
  unfolding FirstsBut
  append_zero a o w ea z c = go (ℕ_discrete m o) c
    where
      go : Dec (m ≡ o) → (m ≡ o) ⊎ (get_or w.first m 0 ≡ 0) → get_or (append p a o w).first m 0 ≡ 0
      go (yes e) c = rw e (append_empties p a o w (omega (arith, z.first)))
      go (no f) (inl e) = absurd (f e)
      go (no f) (inr q) = append_first p a o w m (λ e. ne (sym ea ∙ ap (λ (y : ℕ). y / 147) (sym e) ∙ em)) f ∙ q

  -- so after one bin if it is a list of this bin
  bin_zero : (bin : ℕ) (w : Words) → bin < 49 → Sized p.blocks w → (m % 49 ≡ bin) ⊎ (get_or w.first m 0 ≡ 0)
      → get_or (abandon_bin p (3 * i) (3 * j) bin w).first m 0 ≡ 0
  unfolding abandon_bin
  bin_zero bin w lb z c = go c
    where
      W₁ : Words
      W₁ = append p (available (3 * i) bin) (available (3 * j) bin) w

      W₂ : Words
      W₂ = append p (consumed (3 * i) bin) (consumed (3 * j) bin) W₁

      L₁ : LinksOnly w W₁
      L₁ = append_links p (available (3 * i) bin) (available (3 * j) bin) w (links_refl w)

      one : (m ≡ available (3 * j) bin) ⊎ (get_or w.first m 0 ≡ 0) → get_or W₁.first m 0 ≡ 0
      one = append_zero (available (3 * i) bin) (available (3 * j) bin) w (available_numbered i bin li lb).owner z

      two : (m ≡ consumed (3 * j) bin) ⊎ (get_or W₁.first m 0 ≡ 0) → get_or W₂.first m 0 ≡ 0
      two = append_zero (consumed (3 * i) bin) (consumed (3 * j) bin) W₁ (consumed_numbered i bin li lb).owner (sized_same L₁.lengths z)

      three : (m ≡ unswept (3 * j) bin) ⊎ (get_or W₂.first m 0 ≡ 0) → get_or (abandon_bin p (3 * i) (3 * j) bin w).first m 0 ≡ 0
      three =
          append_zero (unswept (3 * i) bin) (unswept (3 * j) bin) W₂ (unswept_numbered i bin li lb).owner
          (sized_same (append_links p (consumed (3 * i) bin) (consumed (3 * j) bin) W₁ L₁).lengths z)

      which : m % 49 ≡ bin → Dec (m ≡ available (3 * j) bin) → Dec (m ≡ consumed (3 * j) bin) → get_or (abandon_bin p (3 * i) (3 * j) bin w).first m 0 ≡ 0
      which e (yes a) d = three (inr (two (inr (one (inl a)))))
      which e (no na) (yes c) = three (inr (two (inl c)))
      which e (no na) (no nc) = three (inl (third_list j bin m em e na nc))

      go : (m % 49 ≡ bin) ⊎ (get_or w.first m 0 ≡ 0) → get_or (abandon_bin p (3 * i) (3 * j) bin w).first m 0 ≡ 0
      go (inl e) = which e (ℕ_discrete m (available (3 * j) bin)) (ℕ_discrete m (consumed (3 * j) bin))
      go (inr q) = three (inr (two (inr (one (inr q)))))

  -- and after n bins if it is a list of one of them
  bins_zero : (n : ℕ) → n ≤ 49 → (w : Words) → Sized p.blocks w → m % 49 < n
      → get_or (each_below n (abandon_bin p (3 * i) (3 * j)) w).first m 0 ≡ 0
  unfolding each_below
  bins_zero zero le w z lb = absurd (omega arith)
  bins_zero (suc n) le w z lb = bin_zero n W (omega arith) sized (go (ℕ_discrete (m % 49) n) (bins_zero n (omega arith) w z))
    where
      W : Words
      W = each_below n (abandon_bin p (3 * i) (3 * j)) w

      sized : Sized p.blocks W
      sized = sized_same (each_keeps (LinksOnly w) n (abandon_bin p (3 * i) (3 * j)) (λ k lk x X. bin_links p (3 * i) (3 * j) k x X) w (links_refl w)).lengths z

      go : Dec (m % 49 ≡ n) → (m % 49 < n → get_or W.first m 0 ≡ 0) → (m % 49 ≡ n) ⊎ (get_or W.first m 0 ≡ 0)
      go (yes e) ih = inl e
      go (no f) ih = inr (ih (omega arith))

-- the lists of the owner j, put behind those of the owner i, are empty then
pub abandon_empties : (p : Params) (i j : ℕ) (w : Words) → Sized p.blocks w → i ≢ j → i < 10 → j < 10
    → (l : ℕ) → l / 147 ≡ j → get_or (abandon_blocks p (3 * i) (3 * j) w).first l 0 ≡ 0
unfolding abandon_blocks
abandon_empties p i j w z ne li lj l e = bins_zero p i j ne li lj l e 49 (omega arith) w z (omega arith)

-- so a holder that has released has no block
pub holder_empties : (p : Params) (w : Words) (st : List ℕ) (h : ℕ) → 1 ≤ h → h ≤ 8 → Sized p.blocks w
    → (l : ℕ) → l / 147 ≡ h - 1 → get_or (release_holder p h w st).words.first l 0 ≡ 0
unfolding release_holder local_sets
holder_empties p w st h lo hi z l e =
    abandon_empties p 9 (h - 1) _ (sized_same (bins_framed p w st h lo hi).lengths z) (omega arith) (omega arith) (omega arith) l e
