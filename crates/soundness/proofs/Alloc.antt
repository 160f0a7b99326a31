-- The search of an alloc keeps tables good. A block that moves from one list to another is first taken out (`Out`: good tables
-- but for this block, which is on no list), perhaps gets a new free head or holder, and is then filed.
-- Assumes nothing.
use Rattle.std.specs.Prelude.{if◌then◌else◌, Option, None, Some}
use mathlib.Core.Path.{◌≡◌, refl, sym, ap, ◌∙◌, subst}
use mathlib.Core.Logic.{◌≢◌, inl, inr, ⊎_elim}
use mathlib.Core.Bool.{Bool, true, false, ◌||◌}
use mathlib.Core.List.{List, [], ◌∷◌, head_d}
use Prim.Native.Nat.{ℕ, ◌-◌, ◌%◌, ◌<◌, ◌≤◌}
use native.Mathlib.Omega.{arith}
use native.Mathlib.Decide.{ℕ_discrete}
use lib.Dec.{eqb, ltb}
use lib.ListN.{get_or, set, length, length-set}
use borrow.Author.Tests.{eqb-true, ltb-true, le-leb}
use Rattle.model.specs.declared.Params.{Params}
use Rattle.model.specs.declared.Block.{Block}
use Rattle.model.specs.Base.{In}
use Rattle.model.specs.Params.{start, block_at, list_word, local_sets, abandoned, available, unswept, consumed}
use Rattle.model.specs.Tables.{Words, Tables, tables_of, with_words, set_first, set_last, set_next, set_prev, set_free, set_size, set_list, set_tls, set_cells}
use Rattle.model.specs.SizeClasses.{cell_bytes}
use Rattle.model.specs.BlockList.{push, pop}
use Rattle.model.specs.Block.{state_unmarked, is_cell, cells_down, cell_count, keeps, sweep_chain, swept_words, init_chain, init_block}
use Rattle.model.specs.Memory.{marked}
use Rattle.model.specs.Events.{Event}
use Rattle.model.specs.FreeListAllocator.{Found, Search, acquire_fresh, find_block}
use Rattle.model.specs.Global.{is_holder}
use Rattle.model.specs.Sound.{state_of, state_known, link_ok, block_clear}
use Rattle.model.specs.Calls.{good_offer}
use Rattle.laws.proofs.Base.{and_left, and_right, or_right}
use Rattle.laws.proofs.Params.{Bounds, block_at_start}
use Rattle.laws.proofs.Stores.{set_at, set_off}
use Rattle.laws.proofs.Tables.{Sized, sized_same, kept_lengths}
use Rattle.laws.proofs.Cells.{whole_is_cell, in_chain}
use Rattle.laws.proofs.Frame.{LinksOnly, links_refl, push_links, pop_links}
use Rattle.laws.proofs.Walks.{Files, Steps, plain_steps, find_keeps}
use Rattle.soundness.proofs.Lists.{Lists, AllOn, Off, OnSome, put, put_in_lem, in_put, links_of, Links, On, on_list, free_off, lists_same, first_none, first_some}
use Rattle.soundness.proofs.Moves.{push_stays, push_lists, pop_off, pop_stays, pop_lists}
use Rattle.soundness.proofs.SoundLists.{Fit, Good}
use Rattle.soundness.proofs.Owners.{Numbered, available_numbered, unswept_numbered, consumed_numbered, Framed, framed_refl, framed_trans, Theirs, push_framed, pop_framed, free_framed, size_framed, tls_framed, cells_framed}
use Rattle.soundness.proofs.GoodTables.{GoodTables, SameWords, links_words, fit_as, fit_same, clear_same}

-- ---- a block out of all lists

-- good tables but for x, an occupied block that is on no list
pub record Out (p : Params) (t : Tables) (L : ℕ → List ℕ) (x : ℕ) : Type 0 where
  pub low : x < p.blocks
  pub occupied : get_or t.states x 0 ≢ 0
  pub lists : Lists p t.states t.words L
  pub off : Off L x
  pub on : (b : ℕ) → b < p.blocks → get_or t.states b 0 ≢ 0 → b ≢ x → OnSome L b
  pub fit : (l b : ℕ) → l < 1470 → In b (L l) → Fit p t l b
  pub clear : (b : ℕ) → b < p.blocks → state_of t b ≡ 0 → block_clear t.words b ≡ true

-- u differs from w in the free, size, tls and cells words of x alone
pub record Tweaked (x : ℕ) (w u : Words) : Type 0 where
  pub links : links_of u ≡ links_of w
  pub words : (b : ℕ) → b ≢ x → SameWords w u b

-- a free head and a free count, a holder, what init gives stored into x
pub tweak_free : (x v n : ℕ) (w : Words) → Tweaked x w (set_cells x n (set_free x v w))
unfolding set_free set_cells
tweak_free x v n w =
    record {
      links = refl;
      words = λ b f. record { free = set_off w.free x v b f; size = refl; tls = refl; cells = set_off w.cells x n b f };
    }

pub tweak_tls : (x v : ℕ) (w : Words) → Tweaked x w (set_tls x v w)
unfolding set_tls
tweak_tls x v w = record { links = refl; words = λ b f. record { free = refl; size = refl; tls = set_off w.tls x v b f; cells = refl } }

tweak_init : (p : Params) (x s h : ℕ) (w : Words) → Tweaked x w (init_block p x s h w)
unfolding init_block set_free set_size set_tls set_cells
tweak_init p x s h w =
    record {
      links = refl;
      words = λ b f.
          record {
            free = set_off w.free x _ b f;
            size = set_off w.size x s b f;
            tls = set_off w.tls x h b f;
            cells = set_off w.cells x _ b f;
          };
    }

module _ (p : Params) (B : Bounds p) (st ms : List ℕ) where
  -- an occupied block is not a free one
  not_free : (x b : ℕ) → get_or st x 0 ≢ 0 → get_or st b 0 ≡ 0 → b ≢ x
  not_free x b o z q = o (ap (λ (y : ℕ). get_or st y 0) (sym q) ∙ z)

  -- the head of a list is popped
  pop_out : (w : Words) → Sized p.blocks w → (L : ℕ → List ℕ) → Good p (tables_of w st ms) L → (l x : ℕ) (xs : List ℕ)
      → l < 1470 → L l ≡ x ∷ xs → Out p (tables_of (pop p l w).words st ms) (put l xs L) x
  unfolding In AllOn Off state_of
  pop_out w Z L G l x xs low e =
      record {
        low = onx.low;
        occupied = onx.occupied;
        lists = pop_lists p B st w Z L G.lists l x xs low e;
        off = pop_off p B st w Z L G.lists l x xs low e;
        on = λ b lb ob f. let r = G.on b lb ob in (r.0, r.1, put_in_lem l xs L r.0 b (λ q. ⊎_elim (λ i. absurd (f i)) (λ i. i) (subst (In b) (ap L q ∙ e) r.2)) (λ g. r.2));
        fit = λ m b lm i. fit_same p ms m b refl (links_words K b) (G.fit m b lm (was b m i));
        clear = λ b lb z. clear_same b (pop_stays p B st w Z L G.lists l x xs low e b (free_off p G.lists b z l low)) (links_words K b) (G.clear b lb z);
      }
    where
      onx : On p st w (list_word l) x
      onx = on_list p G.lists l x low (rw e (inl refl))

      K : LinksOnly w (pop p l w).words
      K = pop_links p l w (links_refl w)

      was : (b m : ℕ) → In b (put l xs L m) → In b (L m)
      was b m i = ⊎_elim (λ q. subst (In b) (sym (ap L q.0 ∙ e)) (inr q.1)) (λ q. q.1) (in_put l xs L m b i)

  -- it gets another free head, cell size or holder
  tweak_out : (w u : Words) (L : ℕ → List ℕ) (x : ℕ) → Tweaked x w u → Out p (tables_of w st ms) L x → Out p (tables_of u st ms) L x
  unfolding Off state_of
  tweak_out w u L x T O =
      record {
        low = O.low;
        occupied = O.occupied;
        lists = lists_same p O.lists T.links (λ l b low i. (on_list p O.lists l b low i).occupied);
        off = O.off;
        on = O.on;
        fit = λ m b lm i. fit_same p ms m b refl (T.words b (λ q. O.off m lm (subst (λ (y : ℕ). In y (L m)) q i))) (O.fit m b lm i);
        clear = λ b lb z.
            clear_same {st = st} b
            (record {
              occupied = λ o. o;
              next = ap (λ (y : Links). get_or y.next b 0) T.links;
              prev = ap (λ (y : Links). get_or y.prev b 0) T.links;
              list = ap (λ (y : Links). get_or y.list b 0) T.links;
            })
            (T.words b (not_free x b O.occupied z)) (O.clear b lb z);
      }

  -- it is pushed on a list that it fits
  pub file_good : (w : Words) → Sized p.blocks w → (L : ℕ → List ℕ) (x c : ℕ) → Out p (tables_of w st ms) L x → c < 1470
      → Fit p (tables_of w st ms) c x → Good p (tables_of (push p c x w) st ms) (put c (x ∷ L c) L)
  unfolding In AllOn Off state_of
  file_good w Z L x c O low F =
      record {
        lists = push_lists p B st w Z L O.lists c x low O.low O.occupied O.off;
        on = λ b lb ob. on b lb ob (ℕ_discrete b x);
        fit = λ m b lm i. fit_same p ms m b refl (links_words K b) (⊎_elim (λ q. rw q.0 (⊎_elim (λ r. rw r F) (λ r. O.fit c b low r) q.1)) (λ q. O.fit m b lm q.1) (in_put c (x ∷ L c) L m b i));
        clear = λ b lb z.
            clear_same b (push_stays p B st w Z L O.lists c x low b (not_free x b O.occupied z) (free_off p O.lists b z c low))
            (links_words K b) (O.clear b lb z);
      }
    where
      K : LinksOnly w (push p c x w)
      K = push_links p c x w (links_refl w)

      on : (b : ℕ) → b < p.blocks → get_or st b 0 ≢ 0 → Dec (b ≡ x) → OnSome (put c (x ∷ L c) L) b
      on b lb ob (yes q) = (c, low, put_in_lem c (x ∷ L c) L c b (λ e. inl q) (λ f. absurd (f refl)))
      on b lb ob (no f) =
          let r = O.on b lb ob f in
          (r.0, r.1, put_in_lem c (x ∷ L c) L r.0 b (λ q. inr (subst (λ (y : ℕ). In b (L y)) q r.2)) (λ g. r.2))

-- ---- free heads that init and sweeps give

-- the head of a chain of a block's cells is 0 or a whole cell
pub chain_link : (p : Params) (w : Words) (x s a : ℕ) (kept : ℕ → Bool) → 8 ≤ s → get_or w.size x 0 ≡ s
    → a ≡ head_d (cells_down kept (start p x) s (cell_count p s)) 0 → link_ok p w x a ≡ true
unfolding link_ok In head_d
chain_link p w x s a kept word e q =
    rw (q, e) (go (cells_down kept (start p x) s (cell_count p s)) (λ a i. whole_is_cell p x s a (in_chain p kept x s a word i).0))
  where
    go : (l : List ℕ) → ((a : ℕ) → In a l → is_cell p x s a ≡ true) → (eqb (head_d l 0) 0 || is_cell p x s (head_d l 0)) ≡ true
    go [] f = refl
    go (a ∷ l) f = or_right (eqb a 0) (f a (inl refl))

-- ---- one step of a search, of the holder h for the bin, from the words w₀ on

module _ (p : Params) (B : Bounds p) (st ms : List ℕ) (h bin : ℕ) (lo : 1 ≤ h) (hi : h ≤ 8) (low : bin < 49) (w₀ : Words) where
  -- its words are good, and differ from w₀ in lists of the holder and abandoned ones alone
  pub record SearchedSoFar (w : Words) : Type 0 where
    pub good : GoodTables p ms w st
    pub frame : Framed (h - 1) 8 w₀ w

  -- x is out of all lists, and fits the list l
  record Taken (l x : ℕ) (w : Words) : Type 0 where
    lists : ℕ → List ℕ
    out : Out p (tables_of w st ms) lists x
    fit : Fit p (tables_of w st ms) l x
    sized : Sized p.blocks w
    states : length st ≡ p.blocks
    frame : Framed (h - 1) 8 w₀ w

  is_holder_lem : is_holder h ≡ true
  unfolding is_holder
  is_holder_lem = rw (le-leb 1 h lo, le-leb h 8 hi)

  -- the holder's lists
  pub my_available : Numbered (available (local_sets h) bin) (h - 1) bin
  unfolding local_sets
  my_available = available_numbered (h - 1) bin (omega arith) low

  pub my_unswept : Numbered (unswept (local_sets h) bin) (h - 1) bin
  unfolding local_sets
  my_unswept = unswept_numbered (h - 1) bin (omega arith) low

  pub my_consumed : Numbered (consumed (local_sets h) bin) (h - 1) bin
  unfolding local_sets
  my_consumed = consumed_numbered (h - 1) bin (omega arith) low

  -- the first block of a list, which a pop takes
  record Head (l : ℕ) (w : Words) : Type 0 where
    block : ℕ
    here : block_at p (get_or w.first l 0) ≡ block
    taken : Taken l block (pop p l w).words

  head_of : (l : ℕ) (w : Words) → l < 1470 → Theirs p (h - 1) 8 l → SearchedSoFar w → get_or w.first l 0 ≢ 0 → Head l w
  unfolding In
  head_of l w ll mine S some = go (S.good.lists l) refl
    where
      H : GoodTables p ms w st
      H = S.good

      go : (xs : List ℕ) → H.lists l ≡ xs → Head l w
      go [] e = absurd (some (first_none p B H.good.lists l ll e))
      go (x ∷ xs) e =
          let F = pop_framed p (h - 1) 8 l w mine in
          let i = first_some p B H.good.lists l ll x xs e in
          record {
            block = x;
            here = ap (block_at p) i.at ∙ block_at_start p B x i.low;
            taken = record {
              lists = put l xs H.lists;
              out = pop_out p B st ms w H.sized H.lists H.good l x xs ll e;
              fit = fit_same p ms l x refl (links_words (pop_links p l w (links_refl w)) x) (H.good.fit l x ll (rw e (inl refl)));
              sized = sized_same F.lengths H.sized;
              states = H.states;
              frame = framed_trans S.frame F;
            };
          }

  -- words stored into the block that was taken
  tweak_taken : (l x : ℕ) (w u : Words) → Taken l x w → Tweaked x w u → Framed (h - 1) 8 w u → Fit p (tables_of u st ms) l x → Taken l x u
  tweak_taken l x w u T k F f =
      record {
        lists = T.lists;
        out = tweak_out p B st ms w u T.lists x k T.out;
        fit = f;
        sized = sized_same F.lengths T.sized;
        states = T.states;
        frame = framed_trans T.frame F;
      }

  -- it gets the holder, off the local lists
  tls_taken : (w : Words) (l x : ℕ) → Taken l x w → 1176 ≤ l → Taken l x (set_tls x h w) × (get_or (set_tls x h w).tls x 0 ≡ h)
  unfolding set_tls link_ok
  tls_taken w l x T far =
      let e : get_or (set w.tls x h) x 0 ≡ h = set_at w.tls x h (omega (arith, T.out.low, T.sized.tls)) in (
        tweak_taken l x w (set_tls x h w) T (tweak_tls x h w) (tls_framed x h w)
            (fit_as p (tables_of w st ms) (tables_of (set_tls x h w) st ms) l l x T.fit refl refl refl T.fit.free (rw e is_holder_lem) (λ less. absurd (omega arith))),
        e,
      )

  -- it is swept
  swept_taken : (w : Words) (l x : ℕ) → Taken l x w → Taken l x (swept_words p ms x w) × ((swept_words p ms x w).tls ≡ w.tls)
  unfolding swept_words set_free set_cells sweep_chain
  swept_taken w l x T =
      let s : ℕ = get_or w.size x 0 in
      let c : ℕ = head_d (sweep_chain p ms x s) 0 in
      let n : ℕ = length (sweep_chain p ms x s) in
      let u : Words = set_cells x n (set_free x c w) in
      let word : 8 ≤ s = T.fit.word in (
        tweak_taken l x w u T (tweak_free x c n w) (framed_trans (free_framed x c w) (cells_framed x n (set_free x c w)))
            (fit_as p (tables_of w st ms) (tables_of u st ms) l l x T.fit refl refl refl
            (chain_link p u x s _ (keeps p (marked p ms) s) word refl (set_at w.free x c (omega (arith, T.out.low, T.sized.free))))
            T.fit.holder T.fit.local),
        refl,
      )

  -- it is pushed on a list of its bin, which is its holder's
  file_taken : (w : Words) (l x c : ℕ) → Taken l x w → l % 49 ≡ bin → Numbered c (h - 1) bin → get_or w.tls x 0 ≡ h → SearchedSoFar (push p c x w)
  file_taken w l x c T eb N own =
      let F = push_framed p (h - 1) 8 c x w (inl N.owner) in
      record {
        good = record {
          lists = put c (x ∷ T.lists c) T.lists;
          good = file_good p B st ms w T.sized T.lists x c T.out N.low
              (fit_as p (tables_of w st ms) (tables_of w st ms) l c x T.fit refl refl (N.bin ∙ sym eb) T.fit.free T.fit.holder (λ less. own ∙ omega (arith, N.owner)));
          sized = sized_same F.lengths T.sized;
          states = T.states;
        };
        frame = framed_trans T.frame F;
      }

  -- a local block's holder
  local_tls : (w : Words) (l x : ℕ) → Taken l x w → Numbered l (h - 1) bin → get_or w.tls x 0 ≡ h
  local_tls w l x T N = T.fit.local (omega (arith, N.owner)) ∙ omega (arith, N.owner)

  -- a block that was taken out is filed
  files : (l x a : ℕ) (w : Words) (es : List Event) → block_at p a ≡ x → Taken l x w → l % 49 ≡ bin → get_or w.tls x 0 ≡ h
      → Files p ms h bin (λ es w. SearchedSoFar w) (λ es a w. SearchedSoFar w) es a w
  files l x a w es e T eb own =
      record {
        full = λ q. rw e (file_taken w l x (consumed (local_sets h) bin) T eb my_consumed own);
        has = λ q. rw e (file_taken w l x (available (local_sets h) bin) T eb my_available own);
      }

  -- every step of the search keeps the words so
  pub steps : Steps p ms h bin (λ es w. SearchedSoFar w) (λ es a w. SearchedSoFar w)
  steps =
      record {
        moved = λ es w S some q.
            let z = head_of av w my_available.low (inl my_available.owner) S some in
            rw z.here (file_taken _ av z.block _ z.taken my_available.bin my_consumed (local_tls _ av z.block z.taken my_available));
        seen = λ es w S some q. S;
        recycled = λ es w S some.
            let z = head_of un w my_unswept.low (inl my_unswept.owner) S some in
            let X = swept_taken _ un z.block z.taken in
            rw z.here (files un z.block _ _ _ z.here X.0 my_unswept.bin (ap (λ (y : List ℕ). get_or y z.block 0) X.1 ∙ local_tls _ un z.block z.taken my_unswept));
        over = λ es w S some.
            let N = available_numbered 8 bin (omega arith) low in
            let z = head_of (available abandoned bin) w N.low (inr N.owner) S some in
            let Q = tls_taken _ _ z.block z.taken (omega (arith, N.owner)) in
            rw z.here (files _ z.block _ _ _ z.here Q.0 N.bin Q.1);
        swept = λ es w S none some.
            let N = unswept_numbered 8 bin (omega arith) low in
            let z = head_of (unswept abandoned bin) w N.low (inr N.owner) S some in
            let Q = tls_taken _ _ z.block z.taken (omega (arith, N.owner)) in
            let X = swept_taken _ _ z.block Q.0 in
            rw z.here (files _ z.block _ _ _ z.here X.0 N.bin (ap (λ (y : List ℕ). get_or y z.block 0) X.1 ∙ Q.1));
      }
    where
      av : ℕ
      av = available (local_sets h) bin

      un : ℕ
      un = unswept (local_sets h) bin

-- ---- the offer

if_map : {A C : Type 0} (f : A → C) (c : Bool) (x y : A) → f (if c then x else y) ≡ (if c then f x else f y)
if_map f true x y = refl
if_map f false x y = refl

-- a push reads and writes links alone, so init may come before it
init_push : (p : Params) (b s h l : ℕ) (w : Words) → init_block p b s h (push p l b w) ≡ push p l b (init_block p b s h w)
unfolding init_block push set_first set_last set_next set_prev set_free set_size set_list set_tls set_cells
init_push p b s h l w = if_map (init_block p b s h) (eqb (get_or w.first l 0) 0) _ _

module _ (p : Params) (B : Bounds p) (st ms : List ℕ) (w : Words) (H : GoodTables p ms w st) (x : ℕ) (lx : x < p.blocks) (z : get_or st x 0 ≡ 0) where
  -- an unused block becomes Unmarked, and is on no list
  fresh_out : Out p (tables_of w (set st x state_unmarked) ms) H.lists x
  unfolding AllOn Off state_of
  fresh_out =
      record {
        low = lx;
        occupied = λ q. omega (arith, sym now ∙ q);
        lists = lists_same p H.good.lists refl (λ l b ll i q. (on_list p H.good.lists l b ll i).occupied (sym (same b (ne l b ll i)) ∙ q));
        off = free_off p H.good.lists x z;
        on = λ b lb ob f. H.good.on b lb (λ q. ob (same b f ∙ q));
        fit = λ l b ll i. fit_same p ms l b (same b (ne l b ll i)) (record { free = refl; size = refl; tls = refl; cells = refl }) (H.good.fit l b ll i);
        clear = λ b lb q. unused b lb q (ℕ_discrete b x);
      }
    where
      now : get_or (set st x state_unmarked) x 0 ≡ state_unmarked
      now = set_at st x state_unmarked (omega (arith, H.states))

      same : (b : ℕ) → b ≢ x → get_or (set st x state_unmarked) b 0 ≡ get_or st b 0
      same b f = set_off st x state_unmarked b f

      ne : (l b : ℕ) → l < 1470 → In b (H.lists l) → b ≢ x
      ne l b ll i q = free_off p H.good.lists b (ap (λ (y : ℕ). get_or st y 0) q ∙ z) l ll i

      unused : (b : ℕ) → b < p.blocks → get_or (set st x state_unmarked) b 0 ≡ 0 → Dec (b ≡ x) → block_clear w b ≡ true
      unused b lb q (yes e) = absurd (omega (arith, sym now ∙ ap (λ (y : ℕ). get_or (set st x state_unmarked) y 0) (sym e) ∙ q))
      unused b lb q (no f) = H.good.clear b lb (sym (same b f) ∙ q)

  module _ (h bin : ℕ) (lo : 1 ≤ h) (hi : h ≤ 8) (pos : 1 ≤ bin) (low : bin < 49) (word : 8 ≤ cell_bytes p bin) where
    abbrev av : ℕ
    av = available (local_sets h) bin

    N : Numbered av (h - 1) bin
    N = my_available p B st ms h bin lo hi low w

    init_fit : Fit p (tables_of (init_block p x (cell_bytes p bin) h w) (set st x state_unmarked) ms) av x
    unfolding init_block init_chain set_free set_size set_tls set_cells state_known state_of
    init_fit =
        record {
          known = rw (set_at st x state_unmarked (omega (arith, H.states))) refl;
          bin = rw N.bin pos;
          size = rw N.bin size;
          word = rw size word;
          free = chain_link p (init_block p x (cell_bytes p bin) h w) x (cell_bytes p bin) _ (λ a. false) word size
              (set_at w.free x _ (omega (arith, H.sized.free)));
          holder = rw tls (is_holder_lem p B st ms h bin lo hi low w);
          local = λ less. tls ∙ omega (arith, N.owner);
        }
      where
        size : get_or (set w.size x (cell_bytes p bin)) x 0 ≡ cell_bytes p bin
        size = set_at w.size x (cell_bytes p bin) (omega (arith, H.sized.size))

        tls : get_or (set w.tls x h) x 0 ≡ h
        tls = set_at w.tls x h (omega (arith, H.sized.tls))

    offer_framed : Framed (h - 1) 8 w (init_block p x (cell_bytes p bin) h (push p av x w))
    unfolding init_block
    offer_framed =
        framed_trans (push_framed p (h - 1) 8 av x w (inl N.owner))
        (framed_trans (free_framed x _ _)
        (framed_trans (size_framed x _ _) (framed_trans (tls_framed x h _) (cells_framed x _ _))))

    init_sized : Sized p.blocks (init_block p x (cell_bytes p bin) h w)
    unfolding init_block
    init_sized = sized_same (simp kept_lengths) H.sized

    -- the offered block is on the available list then
    offer_good : GoodTables p ms (init_block p x (cell_bytes p bin) h (push p av x w)) (set st x state_unmarked)
    offer_good =
        let u : Words = init_block p x (cell_bytes p bin) h w in
        record {
          lists = put av (x ∷ H.lists av) H.lists;
          good = rw (init_push p x (cell_bytes p bin) h av w)
              (file_good p B (set st x state_unmarked) ms u init_sized H.lists x av
              (tweak_out p B (set st x state_unmarked) ms w u H.lists x (tweak_init p x (cell_bytes p bin) h w) fresh_out) N.low init_fit);
          sized = sized_same offer_framed.lengths H.sized;
          states = length-set st x state_unmarked ∙ H.states;
        }

-- ---- the whole search

-- a search leaves the marks
pub find_marks : (p : Params) (h bin : ℕ) (offer : Option Block) (t : Tables) → (find_block p h bin offer t).tables.marks ≡ t.marks
unfolding acquire_fresh
find_marks p h bin offer t =
    find_keeps p h bin t (λ es w. Unit {0}) (λ es a w. Unit {0})
    (plain_steps p t.marks h bin (λ w. Unit {0}) (λ l w o. tt) (λ l b w o. tt) (λ b w o. tt) (λ b w o. tt))
    (λ s. s.tables.marks ≡ t.marks) offer (λ f e o. fresh offer f) (λ f e o. refl) tt
  where
    fresh : (o : Option Block) (f : Found) → (acquire_fresh p h bin o f t).tables.marks ≡ t.marks
    fresh None f = refl
    fresh (Some b) f = refl

-- what it leaves: good tables, of which lists of the holder and abandoned ones alone changed
pub record AllocKeeps (p : Params) (h : ℕ) (t u : Tables) : Type 0 where
  pub good : GoodTables p u.marks u.words u.states
  pub frame : Framed (h - 1) 8 t.words u.words

module _ (p : Params) (B : Bounds p) (t : Tables) (H : GoodTables p t.marks t.words t.states)
    (h bin : ℕ) (lo : 1 ≤ h) (hi : h ≤ 8) (pos : 1 ≤ bin) (low : bin < 49) (word : 8 ≤ cell_bytes p bin) where
  abbrev Ok : Search → Type 0
  Ok s = AllocKeeps p h t s.tables

  abbrev Good' : Words → Type 0
  Good' = SearchedSoFar p B t.states t.marks h bin lo hi low t.words

  -- the offer keeps good what a search left
  fresh_ok : (offer : Option Block) → good_offer p t offer ≡ true → (f : Found) → Good' f.words → Ok (acquire_fresh p h bin offer f t)
  unfolding acquire_fresh good_offer state_of
  fresh_ok None e f S = record { good = S.good; frame = S.frame }
  fresh_ok (Some b) e f S =
      let lb = ltb-true _ _ (and_left (ltb b.0 p.blocks) (eqb (get_or t.states b.0 0) 0) e) in
      let z = eqb-true _ _ (and_right (ltb b.0 p.blocks) (eqb (get_or t.states b.0 0) 0) e) in
      record {
        good = offer_good p B t.states t.marks f.words S.good b.0 lb z h bin lo hi pos low word;
        frame = framed_trans S.frame (offer_framed p B t.states t.marks f.words S.good b.0 lb z h bin lo hi pos low word);
      }

  pub find_served : (offer : Option Block) → good_offer p t offer ≡ true → Ok (find_block p h bin offer t)
  find_served offer fine =
      find_keeps p h bin t (λ es w. Good' w) (λ es a w. Good' w) (steps p B t.states t.marks h bin lo hi low t.words) Ok offer
      (λ f e S. fresh_ok offer fine f S) (λ f e S. record { good = S.good; frame = S.frame }) (record { good = H; frame = framed_refl t.words })

-- ---- a cell is taken: the block's free head moves on, and it has another free count
pub take_good : (p : Params) (t : Tables) (L : ℕ → List ℕ) → Sized p.blocks t.words → Good p t L → (b v n : ℕ)
    → b < p.blocks → state_of t b ≢ 0 → link_ok p t.words b v ≡ true → Good p (with_words (set_cells b n (set_free b v t.words)) t) L
unfolding state_of set_free set_cells link_ok
take_good p t L Z G b v n low ob ok =
    record {
      lists = lists_same p G.lists refl (λ l d ll i. (on_list p G.lists l d ll i).occupied);
      on = G.on;
      fit = λ l d ll i. fit l d (G.fit l d ll i) (ℕ_discrete d b);
      clear = λ d ld z.
          clear_same {st = t.states} d (record { occupied = λ o. o; next = refl; prev = refl; list = refl })
          ((tweak_free b v n t.words).words d (λ q. ob (ap (λ (y : ℕ). get_or t.states y 0) (sym q) ∙ z))) (G.clear d ld z);
    }
  where
    u : Words
    u = set_cells b n (set_free b v t.words)

    fit : (l d : ℕ) → Fit p t l d → Dec (d ≡ b) → Fit p (with_words u t) l d
    fit l d F (no f) = fit_same p t.marks l d refl ((tweak_free b v n t.words).words d f) F
    fit l d F (yes e) =
        fit_as p t (with_words u t) l l d F refl refl refl (rw (e, set_at t.words.free b v (omega (arith, Z.free))) ok) F.holder F.local
