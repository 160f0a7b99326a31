-- The calls that move no block keep tables good: bind, prepare, mark; and set-up makes good ones. Assumes nothing.
use mathlib.Core.Path.{◌≡◌, refl, sym, ap, ◌∙◌, subst}
use mathlib.Core.Logic.{◌≢◌, ◌⊎◌, inl, inr}
use mathlib.Core.Bool.{Bool, true, false, ◌||◌}
use mathlib.Core.List.{List, [], ◌∷◌, map}
use Prim.Native.Nat.{ℕ, zero, suc, ◌+◌, ◌*◌, ◌<◌}
use native.Mathlib.Decide.{ℕ_discrete}
use native.Mathlib.Omega.{arith}
use lib.Dec.{eqb}
use lib.ListN.{get_or, set, length, replicate, get_or-eq_default}
use borrow.Author.Tests.{eq-eqb, ne_eqb, eqb-true}
use Rattle.model.specs.declared.Params.{Params}
use Rattle.model.specs.Base.{In}
use Rattle.model.specs.Params.{word_count}
use Rattle.model.specs.Tables.{Words, blocks_in, Tables, tables_of, view, set_bound, set_phase}
use Rattle.model.specs.Global.{fresh_words, fresh_tables, bind_holder, unmarked_state, prepared, mark_place}
use Rattle.model.specs.Sound.{state_of, state_known, link_ok, block_clear}
use Rattle.model.specs.Memory.{marked}
use Rattle.laws.proofs.Base.{if_cases, if_true, if_false}
use Rattle.laws.proofs.Below.{true_not_false}
use Rattle.laws.proofs.Memory.{get_d_zeros}
use Rattle.laws.proofs.Stores.{set_all}
use Rattle.laws.proofs.Tables.{part_zeros, by_lt}
use Rattle.soundness.proofs.Lists.{Seg, AllOn, Links, links_of, on_list, lists_same}
use Rattle.soundness.proofs.SoundLists.{Fit, Good}
use Rattle.soundness.proofs.GoodTables.{SameWords, clear_same}
use Rattle.soundness.proofs.Flags.{Flags, Empty, facts_flags}

-- the tables of lists and blocks
pub record Rows : Type 0 where
  pub links : Links
  pub free : List ℕ
  pub size : List ℕ
  pub tls : List ℕ
  pub cells : List ℕ

abbrev pub rows_of : Words → Rows
rows_of w = record { links = links_of w; free = w.free; size = w.size; tls = w.tls; cells = w.cells }

module _ (p : Params) where
  -- states that say the same of each block, but which of the two marks it has
  pub record SameStates (st st' : List ℕ) : Type 0 where
    pub none : (b : ℕ) → get_or st' b 0 ≡ 0 → get_or st b 0 ≡ 0
    pub some : (b : ℕ) → get_or st' b 0 ≢ 0 → get_or st b 0 ≢ 0
    pub known : (b : ℕ) → get_or st b 0 ≢ 0 → (get_or st b 0 ≡ 255) ⊎ (get_or st b 0 ≡ 254) → (get_or st' b 0 ≡ 255) ⊎ (get_or st' b 0 ≡ 254)

  known_by : (t : Tables) (b : ℕ) → (state_of t b ≡ 255) ⊎ (state_of t b ≡ 254) → state_known t b ≡ true
  unfolding state_known
  known_by t b (inl e) = rw e
  known_by t b (inr e) = rw e

  known_as : (t : Tables) (b : ℕ) → state_known t b ≡ true → state_of t b ≢ 0 → (state_of t b ≡ 255) ⊎ (state_of t b ≡ 254)
  unfolding state_known
  known_as t b e o = go (eqb (state_of t b) 255) (eqb (state_of t b) 254) refl refl e
    where
      go : (x y : Bool) → eqb (state_of t b) 255 ≡ x → eqb (state_of t b) 254 ≡ y → (eqb (state_of t b) 0 || x || y) ≡ true → (state_of t b ≡ 255) ⊎ (state_of t b ≡ 254)
      go true y ex ey q = inl (eqb-true _ _ ex)
      go false true ex ey q = inr (eqb-true _ _ ey)
      go false false ex ey q = absurd (true_not_false (sym (subst (λ (z : Bool). (z || false || false) ≡ true) (ne_eqb (state_of t b) 0 o) q)))

  module _ {t : Tables} (w' : Words) {st' : List ℕ} (ms' : List ℕ) {L : ℕ → List ℕ} (E : rows_of w' ≡ rows_of t.words) (S : SameStates t.states st') (G : Good p t L) where
    words_stay : (b : ℕ) → SameWords t.words w' b
    words_stay b =
        record {
          free = ap (λ (x : Rows). get_or x.free b 0) E;
          size = ap (λ (x : Rows). get_or x.size b 0) E;
          tls = ap (λ (x : Rows). get_or x.tls b 0) E;
          cells = ap (λ (x : Rows). get_or x.cells b 0) E;
        }

    fit_stays : (l b : ℕ) → get_or t.states b 0 ≢ 0 → Fit p t l b → Fit p (tables_of w' st' ms') l b
    unfolding link_ok state_of
    fit_stays l b o F =
        record {
          known = known_by (tables_of w' st' ms') b (S.known b o (known_as t b F.known o));
          bin = F.bin;
          size = (words_stay b).size ∙ F.size;
          word = rw (words_stay b).size F.word;
          free = rw ((words_stay b).size, (words_stay b).free) F.free;
          holder = rw (words_stay b).tls F.holder;
          local = λ k. (words_stay b).tls ∙ F.local k;
        }

    clear_stays : (b : ℕ) → b < p.blocks → get_or st' b 0 ≡ 0 → block_clear w' b ≡ true
    unfolding state_of
    clear_stays b low e =
        clear_same {st = st'} b
        (record {
          occupied = λ o. o;
          next = ap (λ (x : Rows). get_or x.links.next b 0) E;
          prev = ap (λ (x : Rows). get_or x.links.prev b 0) E;
          list = ap (λ (x : Rows). get_or x.links.list b 0) E;
        })
        (words_stay b) (G.clear b low (S.none b e))

    pub good_stays : Good p (tables_of w' st' ms') L
    unfolding AllOn state_of
    good_stays =
        record {
          lists = lists_same p G.lists (ap (λ (x : Rows). x.links) E) (λ l b low m e. (on_list p G.lists l b low m).occupied (S.none b e));
          on = λ b low o. G.on b low (S.some b o);
          fit = λ l b low m. fit_stays l b (on_list p G.lists l b low m).occupied (G.fit l b low m);
          clear = clear_stays;
        }

  pub same_states : (st : List ℕ) → SameStates st st
  same_states st = record { none = λ b e. e; some = λ b e. e; known = λ b o k. k }

  -- bind: no table of lists or blocks changes
  pub bind_good : (h : ℕ) (t : Tables) (L : ℕ → List ℕ) → Good p t L → Good p (bind_holder h t) L
  unfolding bind_holder set_bound
  bind_good h t L G =
      good_stays _ t.marks refl (same_states t.states) G

  -- prepare: occupied blocks become Unmarked
  get_d_map : (f : ℕ → ℕ) → f 0 ≡ 0 → (l : List ℕ) (i : ℕ) → get_or (map f l) i 0 ≡ f (get_or l i 0)
  get_d_map f e [] i = sym e
  get_d_map f e (x ∷ l) zero = refl
  get_d_map f e (x ∷ l) (suc i) = get_d_map f e l i

  unmarked_states : (st : List ℕ) → SameStates st (map unmarked_state st)
  unfolding unmarked_state
  unmarked_states st = record { none = none; some = some; known = λ b o k. inl (now b o) }
    where
      at : (b : ℕ) → get_or (map unmarked_state st) b 0 ≡ unmarked_state (get_or st b 0)
      at b = get_d_map unmarked_state refl st b

      now : (b : ℕ) → get_or st b 0 ≢ 0 → get_or (map unmarked_state st) b 0 ≡ 255
      now b o = at b ∙ if_false (eqb (get_or st b 0) 0) 0 255 (ne_eqb _ _ o)

      none : (b : ℕ) → get_or (map unmarked_state st) b 0 ≡ 0 → get_or st b 0 ≡ 0
      none b e = go (ℕ_discrete (get_or st b 0) 0)
        where
          go : Dec (get_or st b 0 ≡ 0) → get_or st b 0 ≡ 0
          go (yes y) = y
          go (no n) = absurd (omega (arith, now b n, e))

      some : (b : ℕ) → get_or (map unmarked_state st) b 0 ≢ 0 → get_or st b 0 ≢ 0
      some b o e = o (at b ∙ if_true (eqb (get_or st b 0) 0) 0 255 (eq-eqb _ _ e))

  pub prepare_good : (t : Tables) (L : ℕ → List ℕ) → Good p t L → Good p (prepared t) L
  unfolding prepared set_phase
  prepare_good t L G =
      good_stays _ _ refl (unmarked_states t.states) G

  -- mark: an occupied block becomes Marked
  marked_states : (st : List ℕ) (b : ℕ) → get_or st b 0 ≢ 0 → SameStates st (set st b 254)
  marked_states st b o =
      record {
        none = λ d. set_all st b 254 (λ v. v ≡ 0 → get_or st d 0 ≡ 0) d inside (λ y q. absurd (omega (arith, q))) (λ n q. q);
        some = λ d. set_all st b 254 (λ v. v ≢ 0 → get_or st d 0 ≢ 0) d inside (λ y q z. o (ap (λ (x : ℕ). get_or st x 0) (sym y) ∙ z)) (λ n q. q);
        known = λ d q k. set_all st b 254 (λ v. (v ≡ 255) ⊎ (v ≡ 254)) d inside (λ y. inr refl) (λ n. k);
      }
    where
      inside : b < length st
      inside = by_lt b (length st) (λ h. h) (λ h. absurd (o (get_or-eq_default st 0 h)))

  pub mark_good : (place b : ℕ) (t : Tables) (L : ℕ → List ℕ) → state_of t b ≢ 0 → Good p t L → Good p (mark_place p place b t) L
  unfolding mark_place state_of
  mark_good place b t L o G = if_cases (λ (x : Tables). Good p x L) (marked p t.marks place) (λ e. G)
      (λ e. good_stays _ _ refl (marked_states t.states b o) G)

  -- set-up: no block is on a list
  pub fresh_good : Good p (fresh_tables p) (λ l. [])
  unfolding fresh_tables fresh_words word_count view Seg AllOn In state_of block_clear
  fresh_good =
      record {
        lists = record { seg = λ l low. (part_zeros 0 1470 k l, part_zeros 1470 1470 k l) };
        on = λ b low o. absurd (o (get_d_zeros p.blocks b));
        fit = λ l b low m. absurd m;
        clear = λ b low e.
            rw (
              part_zeros (2958 + 0 * n) n k b,
              part_zeros (2958 + 1 * n) n k b,
              part_zeros (2958 + 2 * n) n k b,
              part_zeros (2958 + 3 * n) n k b,
              part_zeros (2958 + 4 * n) n k b,
              part_zeros (2958 + 5 * n) n k b,
              part_zeros (2958 + 6 * n) n k b,
            );
      }
    where
      k : ℕ
      k = 2958 + 7 * p.blocks

      n : ℕ
      n = blocks_in (replicate k 0)

  pub fresh_flags : Flags (fresh_words p)
  unfolding fresh_words word_count view Empty
  fresh_flags =
      facts_flags (view (replicate k 0))
      (record {
        unbound = λ i low o l e. part_zeros 0 1470 k l;
        in_gc_lem = λ o l e. part_zeros 0 1470 k l;
        phase = omega (arith, idle);
        bound = λ i low. omega (arith, part_zeros 2941 8 k i);
        released = λ i low. omega (arith, part_zeros 2949 9 k i);
        only = λ part low e. absurd (omega (arith, part_zeros 2949 9 k part, e));
        whose = λ i low e. absurd (omega (arith, part_zeros 2949 9 k (suc i), e));
        some = λ e. absurd (omega (arith, idle, e));
        due = λ e. absurd (omega (arith, idle, e));
        empty = λ i low e. absurd (omega (arith, part_zeros 2949 9 k (suc i), e));
      })
    where
      k : ℕ
      k = 2958 + 7 * p.blocks

      idle : get_or (replicate {A = ℕ} k 0) 2940 0 ≡ 0
      idle = get_d_zeros k 2940
