-- The test of tables with the choice of eager sweeping (02, R-8), as facts: no unswept list has a block, and in Releasing no Unmarked
-- block is of in-gc or, once the shared part is done, of abandoned. And that calls keep them: what stays of a released list is not
-- Unmarked. Assumes nothing.
use Rattle.std.specs.Prelude.{Option, None, Some}
use mathlib.Core.Path.{◌≡◌, refl, sym, ap, ◌∙◌, subst}
use mathlib.Core.Logic.{◌≢◌, ◌⊎◌, inl, inr, ⊎_elim}
use mathlib.Core.Bool.{true, false, not, ◌&&◌}
use mathlib.Core.List.{List, [], ◌∷◌}
use Prim.Native.Nat.{ℕ, suc, ◌+◌, ◌-◌, ◌*◌, ◌/◌, ◌%◌, ◌<◌, ◌≤◌}
use native.Mathlib.Omega.{arith}
use native.Mathlib.Decide.{ℕ_discrete}
use lib.Dec.{eqb, leb}
use lib.ListN.{get_or, set, get_or-eq_default}
use borrow.Author.Tests.{eqb-true, eqb-false, eq-eqb, ne_eqb, leb-true, le-leb}
use Rattle.model.specs.declared.Params.{Params}
use Rattle.model.specs.declared.Block.{Block}
use Rattle.model.specs.Base.{In, each_below}
use Rattle.model.specs.Params.{block_at, list_of, list_word, local_sets, abandoned, available, unswept, consumed, bins}
use Rattle.model.specs.Tables.{Words, Tables, tables_of, set_next, set_prev, set_free, set_size, set_list, set_tls, set_cells, set_phase, set_released, with_released}
use Rattle.model.specs.BlockList.{pop, remove}
use Rattle.model.specs.Block.{state_unmarked, clear_block, init_block}
use Rattle.model.specs.FreeListAllocator.{Found, acquire_fresh, find_block}
use Rattle.model.specs.Global.{abandon_bin, abandon_blocks, Freed, freed, release_blocks, release_bin, release_holder, sweep_later_bin, sweep_later, has_released, all_released, part_released, eagerly}
use Rattle.model.specs.Sound.{state_of, list_named, set_named, on_unswept, released_before, eager_block, eager_ok}
use Rattle.laws.proofs.Base.{and_left, and_right, or_cases, or_left, or_right, Bool_cases, if_cases, all_below_lem, below_all}
use Rattle.laws.proofs.Below.{true_not_false, and_both, and_first, and_second}
use Rattle.laws.proofs.Params.{Bounds}
use Rattle.laws.proofs.Stores.{set_at, set_off}
use Rattle.laws.proofs.Tables.{by_lt}
use Rattle.laws.proofs.Frame.{each_keeps, each_grows, pop_firsts}
use Rattle.laws.proofs.Walks.{Numbered, available_numbered, unswept_numbered, consumed_numbered, Steps, find_keeps, released_one, eager_bin, eager_later}
use Rattle.soundness.proofs.Lists.{AllOn, on_list, first_none, none_first}
use Rattle.soundness.proofs.Removes.{words_same}
use Rattle.soundness.proofs.GoodTables.{GoodTables}
use Rattle.soundness.proofs.Owners.{third_list, Framed, eagerly_framed, Ended, eagerly_ended}
use Rattle.soundness.proofs.Flags.{Empty, FlagFacts}
use Rattle.soundness.proofs.Release.{GoodBy, Clean, blocks_good_clean, abandon_good}
use Rattle.soundness.proofs.Eagerly.{Named, Settled, available_kind, unswept_kind, consumed_kind, settled_firsts, push_settled, remove_settled, append_settled, EndedGood, eagerly_good}
use Rattle.soundness.proofs.Over.{owner_of, releasing_owner, abandoned_owner}

-- ---- the test as facts

-- no Unmarked block is of the owner j
unfoldable pub MarkedOf : ℕ → Words → List ℕ → Type 0
MarkedOf j w st = (b : ℕ) → get_or st b 0 ≡ state_unmarked → owner_of w b ≢ j

pub record EagerFacts (w : Words) (st : List ℕ) : Type 0 where
  pub settled : Settled w
  pub in_gc_lem : w.phase ≡ 2 → MarkedOf 9 w st
  pub shared : w.phase ≡ 2 → get_or w.released 0 0 ≡ 1 → MarkedOf 8 w st

-- in another phase
pub settled_facts : {w : Words} (st : List ℕ) → Settled w → w.phase ≢ 2 → EagerFacts w st
settled_facts st S f = record { settled = S; in_gc_lem = λ e. absurd (f e); shared = λ e. absurd (f e) }

module _ (p : Params) (B : Bounds p) {ms : List ℕ} {w : Words} {st : List ℕ} (H : GoodTables p ms w st) where
  -- a block in use is on a list
  pub record OnNamed (b : ℕ) : Type 0 where
    pub list : ℕ
    pub low : list < 1470
    pub on : In b (H.lists list)
    pub names : get_or w.list b 0 ≡ list_word list
    pub named : list_named w b ≡ list

  pub on_named : (b : ℕ) → b < p.blocks → get_or st b 0 ≢ 0 → OnNamed b
  unfolding AllOn list_named list_word
  on_named b low occ =
      let m = H.good.on b low occ in
      let e : get_or w.list b 0 ≡ 1 + m.0 = (on_list p H.good.lists m.0 b m.1 m.2).names in
      record { list = m.0; low = m.1; on = m.2; names = e; named = ap (λ (x : ℕ). x - 1) e ∙ omega arith }

  -- an Unmarked block is in use
  pub unmarked_low : (b : ℕ) → get_or st b 0 ≡ state_unmarked → (b < p.blocks) × (get_or st b 0 ≢ 0)
  unmarked_low b u =
      let occ : get_or st b 0 ≢ 0 = λ z. omega (arith, sym u ∙ z) in
      (by_lt b p.blocks (λ k. k) (λ far. absurd (occ (get_or-eq_default st 0 {n = b} (omega (arith, H.states))))), occ)

  -- a list without a first has no block
  pub first_empty : (l b : ℕ) → l < 1470 → get_or w.first l 0 ≡ 0 → In b (H.lists l) → ⊥
  unfolding In
  first_empty l b low z i = subst (In b) (none_first p B H.good.lists l low z) i

  module _ (on : p.eager ≡ true) where
    -- what passes the test
    pub eager_facts : eager_ok p (tables_of w st ms) ≡ true → EagerFacts w st
    unfolding eager_ok eager_block on_unswept released_before state_of set_named owner_of Settled MarkedOf has_released In list_named list_word
    eager_facts ok =
        record {
          settled = λ l e. settled l e;
          in_gc_lem = λ ph b u e.
              let x = unmarked_low b u in
              before b x.0 u
              (and_both (eq-eqb w.phase 2 ph) (or_left _ (le-leb 27 ((get_or w.list b 0 - 1) / 49) (omega (arith, e)))));
          shared = λ ph r b u e.
              let x = unmarked_low b u in
              before b x.0 u
              (and_both (eq-eqb w.phase 2 ph)
              (or_right (leb 27 ((get_or w.list b 0 - 1) / 49))
              (and_both (le-leb 24 ((get_or w.list b 0 - 1) / 49) (omega (arith, e))) (eq-eqb (get_or w.released 0 0) 1 r))));
        }
      where
        t : Tables
        t = tables_of w st ms

        each : (b : ℕ) → b < p.blocks → get_or st b 0 ≢ 0 → (not (on_unswept w b) && not (eqb (get_or st b 0) state_unmarked && released_before w b)) ≡ true
        each b low occ =
            let all = ⊎_elim (λ f. absurd (true_not_false (sym f ∙ ap not on))) (λ a. a) (or_cases (not p.eager) _ ok) in
            ⊎_elim (λ z. absurd (occ (eqb-true (get_or st b 0) 0 z))) (λ a. a) (or_cases (eqb (get_or st b 0) 0) _ (all_below_lem p.blocks (eager_block t) all b low))

        before : (b : ℕ) → b < p.blocks → get_or st b 0 ≡ state_unmarked → released_before w b ≡ true → ⊥
        before b low u r =
            let occ : get_or st b 0 ≢ 0 = λ z. omega (arith, sym u ∙ z) in
            true_not_false (sym (and_right (not (on_unswept w b)) _ (each b low occ)) ∙ ap not (and_both (eq-eqb (get_or st b 0) state_unmarked u) r))

        settled : (l : ℕ) → l / 49 % 3 ≡ 1 → get_or w.first l 0 ≡ 0
        settled l e = by_lt l 1470 (λ low. go low (H.lists l) refl) (λ far. get_or-eq_default w.first 0 {n = l} (omega (arith, H.sized.first)))
          where
            go : l < 1470 → (xs : List ℕ) → H.lists l ≡ xs → get_or w.first l 0 ≡ 0
            go low [] q = first_none p B H.good.lists l low q
            go low (x ∷ xs) q =
                let X = on_list p H.good.lists l x low (rw q (inl refl)) in
                let named : get_or w.list x 0 ≡ 1 + l = X.names in
                let is : eqb ((get_or w.list x 0 - 1) / 49 % 3) 1 ≡ true = eq-eqb ((get_or w.list x 0 - 1) / 49 % 3) 1 (rw named (ap (λ (y : ℕ). y / 49 % 3) (one_less l) ∙ e)) in
                absurd (true_not_false (sym (and_left (not (on_unswept w x)) _ (each x X.low X.occupied)) ∙ ap not is))
              where
                one_less : (k : ℕ) → 1 + k - 1 ≡ k
                one_less k = omega arith

  -- and back, of each block
  eager_block_lem : EagerFacts w st → (b : ℕ) → b < p.blocks → Dec (get_or st b 0 ≡ 0) → eager_block (tables_of w st ms) b ≡ true
  unfolding eager_block on_unswept released_before state_of set_named owner_of Settled MarkedOf has_released
  eager_block_lem E b low (yes z) = or_left _ (eq-eqb (get_or st b 0) 0 z)
  eager_block_lem E b low (no occ) =
      or_right (eqb (get_or st b 0) 0) (and_both (ap not (ne_eqb (list_named w b / 49 % 3) 1 swept)) (ap not (before (ℕ_discrete (get_or st b 0) state_unmarked))))
    where
      X : OnNamed b
      X = on_named b low occ

      swept : list_named w b / 49 % 3 ≢ 1
      swept e = first_empty X.list b X.low (E.settled X.list (rw X.named at e)) X.on

      not_before : get_or st b 0 ≡ state_unmarked → released_before w b ≡ true → ⊥
      not_before u r =
          let ph : w.phase ≡ 2 = eqb-true w.phase 2 (and_left (eqb w.phase 2) _ r) in
          let n : ℕ = list_named w b in
          let few : n < 1470 = rw X.named X.low in
          ⊎_elim (λ q. E.in_gc_lem ph b u (omega (arith, leb-true 27 (n / 49) q)))
          (λ q.
          let far = leb-true 24 (n / 49) (and_left (leb 24 (n / 49)) (eqb (get_or w.released 0 0) 1) q) in
          let done = eqb-true _ 1 (and_right (leb 24 (n / 49)) (eqb (get_or w.released 0 0) 1) q) in
          E.shared ph done b u (omega (arith, far, E.in_gc_lem ph b u)))
          (or_cases (leb 27 (n / 49)) (leb 24 (n / 49) && eqb (get_or w.released 0 0) 1) (and_right (eqb w.phase 2) _ r))

      before : Dec (get_or st b 0 ≡ state_unmarked) → (eqb (get_or st b 0) state_unmarked && released_before w b) ≡ false
      before (no f) = and_first (released_before w b) (ne_eqb (get_or st b 0) state_unmarked f)
      before (yes u) = and_second (eqb (get_or st b 0) state_unmarked) (⊎_elim (λ r. absurd (not_before u r)) (λ f. f) (Bool_cases (released_before w b)))

  -- and what they say passes
  pub facts_eager : (p.eager ≡ true → EagerFacts w st) → eager_ok p (tables_of w st ms) ≡ true
  unfolding eager_ok
  facts_eager given = ⊎_elim (λ on. or_right (not p.eager) (below_all p.blocks _ (λ b low. eager_block_lem (given on) b low (ℕ_discrete (get_or st b 0) 0)))) (λ off. or_left _ (ap not off)) (Bool_cases p.eager)

-- ---- the calls that release nothing

module _ (p : Params) where
  -- an owner's lists put behind another's, each behind the one of its kind
  pub abandon_settled : (i j : ℕ) (w : Words) → Settled w → Settled (abandon_blocks p (3 * i) (3 * j) w)
  unfolding abandon_blocks abandon_bin available unswept consumed list_of
  abandon_settled i j =
      each_keeps Settled bins (abandon_bin p (3 * i) (3 * j))
      (λ bin lb w S. append_settled p _ _ _ (omega arith) (append_settled p _ _ _ (omega arith) (append_settled p _ _ w (omega arith) S)))

  -- the search of an alloc, which meets empty lists where it would sweep
  module _ (h bin : ℕ) (lb : bin < 49) (ms : List ℕ) where
    my_available : available (local_sets h) bin / 49 % 3 ≢ 1
    unfolding local_sets
    my_available = available_kind (h - 1) bin lb

    my_consumed : consumed (local_sets h) bin / 49 % 3 ≢ 1
    unfolding local_sets
    my_consumed = consumed_kind (h - 1) bin lb

    my_unswept : unswept (local_sets h) bin / 49 % 3 ≡ 1
    unfolding local_sets
    my_unswept = unswept_kind (h - 1) bin lb

    settled_none : (w : Words) (l : ℕ) → Settled w → l / 49 % 3 ≡ 1 → get_or w.first l 0 ≡ 0
    unfolding Settled
    settled_none w l S e = S l e

    pop_settled : (l : ℕ) (w : Words) → l / 49 % 3 ≢ 1 → Settled w → Settled (pop p l w).words
    pop_settled l w f = settled_firsts w (pop p l w).words l l f f (pop_firsts p l w)

    tls_settled : (b v : ℕ) (w : Words) → Settled w → Settled (set_tls b v w)
    unfolding set_tls Settled
    tls_settled b v w S = S

    settled_steps : Steps p ms h bin (λ es w. Settled w) (λ es a w. Settled w)
    settled_steps =
        record {
          moved = λ es w S some e. push_settled p _ _ _ my_consumed (pop_settled _ w my_available S);
          seen = λ es w S some e. S;
          recycled = λ es w S some. absurd (some (settled_none w (unswept (local_sets h) bin) S my_unswept));
          over = λ es w S some.
              let u : Words = set_tls (block_at p (get_or w.first (available abandoned bin) 0)) h (pop p (available abandoned bin) w).words in
              let T : Settled u = tls_settled _ h _ (pop_settled (available abandoned bin) w (available_kind 8 bin lb) S) in
              record { full = λ e. push_settled p _ _ u my_consumed T; has = λ e. push_settled p _ _ u my_available T };
          swept = λ es w S none some. absurd (some (settled_none w (unswept abandoned bin) S (unswept_kind 8 bin lb)));
        }

    fresh_settled : (o : Option Block) (t : Tables) (f : Found) → Settled f.words → Settled (acquire_fresh p h bin o f t).tables.words
    unfolding acquire_fresh init_block set_free set_size set_tls set_cells Settled
    fresh_settled None t f S = S
    fresh_settled (Some b) t f S = push_settled p (available (local_sets h) bin) b.0 f.words my_available S

    pub find_settled : (offer : Option Block) (t : Tables) → t.marks ≡ ms → Settled t.words → Settled (find_block p h bin offer t).tables.words
    find_settled offer t e S =
        find_keeps p h bin t (λ es w. Settled w) (λ es a w. Settled w) (subst (λ (x : List ℕ). Steps p x h bin (λ es w. Settled w) (λ es a w. Settled w)) (sym e) settled_steps)
        (λ s. Settled s.tables.words) offer (λ f z S. fresh_settled offer t f S) (λ f z S. S) S

-- ---- releases

flags_settled : (w u : Words) → u.first ≡ w.first → Settled w → Settled u
unfolding Settled
flags_settled w u e S l k = ap (λ (x : List ℕ). get_or x l 0) e ∙ S l k

named_owner : {w u : Words} → Named w u → (b : ℕ) → owner_of u b ≡ owner_of w b
unfolding owner_of
named_owner N b = N.owner b

-- abandoned is an owner
shared_owner : 8 < 10
shared_owner = omega arith

-- no Unmarked block is on one of these lists
unfoldable Never : (ℕ → Type 0) → Freed → Type 0
Never Q f = (b l : ℕ) → get_or f.states b 0 ≡ state_unmarked → get_or f.words.list b 0 ≡ list_word l → Q l → ⊥

module _ (p : Params) (B : Bounds p) (ms : List ℕ) where
  abbrev Holds : (ℕ → Type 0) → Freed → Type 0
  Holds Q f = Settled f.words × Never Q f

  -- a block is released
  one_holds : (Q : ℕ → Type 0) (l : ℕ) → l < 1470 → (f : Freed) (H : GoodBy p B ms f) (b : ℕ) → In b (H.lists l) → Holds Q f → Holds Q (released_one p l b f)
  unfolding Never Settled clear_block set_cells set_tls set_list set_size set_free set_prev set_next
  one_holds Q l ll f H b i K = (settled (ℕ_discrete (l / 49 % 3) 1), λ x m u names q. never x m u names q (ℕ_discrete x b))
    where
      R : Words
      R = remove p l b f.words

      settled : Dec (l / 49 % 3 ≡ 1) → (m : ℕ) → m / 49 % 3 ≡ 1 → get_or R.first m 0 ≡ 0
      settled (yes e) = absurd (first_empty p B H l b ll (K.0 l e) i)
      settled (no g) = remove_settled p l b f.words g K.0

      never : (x m : ℕ) → get_or (set f.states b 0) x 0 ≡ state_unmarked → get_or (set R.list b 0) x 0 ≡ list_word m → Q m → Dec (x ≡ b) → ⊥
      never x m u names q (yes e) =
          omega (arith, sym (set_at f.states b 0 (omega (arith, (on_list p H.good.lists l b ll i).low, H.states))) ∙ subst (λ (y : ℕ). get_or (set f.states b 0) y 0 ≡ state_unmarked) e u)
      never x m u names q (no g) =
          K.1 x m (sym (set_off f.states b 0 x g) ∙ u)
          (sym (words_same p B f.states f.words H.sized H.lists H.good.lists l b ll i x) ∙ sym (set_off R.list b 0 x g) ∙ names) q

  -- a list is released
  walk_holds : (Q : ℕ → Type 0) (l bin o : ℕ) → Numbered l o bin → (f : Freed) → GoodBy p B ms f → Holds Q f
      → GoodBy p B ms (release_blocks p l f) × Holds Q (release_blocks p l f) × Clean p B ms l (release_blocks p l f)
  walk_holds Q l bin o N f H K = blocks_good_clean p B ms l bin o N (Holds Q) (one_holds Q l N.low) f H K

  -- the bins below n of the owner i are released; of the lists `Base` it was so before
  module _ (i : ℕ) (li : i < 10) (Base : ℕ → Type 0) where
    abbrev Below : ℕ → ℕ → Type 0
    Below n l = Base l ⊎ ((l / 147 ≡ i) × (l % 49 < n) × (l / 49 % 3 ≢ 1))

    record Row (n : ℕ) (f : Freed) : Type 0 where
      good : GoodBy p B ms f
      holds : Holds (Below n) f

    module _ (n : ℕ) (ln : n < 49) where
      abbrev av : ℕ
      av = available (3 * i) n

      abbrev co : ℕ
      co = consumed (3 * i) n

      grows : (l : ℕ) → Below (suc n) l → l ≢ av → l ≢ co → Below n l
      grows l (inl q) na nc = inl q
      grows l (inr q) na nc = go (ℕ_discrete (l % 49) n)
        where
          go : Dec (l % 49 ≡ n) → Below n l
          go (yes e) = absurd (q.2 (ap (λ (x : ℕ). x / 49 % 3) (third_list i n l q.0 e na nc) ∙ unswept_kind i n ln))
          go (no f) = inr (q.0, omega (arith, f, q.1), q.2)

      two_walks : (f : Freed) → Row n f → Row (suc n) (release_blocks p co (release_blocks p av f))
      unfolding Never Clean
      two_walks f R =
          let X = walk_holds (Below n) av n i (available_numbered i n li ln) f R.good R.holds in
          let Y = walk_holds (λ l. Below n l ⊎ (l ≡ av)) co n i (consumed_numbered i n li ln) (release_blocks p av f) X.0
          (X.1.0, λ b l u names. ⊎_elim (X.1.1 b l u names) (λ e. X.2 b u (names ∙ ap list_word e))) in
          record {
            good = Y.0;
            holds = (
              Y.1.0,
              λ b l u names q.
                  Y.1.1 b l u names (inl (grows l q (λ e. Y.1.1 b l u names (inr e)) (λ e. Y.2 b u (names ∙ ap list_word e)))),
            );
          }

      three_walks : (f : Freed) → Row n f → Row (suc n) (release_blocks p (unswept (3 * i) n) (release_blocks p co (release_blocks p av f)))
      three_walks f R =
          let Y = two_walks f R in
          let Z = walk_holds (Below (suc n)) (unswept (3 * i) n) n i (unswept_numbered i n li ln) _ Y.good Y.holds in
          record { good = Z.0; holds = Z.1 }

    -- all of them: no Unmarked block of the owner is left
    module _ {f : Freed} (R : Row 49 f) where
      row_marked : MarkedOf i f.words f.states
      unfolding MarkedOf Never Settled owner_of
      row_marked b u e =
          let x = unmarked_low p B R.good b u in
          let X = on_named p B R.good b x.0 x.1 in
          let own : X.list / 147 ≡ i = rw X.named at e in
          ⊎_elim (λ k. first_empty p B R.good X.list b X.low (R.holds.0 X.list (eqb-true (X.list / 49 % 3) 1 k)) X.on)
          (λ k. R.holds.1 b X.list u X.names (inr (own, omega arith, eqb-false (X.list / 49 % 3) 1 k)))
          (Bool_cases (eqb (X.list / 49 % 3) 1))

      row_base : (j : ℕ) → ((l : ℕ) → l / 147 ≡ j → Base l) → MarkedOf j f.words f.states
      unfolding MarkedOf Never owner_of
      row_base j of b u e =
          let x = unmarked_low p B R.good b u in
          let X = on_named p B R.good b x.0 x.1 in
          R.holds.1 b X.list u X.names (inl (of X.list (rw X.named at e)))

  -- ---- what a part finds

  module _ (w : Words) (st : List ℕ) (H : GoodTables p ms w st) where
    pub record Due : Type 0 where
      pub settled : Settled w
      pub in_gc_lem : MarkedOf 9 w st
      pub shared : get_or w.released 0 0 ≡ 1 → MarkedOf 8 w st

    pub facts_due : FlagFacts w → EagerFacts w st → Due
    unfolding MarkedOf Empty owner_of
    facts_due F E = record { settled = E.settled; in_gc_lem = in_gc_lem (ℕ_discrete w.phase 2); shared = λ r. E.shared (F.only 0 (omega arith) r) r }
      where
        in_gc_lem : Dec (w.phase ≡ 2) → (b : ℕ) → get_or st b 0 ≡ state_unmarked → owner_of w b ≢ 9
        in_gc_lem (yes e) = E.in_gc_lem e
        in_gc_lem (no f) = λ b u e.
            let x = unmarked_low p B H b u in
            let X = on_named p B H b x.0 x.1 in
            first_empty p B H X.list b X.low (F.in_gc_lem f X.list (rw X.named at e)) X.on

    -- the owner of a block by its list word
    word_owner : (b l : ℕ) → get_or w.list b 0 ≡ list_word l → owner_of w b ≡ l / 147
    unfolding owner_of list_named list_word
    word_owner b l e = rw e (ap (λ (x : ℕ). x / 147) (one_less l))
      where
        one_less : (k : ℕ) → 1 + k - 1 ≡ k
        one_less k = omega arith

    -- ---- what it leaves, before the end of the collection

    pub record Left (f : Freed) : Type 0 where
      pub good : GoodBy p B ms f
      pub settled : Settled f.words
      pub in_gc_lem : MarkedOf 9 f.words f.states
      pub shared : get_or w.released 0 0 ≡ 1 → MarkedOf 8 f.words f.states

    module _ (on : p.eager ≡ true) (D : Due) where
      HolderBase : ℕ → Type 0
      HolderBase l = (l / 147 ≡ 9) ⊎ ((l / 147 ≡ 8) × (get_or w.released 0 0 ≡ 1))

      holder_row : (i : ℕ) (li : i < 10) → Row i li HolderBase 49 (each_below bins (release_bin p (3 * i)) (freed w st))
      unfolding Never HolderBase MarkedOf
      holder_row i li =
          each_grows (Row i li HolderBase) bins (release_bin p (3 * i)) (λ n ln f R. rw (eager_bin p on (3 * i) n f) (two_walks i li HolderBase n ln f R)) (freed w st)
          (record { good = H; holds = (D.settled, start) })
        where
          start : (b l : ℕ) → get_or st b 0 ≡ state_unmarked → get_or w.list b 0 ≡ list_word l → Below i li HolderBase 0 l → ⊥
          start b l u names (inl (inl e)) = D.in_gc_lem b u (word_owner b l names ∙ e)
          start b l u names (inl (inr e)) = D.shared e.1 b u (word_owner b l names ∙ e.0)
          start b l u names (inr e) = omega (arith, e.1)

      pub holder_left : (h : ℕ) → 1 ≤ h → h ≤ 8 → Left (release_holder p h w st)
      unfolding release_holder local_sets MarkedOf HolderBase
      holder_left h lo hi =
          record {
            good = abandon_good p B ms 9 (h - 1) (omega arith) (omega arith) (omega arith) (omega arith) _ _ R.good;
            settled = abandon_settled p 9 (h - 1) X.words R.holds.0;
            in_gc_lem = λ b u e.
                let x = unmarked_low p B R.good b u in
                ⊎_elim (λ q. row_base (h - 1) (omega arith) HolderBase R 9 (λ l k. inl k) b u (sym q.1 ∙ e)) (λ q. row_marked (h - 1) (omega arith) HolderBase R b u q.0) (moved b x.0 x.1);
            shared = λ r b u e.
                let x = unmarked_low p B R.good b u in
                ⊎_elim (λ q. row_base (h - 1) (omega arith) HolderBase R 8 (λ l k. inr (k, r)) b u (sym q.1 ∙ e)) (λ q. omega (arith, sym q.1 ∙ e)) (moved b x.0 x.1);
          }
        where
          X : Freed
          X = each_below bins (release_bin p (3 * (h - 1))) (freed w st)

          R : Row (h - 1) (omega arith) HolderBase 49 X
          R = holder_row (h - 1) (omega arith)

          moved : (b : ℕ) → b < p.blocks → get_or X.states b 0 ≢ 0
              → ((owner_of X.words b ≢ h - 1) × (owner_of (abandon_blocks p 27 (3 * (h - 1)) X.words) b ≡ owner_of X.words b))
              ⊎ ((owner_of X.words b ≡ h - 1) × (owner_of (abandon_blocks p 27 (3 * (h - 1)) X.words) b ≡ 9))
          moved b low occ = abandoned_owner p B ms 9 (h - 1) (omega arith) (omega arith) (omega arith) (omega arith) X.states X.words R.good b low occ

      SharedBase : ℕ → Type 0
      SharedBase l = l / 147 ≡ 9

      shared_row : Row 8 shared_owner SharedBase 49 (sweep_later p w st)
      unfolding sweep_later Never SharedBase MarkedOf
      shared_row =
          each_grows (Row 8 shared_owner SharedBase) bins (sweep_later_bin p) (λ n ln f R. rw (eager_later p on n f) (three_walks 8 shared_owner SharedBase n ln f R)) (freed w st)
          (record { good = H; holds = (D.settled, start) })
        where
          start : (b l : ℕ) → get_or st b 0 ≡ state_unmarked → get_or w.list b 0 ≡ list_word l → Below 8 shared_owner SharedBase 0 l → ⊥
          start b l u names (inl e) = D.in_gc_lem b u (word_owner b l names ∙ e)
          start b l u names (inr e) = omega (arith, e.1)

      -- the shared part: of abandoned too
      pub shared_left : Left (sweep_later p w st) × MarkedOf 8 (sweep_later p w st).words (sweep_later p w st).states
      unfolding SharedBase
      shared_left =
          let done = row_marked 8 shared_owner SharedBase shared_row in
          (record { good = shared_row.good; settled = shared_row.holds.0; in_gc_lem = row_base 8 shared_owner SharedBase shared_row 9 (λ l k. k); shared = λ r. done }, done)

  -- ---- the part is done

  pub part_facts : (part : ℕ) (f : Freed) → GoodBy p B ms f → Settled f.words → MarkedOf 9 f.words f.states
      → (get_or (set f.words.released part 1) 0 0 ≡ 1 → MarkedOf 8 f.words f.states)
      → let g : Freed = eagerly p ms part f in EagerFacts (part_released p part g.words) g.states
  unfolding part_released MarkedOf set_released set_phase with_released
  part_facts part f H S gc sh =
      if_cases (λ (v : Words). EagerFacts v g.states) (all_released w₁)
      (λ e. settled_facts g.states (flags_settled _ _ refl (abandon_settled p 8 9 w₁ (flags_settled g.words w₁ refl (E.settled S)))) (λ z. omega (arith, z)))
      (λ e. record {
        settled = flags_settled g.words w₁ refl (E.settled S);
        in_gc_lem = λ ph b u q. gc b (rw N.states at u) (sym (same b) ∙ q);
        shared = λ ph r b u q. sh (rw F.released at r) b (rw N.states at u) (sym (same b) ∙ q);
      })
    where
      g : Freed
      g = eagerly p ms part f

      w₁ : Words
      w₁ = set_released part 1 (set_phase 2 g.words)

      E : EndedGood p B ms f g
      E = eagerly_good p B ms part f H

      F : Framed 8 9 f.words g.words
      F = eagerly_framed p ms part f

      N : Ended p ms part f g
      N = eagerly_ended p ms part f

      same : (b : ℕ) → owner_of w₁ b ≡ owner_of f.words b
      same b = releasing_owner part g.words b ∙ named_owner E.named b
