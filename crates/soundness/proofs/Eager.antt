-- 02, R-8, as Eager.antt of the model states it: after the last release with the choice on every block in use is Marked, and has the
-- chain that a sweep builds from the marks. Its state, as no Unmarked block is left on any list: holders have none, and those of
-- abandoned and in-gc were released. Assumes nothing.
use mathlib.Core.Path.{◌≡◌, refl, sym, ap, ◌∙◌, subst}
use mathlib.Core.Logic.{◌≢◌, inl, inr, ⊎_elim}
use mathlib.Core.Bool.{true, ◌||◌}
use mathlib.Core.List.{List, []}
use Prim.Native.Nat.{ℕ, suc, ◌/◌, ◌<◌, ◌≤◌}
use native.Mathlib.Omega.{arith}
use native.Mathlib.Decide.{ℕ_discrete}
use lib.Dec.{eqb}
use lib.ListN.{length, get_or}
use borrow.Author.Tests.{eqb-true, eq-eqb}
use Rattle.model.specs.declared.Params.{Params}
use Rattle.model.specs.Base.{In}
use Rattle.model.specs.Params.{Lent, fits, abandoned, in_gc}
use Rattle.model.specs.Tables.{Words, view, tables_of, set_phase, set_released, with_released}
use Rattle.model.specs.Block.{state_unmarked, state_marked, cell_count, is_cell, sweep_chain, free_chain}
use Rattle.model.specs.Events.{events_heap}
use Rattle.model.specs.Global.{is_bound, all_released, is_last, Freed, release_holder, sweep_later, eagerly, part_released}
use Rattle.model.specs.Sound.{state_of, state_known, sound_on}
use Rattle.model.specs.Calls.{release, shared_release, call_tests, release_plan, plan_passed, finish, carried, Returned, tables_in, lent_of, result_from}
use Rattle.model.specs.Eager.{LeftSwept, EndsSwept, EagerSwept}
use Rattle.laws.proofs.Base.{if_cases, or_cases}
use Rattle.laws.proofs.Params.{Bounds, good_bounds, some_start}
use Rattle.laws.proofs.Stores.{set_off}
use Rattle.laws.proofs.Tables.{view_flat}
use Rattle.laws.proofs.Cells.{no_cell, whole_is_cell}
use Rattle.laws.proofs.ChainTest.{stands_passed, cells_few}
use Rattle.laws.proofs.Lent.{fitting}
use Rattle.laws.proofs.Tests.{release_passed}
use Rattle.soundness.proofs.Owners.{abandon_links, holder_framed, holder_empties, shared_framed, Ended, eagerly_ended, eagerly_last, part_phase}
use Rattle.soundness.proofs.Flags.{Flags, sound_flags, Empty, bound_at, last_empties, last_shared}
use Rattle.soundness.proofs.Chains.{BlockChain, shadow_events, Chains}
use Rattle.soundness.proofs.ChainPlans.{After, good_wide, eagerly_after, eagerly_swept, part_chains, holder_chains, shared_chains}
use Rattle.soundness.proofs.Release.{GoodBy}
use Rattle.soundness.proofs.Eagerly.{eagerly_good}
use Rattle.soundness.proofs.EagerOk.{MarkedOf, OnNamed, on_named, first_empty, holder_left, shared_left}
use Rattle.soundness.proofs.Over.{owner_of}
use Rattle.soundness.proofs.Kept.{Kept, Sound, H, due, part_good, lent_sound}
use Rattle.soundness.proofs.Released.{call_passed}

-- the end of a part leaves the cell sizes
part_size : (p : Params) (part : ℕ) (w : Words) → (part_released p part w).size ≡ w.size
unfolding part_released set_released set_phase with_released
part_size p part w = if_cases (λ (v : Words). v.size ≡ w.size) (all_released w₁) (λ e. (abandon_links p abandoned in_gc w₁).size) (λ e. refl)
  where
    w₁ : Words
    w₁ = set_released part 1 (set_phase 2 w)

module _ (p : Params) (l : Lent) (on : p.eager ≡ true) where
  abbrev w : Words
  w = view l.words

  abbrev ms : List ℕ
  ms = l.marks

  -- of an answer
  abbrev Ends : Returned → Type 0
  Ends r =
      r.reply.number ≡ 0 → (view r.lent.words).phase ≡ 0
      → (b : ℕ) → b < p.blocks → get_or r.lent.states b 0 ≢ 0 → LeftSwept p l r.lent b

  module _ (f : fits p l ≡ true) (s : sound_on p (tables_in l) l.heap ≡ true) where
    abbrev B : Bounds p
    B = good_bounds p (fitting p l f).good

    S : Sound p B (tables_in l) l.heap
    S = lent_sound p l f s

    K : Kept p B (tables_in l)
    K = S.kept

    G : Flags w
    G = sound_flags p (tables_in l) K.passes

    -- what the releases of a part left, if it is the last
    record LastPart (part : ℕ) (r : Freed) : Type 0 where
      good : GoodBy p B ms r
      chains : After p B l.heap S.shadow r.events r.words
      holders : is_last part r.words ≡ true → (i : ℕ) → i < 8 → Empty r.words i
      shared : is_last part r.words ≡ true → MarkedOf 8 r.words r.states
      in_gc_lem : MarkedOf 9 r.words r.states

    module _ (part : ℕ) (r : Freed) (L : LastPart part r) where
      abbrev g : Freed
      g = eagerly p ms part r

      abbrev v : Words
      v = part_released p part g.words

      abbrev heap' : List ℕ
      heap' = events_heap p g.events l.heap

      wide : (b : ℕ) → b < p.blocks → get_or r.states b 0 ≢ 0 → 8 ≤ get_or r.words.size b 0
      wide = good_wide p L.good

      N : Ended p ms part r g
      N = eagerly_ended p ms part r

      seen : view (lent_of (tables_of v g.states ms) heap').words ≡ v
      seen = view_flat p.blocks v (part_good p B part g.words g.states ms (eagerly_good p B ms part r L.good).good).sized

      last : v.phase ≡ 0 → is_last part r.words ≡ true
      last e = sym (eagerly_last p ms part r) ∙ sym (part_phase p part g.words) ∙ eq-eqb v.phase 0 e

      -- every block in use is Marked
      is_marked : is_last part r.words ≡ true → (b : ℕ) → b < p.blocks → get_or r.states b 0 ≢ 0 → get_or r.states b 0 ≡ state_marked
      unfolding MarkedOf Empty state_known state_of owner_of
      is_marked e b low occ =
          ⊎_elim (λ q. absurd (⊎_elim (λ z. occ (eqb-true _ 0 z)) (λ u. unmarked (eqb-true _ state_unmarked u)) (or_cases (eqb (get_or r.states b 0) 0) (eqb (get_or r.states b 0) state_unmarked) q)))
          (λ q. eqb-true _ state_marked q)
          (or_cases (eqb (get_or r.states b 0) 0 || eqb (get_or r.states b 0) state_unmarked) (eqb (get_or r.states b 0) state_marked) (L.good.good.fit X.list b X.low X.on).known)
        where
          X : OnNamed p B L.good b
          X = on_named p B L.good b low occ

          unmarked : get_or r.states b 0 ≡ state_unmarked → ⊥
          unmarked u = go (ℕ_discrete (X.list / 147) 8) (ℕ_discrete (X.list / 147) 9)
            where
              go : Dec (X.list / 147 ≡ 8) → Dec (X.list / 147 ≡ 9) → ⊥
              go (yes q) d = L.shared e b u (rw X.named q)
              go (no ne) (yes q) = L.in_gc_lem b u (rw X.named q)
              go (no ne) (no nf) = first_empty p B L.good X.list b X.low (L.holders e (X.list / 147) (omega (arith, X.low, ne, nf)) X.list refl) X.on

      -- and its chain is its sweep's
      module _ (e : is_last part r.words ≡ true) (b : ℕ) (low : b < p.blocks) (occ : get_or r.states b 0 ≢ 0) where
        abbrev size : ℕ
        size = get_or v.size b 0

        C : Chains p v.free v.size v.cells heap' (shadow_events g.events S.shadow)
        C = part_chains p B l.heap S.shadow part g.events g.words (eagerly_after p B l.heap S.shadow ms r wide part L.chains)

        shadow_is : get_or (shadow_events g.events S.shadow) b [] ≡ sweep_chain p ms b size
        shadow_is =
            eagerly_swept p B l.heap S.shadow ms r wide part L.chains on e b low occ
            ∙ ap (λ (z : List ℕ). sweep_chain p ms b (get_or z b 0)) (sym (part_size p part g.words ∙ N.size))

        X : BlockChain p heap' b (get_or v.free b 0) size (get_or v.cells b 0) (sweep_chain p ms b size)
        X = subst (λ (c : List ℕ). BlockChain p heap' b (get_or v.free b 0) size (get_or v.cells b 0) c) shadow_is (C.blocks b low)

        chain_is : free_chain p heap' b v ≡ sweep_chain p ms b size
        unfolding free_chain
        chain_is =
            let whole : (x : ℕ) → In x (sweep_chain p ms b size) → is_cell p b size x ≡ true = λ x m. whole_is_cell p b size x (X.cells x m) in
            stands_passed p heap' b size (no_cell p b size (omega (arith, some_start p B b low))) (cell_count p size) (get_or v.free b 0) (sweep_chain p ms b size)
            X.stands whole (cells_few p heap' b size (sweep_chain p ms b size) whole X.once)

      part_ends : Ends (result_from (carried p l.heap (release_plan p part (tables_in l) r)))
      unfolding release_plan finish
      part_ends z ph b low used =
          let e = last (ap (λ (u : Words). u.phase) (sym seen) ∙ ph) in
          let occ : get_or r.states b 0 ≢ 0 = rw N.states at used in
          record {
            state = ap (λ (x : List ℕ). get_or x b 0) N.states ∙ is_marked e b low occ;
            chain = subst (λ (u : Words). free_chain p heap' b u ≡ sweep_chain p ms b (get_or u.size b 0)) (sym seen) (chain_is e b low occ);
            cells = subst (λ (u : Words). get_or u.cells b 0 ≡ length (sweep_chain p ms b (get_or u.size b 0))) (sym seen) (X e b low occ).count;
          }

    -- a holder's part
    holder_last : (h : ℕ) → is_bound w h ≡ true → LastPart h (release_holder p h w l.states)
    holder_last h o =
        let P = bound_at w h o in
        let R = holder_framed p w l.states h P.low P.high in
        let L = holder_left p B ms w l.states (H p B (tables_in l) K) on (due p B (tables_in l) K S.eager on) h P.low P.high in
        let f : Freed = release_holder p h w l.states in
        let others : (m : ℕ) → m / 147 < 8 → suc (m / 147) ≢ h → get_or f.words.first m 0 ≡ get_or w.first m 0 = λ m lt ne. R.first m (omega (arith, ne)) (omega (arith, lt)) in
        let own : (m : ℕ) → suc (m / 147) ≡ h → get_or f.words.first m 0 ≡ 0 = λ m e. holder_empties p w l.states h P.low P.high K.sized m (omega (arith, e)) in
        record {
          good = L.good;
          chains = holder_chains p B l.heap S.shadow (tables_in l) K.states S.chains h;
          holders = last_empties p w f.words h L.good.sized G (inr o) R.bound R.released others own;
          shared = λ e.
              L.shared (ap (λ (x : List ℕ). get_or x 0 0) (sym R.released) ∙ sym (set_off f.words.released h 1 0 (omega (arith, P.low)))
              ∙ last_shared p w f.words h L.good.sized G (inr o) R.bound R.released others own e);
          in_gc_lem = L.in_gc_lem;
        }

    -- the shared part
    shared_last : LastPart 0 (sweep_later p w l.states)
    shared_last =
        let R = shared_framed p w l.states in
        let L = shared_left p B ms w l.states (H p B (tables_in l) K) on (due p B (tables_in l) K S.eager on) in
        let f : Freed = sweep_later p w l.states in
        record {
          good = L.0.good;
          chains = shared_chains p B l.heap S.shadow (tables_in l) K.states S.chains;
          holders = last_empties p w f.words 0 L.0.good.sized G (inl refl) R.bound R.released
              (λ m lt ne. R.first m (omega (arith, lt)) (omega (arith, lt))) (λ m e. absurd (omega (arith, e)));
          shared = λ e. L.1;
          in_gc_lem = L.0.in_gc_lem;
        }

pub eager_swept : EagerSwept
unfolding EagerSwept EndsSwept call_tests plan_passed
eager_swept p l = (
  (λ h on. call_passed p l (Ends p l on) (λ r off z. absurd (off z)) (release h)
      (λ f s q. part_ends p l on f s h _ (holder_last p l on f s h (release_passed (view l.words) h q).1))),
  λ on. call_passed p l (Ends p l on) (λ r off z. absurd (off z)) shared_release (λ f s q. part_ends p l on f s 0 _ (shared_last p l on f s)),
)
