-- Sound tables and a heap that passes the test of chains have a shadow (Chains.antt), and where there is one the test passes.
-- Assumes nothing.
use mathlib.Core.Path.{◌≡◌, refl, sym, ap}
use mathlib.Core.Logic.{◌≢◌}
use mathlib.Core.Bool.{true, false}
use mathlib.Core.List.{List, [], ◌∷◌}
use Prim.Native.Nat.{ℕ, zero, suc, ◌<◌, ◌≤◌}
use native.Mathlib.Omega.{arith}
use native.Mathlib.Nat.{not-suc-le-zero, le_of_suc-le-suc}
use native.Mathlib.Decide.{ℕ_discrete}
use lib.Dec.{eqb, ltb, leb}
use lib.ListN.{length, get_or}
use borrow.Author.Tests.{ne_eqb, eqb-true, ltb-true}
use Rattle.model.specs.declared.Params.{Params}
use Rattle.model.specs.Base.{In, Pairwise}
use Rattle.model.specs.Params.{heap_bytes}
use Rattle.model.specs.Tables.{Words, Tables}
use Rattle.model.specs.SizeClasses.{cell_bytes}
use Rattle.model.specs.Block.{cell_count, is_cell, ChainStands, chain_from}
use Rattle.model.specs.Sound.{state_of, size_ok, bin_named, chain_counts, chain_ok, chained, sound}
use Rattle.laws.proofs.Base.{and_right, or_right, all_below_lem, below_all}
use Rattle.laws.proofs.Below.{and_three}
use Rattle.laws.proofs.Params.{Bounds, some_start}
use Rattle.laws.proofs.Classes.{cell_bytes_some}
use Rattle.laws.proofs.Cells.{is_cell_whole, whole_is_cell, no_cell}
use Rattle.laws.proofs.ChainTest.{counts_stands, counts_length, counts_whole, counts_once, sound_tested}
use Rattle.laws.proofs.Tables.{Sized}
use Rattle.soundness.proofs.SoundLists.{sound_parts, block_parts, block_clear_lem}
use Rattle.soundness.proofs.GoodTables.{clear_words}
use Rattle.soundness.proofs.Chains.{BlockChain, Chains}

-- the list of f 0, f 1, and so on up to f (n − 1)
unfoldable pub list_below : {A : Type 0} → ℕ → (ℕ → A) → List A
list_below zero f = []
list_below (suc n) f = f 0 ∷ list_below n (λ i. f (suc i))

length_below : {A : Type 0} (n : ℕ) (f : ℕ → A) → length (list_below n f) ≡ n
unfolding list_below
length_below zero f = refl
length_below (suc n) f = ap suc (length_below n (λ i. f (suc i)))

get_d_below : {A : Type 0} (n : ℕ) (f : ℕ → A) (d : A) (i : ℕ) → i < n → get_or (list_below n f) i d ≡ f i
unfolding list_below
get_d_below zero f d i l = absurd (not-suc-le-zero l)
get_d_below (suc n) f d zero l = refl
get_d_below (suc n) f d (suc i) l = get_d_below n (λ i. f (suc i)) d i (le_of_suc-le-suc l)

-- the chain of each block, as the test walks it
abbrev pub walked : Params → List ℕ → Words → ℕ → List ℕ
walked p h w b = chain_from (get_or w.cells b 0) p h b (get_or w.size b 0) (get_or w.free b 0)

abbrev pub shadow_of : Params → List ℕ → Words → List (List ℕ)
shadow_of p h w = list_below p.blocks (walked p h w)

module _ (p : Params) (B : Bounds p) (t : Tables) (h : List ℕ) where
  abbrev w : Words
  w = t.words

  module _ (ok : sound p t ≡ true) (ch : chained p t h ≡ true) where
    -- the cell size of an occupied block
    wide : (b : ℕ) → b < p.blocks → state_of t b ≢ 0 → 8 ≤ get_or w.size b 0
    unfolding size_ok
    wide b low o =
        let s : ℕ = get_or w.size b 0 in
        let n : ℕ = bin_named w b in
        let q = and_three (leb 1 n) (ltb 0 s) (eqb s (cell_bytes p n)) (block_parts p t b ((sound_parts p t ok).blocks b low) o).size in
        let e : s ≡ cell_bytes p n = eqb-true _ _ q.2 in
        rw e (cell_bytes_some p n (rw e at (ltb-true 0 s q.1)))

    counted : (b : ℕ) → b < p.blocks → state_of t b ≢ 0 → chain_counts (get_or w.cells b 0) p h b (get_or w.size b 0) (get_or w.free b 0) ≡ true
    unfolding chained chain_ok
    counted b low o =
        and_right (leb (get_or w.cells b 0) (cell_count p (get_or w.size b 0))) _
        (rw (ne_eqb (state_of t b) 0 o) at (all_below_lem p.blocks _ ch b low))

    block_chain : (b : ℕ) → b < p.blocks → Dec (state_of t b ≡ 0)
        → BlockChain p h b (get_or w.free b 0) (get_or w.size b 0) (get_or w.cells b 0) (walked p h w b)
    unfolding chain_from ChainStands In Pairwise
    block_chain b low (yes e) =
        let C = clear_words w b (block_clear_lem p t b ((sound_parts p t ok).blocks b low) e) in
        rw (C.0, C.2) (record { stands = refl; cells = λ x m. absurd m; once = tt; count = refl })
    block_chain b low (no o) =
        let s : ℕ = get_or w.size b 0 in
        let k : ℕ = get_or w.cells b 0 in
        let a : ℕ = get_or w.free b 0 in
        let none : is_cell p b s 0 ≡ false = no_cell p b s (omega (arith, some_start p B b low)) in
        let c : chain_counts k p h b s a ≡ true = counted b low o in
        record {
          stands = counts_stands p h b s none k a c;
          cells = λ x m. is_cell_whole p b s x (wide b low o) (counts_whole p h b s none k a c x m);
          once = counts_once p h b s none k a c;
          count = sym (counts_length p h b s none k a c);
        }

    pub chains_found : Sized p.blocks w → length h ≡ heap_bytes p → Chains p w.free w.size w.cells h (shadow_of p h w)
    chains_found Z len =
        record {
          heap = len;
          heads = Z.free;
          sizes = Z.size;
          counts = Z.cells;
          shadow = length_below p.blocks (walked p h w);
          blocks = λ b low. rw (get_d_below p.blocks (walked p h w) [] b low) (block_chain b low (ℕ_discrete (state_of t b) 0));
        }

  pub chained_by : (sh : List (List ℕ)) → Chains p w.free w.size w.cells h sh → chained p t h ≡ true
  unfolding chained
  chained_by sh C =
      below_all p.blocks _
      (λ b low.
      let K = C.blocks b low in
      or_right (eqb (state_of t b) 0)
      (sound_tested p h w b
      (record { chain = get_or sh b []; stands = K.stands; word = K.count; whole = λ a m. whole_is_cell p b (get_or w.size b 0) a (K.cells a m); once = K.once })))
