-- The walk along a chain turn by turn, the test of a block's chain by its parts, the sum of a bin's free counts, and what the question
-- answers. Assumes nothing.
use Rattle.std.specs.Prelude.{Result, ⊤, Ok, Err}
use mathlib.Core.Path.{◌≡◌, refl, sym, ◌∙◌}
use mathlib.Core.Logic.{◌⊎◌, inl, inr}
use mathlib.Core.Bool.{Bool, true, false, not, ◌||◌}
use mathlib.Core.List.{List, [], ◌∷◌}
use Prim.Native.Nat.{ℕ, suc, ◌+◌, ◌-◌, ◌/◌, ◌≤◌, ◌<◌}
use native.Mathlib.Nat.{div-le_self}
use native.Mathlib.Omega.{arith}
use lib.Dec.{eqb, leb}
use lib.ListN.{length, get_or, get_or-eq_default}
use borrow.Author.Tests.{le-leb, lt-leb, leb-true}
use Rattle.model.specs.declared.Params.{Params}
use Rattle.model.specs.declared.Refusal.{Refusal}
use Rattle.model.specs.declared.Refusal.TheVariants.{BadSetup, BadTables, BadClasses, BadRequest}
use Rattle.model.specs.Params.{good_params, fits, bins, last_bin}
use Rattle.model.specs.Classes.{classes_fit}
use Rattle.model.specs.Memory.{load}
use Rattle.model.specs.Tables.{Words, Tables, tables_of, view}
use Rattle.model.specs.Block.{cell_count, is_cell}
use Rattle.model.specs.Sound.{state_of, bin_named, block_sound, sound, chain_counts, chain_ok, eager_ok, chained, sound_on}
use Rattle.model.specs.Calls.{refused, answered, refused_if, and_then, free_cells, cells_of, ask}
use Rattle.model.specs.Promise.{lend}
use Rattle.laws.proofs.Base.{if_cases}
use Rattle.laws.proofs.Below.{and_left, and_three, test, all_below_at}
use Rattle.laws.proofs.Params.{good_bounds}
use Rattle.laws.proofs.Tables.{by_lt, sized_view}
use Rattle.laws.proofs.Tests.{clash}
use Rattle.native_ms.specs.Checked.{lent_tests}
use Rattle.native_ms.specs.SoundLent.{Lengths}
use Rattle.native_ms.specs.FewCells.{FewCells, cells_in}
use Rattle.native_ms.proofs.Heads.{each_sound, clear_none}
use Rattle.native_ms.proofs.Tests.{Open, opened}

-- of n cells i were passed, and the walk stands at a
module _ (p : Params) (h : List ℕ) (b s n i a : ℕ) where
  module _ (l : i < n) where
    left : n - i ≡ suc (n - (i + 1))
    left = omega arith

    -- where no cell is
    pub counts_stop : is_cell p b s a ≡ false → chain_counts (n - i) p h b s a ≡ false
    unfolding chain_counts
    counts_stop e = rw (left, e)

    -- or at a cell, and goes on to its link
    pub counts_on : {r : ℕ} {v : Bool} → r ≡ load p h a → is_cell p b s a ≡ true → chain_counts (n - i) p h b s a ≡ v
        → chain_counts (n - (i + 1)) p h b s r ≡ v
    unfolding chain_counts
    counts_on er e q = rw er (sym (rw (left, e)) ∙ q)

  pub counts_end : n ≤ i → eqb a 0 ≡ chain_counts (n - i) p h b s a
  unfolding chain_counts
  counts_end l = let d : n - i ≡ 0 = omega arith in rw d

-- the test of the block b, as `chained` makes it
abbrev pub chained_at : Params → Words → List ℕ → List ℕ → ℕ → Bool
chained_at p w s h b = eqb (get_or s b 0) 0 || chain_ok p h w b

-- ---- the sum of free counts

-- one block's part is at most 65,536
pub in_few : (w : Words) (bin b : ℕ) → FewCells w → cells_in w bin b ≤ 65536
in_few w bin b F = if_cases (λ (x : ℕ). x ≤ 65536) (eqb (bin_named w b) bin) (λ e. F.most b) (λ e. omega arith)

-- ---- the question

-- no block of sound tables counts more free cells than it has
module _ (p : Params) (t : Tables) (h : List ℕ) (fine : good_params p ≡ true) (ok : sound_on p t h ≡ true) where
  each_chained : (b : ℕ) → b < p.blocks → (eqb (state_of t b) 0 || chain_ok p h t.words b) ≡ true
  unfolding chained
  each_chained b low = all_below_at p.blocks (λ x. eqb (state_of t x) 0 || chain_ok p h t.words x) (and_three (sound p t) (eager_ok p t) (chained p t h) ok).2 b low

  block_few : (b : ℕ) → b < p.blocks → (eqb (state_of t b) 0 ≡ true) ⊎ (eqb (state_of t b) 0 ≡ false) → get_or t.words.cells b 0 ≤ 65536
  unfolding block_sound chain_ok cell_count
  block_few b low (inl y) = omega (arith, (clear_none t.words b (rw y at (each_sound p t (and_three (sound p t) (eager_ok p t) (chained p t h) ok).0 b low))).1)
  block_few b low (inr n) =
      let s : ℕ = get_or t.words.size b 0 in
      let k : ℕ = get_or t.words.cells b 0 in
      let few : k ≤ p.bytes / s = leb-true k (p.bytes / s) (and_left (leb k (p.bytes / s)) _ (rw n at (each_chained b low))) in
      omega (arith, div-le_self p.bytes s, (good_bounds p fine).bytes_high)

  pub few_cells : length t.words.cells ≡ p.blocks → FewCells t.words
  few_cells len =
      record {
        most = λ b. by_lt b p.blocks (λ low. block_few b low (test (eqb (state_of t b) 0)))
            (λ far. omega (arith, get_or-eq_default t.words.cells 0 {n = b} (omega (arith, len))));
      }

module _ (p : Params) (w s m h : List ℕ) (bin : ℕ) {r : Result ⊤ Refusal} (e : r ≡ lent_tests p (lend w s m h)) where
  pub ask_refused : {x : Refusal} → r ≡ Err x → refused x ≡ ask p (lend w s m h) (free_cells bin)
  unfolding lent_tests and_then ask
  ask_refused {x} z = go (fits p (lend w s m h)) (classes_fit p) (sound_on p (tables_of (view w) s m) h) refl refl refl (sym e ∙ z)
    where
      go : (f k g : Bool) → fits p (lend w s m h) ≡ f → classes_fit p ≡ k → sound_on p (tables_of (view w) s m) h ≡ g
          → and_then (refused_if (not f) BadSetup) (and_then (refused_if (not k) BadClasses) (refused_if (not g) BadTables)) ≡ Err x
          → refused x ≡ ask p (lend w s m h) (free_cells bin)
      go false k g ef ek eg y = let i : x ≡ BadSetup = cc in rw (i, ef)
      go true false g ef ek eg y = let i : x ≡ BadClasses = cc in rw (i, ef, ek)
      go true true false ef ek eg y = let i : x ≡ BadTables = cc in rw (i, ef, ek, eg)
      go true true true ef ek eg y = clash (sym y)

  module _ (z : r ≡ Ok tt) where
    o : Open p w s m h
    o = opened p w s m h (sym e ∙ z)

    pub ask_lengths : Lengths p w s
    ask_lengths = record { good = o.parts.good; words = o.parts.words; states = o.parts.states }

    pub ask_few : FewCells (view w)
    ask_few = few_cells p (tables_of (view w) s m) h o.parts.good o.whole (sized_view p.blocks w o.parts.words).cells

    pub ask_low : bin < 1 → refused BadRequest ≡ ask p (lend w s m h) (free_cells bin)
    unfolding ask
    ask_low k = rw (o.fit, o.classes, o.whole, lt-leb 1 bin k)

    pub ask_high : 1 ≤ bin → bins ≤ bin → refused BadRequest ≡ ask p (lend w s m h) (free_cells bin)
    unfolding ask
    ask_high j k = rw (o.fit, o.classes, o.whole, le-leb 1 bin j, lt-leb bin last_bin (omega arith))

    pub ask_answers : {n : ℕ} → 1 ≤ bin → bin < bins → n ≡ cells_of p (view w) bin → answered (n ∷ []) ≡ ask p (lend w s m h) (free_cells bin)
    unfolding ask
    ask_answers j k en = rw (o.fit, o.classes, o.whole, le-leb 1 bin j, le-leb bin last_bin (omega arith), en)
