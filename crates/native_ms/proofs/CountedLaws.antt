-- The blocks on one list and on 48 lists, as the code counts them: a count, or none where a walk goes wrong.
-- Each law is one way on or out of a walk. Assumes nothing.
use Rattle.std.specs.Prelude.{if◌then◌else◌}
use Rattle.std.proofs.Common.{Option, Some, None}
use Prim.Native.Nat.{ℕ, zero, suc, ◌+◌, ◌-◌, ◌*◌, ◌/◌, ◌<◌, ◌≤◌}
use mathlib.Core.Path.{◌≡◌, refl, sym, ap, ◌∙◌}
use mathlib.Core.Bool.{Bool, true, false}
use mathlib.Core.List.{List, [], ◌∷◌, map}
use Rattle.std.proofs.lemmas.List.{get_or-map}
use native.Mathlib.Nat.{add-zero, zero-add, suc-mul, mul-le-mul, not-suc-le-zero}
use native.Mathlib.Numerals.{add-one}
use native.Mathlib.Omega.{arith}
use lib.Dec.{eqb}
use lib.ListN.{length, get_or}
use borrow.Author.Tests.{eq-eqb, ne_eqb, eqb-true}
use Rattle.model.specs.declared.Params.{Params}
use Rattle.model.specs.Base.{all_below, sum_below}
use Rattle.model.specs.declared.Refusal.TheVariants.{BadSetup, BadTables}
use Rattle.model.specs.Params.{good_params, word_count, head_words, block_tables, block_at, is_start}
use Rattle.model.specs.Tables.{view}
use Rattle.model.specs.BlockList.{walk, ends, pages_used, pages_end}
use Rattle.model.specs.Calls.{answered, refused, pages}
use Rattle.laws.proofs.Below.{and_three}
use Rattle.laws.proofs.Params.{Bounds}
use Rattle.native_ms.specs.Counted.{counted, counted_bins, counted_from, set_fits}

-- ---- one list

pub walk_few : (k : ℕ) (p : Params) (next : List ℕ) (a : ℕ) → length (walk k p next a) ≤ k
unfolding walk
walk_few zero p next a = omega arith
walk_few (suc k) p next a = go (walk_few k p next (get_or next (block_at p a) 0)) (eqb a 0)
  where
    rest : List ℕ
    rest = walk k p next (get_or next (block_at p a) 0)

    go : length rest ≤ k → (t : Bool) → length (if t then [] else (block_at p a ∷ rest)) ≤ suc k
    go ih true = omega arith
    go ih false = omega arith

module _ (p : Params) (next : List ℕ) (n a : ℕ) where
  pub counted_stop : (k : ℕ) → a ≡ 0 → Some n ≡ counted_from k p next n a
  unfolding counted_from ends walk
  counted_stop zero h = rw (eq-eqb a 0 h, add-zero n)
  counted_stop (suc k) h = rw (eq-eqb a 0 h, add-zero n)

  pub counted_long : (k : ℕ) → k ≤ 0 → (a ≡ 0 → ⊥) → None ≡ counted_from k p next n a
  unfolding counted_from ends
  counted_long zero s h = rw (ne_eqb a 0 h)
  counted_long (suc k) s h = absurd (not-suc-le-zero s)

  pub counted_bad : (k : ℕ) → 0 < k → (a ≡ 0 → ⊥) → is_start p a ≡ false → None ≡ counted_from k p next n a
  unfolding counted_from ends
  counted_bad zero s h e = absurd (not-suc-le-zero s)
  counted_bad (suc k) s h e = rw (ne_eqb a 0 h, e)

  pub counted_step : {k j i x : ℕ} → k ≡ suc j → (a ≡ 0 → ⊥) → is_start p a ≡ true → i ≡ block_at p a → x ≡ get_or next i 0
      → counted_from j p next (n + 1) x ≡ counted_from k p next n a
  unfolding counted_from ends walk
  counted_step {k} {j} {i} {x} ek h e ei ex =
      let m : n + 1 + length (walk j p next x) ≡ n + suc (length (walk j p next x)) = omega arith in
      rw (ek, ne_eqb a 0 h, e, ← ei, ← ex, m)

-- ---- what a count says of its walk

counted_no : (t : Bool) (n : ℕ) → None ≡ counted t n → t ≡ false
counted_no true n e = cc
counted_no false n e = refl

record Yes (t : Bool) (m n : ℕ) : Type 0 where
  good : t ≡ true
  same : m ≡ n

counted_yes : (t : Bool) (m n : ℕ) → Some m ≡ counted t n → Yes t m n
counted_yes true m n e = record { good = refl; same = cc }
counted_yes false m n e = let z : ◌≡◌ {A = ℕ} 0 1 = cc in absurd (omega arith)

module _ (p : Params) (next : List ℕ) (a k : ℕ) {r : Option ℕ} (e : r ≡ counted_from k p next 0 a) where
  walk_no : r ≡ None → ends k p next a ≡ false
  unfolding counted_from
  walk_no h = counted_no (ends k p next a) (0 + length (walk k p next a)) (sym h ∙ e)

  walk_yes : {m : ℕ} → r ≡ Some m → Yes (ends k p next a) m (length (walk k p next a))
  unfolding counted_from
  walk_yes {m} h =
      let y = counted_yes (ends k p next a) m (0 + length (walk k p next a)) (sym h ∙ e) in
      record { good = y.good; same = y.same ∙ zero-add (length (walk k p next a)) }

  pub counted_few : {m : ℕ} → r ≡ Some m → m ≤ k
  counted_few h = omega (arith, (walk_yes h).same, walk_few k p next a)

-- ---- 48 lists, from bin 48 down

-- where the list of a bin starts, by what it is lent as
pub starts_in : {X : Type 0} (f : X → ℕ) (xs : List X) (k : ℕ) {x : X} {a : ℕ} → k < length xs → x ≡ get_or xs k x → a ≡ f x → a ≡ get_or (map f xs) k 0
starts_in f xs k {x} h e ea = ea ∙ ap f e ∙ sym (get_or-map f xs k x 0 h)

walked_at : Params → List ℕ → List ℕ → ℕ → ℕ
walked_at p next firsts i = length (walk p.blocks p next (get_or firsts (i + 1) 0))

module _ (p : Params) (next firsts : List ℕ) (n : ℕ) where
  pub bins_end : (k : ℕ) → k ≤ 0 → Some n ≡ counted_bins k p next firsts n
  unfolding counted_bins all_below sum_below
  bins_end zero h = rw (add-zero n)
  bins_end (suc k) h = absurd (not-suc-le-zero h)

  pub bins_bad : (k : ℕ) {r : Option ℕ} {a : ℕ} → 0 < k → a ≡ get_or firsts k 0 → r ≡ counted_from p.blocks p next 0 a → r ≡ None
      → None ≡ counted_bins k p next firsts n
  unfolding counted_bins all_below
  bins_bad zero s ea e h = absurd (not-suc-le-zero s)
  bins_bad (suc k) {a = a} s ea e h = rw (add-one k, ← ea, walk_no p next a p.blocks e h)

  pub bins_step : (k : ℕ) {r : Option ℕ} {a m : ℕ} → 0 < k → a ≡ get_or firsts k 0 → r ≡ counted_from p.blocks p next 0 a → r ≡ Some m
      → counted_bins (k - 1) p next firsts (n + m) ≡ counted_bins k p next firsts n
  unfolding counted_bins all_below sum_below
  bins_step zero s ea e h = absurd (not-suc-le-zero s)
  bins_step (suc k) {r} {a} {m} s ea e h =
      let d : suc k - 1 ≡ k = omega arith in
      let y = walk_yes p next a p.blocks e h in
      let rest = sum_below k (λ i. length (walk p.blocks p next (get_or firsts (i + 1) 0))) in
      let sum : n + m + rest ≡ n + (m + rest) = omega arith in
      rw (d, add-one k, ← ea, y.good, ← y.same, sum)

-- ---- pages used, from the count of all bins

sum_few : (k : ℕ) (f : ℕ → ℕ) (b : ℕ) → ((i : ℕ) → f i ≤ b) → sum_below k f ≤ k * b
unfolding sum_below
sum_few zero f b h = omega arith
sum_few (suc k) f b h = omega (arith, h k, sum_few k f b h, suc-mul k b)

module _ (p : Params) (next firsts : List ℕ) {r : Option ℕ} (e : r ≡ counted_bins 48 p next firsts 0) where
  walks_no : r ≡ None → pages_end p next firsts ≡ false
  unfolding counted_bins pages_end
  walks_no h = counted_no (pages_end p next firsts) _ (sym h ∙ e)

  all : ℕ
  all = sum_below 48 (walked_at p next firsts)

  walks_yes : {n : ℕ} → r ≡ Some n → Yes (pages_end p next firsts) n all
  unfolding counted_bins pages_end all walked_at
  walks_yes {n} h =
      let y = counted_yes (pages_end p next firsts) n (0 + all) (sym h ∙ e) in
      record { good = y.good; same = y.same ∙ zero-add all }

  bins_few : {n : ℕ} → r ≡ Some n → n ≤ 48 * p.blocks
  unfolding all walked_at
  bins_few h =
      omega (arith, (walks_yes h).same, sum_few 48 (walked_at p next firsts) p.blocks (λ i. walk_few p.blocks p next (get_or firsts (i + 1) 0)))

  used : {n : ℕ} → r ≡ Some n → p.bytes / 4096 * n ≡ pages_used p next firsts
  unfolding pages_used all walked_at
  used h = ap (λ (m : ℕ). p.bytes / 4096 * m) (walks_yes h).same

  -- the number of pages fits a word
  pub pages_fit : {n : ℕ} → Bounds p → r ≡ Some n → p.bytes / 4096 * n ≤ 786432
  pages_fit {n} g h =
      mul-le-mul {n₁ = p.bytes / 4096} {m₁ = n} {n₂ = 16} {m₂ = 49152} (omega (arith, g.bytes_high)) (omega (arith, g.blocks_high, bins_few h))

-- ---- the answer, by the tests that lead there

module _ (p : Params) (words : List ℕ) (n : ℕ) where
  pub fits_params : good_params p ≡ false → false ≡ set_fits p words n
  unfolding set_fits
  fits_params h = rw h

  module _ (g : good_params p ≡ true) where
    pub fits_words : (length words ≡ head_words + block_tables * p.blocks → ⊥) → eqb (length words) (head_words + block_tables * p.blocks) ≡ set_fits p words n
    unfolding set_fits word_count
    fits_words h = rw (g, ne_eqb (length words) (head_words + block_tables * p.blocks) h)

    pub fits_records : length words ≡ head_words + block_tables * p.blocks → eqb n 49 ≡ set_fits p words n
    unfolding set_fits word_count
    fits_records h = rw (g, eq-eqb (length words) (head_words + block_tables * p.blocks) h)

module _ (p : Params) (words : List ℕ) (n : ℕ) (fit : set_fits p words n ≡ true) where
  pub fits_good : good_params p ≡ true
  unfolding set_fits
  fits_good = (and_three (good_params p) (eqb (length words) (word_count p)) (eqb n 49) fit).0

  pub fits_count : n ≡ 49
  unfolding set_fits
  fits_count = eqb-true n 49 (and_three (good_params p) (eqb (length words) (word_count p)) (eqb n 49) fit).2

module _ (p : Params) (words firsts : List ℕ) {n : ℕ} (en : length firsts ≡ n) where
  pub pages_off : set_fits p words n ≡ false → refused BadSetup ≡ pages p words firsts
  unfolding pages set_fits
  pages_off h = rw (en, h)

  module _ {r : Option ℕ} (fit : set_fits p words n ≡ true) (e : r ≡ counted_bins 48 p (view words).next firsts 0) where
    pub pages_bad : r ≡ None → refused BadTables ≡ pages p words firsts
    unfolding pages set_fits
    pages_bad h = rw (en, fit, walks_no p (view words).next firsts e h)

    pub pages_some : {m : ℕ} → r ≡ Some m → answered (p.bytes / 4096 * m ∷ []) ≡ pages p words firsts
    unfolding pages set_fits
    pages_some h = rw (en, fit, (walks_yes p (view words).next firsts e h).good, used p (view words).next firsts e h)
