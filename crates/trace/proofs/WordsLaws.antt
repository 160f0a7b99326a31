-- The words of a line: pieces by what is left of the line. Assumes nothing.
use mathlib.Core.Path.{◌≡◌, refl, sym, ap, ◌∙◌}
use mathlib.Core.Bool.{Bool, true, false}
use mathlib.Core.List.{List, [], ◌∷◌}
use Prim.Native.Nat.{ℕ, suc, ◌+◌}
use native.Mathlib.Omega.{arith}
use lib.Dec.{eqb, ltb}
use lib.ListN.{length, get_or}
use borrow.Author.Tests.{ltb-false}
use denote.Ref.{Bor}
use Rattle.std.specs.Prelude.{if◌then◌else◌, ◌==◌, cond, Option, Some, None, unwrap_or, position}
use Rattle.std.specs.Option.{option_map}
use Rattle.std.specs.List.{position_or_len, slice_get, slice_split, onto_first}
use Rattle.std.proofs.lemmas.Option.{unwrap_or-slice_get}
use Rattle.std.proofs.lemmas.List.Recursion.{is_position_or_len}
use Rattle.model.specs.Census.{before, pieces}
use Rattle.model.specs.Text.{until}
use mathlib.Core.Logic.{◌⊎◌, inl, inr}
use Rattle.laws.proofs.Below.{test}
use Rattle.laws.proofs.Text.{until_le}

-- how many bytes stand before the first separator, by the library's words
first_or_end : (sep : ℕ) (xs : List ℕ) → until sep xs ≡ position_or_len (λ x. x == sep) xs
unfolding until
first_or_end sep xs = is_position_or_len (until sep) (λ x. x == sep) refl (λ x ys. go (eqb x sep) (until sep ys)) xs
  where
    go : (b : Bool) (n : ℕ) → (if b then 0 else suc n) ≡ cond b 0 (1 + n)
    go true n = refl
    go false n = omega arith

pub until_first : (sep : ℕ) (xs : List ℕ) → unwrap_or (position (λ x. x == sep) xs) (length xs) ≡ until sep xs
until_first sep xs = go (test (ltb (position_or_len (λ x. x == sep) xs) (length xs)))
  where
    go : (ltb (position_or_len (λ x. x == sep) xs) (length xs) ≡ true) ⊎ (ltb (position_or_len (λ x. x == sep) xs) (length xs) ≡ false)
        → unwrap_or (position (λ x. x == sep) xs) (length xs) ≡ until sep xs
    go (inl y) = rw y (sym (first_or_end sep xs))
    go (inr z) = rw z (omega (arith, ltb-false _ _ z, first_or_end sep xs, until_le sep xs))

-- ---- the words of a line

-- the pieces, by the library's word
pub split_pieces : (sep : ℕ) (xs : List ℕ) → slice_split (λ x. x == sep) xs ≡ pieces sep xs
unfolding pieces before
split_pieces sep [] = refl
split_pieces sep (x ∷ xs) = go (eqb x sep) (slice_split (λ y. y == sep) xs) (split_pieces sep xs)
  where
    first : (ys : List (List ℕ)) → onto_first x ys ≡ before x ys
    first [] = refl
    first (y ∷ ys) = refl

    go : (b : Bool) (ys : List (List ℕ)) → ys ≡ pieces sep xs → cond b ([] ∷ ys) (onto_first x ys) ≡ (if b then ([] ∷ pieces sep xs) else before x (pieces sep xs))
    go true ys e = ap (λ (zs : List (List ℕ)). [] ∷ zs) e
    go false ys e = first ys ∙ ap (before x) e

-- what the library finds at a place, or nothing
pub word_found : (xs : List ℕ) (k : ℕ) (r : Option (Bor (List ℕ))) (d : Bor (List ℕ)) {w : Bor (List ℕ)} → d.now ≡ []
    → option_map (λ (x : Bor (List ℕ)). x.now) r ≡ slice_get (slice_split (λ x. x == 32) xs) k → w ≡ unwrap_or r d
    → w.now ≡ get_or (pieces 32 xs) k []
word_found xs k r d z e f =
    ap (λ (x : Bor (List ℕ)). x.now) f ∙ go r ∙ ap (λ (o : Option (List ℕ)). unwrap_or o []) e
    ∙ unwrap_or-slice_get (slice_split (λ x. x == 32) xs) k [] ∙ ap (λ (ws : List (List ℕ)). get_or ws k []) (split_pieces 32 xs)
  where
    go : (r : Option (Bor (List ℕ))) → (unwrap_or r d).now ≡ unwrap_or (option_map (λ (x : Bor (List ℕ)). x.now) r) []
    go None = z
    go (Some x) = refl
