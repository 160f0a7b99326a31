-- One entry of a list of numbers stored: what is there then, and what is elsewhere. Assumes nothing.
use mathlib.Core.Path.{◌≡◌, sym, ap, ◌∙◌}
use mathlib.Core.Logic.{◌≢◌}
use mathlib.Core.List.{List}
use Prim.Native.Nat.{ℕ, ◌<◌}
use native.Mathlib.Decide.{ℕ_discrete}
use lib.ListN.{length, get_or, set}
use lib.Seq.{get_or-set_same, get_or-set_other}

module _ (l : List ℕ) (i v : ℕ) where
  -- the new value there
  pub set_at : i < length l → get_or (set l i v) i 0 ≡ v
  set_at h = get_or-set_same l i v 0 h

  -- and the old one elsewhere
  pub set_off : (j : ℕ) → j ≢ i → get_or (set l i v) j 0 ≡ get_or l j 0
  set_off j h = get_or-set_other l i j v 0 h

  -- a property of the entry at j from both cases
  pub set_all : (P : ℕ → Type 0) (j : ℕ) → i < length l → (j ≡ i → P v) → (j ≢ i → P (get_or l j 0)) → P (get_or (set l i v) j 0)
  set_all P j h f g = go (ℕ_discrete j i)
    where
      go : Dec (j ≡ i) → P (get_or (set l i v) j 0)
      go (yes e) = rw (e, set_at h) (f e)
      go (no n) = rw (set_off j n) (g n)

  -- where the value stored is x, an entry that was x is x
  pub set_keeps : (j x : ℕ) → v ≡ x → get_or l j 0 ≡ x → i < length l → get_or (set l i v) j 0 ≡ x
  set_keeps j x e f h = set_all (λ k. k ≡ x) j h (λ y. e) (λ n. f)

  -- where the entry is stored again, nothing changes
  pub set_again : get_or l i 0 ≡ v → i < length l → (j : ℕ) → get_or (set l i v) j 0 ≡ get_or l j 0
  set_again e h j = go (ℕ_discrete j i)
    where
      go : Dec (j ≡ i) → get_or (set l i v) j 0 ≡ get_or l j 0
      go (yes y) = ap (λ (z : ℕ). get_or (set l i v) z 0) y ∙ set_at h ∙ sym e ∙ ap (λ (z : ℕ). get_or l z 0) (sym y)
      go (no f) = set_off j f
