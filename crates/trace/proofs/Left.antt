-- Whether a trace has a rest. Assumes nothing.
use mathlib.Core.Path.{◌≡◌, sym, ◌∙◌}
use mathlib.Core.Bool.{Bool, true, false}
use mathlib.Core.Logic.{◌⊎◌, inl, inr}
use mathlib.Core.List.{List}
use Prim.Native.Nat.{ℕ, ◌≤◌, ◌<◌}
use native.Mathlib.Omega.{arith}
use lib.Dec.{ltb}
use lib.ListN.{length, take, get_or}
use borrow.Author.Tests.{lt-ltb, le-ltb}
use Rattle.std.specs.Prelude.{Some, None, Option, is_some, slice_get}
use Rattle.std.specs.Option.{option_map}
use Rattle.std.proofs.lemmas.Option.{slice_get_cases, slice_get_within}
use Rattle.model.specs.Census.{unread}
use Rattle.model.specs.Text.{lines_from}

-- more bytes than are read
pub unread_bytes : (bytes : List ℕ) → 16384 < length bytes → true ≡ unread bytes
unfolding unread
unread_bytes bytes l = rw (lt-ltb 16384 (length bytes) l)

-- or more lines
pub unread_lines : (bytes : List ℕ) {s : List ℕ} {r : Bool} → length bytes ≤ 16384 → s ≡ take 16384 bytes
    → r ≡ ltb 256 (length (lines_from s 0)) → r ≡ unread bytes
unfolding unread lines_from
unread_lines bytes l e q = rw (le-ltb 16384 (length bytes) l) (rw e at q)

-- an item has the number n where there are more than n
pub longer : {A B : Type 0} (v : A → B) (r : Option A) (xs : List B) (n : ℕ) → option_map v r ≡ slice_get xs n → is_some r ≡ ltb n (length xs)
longer v None xs n e = go (slice_get_cases xs n).1
  where
    go : ((x : _) × (n < length xs) × (slice_get xs n ≡ Some x) × (get_or xs n x ≡ x)) ⊎ ((length xs ≤ n) × (slice_get xs n ≡ None)) → false ≡ ltb n (length xs)
    go (inl (x, l, q, _)) = let d : None ≡ Some x = e ∙ q in let z : ◌≡◌ {A = ℕ} 0 1 = cc in absurd (omega arith)
    go (inr h) = sym (le-ltb n (length xs) h.0)
longer v (Some a) xs n e = sym (lt-ltb n (length xs) (slice_get_within xs n (v a) (sym e)))
