-- What stands in a tabulated list, and past its end; so the bin of any word count, read off the table. Assumes nothing.
use Rattle.std.specs.Prelude.{if◌then◌else◌}
use Prim.Native.Nat.{ℕ, zero, suc, ◌+◌, ◌*◌, ◌<◌, ◌≤◌}
use mathlib.Core.Path.{◌≡◌, refl, sym, ap, ◌∙◌}
use mathlib.Core.Bool.{true}
use mathlib.Core.List.{List}
use native.Mathlib.Nat.{add-zero, zero-add, add-suc, suc-add, le_of_suc-le-suc, not-suc-le-zero}
use native.Mathlib.Omega.{arith}
use lib.ListN.{length, get_or}
use lib.Dec.{ltb}
use borrow.Author.Tests.{lt-ltb}
use Rattle.model.specs.SizeClasses.{mi_bin, bin_of_words, tabulated, bin_table}

pub tabulated_length : (f : ℕ → ℕ) (n i : ℕ) → length (tabulated f n i) ≡ n
unfolding tabulated
tabulated_length f zero i = refl
tabulated_length f (suc n) i = ap suc (tabulated_length f n (suc i))

pub tabulated_at : (f : ℕ → ℕ) (n i k : ℕ) → k < n → get_or (tabulated f n i) k 0 ≡ f (i + k)
unfolding tabulated
tabulated_at f zero i k h = absurd (not-suc-le-zero h)
tabulated_at f (suc n) i zero h = ap f (sym (add-zero i))
tabulated_at f (suc n) i (suc k) h = tabulated_at f n (suc i) k (le_of_suc-le-suc h) ∙ ap f (suc-add i k ∙ sym (add-suc i k))

-- a list that is the table: what stands at a count of words, and that there is none past its end
pub held_at : (l : List ℕ) (words : ℕ) → l ≡ bin_table → words < length l → get_or l words 0 ≡ bin_of_words words
unfolding bin_table
held_at l words e h =
    let short : words < 8193 = omega (arith, h, ap length e ∙ tabulated_length bin_of_words 8193 0) in
    ap (λ (t : List ℕ). get_or t words 0) e ∙ tabulated_at bin_of_words 8193 0 words short ∙ ap bin_of_words (zero-add words)

pub held_past : (l : List ℕ) (words : ℕ) → l ≡ bin_table → length l ≤ words → 0 ≡ bin_of_words words
unfolding bin_table bin_of_words mi_bin
held_past l words e h =
    let long : 8193 ≤ words = omega (arith, h, ap length e ∙ tabulated_length bin_of_words 8193 0) in
    let over : ltb 65536 (8 * words) ≡ true = lt-ltb 65536 (8 * words) (omega (arith, long)) in
    rw over
