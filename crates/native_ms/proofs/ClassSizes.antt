-- The class sizes by shift: all bins, by one computed test. Assumes nothing.
use mathlib.Core.Path.{◌≡◌, refl}
use mathlib.Core.Bool.{Bool, true, ◌||◌}
use mathlib.Core.Logic.{⊎_elim}
use Prim.Native.Nat.{ℕ, ◌+◌, ◌-◌, ◌*◌, ◌/◌, ◌%◌, ◌^◌, ◌≤◌, ◌<◌}
use native.Mathlib.Omega.{arith}
use lib.Dec.{eqb, ltb}
use lib.ListN.{get_or}
use borrow.Author.Tests.{eqb-true, ltb-true}
use Rattle.model.specs.Base.{all_below}
use Rattle.model.specs.SizeClasses.{class_words, fours, class_bytes}
use Rattle.laws.proofs.Below.{or_cases, all_below_at}

low : ℕ → Bool
low bin = eqb bin 0 || eqb (bin * 8) (8 * get_or class_words bin 0)

lows : all_below 9 low ≡ true
unfolding all_below low class_words fours
lows = refl

high : ℕ → Bool
high bin = ltb bin 9 || eqb ((5 + (bin - 9) % 4) * 2 ^ ((bin - 9) / 4 + 4) % 2 ^ 64) (8 * get_or class_words bin 0)

highs : all_below 49 high ≡ true
unfolding all_below high class_words fours
highs = refl

pub bytes_none : (bin : ℕ) → bin ≡ 0 → 8 ≡ class_bytes bin
unfolding class_bytes class_words fours
bytes_none bin e = rw e

pub bytes_low : (bin : ℕ) → bin < 9 → (bin ≡ 0 → ⊥) → bin * 8 ≡ class_bytes bin
unfolding class_bytes low
bytes_low bin l ne =
    ⊎_elim (λ e. absurd (ne (eqb-true bin 0 e))) (λ e. eqb-true (bin * 8) (8 * get_or class_words bin 0) e)
    (or_cases (eqb bin 0) (eqb (bin * 8) (8 * get_or class_words bin 0)) (all_below_at 9 low lows bin l))

pub bytes_high : (bin : ℕ) → bin < 49 → 9 ≤ bin → (5 + (bin - 9) % 4) * 2 ^ ((bin - 9) / 4 + 4) % 2 ^ 64 ≡ class_bytes bin
unfolding class_bytes high
bytes_high bin l m =
    ⊎_elim (λ e. absurd (omega (arith, ltb-true bin 9 e)))
    (λ e. eqb-true ((5 + (bin - 9) % 4) * 2 ^ ((bin - 9) / 4 + 4) % 2 ^ 64) (8 * get_or class_words bin 0) e)
    (or_cases (ltb bin 9) _ (all_below_at 49 high highs bin l))
