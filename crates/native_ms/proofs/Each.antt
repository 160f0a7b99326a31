-- What `all` and `any` over a range say, as the machine's tests of every number below a bound; and such a test by a loop from the last number
-- down. Assumes nothing.
use Rattle.std.specs.Prelude.{IsTrue, ◌↔◌}
use mathlib.Core.Path.{◌≡◌, refl, sym, ap, ◌∙◌}
use mathlib.Core.Bool.{Bool, true, false}
use Prim.Native.Nat.{ℕ, zero, suc, ◌-◌, ◌<◌, ◌≤◌}
use native.Mathlib.Nat.{not-suc-le-zero}
use native.Mathlib.Omega.{arith}
use Rattle.model.specs.Base.{all_below, any_below}
use Rattle.laws.proofs.Below.{same_test, all_below_at, all_below_from, all_below_off, any_below_at, any_below_from}

all_less : (n : ℕ) (f : ℕ → Bool) → 0 < n → f (n - 1) ≡ true → all_below (n - 1) f ≡ all_below n f
unfolding all_below
all_less zero f h e = absurd (not-suc-le-zero h)
all_less (suc k) f h e =
    let d : suc k - 1 ≡ k = omega arith in
    rw (d, ap f (sym d) ∙ e)

all_none : (n : ℕ) (f : ℕ → Bool) → n ≤ 0 → all_below n f ≡ true
unfolding all_below
all_none zero f h = refl
all_none (suc k) f h = absurd (not-suc-le-zero h)

module _ (n : ℕ) (f : ℕ → Bool) (r : Bool) where
  pub all_each : (IsTrue r ↔ ((k : ℕ) → k < n → f k ≡ true)) → r ≡ all_below n f
  all_each h = same_test r (all_below n f) (λ t. all_below_from n f (h.0 t)) (λ t. h.1 (all_below_at n f t))

  pub any_each : (IsTrue r ↔ ((k : ℕ) × (k < n) × (f k ≡ true))) → r ≡ any_below n f
  any_each h = same_test r (any_below n f) (λ t. let k = h.0 t in any_below_from n f k.0 k.1 k.2) (λ t. h.1 (any_below_at n f t))

-- ---- from the last number down: what remains of the test is the whole

module _ (n : ℕ) (f : ℕ → Bool) {whole : Bool} (inv : all_below n f ≡ whole) where
  pub down_stop : {r : Bool} → 0 < n → r ≡ f (n - 1) → r ≡ false → false ≡ whole
  down_stop h e z = sym (all_below_off n f (n - 1) (omega arith) (sym e ∙ z)) ∙ inv

  pub down_step : {r : Bool} → 0 < n → r ≡ f (n - 1) → r ≡ true → all_below (n - 1) f ≡ whole
  down_step h e z = all_less n f h (sym e ∙ z) ∙ inv

  pub down_end : n ≤ 0 → true ≡ whole
  down_end h = sym (all_none n f h) ∙ inv
