-- A walk of at most n turns, of which i are over: how many are left. Assumes nothing.
use Prim.Native.Nat.{ℕ, suc, ◌+◌, ◌-◌, ◌<◌, ◌≤◌}
use mathlib.Core.Path.{◌≡◌}
use native.Mathlib.Omega.{arith}

pub left_all : (n : ℕ) → n - 0 ≡ n
left_all n = omega arith

pub left_some : {n i : ℕ} → i < n → 0 < n - i
left_some h = omega arith

pub left_none : {n i : ℕ} → n ≤ i → n - i ≤ 0
left_none h = omega arith

pub left_next : {n i : ℕ} → i < n → n - i ≡ suc (n - (i + 1))
left_next h = omega arith

-- the same for a law that counts down by one
pub later : (n i : ℕ) → n - (i + 1) ≡ n - i - 1
later n i = omega arith
