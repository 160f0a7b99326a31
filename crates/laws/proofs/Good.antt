-- What good parameters say, as facts. Assumes nothing.
use Prim.Native.Nat.{ℕ, ◌%◌, ◌^◌, ◌<◌, ◌≤◌}
use mathlib.Core.Path.{◌≡◌, ap, ◌∙◌}
use mathlib.Core.Bool.{Bool, true, not, ◌&&◌, ◌||◌}
use mathlib.Core.Logic.{◌⊎◌, inl, inr, ⊎_elim}
use lib.Dec.{eqb, ltb, leb}
use borrow.Author.Tests.{eqb-true, ltb-true, leb-true}
use Rattle.model.specs.declared.Params.{Params}
use Rattle.model.specs.Base.{all_below}
use Rattle.model.specs.Params.{good_params, max_rows, power_of_two, lower_ok, heap_end}
use Rattle.laws.proofs.Below.{and_left, and_right, and_three, and_five, or_cases, all_below_at, any_below_at}
use lib.IntN.{nat_abs}

pub record Good (p : Params) : Type 0 where
  pub min_is : (p.min ≡ 4) ⊎ (p.min ≡ 8)
  pub max_power : power_of_two p.max ≡ true
  pub min_max : p.min ≤ p.max
  pub max_low : p.max ≤ 64
  pub lower_ok_lem : lower_ok p.lower ≡ true
  pub unified_zero : (not p.unified || eqb (nat_abs p.lower) 0) ≡ true
  pub bytes_power : power_of_two p.bytes ≡ true
  pub bytes_from : 4096 ≤ p.bytes
  pub bytes_to : p.bytes ≤ 65536
  pub blocks_from : 1 ≤ p.blocks
  pub blocks_to : p.blocks ≤ 1024
  pub base_pos : 0 < p.base
  pub base_whole : p.base % p.bytes ≡ 0
  pub end_low : heap_end p ≤ 2 ^ 47
  pub rows_to : p.count ≤ max_rows

-- the parts of good_params
abbrev pub min_part : Params → Bool
min_part p = eqb p.min 4 || eqb p.min 8

abbrev pub max_part : Params → Bool
max_part p = power_of_two p.max && leb p.min p.max && leb p.max 64

abbrev pub lower_part_lem : Params → Bool
lower_part_lem p = lower_ok p.lower && (not p.unified || eqb (nat_abs p.lower) 0)

abbrev pub bytes_part : Params → Bool
bytes_part p = power_of_two p.bytes && leb 4096 p.bytes && leb p.bytes 65536

abbrev pub blocks_part : Params → Bool
blocks_part p = leb 1 p.blocks && leb p.blocks 1024

abbrev pub base_part : Params → Bool
base_part p = ltb 0 p.base && eqb (p.base % p.bytes) 0 && leb (heap_end p) (2 ^ 47)

abbrev pub rows_part : Params → Bool
rows_part p = leb p.count max_rows

min_cases : (p : Params) → min_part p ≡ true → (p.min ≡ 4) ⊎ (p.min ≡ 8)
min_cases p e =
    ⊎_elim (λ h. inl (eqb-true _ _ h)) (λ h. inr (eqb-true _ _ h)) (or_cases (eqb p.min 4) (eqb p.min 8) e)

pub good : (p : Params) → good_params p ≡ true → Good p
unfolding good_params
good p e =
    let fst = and_five (min_part p && max_part p && lower_part_lem p) (bytes_part p) (blocks_part p) (base_part p) (rows_part p) e in
    let two = and_three (min_part p) (max_part p) (lower_part_lem p) fst.0 in
    let max = and_three (power_of_two p.max) (leb p.min p.max) (leb p.max 64) two.1 in
    let bytes = and_three (power_of_two p.bytes) (leb 4096 p.bytes) (leb p.bytes 65536) fst.1 in
    let base = and_three (ltb 0 p.base) (eqb (p.base % p.bytes) 0) (leb (heap_end p) (2 ^ 47)) fst.3 in
    record {
      min_is = min_cases p two.0;
      max_power = max.0;
      min_max = leb-true _ _ max.1;
      max_low = leb-true _ _ max.2;
      lower_ok_lem = and_left (lower_ok p.lower) (not p.unified || eqb (nat_abs p.lower) 0) two.2;
      unified_zero = and_right (lower_ok p.lower) (not p.unified || eqb (nat_abs p.lower) 0) two.2;
      bytes_power = bytes.0;
      bytes_from = leb-true _ _ bytes.1;
      bytes_to = leb-true _ _ bytes.2;
      blocks_from = leb-true _ _ (and_left (leb 1 p.blocks) (leb p.blocks 1024) fst.2);
      blocks_to = leb-true _ _ (and_right (leb 1 p.blocks) (leb p.blocks 1024) fst.2);
      base_pos = ltb-true _ _ base.0;
      base_whole = eqb-true _ _ base.1;
      end_low = leb-true _ _ base.2;
      rows_to = leb-true _ _ fst.4;
    }

-- ---- powers of two

pub power_at : (x : ℕ) → power_of_two x ≡ true → (k : ℕ) × (k < 17) × (x ≡ 2 ^ k)
unfolding power_of_two
power_at x e = let r = any_below_at 17 _ e in (r.0, r.1, eqb-true _ _ r.2)

-- a test that holds of every power of two up to 65,536 holds of one
pub each_power : (f : ℕ → Bool) → all_below 17 (λ k. f (2 ^ k)) ≡ true → {x : ℕ} → power_of_two x ≡ true → f x ≡ true
each_power f all {x} e =
    let r = power_at x e in
    ap f r.2 ∙ all_below_at 17 (λ k. f (2 ^ k)) all r.0 r.1
