-- A part of a list that is written over, in the library's words; the bytes of a word. Leans on the laws of bytes; assumes nothing.
use mathlib.Core.Path.{◌≡◌, refl, sym, ap, ◌∙◌}
use mathlib.Core.List.{List, [], ◌∷◌, ◌++◌}
use Prim.Native.Nat.{ℕ, zero, suc, ◌+◌, ◌-◌, ◌/◌, ◌%◌, ◌≤◌, ◌<◌, min}
use native.Mathlib.Nat.{not-suc-le-zero, le_of_suc-le-suc, div-div-eq-div-mul}
use native.Mathlib.Decide.{dec_lt}
use native.Mathlib.Omega.{arith}
use lib.ListN.{length, get_or, replicate, take, drop, length-drop, length-replicate, get_or-append, get_or-eq_default}
use lib.Seq.{length-take-le, get_or-append_right}
use Rattle.std.proofs.lemmas.List.{get_or-take, get_or-drop, get_or-replicate}
use borrow.Rule.Slice.PartMut.{put_mid}
use Rattle.std.specs.Int.{w64, to_le_bytes, from_le_bytes}
use Rattle.model.specs.Memory.{bytes_of, load_bytes, overwrite}
use Rattle.laws.proofs.Memory.{overwrite_nil, zeros_short}

over_front : (vs h : List ℕ) → length vs ≤ length h → vs ++ drop (length vs) h ≡ overwrite 0 vs h
unfolding overwrite
over_front [] h l = sym (overwrite_nil 0 h)
over_front (v ∷ vs) [] l = absurd (not-suc-le-zero l)
over_front (v ∷ vs) (x ∷ h) l = ap (λ (k : List ℕ). v ∷ k) (over_front vs h (le_of_suc-le-suc l))

over_part : (i : ℕ) (vs h : List ℕ) → i + length vs ≤ length h → take i h ++ (vs ++ drop (length vs) (drop i h)) ≡ overwrite i vs h
unfolding overwrite
over_part zero vs h l = over_front vs h (omega arith)
over_part (suc i) vs [] l = absurd (not-suc-le-zero {n = i + length vs} (omega arith))
over_part (suc i) vs (x ∷ h) l = ap (λ (k : List ℕ). x ∷ k) (over_part i vs h (omega arith))

-- the n places from i on hold vs now
pub part_over : (i n : ℕ) {vs us : List ℕ} (h : List ℕ) → i + n ≤ length h → vs ≡ us → length us ≡ n → put_mid i (i + n - i) h vs ≡ overwrite i us h
part_over i n {vs} {us} h l e len =
    let count : i + n - i ≡ length us = omega (arith, len) in
    rw (e, count) (over_part i us h (omega (arith, l, len)))

-- the slice of the n places from i on
pub part_length : (i n : ℕ) (h : List ℕ) → i + n ≤ length h → length (take (i + n - i) (drop i h)) ≡ n
part_length i n h l = length-take-le (i + n - i) (drop i h) (omega (arith, length-drop i h, l)) ∙ omega arith

pub part_item : (i n : ℕ) (h : List ℕ) (k : ℕ) → k < n → get_or (take (i + n - i) (drop i h)) k 0 ≡ get_or h (i + k) 0
part_item i n h k l = get_or-take (i + n - i) (drop i h) k 0 (omega arith) ∙ get_or-drop i h k 0

-- as many zeros as it has
pub zeros_in_part : (i n : ℕ) (h : List ℕ) → i + n ≤ length h → replicate {A = ℕ} (length (take (i + n - i) (drop i h))) 0 ≡ replicate n 0
zeros_in_part i n h l = ap (λ (k : ℕ). replicate {A = ℕ} k 0) (part_length i n h l)

-- zeros no further than the list goes
pub zeros_least : (i n : ℕ) (h : List ℕ) → i < length h → overwrite i (replicate (min n (length h - i)) 0) h ≡ overwrite i (replicate n 0) h
zeros_least i n h l = go (dec_lt n (length h - i))
  where
    go : Dec (n < length h - i) → overwrite i (replicate (min n (length h - i)) 0) h ≡ overwrite i (replicate n 0) h
    go (yes y) = let e : min n (length h - i) ≡ n = omega (arith, y) in rw e
    go (no y) = let e : min n (length h - i) ≡ length h - i = omega (arith, y) in rw e (zeros_short (length h - i) n i h (omega (arith, l)) (omega (arith, y)))

-- a word's bytes are the library's
pub word_is : (v : ℕ) → to_le_bytes w64 v ≡ bytes_of 8 v
unfolding bytes_of
word_is v = sym (simp div-div-eq-div-mul)

take_bytes : (n m v : ℕ) → n ≤ m → take n (bytes_of m v) ≡ bytes_of n v
unfolding bytes_of
take_bytes zero m v l = refl
take_bytes (suc n) zero v l = absurd (not-suc-le-zero l)
take_bytes (suc n) (suc m) v l = ap (λ (k : List ℕ). v % 256 ∷ k) (take_bytes n m (v / 256) (le_of_suc-le-suc l))

-- the low bytes of a word, as the library has them
pub word_bytes : (n v : ℕ) → n ≤ 8 → take n (to_le_bytes w64 v) ≡ bytes_of n v
word_bytes n v l = ap (take n) (word_is v) ∙ take_bytes n 8 v l

-- ---- the number that bytes make

-- eight of them, as the library joins them
word_from : (bs : List ℕ) → from_le_bytes w64 bs ≡ load_bytes 8 bs 0
unfolding load_bytes
word_from bs = omega arith

-- n bytes, and m where those past the n are 0
load_same : (m n : ℕ) (bs h : List ℕ) (j i : ℕ) → n ≤ m → ((k : ℕ) → k < n → get_or bs (j + k) 0 ≡ get_or h (i + k) 0)
    → ((k : ℕ) → n ≤ k → k < m → get_or bs (j + k) 0 ≡ 0) → load_bytes m bs j ≡ load_bytes n h i
unfolding load_bytes
load_same zero zero bs h j i l f z = refl
load_same zero (suc n) bs h j i l f z = absurd (not-suc-le-zero l)
load_same (suc m) zero bs h j i l f z =
    let d : j ≡ j + 0 = omega arith in
    let first : get_or bs j 0 ≡ 0 = ap (λ (x : ℕ). get_or bs x 0) d ∙ z 0 (omega arith) (omega arith) in
    let rest : load_bytes m bs (j + 1) ≡ 0 =
    load_same m zero bs h (j + 1) i (omega arith) (λ k x. absurd (not-suc-le-zero x))
    (λ k x y. let e : j + 1 + k ≡ j + (k + 1) = omega arith in ap (λ (x : ℕ). get_or bs x 0) e ∙ z (k + 1) (omega arith) (omega (arith, y))) in
    omega (arith, first, rest)
load_same (suc m) (suc n) bs h j i l f z =
    let d : j ≡ j + 0 = omega arith in
    let g : i + 0 ≡ i = omega arith in
    let first : get_or bs j 0 ≡ get_or h i 0 = ap (λ (x : ℕ). get_or bs x 0) d ∙ f 0 (omega arith) ∙ ap (λ (x : ℕ). get_or h x 0) g in
    let rest : load_bytes m bs (j + 1) ≡ load_bytes n h (i + 1) =
    load_same m n bs h (j + 1) (i + 1) (le_of_suc-le-suc l)
    (λ k x. let e : j + 1 + k ≡ j + (k + 1) = omega arith in let o : i + (k + 1) ≡ i + 1 + k = omega arith in
    ap (λ (x : ℕ). get_or bs x 0) e ∙ f (k + 1) (omega (arith, x)) ∙ ap (λ (x : ℕ). get_or h x 0) o)
    (λ k x y. let e : j + 1 + k ≡ j + (k + 1) = omega arith in ap (λ (x : ℕ). get_or bs x 0) e ∙ z (k + 1) (omega (arith, x)) (omega (arith, y))) in
    rw (first, rest)

zero_read : (m k : ℕ) → get_or (replicate {A = ℕ} m 0) k 0 ≡ 0
zero_read m k = go (dec_lt k m)
  where
    go : Dec (k < m) → get_or (replicate {A = ℕ} m 0) k 0 ≡ 0
    go (yes y) = get_or-replicate m k 0 0 y
    go (no y) = get_or-eq_default (replicate m 0) 0 {n = k} (omega (arith, length-replicate {A = ℕ} m 0, y))

-- the n bytes from i on, before zeros
pub part_from : (i n : ℕ) (h : List ℕ) → i + n ≤ length h → n ≤ 8
    → from_le_bytes w64 (take (i + n - i) (drop i h) ++ drop n (replicate 8 0)) ≡ load_bytes n h i
part_from i n h l m =
    let part : List ℕ = take (i + n - i) (drop i h) in
    let zs : List ℕ = drop n (replicate 8 0) in
    let len : length part ≡ n = part_length i n h l in
    word_from (part ++ zs) ∙ load_same 8 n (part ++ zs) h 0 i m
    (λ k x. let e : 0 + k ≡ k = omega arith in ap (λ (y : ℕ). get_or (part ++ zs) y 0) e ∙ get_or-append part zs 0 k (omega (arith, x, len)) ∙ part_item i n h k x)
    (λ k x y. let e : 0 + k ≡ k = omega arith in
    ap (λ (y : ℕ). get_or (part ++ zs) y 0) e ∙ get_or-append_right part zs k 0 (omega (arith, x, len))
    ∙ get_or-drop n (replicate 8 0) (k - length part) 0 ∙ zero_read 8 (n + (k - length part)))

-- the eight bytes from i on
pub word_part : (i : ℕ) (h : List ℕ) → i + 8 ≤ length h → from_le_bytes w64 (take (i + 8 - i) (drop i h)) ≡ load_bytes 8 h i
word_part i h l =
    let part : List ℕ = take (i + 8 - i) (drop i h) in
    word_from part ∙ load_same 8 8 part h 0 i (omega arith)
    (λ k x. let e : 0 + k ≡ k = omega arith in ap (λ (y : ℕ). get_or part y 0) e ∙ part_item i 8 h k x)
    (λ k x y. absurd (not-suc-le-zero {n = 0} (omega (arith, x, y))))
