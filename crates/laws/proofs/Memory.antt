-- Laws of bytes and words in a list: what stands where after a write, in the width where that makes sense. Assumes nothing.
use mathlib.Core.Path.{◌≡◌, refl, sym, ap, ◌∙◌, subst}
use mathlib.Core.Logic.{◌⊎◌, inl, inr}
use mathlib.Core.List.{List, [], ◌∷◌}
use Prim.Native.Nat.{ℕ, zero, suc, ◌+◌, ◌-◌, ◌/◌, ◌%◌, ◌^◌, ◌≤◌, ◌<◌}
use native.Mathlib.Nat.{div-lt_iff_lt-mul, pow-suc, div-add-mod', not-suc-le-zero, le_of_suc-le-suc, add-zero, zero-add}
use native.Mathlib.Numerals.{add-one}
use native.Mathlib.Omega.{arith}
use lib.ListN.{length, get_or, set, replicate, length-replicate, get_or-eq_default}
use Rattle.model.specs.declared.Params.{Params}
use Rattle.model.specs.Memory.{load_bytes, bytes_of, overwrite, load, store, zeroed}

-- ---- a range written over

pub length_overwrite : (i : ℕ) (vs h : List ℕ) → length (overwrite i vs h) ≡ length h
unfolding overwrite
length_overwrite i vs [] = refl
length_overwrite zero [] (x ∷ h) = refl
length_overwrite zero (v ∷ vs) (x ∷ h) = ap suc (length_overwrite zero vs h)
length_overwrite (suc i) vs (x ∷ h) = ap suc (length_overwrite i vs h)

pub overwrite_nil : (i : ℕ) (h : List ℕ) → overwrite i [] h ≡ h
unfolding overwrite
overwrite_nil i [] = refl
overwrite_nil zero (x ∷ h) = refl
overwrite_nil (suc i) (x ∷ h) = ap (λ (k : List ℕ). x ∷ k) (overwrite_nil i h)

pub overwrite_set : (i v : ℕ) (vs h : List ℕ) → overwrite i (v ∷ vs) h ≡ overwrite (i + 1) vs (set h i v)
unfolding overwrite
overwrite_set i v vs [] = refl
overwrite_set zero v vs (x ∷ h) = refl
overwrite_set (suc i) v vs (x ∷ h) = rw (add-one (suc i)) (ap (λ (k : List ℕ). x ∷ k) (overwrite_set i v vs h ∙ rw (add-one i)))

-- past the end nothing is written
pub overwrite_out : (i : ℕ) (vs h : List ℕ) → length h ≤ i → overwrite i vs h ≡ h
unfolding overwrite
overwrite_out i vs [] l = refl
overwrite_out zero vs (x ∷ h) l = absurd (not-suc-le-zero l)
overwrite_out (suc i) vs (x ∷ h) l = ap (λ (k : List ℕ). x ∷ k) (overwrite_out i vs h (le_of_suc-le-suc l))

pub get_d_overwrite_before : (i : ℕ) (vs h : List ℕ) (k : ℕ) → k < i → get_or (overwrite i vs h) k 0 ≡ get_or h k 0
unfolding overwrite
get_d_overwrite_before i vs [] k l = refl
get_d_overwrite_before zero vs (x ∷ h) k l = absurd (not-suc-le-zero l)
get_d_overwrite_before (suc i) vs (x ∷ h) zero l = refl
get_d_overwrite_before (suc i) vs (x ∷ h) (suc k) l = get_d_overwrite_before i vs h k (le_of_suc-le-suc l)

in_front : (vs h : List ℕ) (k : ℕ) → k < length vs → k < length h → get_or (overwrite 0 vs h) k 0 ≡ get_or vs k 0
unfolding overwrite
in_front [] h k l m = absurd (not-suc-le-zero l)
in_front (v ∷ vs) [] k l m = absurd (not-suc-le-zero m)
in_front (v ∷ vs) (x ∷ h) zero l m = refl
in_front (v ∷ vs) (x ∷ h) (suc k) l m = in_front vs h k (le_of_suc-le-suc l) (le_of_suc-le-suc m)

pub get_d_overwrite_in : (i : ℕ) (vs h : List ℕ) (k : ℕ) → k < length vs → i + k < length h → get_or (overwrite i vs h) (i + k) 0 ≡ get_or vs k 0
unfolding overwrite
get_d_overwrite_in i vs [] k l m = absurd (not-suc-le-zero m)
get_d_overwrite_in zero vs (x ∷ h) k l m = rw (zero-add k) (in_front vs (x ∷ h) k l (omega arith))
get_d_overwrite_in (suc i) vs (x ∷ h) k l m =
    let e : suc i + k ≡ suc (i + k) = omega arith in
    rw e (get_d_overwrite_in i vs h k l (omega arith))

past_front : (vs h : List ℕ) (k : ℕ) → length vs ≤ k → get_or (overwrite 0 vs h) k 0 ≡ get_or h k 0
unfolding overwrite
past_front vs [] k l = refl
past_front [] (x ∷ h) k l = refl
past_front (v ∷ vs) (x ∷ h) zero l = absurd (not-suc-le-zero l)
past_front (v ∷ vs) (x ∷ h) (suc k) l = past_front vs h k (le_of_suc-le-suc l)

pub get_d_overwrite_after : (i : ℕ) (vs h : List ℕ) (k : ℕ) → i + length vs ≤ k → get_or (overwrite i vs h) k 0 ≡ get_or h k 0
unfolding overwrite
get_d_overwrite_after i vs [] k l = refl
get_d_overwrite_after zero vs (x ∷ h) k l = past_front vs (x ∷ h) k (omega arith)
get_d_overwrite_after (suc i) vs (x ∷ h) zero l = absurd (not-suc-le-zero {n = i + length vs} (omega arith))
get_d_overwrite_after (suc i) vs (x ∷ h) (suc k) l = get_d_overwrite_after i vs h k (omega arith)

zeros_front : (n : ℕ) (h : List ℕ) (k : ℕ) → k < n → get_or (overwrite 0 (replicate n 0) h) k 0 ≡ 0
unfolding overwrite
zeros_front n [] k l = refl
zeros_front zero (x ∷ h) k l = absurd (not-suc-le-zero l)
zeros_front (suc n) (x ∷ h) zero l = refl
zeros_front (suc n) (x ∷ h) (suc k) l = zeros_front n h k (le_of_suc-le-suc l)

pub zeros_in : (i n : ℕ) (h : List ℕ) (k : ℕ) → k < n → get_or (overwrite i (replicate n 0) h) (i + k) 0 ≡ 0
unfolding overwrite
zeros_in i n [] k l = refl
zeros_in zero n (x ∷ h) k l = rw (zero-add k) (zeros_front n (x ∷ h) k l)
zeros_in (suc i) n (x ∷ h) k l =
    let e : suc i + k ≡ suc (i + k) = omega arith in
    rw e (zeros_in i n h k l)

pub get_d_zeros : (n i : ℕ) → get_or (replicate {A = ℕ} n 0) i 0 ≡ 0
get_d_zeros zero i = refl
get_d_zeros (suc n) zero = refl
get_d_zeros (suc n) (suc i) = get_d_zeros n i

-- two ranges, the n places from i on and the m from j on, do not meet
abbrev pub Apart : ℕ → ℕ → ℕ → ℕ → Type 0
Apart i n j m = (i + n ≤ j) ⊎ (j + m ≤ i)

-- parts of ranges that do not meet do not meet
pub apart_in : (i n j m i' n' j' m' : ℕ) → Apart i n j m → i ≤ i' → i' + n' ≤ i + n → j ≤ j' → j' + m' ≤ j + m → Apart i' n' j' m'
apart_in i n j m i' n' j' m' (inl a) b c d e = inl (omega arith)
apart_in i n j m i' n' j' m' (inr a) b c d e = inr (omega arith)

-- addresses from the base on, as places of the heap
pub apart_places : (base a n b m : ℕ) → base ≤ a → base ≤ b → Apart a n b m → Apart (a - base) n (b - base) m
apart_places base a n b m la lb (inl x) = inl (omega arith)
apart_places base a n b m la lb (inr x) = inr (omega arith)

-- two lists agree on the n places from i on
abbrev pub Same : List ℕ → List ℕ → ℕ → ℕ → Type 0
Same h h' i n = (k : ℕ) → i ≤ k → k < i + n → get_or h k 0 ≡ get_or h' k 0

pub same_trans : (h h' h'' : List ℕ) (i n : ℕ) → Same h h' i n → Same h' h'' i n → Same h h'' i n
same_trans h h' h'' i n s t k lo hi = s k lo hi ∙ t k lo hi

-- a write leaves a range that it does not meet
pub same_overwrite : (i : ℕ) (vs h : List ℕ) (j m : ℕ) → Apart i (length vs) j m → Same h (overwrite i vs h) j m
same_overwrite i vs h j m (inl a) k lo hi = sym (get_d_overwrite_after i vs h k (omega arith))
same_overwrite i vs h j m (inr a) k lo hi = sym (get_d_overwrite_before i vs h k (omega arith))

-- ---- words of n bytes, low byte first

pub length_bytes_of : (n v : ℕ) → length (bytes_of n v) ≡ n
unfolding bytes_of
length_bytes_of zero v = refl
length_bytes_of (suc n) v = ap suc (length_bytes_of n (v / 256))

pub load_bytes_same : (n : ℕ) (h h' : List ℕ) (i : ℕ) → Same h h' i n → load_bytes n h i ≡ load_bytes n h' i
unfolding load_bytes
load_bytes_same zero h h' i s = refl
load_bytes_same (suc n) h h' i s =
    let e : get_or h i 0 ≡ get_or h' i 0 = s i (omega arith) (omega arith) in
    let f : load_bytes n h (i + 1) ≡ load_bytes n h' (i + 1) = load_bytes_same n h h' (i + 1) (λ k lo hi. s k (omega arith) (omega arith)) in
    rw (e, f)

-- where the bytes of v stand, v is read
pub load_bytes_bytes_of : (n v : ℕ) (h : List ℕ) (i : ℕ) → v < 256 ^ n
    → ((k : ℕ) → k < n → get_or h (i + k) 0 ≡ get_or (bytes_of n v) k 0) → load_bytes n h i ≡ v
unfolding load_bytes bytes_of
load_bytes_bytes_of zero v h i lt s = omega arith
load_bytes_bytes_of (suc n) v h i lt s =
    let e : get_or h i 0 ≡ v % 256 = rw (add-zero i) at (s 0 (omega arith)) in
    let low : v / 256 < 256 ^ n = (div-lt_iff_lt-mul {k = 256} (omega arith)).1 (rw pow-suc at lt) in
    let f : load_bytes n h (i + 1) ≡ v / 256 =
    load_bytes_bytes_of n (v / 256) h (i + 1) low
    (λ k l. ap (λ (x : ℕ). get_or h x 0) (omega arith) ∙ s (suc k) (omega arith))
    in
    rw (e, f) (omega (arith, div-add-mod' v 256))

pub load_bytes_overwrite : (n v : ℕ) (h : List ℕ) (i : ℕ) → v < 256 ^ n → i + n ≤ length h
    → load_bytes n (overwrite i (bytes_of n v) h) i ≡ v
load_bytes_overwrite n v h i lt f =
    load_bytes_bytes_of n v (overwrite i (bytes_of n v) h) i lt
    (λ k l. get_d_overwrite_in i (bytes_of n v) h k (rw length_bytes_of l) (omega arith))

-- ---- bytes past the end

pub load_bytes_out : (n : ℕ) (h : List ℕ) (i : ℕ) → length h ≤ i → load_bytes n h i ≡ 0
unfolding load_bytes
load_bytes_out zero h i l = refl
load_bytes_out (suc n) h i l =
    let e : get_or h i 0 ≡ 0 = get_or-eq_default h 0 l in
    let f : load_bytes n h (i + 1) ≡ 0 = load_bytes_out n h (i + 1) (omega arith) in
    rw (e, f)

-- a word is read of the bytes that there are
pub load_bytes_short : (n m : ℕ) (h : List ℕ) (i : ℕ) → length h ≤ i + n → n ≤ m → load_bytes n h i ≡ load_bytes m h i
unfolding load_bytes
load_bytes_short zero m h i l le = sym (load_bytes_out m h i (omega arith))
load_bytes_short (suc n) zero h i l le = absurd (not-suc-le-zero le)
load_bytes_short (suc n) (suc m) h i l le =
    let f : load_bytes n h (i + 1) ≡ load_bytes m h (i + 1) = load_bytes_short n m h (i + 1) (omega arith) (omega arith) in
    rw f

-- of two lists that reach to the end, what is written depends on the places that there are
pub overwrite_agree : (i : ℕ) (vs us h : List ℕ) → length h ≤ i + length vs → length h ≤ i + length us
    → ((k : ℕ) → i + k < length h → get_or vs k 0 ≡ get_or us k 0) → overwrite i vs h ≡ overwrite i us h
unfolding overwrite
overwrite_agree i vs us [] lv lu s = refl
overwrite_agree zero [] us (x ∷ h) lv lu s = absurd (not-suc-le-zero {n = length h} (omega arith))
overwrite_agree zero (v ∷ vs) [] (x ∷ h) lv lu s = absurd (not-suc-le-zero {n = length h} (omega arith))
overwrite_agree zero (v ∷ vs) (u ∷ us) (x ∷ h) lv lu s =
    let e : v ≡ u = s 0 (omega arith) in
    let f : overwrite 0 vs h ≡ overwrite 0 us h = overwrite_agree 0 vs us h (omega arith) (omega arith) (λ k l. s (suc k) (omega arith)) in
    rw (e, f)
overwrite_agree (suc i) vs us (x ∷ h) lv lu s =
    ap (λ (k : List ℕ). x ∷ k) (overwrite_agree i vs us h (omega arith) (omega arith) (λ k l. s k (omega arith)))

pub get_d_bytes_of_short : (n m v k : ℕ) → k < n → n ≤ m → get_or (bytes_of n v) k 0 ≡ get_or (bytes_of m v) k 0
unfolding bytes_of
get_d_bytes_of_short zero m v k l le = absurd (not-suc-le-zero l)
get_d_bytes_of_short (suc n) zero v k l le = absurd (not-suc-le-zero le)
get_d_bytes_of_short (suc n) (suc m) v zero l le = refl
get_d_bytes_of_short (suc n) (suc m) v (suc k) l le = get_d_bytes_of_short n m (v / 256) k (omega arith) (omega arith)

-- a word, or zeros, written over the end: as far as there are places
pub bytes_of_short : (n m v i : ℕ) (h : List ℕ) → length h ≤ i + n → n ≤ m
    → overwrite i (bytes_of n v) h ≡ overwrite i (bytes_of m v) h
bytes_of_short n m v i h l le =
    overwrite_agree i (bytes_of n v) (bytes_of m v) h (rw length_bytes_of l) (rw length_bytes_of (omega arith))
    (λ k lt. get_d_bytes_of_short n m v k (omega arith) le)

pub zeros_short : (n m i : ℕ) (h : List ℕ) → length h ≤ i + n → n ≤ m
    → overwrite i (replicate n 0) h ≡ overwrite i (replicate m 0) h
zeros_short n m i h l le =
    overwrite_agree i (replicate n 0) (replicate m 0) h (rw length-replicate l) (rw length-replicate (omega arith))
    (λ k lt. get_d_zeros n k ∙ sym (get_d_zeros m k))

-- ---- bytes stay bytes

abbrev pub Bytes : List ℕ → Type 0
Bytes h = (i : ℕ) → get_or h i 0 < 256

pub bytes_zeros : (n : ℕ) → Bytes (replicate n 0)
bytes_zeros n i = rw get_d_zeros (omega arith)

-- ---- the heap, by addresses

module _ (p : Params) (h : List ℕ) (a : ℕ) where
  pub length_store : (v : ℕ) → length (store p h a v) ≡ length h
  unfolding store
  length_store v = length_overwrite (a - p.base) (bytes_of 8 v) h

  pub length_zeroed : (n : ℕ) → length (zeroed p h a n) ≡ length h
  unfolding zeroed
  length_zeroed n = length_overwrite (a - p.base) (replicate n 0) h

  pub same_store : (v j m : ℕ) → Apart (a - p.base) 8 j m → Same h (store p h a v) j m
  unfolding store
  same_store v j m w =
      same_overwrite (a - p.base) (bytes_of 8 v) h j m
      (subst (λ (n : ℕ). Apart (a - p.base) n j m) (sym (length_bytes_of 8 v)) w)

  pub same_zeroed : (n j m : ℕ) → Apart (a - p.base) n j m → Same h (zeroed p h a n) j m
  unfolding zeroed
  same_zeroed n j m w =
      same_overwrite (a - p.base) (replicate n 0) h j m
      (subst (λ (k : ℕ). Apart (a - p.base) k j m) (sym (length-replicate n 0)) w)

  pub load_store : (v : ℕ) → (a - p.base) + 8 ≤ length h → v < 2 ^ 64 → load p (store p h a v) a ≡ v
  unfolding load store
  load_store v f lt = load_bytes_overwrite 8 v h (a - p.base) lt f

  -- every byte of a zeroed range is 0, also where the heap has ended
  pub zeroed_in : (n k : ℕ) → k < n → get_or (zeroed p h a n) ((a - p.base) + k) 0 ≡ 0
  unfolding zeroed
  zeroed_in n k l = zeros_in (a - p.base) n h k l

pub load_same : (p : Params) (h h' : List ℕ) (a : ℕ) → Same h h' (a - p.base) 8 → load p h a ≡ load p h' a
unfolding load
load_same p h h' a s = load_bytes_same 8 h h' (a - p.base) s
