-- Decoding and encoding: that each undoes the other, and what their loops make. Assumes nothing.
use mathlib.Core.Path.{◌≡◌, refl, sym, ap, ◌∙◌}
use mathlib.Core.List.{List, [], ◌∷◌, ◌++◌, append-nil, append_assoc}
use Prim.Native.Nat.{ℕ, zero, suc, ◌+◌, ◌*◌, ◌/◌, ◌%◌, ◌^◌, ◌≤◌, ◌<◌}
use native.Mathlib.Nat.{not-suc-le-zero, le_of_suc-le-suc}
use native.Mathlib.Omega.{arith}
use lib.ListN.{length, get_or, take, drop, length-append, get_or-append}
use lib.Seq.{get_or-append-add, take_all, length-take-le, drop-cons, take-add, drop-drop, ext_get_or}
use Rattle.std.proofs.lemmas.List.{take_more}
use Rattle.model.specs.Memory.{load_bytes, bytes_of, overwrite}
use Rattle.model.specs.Exports.{words_from, decoded, encoded, Inverse}
use Rattle.laws.proofs.Memory.{Bytes, load_bytes_bytes_of, length_bytes_of, overwrite_nil}

-- ---- lengths and entries

pub length_words : (n : ℕ) (b : List ℕ) (i : ℕ) → length (words_from n b i) ≡ n
unfolding words_from
length_words zero b i = refl
length_words (suc n) b i = ap suc (length_words n b (i + 8))

pub get_d_words : (n : ℕ) (b : List ℕ) (i k : ℕ) → k < n → get_or (words_from n b i) k 0 ≡ load_bytes 8 b (i + 8 * k)
unfolding words_from
get_d_words zero b i k l = absurd (not-suc-le-zero l)
get_d_words (suc n) b i zero l = ap (load_bytes 8 b) (omega arith)
get_d_words (suc n) b i (suc k) l = get_d_words n b (i + 8) k (le_of_suc-le-suc l) ∙ ap (load_bytes 8 b) (omega arith)

pub length_encoded : (ws : List ℕ) → length (encoded ws) ≡ 8 * length ws
unfolding encoded
length_encoded [] = refl
length_encoded (v ∷ ws) = length-append (bytes_of 8 v) (encoded ws) ∙ omega (arith, length_bytes_of 8 v, length_encoded ws)

-- ---- encoding undoes decoding

bytes_of_load : (n : ℕ) (b : List ℕ) (i : ℕ) → Bytes b → i + n ≤ length b → bytes_of n (load_bytes n b i) ≡ take n (drop i b)
unfolding bytes_of load_bytes
bytes_of_load zero b i y l = refl
bytes_of_load (suc n) b i y l =
    let low : (get_or b i 0 + 256 * load_bytes n b (i + 1)) % 256 ≡ get_or b i 0 = omega (arith, y i) in
    let high : (get_or b i 0 + 256 * load_bytes n b (i + 1)) / 256 ≡ load_bytes n b (i + 1) = omega (arith, y i) in
    let s : suc i ≡ i + 1 = omega arith in
    rw (low, high, bytes_of_load n b (i + 1) y (omega arith), drop-cons b i 0 (omega arith), s)

encoded_from : (n : ℕ) (b : List ℕ) (i : ℕ) → Bytes b → i + 8 * n ≤ length b → encoded (words_from n b i) ≡ take (8 * n) (drop i b)
unfolding encoded words_from
encoded_from zero b i y l = refl
encoded_from (suc n) b i y l =
    let e : 8 * suc n ≡ 8 + 8 * n = omega arith in
    rw (e, take-add 8 (8 * n) (drop i b), drop-drop 8 i b, bytes_of_load 8 b i y (omega arith), encoded_from n b (i + 8) y (omega arith))

pub encoded_decoded : (b : List ℕ) → Bytes b → length b % 8 ≡ 0 → encoded (decoded b) ≡ b
unfolding decoded
encoded_decoded b y e = encoded_from (length b / 8) b 0 y (omega arith) ∙ take_all (8 * (length b / 8)) b (omega (arith, e))

-- ---- decoding undoes encoding

load_behind : (m : ℕ) (x b : List ℕ) (i : ℕ) → load_bytes m (x ++ b) (length x + i) ≡ load_bytes m b i
unfolding load_bytes
load_behind zero x b i = refl
load_behind (suc m) x b i =
    let s : (length x + i) + 1 ≡ length x + (i + 1) = omega arith in
    rw (get_or-append-add x b i 0, s, load_behind m x b (i + 1))

words_behind : (n : ℕ) (x b : List ℕ) (i : ℕ) → words_from n (x ++ b) (length x + i) ≡ words_from n b i
unfolding words_from
words_behind zero x b i = refl
words_behind (suc n) x b i =
    let s : (length x + i) + 8 ≡ length x + (i + 8) = omega arith in
    rw (load_behind 8 x b i, s, words_behind n x b (i + 8))

words_encoded : (ws : List ℕ) → ((k : ℕ) → get_or ws k 0 < 2 ^ 64) → words_from (length ws) (encoded ws) 0 ≡ ws
unfolding words_from encoded
words_encoded [] f = refl
words_encoded (v ∷ ws) f =
    let n : length (bytes_of 8 v) ≡ 8 = length_bytes_of 8 v in
    let first : load_bytes 8 (bytes_of 8 v ++ encoded ws) 0 ≡ v =
    load_bytes_bytes_of 8 v (bytes_of 8 v ++ encoded ws) 0 (f 0)
    (λ k l. ap (λ (x : ℕ). get_or (bytes_of 8 v ++ encoded ws) x 0) (omega arith) ∙ get_or-append (bytes_of 8 v) (encoded ws) 0 k (omega (arith, n, l))) in
    let at : length (bytes_of 8 v) + 0 ≡ 0 + 8 = omega (arith, n) in
    let rest : words_from (length ws) (bytes_of 8 v ++ encoded ws) (0 + 8) ≡ words_from (length ws) (encoded ws) 0 =
    rw at at (words_behind (length ws) (bytes_of 8 v) (encoded ws) 0) in
    rw (first, rest, words_encoded ws (λ k. f (suc k)))

pub decoded_encoded : (ws : List ℕ) → ((k : ℕ) → get_or ws k 0 < 2 ^ 64) → decoded (encoded ws) ≡ ws
unfolding decoded
decoded_encoded ws f =
    let n : length (encoded ws) / 8 ≡ length ws = omega (arith, length_encoded ws) in
    rw n (words_encoded ws f)

-- each undoes the other
pub inverse : Inverse
unfolding Inverse
inverse = (encoded_decoded, decoded_encoded)

-- ---- the loops

pub decode_end : (b w : List ℕ) (n : ℕ) → length w ≡ n → ((k : ℕ) → k < n → get_or w k 0 ≡ load_bytes 8 b (8 * k)) → w ≡ words_from n b 0
decode_end b w n e f =
    ext_get_or 0 w (words_from n b 0) (e ∙ sym (length_words n b 0))
    (λ k l. f k (omega arith) ∙ sym (get_d_words n b 0 k (omega arith) ∙ ap (load_bytes 8 b) (omega arith)))

-- what is written behind what was
over_behind : (us vs b : List ℕ) → overwrite (length us) vs (overwrite 0 us b) ≡ overwrite 0 (us ++ vs) b
unfolding overwrite
over_behind [] vs b = rw (overwrite_nil 0 b)
over_behind (u ∷ us) vs [] = refl
over_behind (u ∷ us) vs (x ∷ b) = ap (λ (z : List ℕ). u ∷ z) (over_behind us vs b)

encoded_append : (ws vs : List ℕ) → encoded (ws ++ vs) ≡ encoded ws ++ encoded vs
unfolding encoded
encoded_append [] vs = refl
encoded_append (v ∷ ws) vs =
    ap (λ (z : List ℕ). bytes_of 8 v ++ z) (encoded_append ws vs) ∙ sym (append_assoc (bytes_of 8 v) (encoded ws) (encoded vs))

encoded_more : (w : List ℕ) (k : ℕ) → k < length w → encoded (take (k + 1) w) ≡ encoded (take k w) ++ bytes_of 8 (get_or w k 0)
unfolding encoded
encoded_more w k l =
    ap encoded (take_more w k 0 l) ∙ encoded_append (take k w) (get_or w k 0 ∷ [])
    ∙ ap (λ (z : List ℕ). encoded (take k w) ++ z) (append-nil (bytes_of 8 (get_or w k 0)))

pub encode_round : (w b : List ℕ) (k : ℕ) {c d : List ℕ} → k < length w → c ≡ overwrite 0 (encoded (take k w)) b
    → d ≡ overwrite (8 * k) (bytes_of 8 (get_or w k 0)) c → d ≡ overwrite 0 (encoded (take (k + 1) w)) b
encode_round w b k l e f =
    let n : length (encoded (take k w)) ≡ 8 * k = omega (arith, length_encoded (take k w), length-take-le k w (omega (arith, l))) in
    f ∙ rw (e, ← n, encoded_more w k l) (over_behind (encoded (take k w)) (bytes_of 8 (get_or w k 0)) b)

-- bytes written over as many
over_whole : (vs b : List ℕ) → length vs ≡ length b → overwrite 0 vs b ≡ vs
unfolding overwrite
over_whole [] [] e = refl
over_whole [] (x ∷ b) e = absurd (omega (arith, e))
over_whole (v ∷ vs) [] e = absurd (omega (arith, e))
over_whole (v ∷ vs) (x ∷ b) e = ap (λ (z : List ℕ). v ∷ z) (over_whole vs b (omega (arith, e)))

pub encode_whole : (w b : List ℕ) → length b ≡ 8 * length w → overwrite 0 (encoded w) b ≡ encoded w
encode_whole w b e = over_whole (encoded w) b (length_encoded w ∙ sym e)

pub length_decoded : (b : List ℕ) → length (decoded b) ≡ length b / 8
unfolding decoded
length_decoded b = length_words (length b / 8) b 0
