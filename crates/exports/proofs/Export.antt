-- Laws of the exports' code: one for each way out, and the rows that it reads. Leans on decoding and encoding. Assumes nothing.
use Rattle.std.specs.Prelude.{if◌then◌else◌}
use mathlib.Core.Path.{◌≡◌, refl, sym, ap, ◌∙◌}
use mathlib.Core.Logic.{◌⊎◌, inl, inr}
use mathlib.Core.Bool.{true, false, ◌&&◌}
use mathlib.Core.List.{List}
use Prim.Native.Nat.{ℕ, zero, suc, ◌+◌, ◌*◌, ◌/◌, ◌%◌, ◌≤◌, ◌<◌}
use native.Mathlib.Nat.{not-suc-le-zero, le_of_suc-le-suc}
use native.Mathlib.Omega.{arith}
use native.Mathlib.Decide.{ℕ_discrete}
use lib.Dec.{eqb, leb}
use lib.ListN.{length, get_or}
use lib.Seq.{ext_get_or}
use borrow.Author.Tests.{eq-eqb, ne_eqb, lt-leb, eqb-true, leb-true, leb-false}
use Rattle.model.specs.declared.Params.{Params}
use Rattle.model.specs.declared.Row.{Row}
use Rattle.model.specs.declared.Said.{Said}
use Rattle.model.specs.declared.Refusal.TheVariants.{BadSetup}
use Rattle.model.specs.Params.{Lent, fits, good_params, word_count, heap_bytes}
use Rattle.model.specs.Memory.{overwrite}
use Rattle.model.specs.SizeClasses.{no_row, tabulated}
use Rattle.model.specs.Calls.{refusal_number, Returned, call, set_up, bad_setup}
use Rattle.model.specs.Answers.{said_of, Outcome, outcome, outcome_of}
use Rattle.model.specs.Exports.{decoded, encoded, LentBytes, lend_bytes, decoded_lent, gives, answer_bytes, tells, shown, answer_after, exported, row_bytes, row_from, rows_of}
use Rattle.model.specs.RunCalls.{whole_words}
use Rattle.laws.proofs.Below.{test, and_left, and_right, and_second}
use Rattle.laws.proofs.Params.{good_bounds}
use Rattle.laws.proofs.Memory.{Bytes}
use Rattle.model.specs.Promise.{lend}
use Rattle.exports.specs.declared.Entry.{Entry}
use Rattle.exports.specs.declared.Entry.TheVariants.{SetUp, Call}
use Rattle.exports.specs.Entry.{inner_of}
use Rattle.exports.proofs.Coding.{encode_whole, length_decoded, encoded_decoded}

-- ---- what can be decoded

pub words_few : (len most : ℕ) → whole_words len most ≡ true → (len % 8 ≡ 0) × (len / 8 ≤ most)
unfolding whole_words
words_few len most q =
    (eqb-true (len % 8) 0 (and_left (eqb (len % 8) 0) (leb (len / 8) most) q), leb-true (len / 8) most (and_right (eqb (len % 8) 0) (leb (len / 8) most) q))

words_many : (len most : ℕ) → len % 8 ≡ 0 → whole_words len most ≡ false → most < len / 8
unfolding whole_words
words_many len most z f = leb-false (len / 8) most (rw (eq-eqb (len % 8) 0 z) at f)

-- ---- the call: w is what was decoded, w' what the call left of it, words' what was encoded

module _ (p : Params) (b : LentBytes) (e : Entry) where
  abbrev R : Returned
  R = inner_of e p (decoded_lent b)

  module _ {w w' st m h : List ℕ} {s : Said} (D : w ≡ decoded b.words)
      (P : outcome s (lend w' st m h) ≡ outcome_of (inner_of e p (lend w b.states b.marks b.heap))) where
    is_said : s ≡ said_of R.reply
    unfolding outcome_of
    is_said = let Q = rw D at P in ap (λ (x : Outcome). x.said) Q

    is_lent : lend w' st m h ≡ R.lent
    unfolding outcome_of
    is_lent = let Q = rw D at P in ap (λ (x : Outcome). x.lent) Q

    pub run_on : {words' answer a : List ℕ} {k : ℕ} → whole_words (length b.words) 10126 ≡ true → length b.answer ≡ 32 → answer ≡ b.answer → length w' ≡ length w
        → words' ≡ overwrite 0 (encoded w') b.words → k ≡ s.number → a ≡ (if tells s.number then answer_bytes s else answer)
        → gives k (lend_bytes words' st m h a) ≡ exported p b (inner_of e)
    unfolding exported shown
    run_on {words'} whole long A same E g f =
        let z : length b.words % 8 ≡ 0 = (words_few (length b.words) 10126 whole).0 in
        let n : length w ≡ length b.words / 8 = ap length D ∙ length_decoded b.words in
        let E' : words' ≡ encoded w' = E ∙ encode_whole w' b.words (omega (arith, z, n, same)) in
        rw (eq-eqb (length b.words % 8) 0 z, eq-eqb (length b.answer) 32 long, E', g, f, A, is_said)
        (λ i. gives R.reply.number (lend_bytes (encoded (is_lent i).words) (is_lent i).states (is_lent i).marks (is_lent i).heap (answer_after R.reply b.answer)))

-- ---- lengths that are off

off_result : (p : Params) (l : Lent) (e : Entry) → fits p l ≡ false → inner_of e p l ≡ bad_setup l
unfolding inner_of set_up call
off_result p l SetUp f = rw f
off_result p l (Call ask) f = rw f

-- no tables have so many words
too_long : (p : Params) (l : Lent) → 10126 < length l.words → fits p l ≡ false
unfolding fits word_count
too_long p l h = go (test (good_params p))
  where
    go : (good_params p ≡ true) ⊎ (good_params p ≡ false)
        → (good_params p && eqb (length l.words) (2958 + 7 * p.blocks) && eqb (length l.states) p.blocks
        && eqb (length l.marks) (heap_bytes p / 64) && eqb (length l.heap) (heap_bytes p)) ≡ false
    go (inl g) =
        let z : eqb (length l.words) (2958 + 7 * p.blocks) ≡ false =
        ne_eqb (length l.words) (2958 + 7 * p.blocks) (λ e. omega (arith, e, h, (good_bounds p g).blocks_high)) in
        rw (g, z)
    go (inr f) = rw f

module _ (p : Params) (b : LentBytes) (e : Entry) {k : ℕ} (K : k ≡ refusal_number BadSetup) where
  pub off_answer : (length b.answer ≡ 32 → ⊥) → gives k b ≡ exported p b (inner_of e)
  unfolding exported
  off_answer ne = rw (K, ne_eqb _ _ ne, and_second (eqb (length b.words % 8) 0) {b = false} refl)

  pub off_words : Bytes b.words → length b.answer ≡ 32 → whole_words (length b.words) 10126 ≡ false → gives k b ≡ exported p b (inner_of e)
  unfolding exported shown refusal_number
  off_words y a f = go (ℕ_discrete (length b.words % 8) 0)
    where
      go : Dec (length b.words % 8 ≡ 0) → gives k b ≡ exported p b (inner_of e)
      go (no ne) = rw (K, ne_eqb _ _ ne)
      go (yes z) =
          let n : 10126 < length (decoded b.words) = rw (length_decoded b.words) (words_many (length b.words) 10126 z f) in
          let r : inner_of e p (decoded_lent b) ≡ bad_setup (decoded_lent b) = off_result p (decoded_lent b) e (too_long p (decoded_lent b) n) in
          rw (K, eq-eqb (length b.words % 8) 0 z, eq-eqb (length b.answer) 32 a, r, encoded_decoded b.words y z)

-- more words than any tables have are BadSetup in the machine too
pub whole_long : (p : Params) (b : LentBytes) (e : Entry) → Bytes b.words → length b.words % 8 ≡ 0 → length b.answer ≡ 32
    → 10126 < length b.words / 8 → gives 1 b ≡ exported p b (inner_of e)
unfolding whole_words refusal_number
whole_long p b e y z a l =
    off_words p b e {k = 1} refl y a (rw (eq-eqb (length b.words % 8) 0 z, lt-leb (length b.words / 8) 10126 l))

-- ---- rows

tabulated_length : {A : Type 0} (f : ℕ → A) (n i : ℕ) → length (tabulated f n i) ≡ n
unfolding tabulated
tabulated_length f zero i = refl
tabulated_length f (suc n) i = ap suc (tabulated_length f n (suc i))

tabulated_at : {A : Type 0} (f : ℕ → A) (d : A) (n i k : ℕ) → k < n → get_or (tabulated f n i) k d ≡ f (i + k)
unfolding tabulated
tabulated_at f d zero i k l = absurd (not-suc-le-zero l)
tabulated_at f d (suc n) i zero l = ap f (omega arith)
tabulated_at f d (suc n) i (suc k) l = tabulated_at f d n (suc i) k (le_of_suc-le-suc l) ∙ ap f (omega arith)

-- 48 rows of which each is the one of its bytes
pub rows_are : (r : List ℕ) (rows : List Row) → length rows ≡ 48 → ((k : ℕ) → k < 48 → get_or rows k no_row ≡ row_from r (row_bytes * k)) → rows ≡ rows_of r
unfolding rows_of
rows_are r rows e g =
    let f : ℕ → Row = λ n. row_from r (row_bytes * n) in
    ext_get_or no_row rows (tabulated f 48 0) (e ∙ sym (tabulated_length f 48 0))
    (λ k l. g k (omega (arith, l, e)) ∙ sym (tabulated_at f no_row 48 0 k (omega (arith, l, e)) ∙ ap f (omega arith)))
