-- Laws of the export of `run`: one for each way out. Leans on decoding. Assumes nothing.
use Rattle.std.specs.Prelude.{Result, ⊤}
use mathlib.Core.Path.{◌≡◌, ap, ◌∙◌}
use mathlib.Core.Bool.{true, false}
use mathlib.Core.List.{List}
use Prim.Native.Nat.{ℕ, ◌/◌}
use native.Mathlib.Omega.{arith}
use lib.ListN.{length}
use Rattle.model.specs.declared.Params.{Params}
use Rattle.model.specs.declared.Refusal.{Refusal}
use Rattle.model.specs.declared.Refusal.TheVariants.{BadSetup}
use Rattle.model.specs.Memory.{overwrite}
use Rattle.model.specs.Calls.{refusal_number}
use Rattle.model.specs.Answers.{reply_of}
use Rattle.model.specs.Promise.{lend}
use Rattle.model.specs.Exports.{decoded, encoded, LentBytes, lend_bytes, decoded_lent, gives}
use Rattle.model.specs.RunCalls.{run_result, run_calls, whole_words, run_lengths_ok, run_shown, run_exported}
use Rattle.exports.proofs.Coding.{encode_whole, length_decoded}
use Rattle.exports.proofs.Export.{words_few}

module _ (p : Params) (b : LentBytes) (calls : List ℕ) where
  module _ {k : ℕ} (K : k ≡ refusal_number BadSetup) where
    pub off_words : whole_words (length b.words) 10126 ≡ false → gives k b ≡ run_exported p b calls
    unfolding run_exported run_lengths_ok
    off_words f = rw (K, f)

    pub off_answer : whole_words (length b.words) 10126 ≡ true → whole_words (length b.answer) 5120 ≡ false → gives k b ≡ run_exported p b calls
    unfolding run_exported run_lengths_ok
    off_answer t f = rw (K, t, f)

    pub off_calls : whole_words (length b.words) 10126 ≡ true → whole_words (length b.answer) 5120 ≡ true → whole_words (length calls) 6144 ≡ false
        → gives k b ≡ run_exported p b calls
    unfolding run_exported run_lengths_ok
    off_calls t u f = rw (K, t, u, f)

  -- bytes that were decoded, and the words of the same length that are encoded over them
  coded : (most : ℕ) (bytes w' : List ℕ) {w bytes' : List ℕ} → whole_words (length bytes) most ≡ true → w ≡ decoded bytes → length w' ≡ length w
      → bytes' ≡ overwrite 0 (encoded w') bytes → bytes' ≡ encoded w'
  coded most bytes w' {w} t D n E =
      let z = words_few (length bytes) most t in
      let m : length w ≡ length bytes / 8 = ap length D ∙ length_decoded bytes in
      E ∙ encode_whole w' bytes (omega (arith, z.0, n, m))

  -- w, a and c are what was decoded, w' and a' what the row left of them, words' and answer' what was encoded
  pub on_row : {w c a w' a' st ms h words' answer' : List ℕ} (done : Result ⊤ Refusal) {number : ℕ}
      → whole_words (length b.words) 10126 ≡ true → whole_words (length b.answer) 5120 ≡ true → whole_words (length calls) 6144 ≡ true
      → w ≡ decoded b.words → a ≡ decoded b.answer → c ≡ decoded calls
      → run_result (reply_of done) a' (lend w' st ms h) ≡ run_calls p (lend w b.states b.marks b.heap) c a
      → length w' ≡ length w → length a' ≡ length a
      → words' ≡ overwrite 0 (encoded w') b.words → answer' ≡ overwrite 0 (encoded a') b.answer → number ≡ (reply_of done).number
      → gives number (lend_bytes words' st ms h answer') ≡ run_exported p b calls
  unfolding run_exported run_lengths_ok run_shown
  on_row {w' = w'} {a' = a'} done t u v W A C P n m E F N =
      let is_run : run_result (reply_of done) _ (lend _ _ _ _) ≡ run_calls p (decoded_lent b) (decoded calls) (decoded b.answer) = rw (W, C, A) at P in
      rw (t, u, v, coded 10126 b.words w' t W n E, coded 5120 b.answer a' u A m F, N) (ap run_shown is_run)
