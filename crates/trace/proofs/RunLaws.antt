-- What a line gives, and a whole trace. Assumes nothing.
use Rattle.std.specs.Prelude.{if◌then◌else◌, Option, Some, None}
use mathlib.Core.Path.{◌≡◌, refl, sym, ap, ◌∙◌}
use mathlib.Core.Bool.{Bool, true, false, not}
use Rattle.std.specs.Bool.{then_some}
use mathlib.Core.List.{List, [], ◌∷◌, ◌++◌, map, append-nil, append_assoc}
use Rattle.std.proofs.lemmas.List.{map-append}
use Prim.Native.Nat.{ℕ, zero, suc, ◌+◌, ◌≤◌, ◌<◌}
use native.Mathlib.Numerals.{add-one}
use native.Mathlib.Omega.{arith}
use lib.Dec.{eqb}
use lib.ListN.{length, take, length-append}
use Rattle.model.specs.declared.Params.{Params}
use Rattle.model.specs.declared.Refusal.TheVariants.{BadLine}
use Rattle.model.specs.Params.{Lent}
use Rattle.model.specs.declared.Ask.{Ask}
use Rattle.model.specs.declared.Said.{Said}
use Rattle.model.specs.Calls.{Call, refusal_number, call}
use Rattle.model.specs.Answers.{call_of, Outcome, outcome, outcome_of}
use Rattle.model.specs.Census.{line_of, pieces, space, lines_of}
use Rattle.model.specs.Census.{census_params, line_result, RefusedLine, Ran, run_lines}
use Rattle.model.specs.Text.{lines_from}
use Rattle.listing.specs.declared.print.Refused.{Refused}
use Rattle.listing.specs.Print.{refused_line}
use Rattle.trace.specs.Line.{line_for}
use Rattle.trace.specs.Run.{refusal_said, LineRan, TraceRan}

-- ---- one line

-- a call on the space of the census
pub ran_call : {p : Params} {l l' : Lent} {line : Option Ask} {ask : Ask} {s : Said} {refusal : Option ℕ} → p ≡ census_params → line ≡ Some ask
    → outcome s l' ≡ outcome_of (call p l (call_of ask)) → refusal ≡ refusal_said s.number → LineRan l (line_for line) refusal l'
unfolding line_result line_for outcome_of
ran_call e k h f =
    let q = rw e at h in
    rw k (record { number = f ∙ ap (λ (x : Outcome). refusal_said x.said.number) q; lent = ap (λ (x : Outcome). x.lent) q })

pub ran_bad : (l : Lent) {line : Option Ask} {n : ℕ} → line ≡ None → n ≡ refusal_number BadLine → LineRan l (line_for line) (Some n) l
unfolding line_result line_for refusal_said refusal_number
ran_bad l k e = rw k (record { number = ap Some e; lent = refl })

-- the number that a call says, by the library's word
pub refusal_told : {r : Option ℕ} (n : ℕ) → r ≡ then_some (not (eqb n 0)) n → r ≡ refusal_said n
unfolding refusal_said
refusal_told n e = e ∙ go (eqb n 0)
  where
    go : (b : Bool) → then_some (not b) n ≡ (if b then None else Some n)
    go true = refl
    go false = refl

-- ---- the lines that were refused, in order

-- what a line adds to them, as the code keeps it and as the model lists it
unfoldable pub kept : ℕ → Option ℕ → List Refused
kept line None = []
kept line (Some number) = record { line = line; number = number } ∷ []

unfoldable pub refusal_of : ℕ → ℕ → List RefusedLine
refusal_of line number = if eqb number 0 then [] else (record { line = line; number = number } ∷ [])

pub kept_none : {refusal : Option ℕ} (line : ℕ) (xs : List Refused) → refusal ≡ None → xs ≡ xs ++ kept line refusal
unfolding kept
kept_none line xs e = rw e (sym (append-nil xs))

pub kept_one : {refusal : Option ℕ} {number n : ℕ} (line : ℕ) (xs : List Refused) {ys : List Refused} → refusal ≡ Some number → n ≡ line
    → ys ≡ xs ++ (record { line = n + 1; number = number } ∷ []) → ys ≡ xs ++ kept (line + 1) refusal
unfolding kept
kept_one line xs e q h = rw e (rw q at h)

kept_few : (xs : List Refused) (line : ℕ) (refusal : Option ℕ) → length (xs ++ kept line refusal) ≤ length xs + 1
unfolding kept
kept_few xs line None = simp length-append (omega arith)
kept_few xs line (Some number) = simp length-append (omega arith)

kept_refused : (xs : List Refused) (line number : ℕ)
    → map refused_line (xs ++ kept line (refusal_said number)) ≡ map refused_line xs ++ refusal_of line number
unfolding kept refusal_said refusal_of
kept_refused xs line number =
    map-append refused_line xs (kept line (refusal_said number)) ∙ ap (λ (ys : List RefusedLine). map refused_line xs ++ ys) (go (eqb number 0))
  where
    go : (b : Bool) → map refused_line (kept line (if b then None else Some number)) ≡ (if b then [] else (record { line = line; number = number } ∷ []))
    go true = refl
    go false = refl

-- ---- lines, one after the other

pub run_none : (i : ℕ) (l : Lent) → ((run_lines i [] l).refusals ≡ []) × ((run_lines i [] l).lent ≡ l)
unfolding run_lines
run_none i l = (refl, refl)

module _ (i : ℕ) (x : List ℕ) (xs : List (List ℕ)) {l l' : Lent} {refusal : Option ℕ} (h : LineRan l (line_of (pieces space x)) refusal l') where
  run_lent : (run_lines i (x ∷ xs) l).lent ≡ (run_lines (i + 1) xs l').lent
  unfolding run_lines
  run_lent = rw h.lent

  run_refused : (run_lines i (x ∷ xs) l).refusals
      ≡ refusal_of i (line_result l (line_of (pieces space x))).reply.number ++ (run_lines (i + 1) xs l').refusals
  unfolding run_lines refusal_of
  run_refused = rw h.lent (go (eqb (line_result l (line_of (pieces space x))).reply.number 0) _ _)
    where
      go : (b : Bool) (y : RefusedLine) (ys : List RefusedLine)
          → (if b then ys else (y ∷ ys)) ≡ (if b then [] else (y ∷ [])) ++ ys
      go true y ys = refl
      go false y ys = refl

-- ---- a loop over lines

abbrev read_ran : List ℕ → Lent → Ran
read_ran s l = run_lines 1 (take 256 (lines_from s 0)) l

-- n lines are passed, k more may be, and these of them were refused: with what the lines of the rest give, the whole
pub record Running (s : List ℕ) (before : Lent) (n k : ℕ) (rest : List ℕ) (l : Lent) (rs : List Refused) : Type 0 where
  pub limit : n + k ≡ 256
  pub counted : length rs ≤ n
  pub refusals : map refused_line rs ++ (run_lines (n + 1) (take k (lines_from rest 0)) l).refusals ≡ (read_ran s before).refusals
  pub lent : (run_lines (n + 1) (take k (lines_from rest 0)) l).lent ≡ (read_ran s before).lent

module _ {s : List ℕ} {before : Lent} {n k : ℕ} {rest : List ℕ} {l : Lent} {rs : List Refused} (i : Running s before n k rest l rs) where
  pub running_round : {refusal : Option ℕ} {line : Option Call} {l' : Lent} {x rest' : List ℕ} {n' k' : ℕ} {rs' : List Refused}
      → n' ≡ n + 1 → k' + 1 ≡ k → lines_from rest 0 ≡ x ∷ lines_from rest' 0 → line ≡ line_of (pieces space x) → LineRan l line refusal l'
      → rs' ≡ rs ++ kept (n + 1) refusal → Running s before n' k' rest' l' rs'
  running_round {refusal} {x = x} {rest'} {k' = k'} c d e q h keep =
      let t : List (List ℕ) = take k' (lines_from rest' 0) in
      let left : take k (lines_from rest 0) ≡ x ∷ t = rw (← d, add-one k', e) in
      let ran : LineRan l (line_of (pieces space x)) refusal _ = rw q at h in
      rw (c, keep)
      (record {
        limit = omega (arith, i.limit, d);
        counted = omega (arith, kept_few rs (n + 1) refusal, i.counted);
        refusals = rw (ran.number, kept_refused rs (n + 1), append_assoc, ← (run_refused (n + 1) x t ran), ← left) i.refusals;
        lent = rw (← (run_lent (n + 1) x t ran), ← left) i.lent;
      })

  pub running_over : (0 < k → lines_from rest 0 ≡ []) → TraceRan (read_ran s before) rs l
  running_over f =
      let e : take k (lines_from rest 0) ≡ [] = go k f in
      record {
        few = omega (arith, i.limit, i.counted);
        refusals = sym (append-nil _) ∙ (rw (e, (run_none (n + 1) l).0) at i.refusals);
        lent = rw (e, (run_none (n + 1) l).1) at i.lent;
      }
    where
      go : (k : ℕ) → (0 < k → lines_from rest 0 ≡ []) → take k (lines_from rest 0) ≡ []
      go zero f = refl
      go (suc k) f = rw (f (omega arith))

-- what was read of a trace has all of its lines
pub ran_whole : (bytes : List ℕ) (l : Lent) {s : List ℕ} {l' : Lent} {rs : List Refused} → s ≡ take 16384 bytes
    → TraceRan (read_ran s l) rs l' → TraceRan (run_lines 1 (lines_of bytes) l) rs l'
unfolding lines_of lines_from
ran_whole bytes l e h = rw e at h
