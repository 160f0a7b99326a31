-- Rows of `run` are a run of the machine, as the model states it (`RunOfRows`): the calls of a row are turns, the first of them after what
-- was written. Assumes nothing.
use Rattle.std.specs.Prelude.{Option, Some, None}
use mathlib.Core.Path.{◌≡◌, refl, sym, ap, ◌∙◌}
use mathlib.Core.Logic.{inl, inr}
use mathlib.Core.Bool.{true}
use mathlib.Core.List.{List, [], ◌∷◌, ◌++◌, append_assoc}
use Prim.Native.Nat.{ℕ, zero, suc, ◌+◌, ◌-◌}
use lib.ListN.{set}
use Rattle.model.specs.declared.Params.{Params}
use Rattle.model.specs.declared.Refusal.TheVariants.{BadLine}
use Rattle.model.specs.Base.{In}
use Rattle.model.specs.Params.{Lent}
use Rattle.model.specs.Calls.{refused, Call, Returned}
use Rattle.model.specs.Runs.{Write, written, Turn, State, found_by, result_of, turned, seen_in}
use Rattle.model.specs.RunCalls.{call_at, made, words_of, RowRan, run_from, call_count, lists_fit, RunResult, run_calls, RunRow, wrote, row_ran, rows_ran, calls_from, calls_in, Turns, turns_from, turns_of_rows, answers_in, calls_of_rows, RowsFit, RunOfRows}
use Rattle.model.specs.Spans.{after_turns}

abbrev ran : List ℕ → Lent → RowRan
ran answers l = record { answers = answers; lent = l }

-- ---- what is written in two parts

written_two : (p : Params) (vs ws : List Write) (h : List ℕ) → written p ws (written p vs h) ≡ written p (vs ++ ws) h
unfolding written
written_two p [] ws h = refl
written_two p (v ∷ vs) ws h = written_two p vs ws (set h (v.address - p.base) v.byte)

module _ (p : Params) where
  wrote_two : (vs ws : List Write) (l : Lent) → wrote p ws (wrote p vs l) ≡ wrote p (vs ++ ws) l
  unfolding wrote
  wrote_two vs ws l =
      ap (λ (h : List ℕ). record { words = l.words; states = l.states; marks = l.marks; heap = h }) (written_two p vs ws l.heap)

  -- ---- turns one behind the other

  stands_two : (us vs : List Turn) (s : State) → after_turns p s (us ++ vs) ≡ after_turns p (after_turns p s us) vs
  unfolding after_turns
  stands_two [] vs s = refl
  stands_two (u ∷ us) vs s = stands_two us vs (turned p s u)

  -- ---- the calls of a row, as they are named

  unfoldable named_ran : Lent → List (Option Call) → RowRan
  named_ran l [] = ran [] l
  named_ran l (c ∷ cs) =
      let r : Returned = made p l c in
      let rest : RowRan = named_ran r.lent cs in
      ran (words_of r.reply ++ rest.answers) rest.lent

  run_named : (calls : List ℕ) (n : ℕ) (l : Lent) (i : ℕ) → run_from n p l calls i ≡ named_ran l (calls_from n calls i)
  unfolding run_from calls_from named_ran
  run_named calls zero l i = refl
  run_named calls (suc n) l i =
      let r : Returned = made p l (call_at calls i) in
      ap (λ (rest : RowRan). ran (words_of r.reply ++ rest.answers) rest.lent) (run_named calls n r.lent (i + 6))

  -- the buffers after them
  named_lent : (cs : List (Option Call)) (ws : List Write) (s : State)
      → (named_ran (wrote p ws s.lent) cs).lent ≡ wrote p (turns_from ws cs).left (after_turns p s (turns_from ws cs).turns).lent
  unfolding named_ran turns_from after_turns made wrote written turned result_of found_by
  named_lent [] ws s = refl
  named_lent (None ∷ cs) ws s = named_lent cs ws s
  named_lent (Some c ∷ cs) ws s = named_lent cs [] (turned p s (record { writes = ws; call = c }))

  -- their answers, before those of more
  named_answers : (cs ds : List (Option Call)) (vs : List Turn) (ws : List Write) (s : State)
      → answers_in (cs ++ ds) (seen_in p s ((turns_from ws cs).turns ++ vs))
      ≡ (named_ran (wrote p ws s.lent) cs).answers ++ answers_in ds (seen_in p (after_turns p s (turns_from ws cs).turns) vs)
  unfolding named_ran turns_from after_turns made wrote written turned result_of found_by answers_in seen_in
  named_answers [] ds vs ws s = refl
  named_answers (None ∷ cs) ds vs ws s =
      ap (λ (xs : List ℕ). words_of (refused BadLine) ++ xs) (named_answers cs ds vs ws s)
      ∙ sym (append_assoc (words_of (refused BadLine)) (named_ran (wrote p ws s.lent) cs).answers (answers_in ds (seen_in p (after_turns p s (turns_from ws cs).turns) vs)))
  named_answers (Some c ∷ cs) ds vs ws s =
      let u : Turn = record { writes = ws; call = c } in
      ap (λ (xs : List ℕ). words_of (result_of p s u).reply ++ xs) (named_answers cs ds vs [] (turned p s u))
      ∙ sym (append_assoc (words_of (result_of p s u).reply) (named_ran (wrote p [] (turned p s u).lent) cs).answers
      (answers_in ds (seen_in p (after_turns p (turned p s u) (turns_from [] cs).turns) vs)))

  -- ---- rows

  row_is : (ws : List Write) (l : Lent) (row : RunRow) → lists_fit row.calls row.answers ≡ true
      → ran (row_ran p (wrote p ws l) row).answers (row_ran p (wrote p ws l) row).lent ≡ named_ran (wrote p (ws ++ row.writes) l) (calls_in row)
  unfolding row_ran run_calls
  row_is ws l row f =
      rw (f, wrote_two ws row.writes l) (run_named row.calls (call_count row.calls) (wrote p (ws ++ row.writes) l) 0)

  abbrev RowsAre : List RunRow → List Write → State → Type 0
  RowsAre rows ws s =
      ((rows_ran p (wrote p ws s.lent) rows).answers ≡ answers_in (calls_of_rows rows) (seen_in p s (turns_of_rows ws rows).turns))
      × ((rows_ran p (wrote p ws s.lent) rows).lent ≡ wrote p (turns_of_rows ws rows).left (after_turns p s (turns_of_rows ws rows).turns).lent)

  rows_are : (rows : List RunRow) (ws : List Write) (s : State) → RowsFit rows → RowsAre rows ws s
  unfolding rows_ran turns_of_rows calls_of_rows after_turns answers_in In
  rows_are [] ws s f = (refl, refl)
  rows_are (row ∷ rows) ws s f =
      let T : Turns = turns_from (ws ++ row.writes) (calls_in row) in
      let s' : State = after_turns p s T.turns in
      let r : RunResult = row_ran p (wrote p ws s.lent) row in
      let q : ran r.answers r.lent ≡ named_ran (wrote p (ws ++ row.writes) s.lent) (calls_in row) = row_is ws s.lent row (f row (inl refl)) in
      let a : r.answers ≡ (named_ran (wrote p (ws ++ row.writes) s.lent) (calls_in row)).answers = ap (λ (x : RowRan). x.answers) q in
      let l : r.lent ≡ wrote p T.left s'.lent = ap (λ (x : RowRan). x.lent) q ∙ named_lent (calls_in row) (ws ++ row.writes) s in
      let rest : RowsAre rows T.left s' = rows_are rows T.left s' (λ x i. f x (inr i)) in
      let more : Turns = turns_of_rows T.left rows in (
        ap (λ (x : Lent). r.answers ++ (rows_ran p x rows).answers) l ∙ ap (λ (xs : List ℕ). r.answers ++ xs) rest.0
            ∙ ap (λ (xs : List ℕ). xs ++ answers_in (calls_of_rows rows) (seen_in p s' more.turns)) a
            ∙ sym (named_answers (calls_in row) (calls_of_rows rows) more.turns (ws ++ row.writes) s),
        ap (λ (x : Lent). (rows_ran p x rows).lent) l ∙ rest.1
            ∙ ap (λ (x : State). wrote p more.left x.lent) (sym (stands_two T.turns more.turns s)),
      )

pub run_of_rows : RunOfRows
unfolding RunOfRows wrote written
run_of_rows p s rows f = rows_are p rows [] s f
