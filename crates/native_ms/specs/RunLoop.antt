-- `run` as its loops make it: what an entry of its list asks, and answers laid one behind the other.
use Rattle.std.specs.Prelude.{◌≡◌, ℕ, zero, suc, ◌+◌, List, [], ◌++◌, Option, Some, None, option_map, Result, Ok, Err, MatchResult}
use Rattle.model.specs.declared.Params.{Params}
use Rattle.model.specs.declared.Refusal.{Refusal}
use Rattle.model.specs.declared.Refusal.TheVariants.{BadLine}
use Rattle.model.specs.Params.{Lent}
use Rattle.native_ms.specs.Checked.{lent_tests}
use Rattle.model.specs.Memory.{overwrite}
use Rattle.model.specs.Calls.{Reply, refused, Call}
use Rattle.model.specs.Answers.{call_of}
use Rattle.model.specs.RunCalls.{call_words, call_at, words_of, RowRan}
use Rattle.model.specs.declared.Ask.{Ask}

-- the call that an entry asks for
unfoldable pub entry_call : Option Ask → Option Call
entry_call = option_map call_of

-- what the first tests say of what is lent: it passes, and here is something that has these parameters, or their refusal
abbrev pub Tested : {A : Type 0} → Result A Refusal → (A → Params) → Params → Lent → Type 0
Tested tested of p l = MatchResult tested (λ passed. (of passed ≡ p) × (lent_tests p l ≡ Ok tt)) (λ refusal. lent_tests p l ≡ Err refusal)

abbrev pub ran : List ℕ → Lent → RowRan
ran answers l = record { answers = answers; lent = l }

-- the answers of calls, laid over a list from the word i on
unfoldable pub laid : ℕ → List ℕ → RowRan → RowRan
laid i answers r = ran (overwrite i r.answers answers) r.lent

-- ---- where the first tests refuse: that refusal from each call, and 11 where none is named

unfoldable pub refused_reply : Refusal → Option Call → Reply
refused_reply x = elim [ Some c ↦ refused x | None ↦ refused BadLine ]

-- n answers, from the word i of the calls on
unfoldable pub refused_from : ℕ → Refusal → List ℕ → ℕ → List ℕ
refused_from zero x calls i = []
refused_from (suc n) x calls i = words_of (refused_reply x (call_at calls i)) ++ refused_from n x calls (i + call_words)
