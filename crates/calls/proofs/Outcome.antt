-- A promise of the library, and what is said of its answer, as one outcome. Assumes nothing.
use mathlib.Core.Path.{◌≡◌, ap, sym, ◌∙◌}
use Rattle.model.specs.declared.Params.{Params}
use Rattle.model.specs.declared.Said.{Said}
use Rattle.model.specs.declared.Ask.{Ask}
use Rattle.model.specs.Params.{Lent}
use Rattle.model.specs.Calls.{Reply, Returned, call, set_up}
use Rattle.model.specs.Answers.{call_of, said_of, outcome, outcome_of}
use Rattle.model.specs.Promise.{Promised, SetUpPromised}

same : {r : Said} {y : Reply} {l' : Lent} (x : Returned) → r ≡ said_of y → y ≡ x.reply → l' ≡ x.lent → outcome r l' ≡ outcome_of x
unfolding outcome_of
same x f e g = λ i. outcome ((f ∙ ap said_of e) i) (g i)

module _ {p : Params} {l l' : Lent} {r : Said} {y : Reply} where
  pub of_set_up : SetUpPromised p l y l' → r ≡ said_of y → outcome r l' ≡ outcome_of (set_up p l)
  of_set_up h f = same (set_up p l) f h.reply h.lent

  -- the call that the code found
  pub of_call : {ask x : Ask} → ask ≡ x → Promised p l (call_of x) y l' → r ≡ said_of y
      → outcome r l' ≡ outcome_of (call p l (call_of ask))
  of_call {ask} {x} e h f =
      same (call p l (call_of x)) f h.reply h.lent ∙ ap (λ (a : Ask). outcome_of (call p l (call_of a))) (sym e)
