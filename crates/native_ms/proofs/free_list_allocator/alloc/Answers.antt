-- `free_list_allocator::alloc` promises `call`: refused by its first tests, or its step on sound tables. Assumes nothing.
use Rattle.std.proofs.lemmas.Result.{err_from_is_err_and}
use Rattle.model.specs.Answers.{alloc_reply}
use Rattle.native_ms.proofs.Tests.{lent_refused, lent_passed, open_good}
use mathlib.Core.Path.{sym, ◌∙◌}
use Rattle.native_ms.proofs.free_list_allocator.alloc.Goals as goal

pub invariant_of-do_alloc : goal.invariant_of-do_alloc
invariant_of-do_alloc c = record { good = open_good c.args.p _ _ _ _ (sym c.check_lent.ensures ∙ c.in_ok-check_lent.was) }

pub returns-in_err-check_lent : goal.returns-in_err-check_lent
unfolding alloc_reply
returns-in_err-check_lent c = let p = err_from_is_err_and c.from_residual.result c.from_residual.ensures.1 in rw (p.1, p.2) (lent_refused c.args.p _ _ _ _ _ c.check_lent.ensures c.in_err-check_lent.was)

pub returns : goal.returns
returns c = lent_passed c.args.p _ _ _ _ _ c.check_lent.ensures c.in_ok-check_lent.was c.do_alloc.auto.words c.do_alloc.ensures
