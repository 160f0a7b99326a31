-- `free_counts::free_cells` promises `ask`: refused by what every call tests first, or by its bin, else the sum. Assumes nothing.
use Rattle.std.proofs.lemmas.Result.{err_from_is_err_and}
use Rattle.model.specs.Answers.{count_reply}
use Rattle.native_ms.proofs.FreeCountLaws.{ask_refused, ask_lengths, ask_few, ask_low, ask_high, ask_answers}
use Rattle.native_ms.proofs.free_counts.free_cells.Goals as goal
use Rattle.native_ms.proofs.free_counts.free_cells.Goals.{then-bin-lt1-via-then-bin-lt1, then-bin-lt1-via-else-bin-lt1+then-bin-ge-BINS}

pub returns-then-bin-lt1 : goal.returns-then-bin-lt1
unfolding count_reply
returns-then-bin-lt1 c =
    elim c.then-bin-lt1.branch [
      | then-bin-lt1-via-then-bin-lt1 w ↦ ask_low c.args.p _ _ _ _ _ c.check_lent.ensures c.in_ok-check_lent.was w.if-bin-lt1.true
      | then-bin-lt1-via-else-bin-lt1+then-bin-ge-BINS w ↦ ask_high c.args.p _ _ _ _ _ c.check_lent.ensures c.in_ok-check_lent.was w.if-bin-lt1.false w.if-bin-ge-BINS.true
    ]

pub invariant_of-space : goal.invariant_of-space
invariant_of-space c = record { good = (ask_lengths c.args.p _ _ _ _ c.args.bin c.check_lent.ensures c.in_ok-check_lent.was).good }

pub invariant_of-lent : goal.invariant_of-lent
invariant_of-lent c = record { lengths = ask_lengths c.args.p _ _ _ _ c.args.bin c.check_lent.ensures c.in_ok-check_lent.was }

pub cells_of-requires : goal.cells_of-requires
cells_of-requires c = ask_few c.args.p _ _ _ _ c.args.bin c.check_lent.ensures c.in_ok-check_lent.was

pub returns-in_err-check_lent : goal.returns-in_err-check_lent
unfolding count_reply
returns-in_err-check_lent c = let p = err_from_is_err_and c.from_residual.result c.from_residual.ensures.1 in rw (p.1, p.2) (ask_refused c.args.p _ _ _ _ _ c.check_lent.ensures c.in_err-check_lent.was)

pub returns : goal.returns
unfolding count_reply
returns c = ask_answers c.args.p _ _ _ _ _ c.check_lent.ensures c.in_ok-check_lent.was c.if-bin-lt1.false c.if-bin-ge-BINS.false c.cells_of.ensures
