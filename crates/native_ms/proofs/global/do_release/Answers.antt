-- `global::do_release` steps as `sound_step` does, refused or not. Assumes nothing.
use Rattle.std.proofs.lemmas.Result.{err_from_is_err_and}
use native.Mathlib.Omega.{arith}
use mathlib.Core.Path.{refl}
use Rattle.model.specs.Answers.{release_reply}
use Rattle.native_ms.proofs.Offsets.{known_on, words_known}
use Rattle.native_ms.proofs.SpaceCalls.{release_bound, release_refused, release_done}
use Rattle.native_ms.proofs.global.do_release.Goals as goal

pub invariant_of-holder : goal.invariant_of-holder
invariant_of-holder c = let b = release_bound _ _ c.check_release.ensures c.in_ok-check_release.was in record { from = b.0; to = b.1 }

pub eagerly-swept-requires : goal.eagerly-swept-requires
eagerly-swept-requires c = known_on _ c.requires c.release_holder-count.auto.w refl

pub part_released-merged-requires : goal.part_released-merged-requires
part_released-merged-requires c = omega (arith, words_known _ c.requires.count, c.release_holder-count.auto.w, c.eagerly-swept.auto.w)

pub returns-in_err-check_release : goal.returns-in_err-check_release
unfolding release_reply
returns-in_err-check_release c = let p = err_from_is_err_and c.from_residual.result c.from_residual.ensures.1 in rw (p.1, p.2) (release_refused _ _ _ _ c.check_release.ensures c.in_err-check_release.was _ _)

pub returns : goal.returns
unfolding release_reply
returns c = release_done _ _ _ _ c.check_release.ensures _ _ c.in_ok-check_release.was c.release_holder-count.ensures (rw c.part-part.ensures at c.eagerly-swept.ensures) (rw c.part-part.ensures at c.part_released-merged.ensures)
