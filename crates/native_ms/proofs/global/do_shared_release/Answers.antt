-- `global::do_shared_release` steps as `sound_step` does, refused or not. Assumes nothing.
use Rattle.std.proofs.lemmas.Result.{err_from_is_err_and}
use native.Mathlib.Omega.{arith}
use mathlib.Core.Path.{refl}
use Rattle.model.specs.Answers.{release_reply}
use Rattle.native_ms.proofs.Offsets.{known_on, words_known}
use Rattle.native_ms.proofs.SpaceCalls.{shared_refused, shared_done}
use Rattle.native_ms.proofs.global.do_shared_release.Goals as goal

pub eagerly-swept-requires : goal.eagerly-swept-requires
eagerly-swept-requires c = known_on _ c.requires c.sweep_later-released.auto.w refl

pub part_released-merged-requires : goal.part_released-merged-requires
part_released-merged-requires c = omega (arith, words_known _ c.requires.count, c.sweep_later-released.auto.w, c.eagerly-swept.auto.w)

pub returns-in_err-check_shared_release : goal.returns-in_err-check_shared_release
unfolding release_reply
returns-in_err-check_shared_release c = let p = err_from_is_err_and c.from_residual.result c.from_residual.ensures.1 in rw (p.1, p.2) (shared_refused _ _ _ c.check_shared_release.ensures c.in_err-check_shared_release.was _ _)

pub returns : goal.returns
unfolding release_reply
returns c = shared_done _ _ _ c.check_shared_release.ensures _ _ c.in_ok-check_shared_release.was c.sweep_later-released.ensures c.eagerly-swept.ensures c.part_released-merged.ensures
