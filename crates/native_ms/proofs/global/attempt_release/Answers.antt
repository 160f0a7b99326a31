-- `global::attempt_release` is `attempt_release`. Assumes nothing.
use Rattle.native_ms.proofs.Releases.{attempt_no, attempt_yes}
use Rattle.native_ms.proofs.global.attempt_release.Goals as goal

pub returns-then-state : goal.returns-then-state
returns-then-state c = attempt_no _ _ _ _ _ c.state-state.ensures c.if-state.true

pub returns : goal.returns
returns c = attempt_yes _ _ _ _ _ c.state-state.ensures c.if-state.false c.remove.ensures c.clear_block.ensures.words c.clear_block.ensures.states
