use Rattle.std.proofs.Common.{sym}
use Rattle.std.proofs.lemmas.Grind.{get_or_default_zero}
use Rattle.std.proofs.lemmas.List.Edits.{map_over_more}
use native.Mathlib.Omega.{arith}
use Rattle.model.specs.Global.{unmarked_state}
use Rattle.native_ms.proofs.global.unmark_blocks.Goals as goal

pub loop-state-preserved : goal.loop-state-preserved
loop-state-preserved c =
    rw c.unmarked_state.ensures
    (map_over_more unmarked_state c.args.st.now c.loop-state.st c.loop-state.state-index _ c.loop-state-test.true c.loop-state.invariant
    (sym (get_or_default_zero c.loop-state.st c.loop-state.state-index _ (omega (arith, c.loop-state-test.true, c.loop-state.auto.st)))))
