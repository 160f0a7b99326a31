use mathlib.Core.Path.{◌∙◌}
use Prim.Native.Nat.{◌-◌}
use lib.ListN.{get_or}
use native.Mathlib.Omega.{arith}
use Rattle.native_ms.proofs.SoundLent.{set_skip, set_up_lem, passes_none}
use Rattle.native_ms.proofs.sound.lists.Lists.passes.Goals as goal

pub loop-set-preserved : goal.loop-set-preserved
loop-set-preserved c =
    set_skip _ c.args.self.now.lent.now.words.now _ _ _ (get_or c.args.self.now.firsts (c.loop-set.set - 1) 0) c.union_of-last.result (omega arith)
    (c.args.self.now.sets.set (c.loop-set.set - 1) (omega arith)) c.union_of-last.ensures c.if-first-last-ne0.false
    ∙ set_up_lem _ _ _ _ _ c.loop-set-test.true ∙ c.loop-set.invariant

pub returns : goal.returns
returns c = passes_none _ _ _ _ _ c.loop-set-test.false ∙ c.loop-set.invariant
