-- `sound::sound` meets its contract: the code's soundness is the model's, for any marks.
use mathlib.Core.Path.{refl, ◌∙◌}
use Rattle.laws.proofs.Below.{and_first, and_second, and_both}
use Rattle.native_ms.proofs.SoundLaws.{sound_walk_lem}
use Rattle.native_ms.proofs.SoundTests.{parts_both, walk_parts, walk_blocks, walk_lists}
use Rattle.native_ms.proofs.sound.sound.Goals as goal

pub returns-then-not-marks_fit : goal.returns-then-not-marks_fit
returns-then-not-marks_fit c = λ m. walk_parts _ _ _ (parts_both _ c.marks_fit.ensures refl) (and_first _ c.if-not-marks_fit.true) ∙ sound_walk_lem c.args.lent.now.space.now.p c.args.lent.now.space.now.good _ _ m

pub returns-then-not-lists_fit : goal.returns-then-not-lists_fit
returns-then-not-lists_fit c = λ m. walk_parts _ _ _ (parts_both _ c.marks_fit.ensures (rw c.new-lists.ensures at c.lists_fit.ensures)) (and_second _ c.if-not-lists_fit.true) ∙ sound_walk_lem c.args.lent.now.space.now.p c.args.lent.now.space.now.good _ _ m

pub returns-in_default : goal.returns-in_default
returns-in_default c = λ m. walk_blocks _ _ _ (parts_both _ c.marks_fit.ensures (rw c.new-lists.ensures at c.lists_fit.ensures)) (and_both c.if-not-marks_fit.false c.if-not-lists_fit.false) c.unused.ensures c.in_default.is ∙ sound_walk_lem c.args.lent.now.space.now.p c.args.lent.now.space.now.good _ _ m

pub returns : goal.returns
returns c = λ m. walk_lists _ _ _ (parts_both _ c.marks_fit.ensures (rw c.new-lists.ensures at c.lists_fit.ensures)) (and_both c.if-not-marks_fit.false c.if-not-lists_fit.false) c.unused.ensures c.in-Some.is (rw c.new-lists.ensures at c.passes.ensures) c.eq.ensures ∙ sound_walk_lem c.args.lent.now.space.now.p c.args.lent.now.space.now.good _ _ m
