use Prim.Native.Nat.{ℕ}
use mathlib.Core.Path.{ap, ◌∙◌}
use native.Mathlib.Omega.{arith}
use lib.Bits.{bit_or}
use lib.Dec.{eqb}
use Rattle.words.proofs.Written.{part_length, part_item}
use Rattle.native_ms.proofs.SoundLent.{words_none, words_step, words_all}
use Rattle.native_ms.proofs.sound.known.union_of.Goals as goal

pub loop-word-init : goal.loop-word-init
loop-word-init c = words_none c.args.words.now c.args.from

pub loop-word-preserved : goal.loop-word-preserved
loop-word-preserved c =
    let a = c.args in
    let i = c.loop-word.word-index in
    let item = part_item a.from a.count a.words.now i (omega (arith, part_length a.from a.count a.words.now c.requires, c.loop-word-test.true)) in
    ap (λ (x : ℕ). eqb (bit_or c.loop-word.union x) 0) item ∙ words_step a.words.now a.from c.loop-word.union i c.loop-word.invariant

pub returns : goal.returns
returns c =
    let a = c.args in
    let e = part_length a.from a.count a.words.now c.requires in
    words_all a.words.now a.from c.loop-word.union c.loop-word.word-index a.count (omega (arith, e, c.loop-word.auto.word-index-end)) (omega (arith, e, c.loop-word-test.false)) c.loop-word.invariant
