-- `known::block_word` reads its block table, which is there whole.
use Rattle.native_ms.proofs.SoundLent.{few_tables, table_word}
use native.Mathlib.Omega.{arith}
use Rattle.native_ms.proofs.sound.known.block_word.Goals as goal

pub overflow_mul-result : goal.overflow_mul-result
overflow_mul-result c = record { fits = omega (arith, few_tables c.number.result c.args.blocks c.number.ensures.1, c.requires.0, c.requires.1) }

pub overflow_add-result : goal.overflow_add-result
overflow_add-result c = record { fits = omega (arith, few_tables c.number.result c.args.blocks c.number.ensures.1, c.requires.0, c.requires.1) }

pub overflow_add-result-2 : goal.overflow_add-result-2
overflow_add-result-2 c = record { fits = omega (arith, few_tables c.number.result c.args.blocks c.number.ensures.1, c.requires.0, c.requires.1) }

pub offset_bounds-words-number : goal.offset_bounds-words-number
offset_bounds-words-number c = record { fits = omega (arith, few_tables c.number.result c.args.blocks c.number.ensures.1, c.requires.0, c.requires.1) }

pub bounds-words-number : goal.bounds-words-number
bounds-words-number c = omega (arith, few_tables c.number.result c.args.blocks c.number.ensures.1, c.requires.0, c.requires.1)

pub returns : goal.returns
returns c = rw (← c.number.ensures.0) (table_word c.args.words.now c.args.blocks c.number.result c.args.b.0 c.requires.0 c.requires.1)
