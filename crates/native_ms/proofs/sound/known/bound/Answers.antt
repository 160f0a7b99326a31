-- `known::bound` reads its part of the words.
use Rattle.native_ms.proofs.SoundLent.{bound_word}
use Rattle.native_ms.proofs.sound.known.bound.Goals as goal

pub returns : goal.returns
returns c = bound_word c.args.words.now c.args.holder c.requires.1 c.requires.2
