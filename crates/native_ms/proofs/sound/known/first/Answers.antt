-- `known::first` reads its part of the words.
use Rattle.native_ms.proofs.SoundLent.{first_word}
use Rattle.native_ms.proofs.sound.known.first.Goals as goal

pub returns : goal.returns
returns c = first_word c.args.words.now c.args.list c.requires.1
