-- `lists::log_of` meets its contract: the low zeros of a power of two.
use Rattle.laws.proofs.Good.{good}
use Rattle.native_ms.proofs.SoundLent.{power_log}
use Rattle.native_ms.proofs.sound.lists.log_of.Goals as goal

pub returns : goal.returns
returns c = power_log _ (good c.args.space.now.p c.args.space.now.good).bytes_power
