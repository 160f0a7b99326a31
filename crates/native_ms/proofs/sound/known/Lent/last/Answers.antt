-- `Lent::last` reads its part of the words.
use Rattle.model.specs.Params.{lists}
use Rattle.model.specs.Tables.{view}
use Rattle.laws.proofs.Tables.{get_d_part}
use mathlib.Core.Path.{sym}
use Rattle.native_ms.proofs.sound.known.Lent.last.Goals as goal

pub returns : goal.returns
unfolding view
returns c = sym (get_d_part lists lists c.args.list.at c.args.self.now.words.now c.args.list.low)
