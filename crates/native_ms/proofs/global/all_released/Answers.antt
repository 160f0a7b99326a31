-- `global::all_released`: the marks in the words say which parts have released.
use Rattle.std.proofs.Common.{rules}
use mathlib.Core.Path.{refl}
use Rattle.model.specs.Tables.{view}
use Rattle.native_ms.proofs.global.all_released.Goals as goal

pub returns : goal.returns
returns c = c.none_due.ensures (view c.args.w.now) refl (λ part told post. search rules)
