-- `global::is_last`: this part counts as one that has.
use Rattle.std.proofs.Common.{rules}
use Rattle.model.specs.Tables.{view}
use Rattle.native_ms.specs.Eager.{after_part}
use Rattle.native_ms.proofs.EagerLaws.{last_is_lem, same_bound}
use Rattle.native_ms.proofs.global.is_last.Goals as goal

pub returns : goal.returns
returns c = last_is_lem _ _ (c.none_due.ensures (after_part c.args.part.number (view c.args.w.now)) (same_bound _ _) (λ part told post. search rules))
