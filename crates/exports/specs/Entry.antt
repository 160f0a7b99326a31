-- What an entry makes of what is lent, and the entry as C tells it, for the contracts of `Entry` and of the inner functions. The exports' own
-- promises are in model/specs/Exports.antt.
use Rattle.std.specs.Prelude.{Option, None, Some}
use Rattle.model.specs.declared.Params.{Params}
use Rattle.model.specs.declared.Block.{Block}
use Rattle.model.specs.declared.Ask.TheVariants.{Alloc}
use Rattle.model.specs.Params.{Lent}
use Rattle.model.specs.Calls.{Returned, call, set_up}
use Rattle.model.specs.Answers.{call_of}
use Rattle.model.specs.Exports.{offered_by}
use Rattle.exports.specs.declared.Entry.{Entry}
use Rattle.exports.specs.declared.Entry.TheVariants.{SetUp, Call}

unfoldable pub inner_of : Entry → Params → Lent → Returned
inner_of SetUp p l = set_up p l
inner_of (Call ask) p l = call p l (call_of ask)

-- an offer by its number: "2^64 − 1 offers none." (02, R-2)
unfoldable pub told_offer : Option Block → Option Block
told_offer None = None
told_offer (Some b) = offered_by b.0

unfoldable pub told : Entry → Entry
told (Call (Alloc holder r)) = Call (Alloc holder (record r { offer = told_offer r.offer }))
told other = other
