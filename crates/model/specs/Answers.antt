-- "If the answer is an enum, a definition gives this paper's number and values for each of its cases. The promises use that
-- definition."
use Rattle.std.specs.Prelude.{ℕ, Bool, [], ◌∷◌, get_or, Result, Ok, Err, ⊤}
use Rattle.model.specs.declared.Ask.{Ask}
use Rattle.model.specs.declared.Ask.TheVariants as Asks
use Rattle.model.specs.declared.Said.{Said}
use Rattle.model.specs.declared.Refusal.{Refusal}
use Rattle.model.specs.declared.Served.{Served}
use Rattle.model.specs.declared.Unserved.{Unserved}
use Rattle.model.specs.declared.Released.{Released}
use Rattle.model.specs.declared.Verdict.{Verdict}
use Rattle.model.specs.Base.{flag}
use Rattle.model.specs.Params.{Lent}
use Rattle.model.specs.Calls.{Reply, answered, refused, exhausted, Call, bind, destroy, alloc, prepare, mark, release, shared_release, Returned}

-- set-up, bind, prepare
unfoldable pub reply_of : Result ⊤ Refusal → Reply
reply_of = elim [ Ok done ↦ answered [] | Err refusal ↦ refused refusal ]

-- alloc: address, cell size, whether the offer was used, blocks swept; where no cell was found, the last of these (02, R-12)
unfoldable pub alloc_reply : Result Served Unserved → Reply
alloc_reply =
    elim [
      | Ok x ↦ answered (x.address.0 ∷ x.cell_size ∷ flag x.offer_used ∷ x.swept ∷ [])
      | Err (Unserved.Exhausted swept) ↦ exhausted swept
      | Err (Unserved.Refused refusal) ↦ refused refusal
    ]

-- mark: whether it was new
unfoldable pub mark_reply : Result Bool Refusal → Reply
mark_reply = elim [ Ok new ↦ answered (flag new ∷ []) | Err refusal ↦ refused refusal ]

-- one number: of destroy the blocks that went over to abandoned (02, R-6), the pages used, the total free cells of a bin (02, R-7)
unfoldable pub count_reply : Result ℕ Refusal → Reply
count_reply = elim [ Ok n ↦ answered (n ∷ []) | Err refusal ↦ refused refusal ]

-- release and shared release: the blocks released, those merged from in-gc (02, R-6), and those swept (02, R-8)
unfoldable pub release_reply : Result Released Refusal → Reply
release_reply = elim [ Ok x ↦ answered (x.blocks ∷ x.merged ∷ x.swept ∷ []) | Err refusal ↦ refused refusal ]

-- the check of a class table: 0 and 0, 1 and the count, or 2 and the row (02, R-5)
unfoldable pub classes_reply : Result Verdict Refusal → Reply
classes_reply =
    elim [
      | Ok Verdict.Accepted ↦ answered (0 ∷ 0 ∷ [])
      | Ok (Verdict.BadCount n) ↦ answered (1 ∷ n ∷ [])
      | Ok (Verdict.BadRow n) ↦ answered (2 ∷ n ∷ [])
      | Err refusal ↦ refused refusal
    ]

-- ---- any of the calls, by value

unfoldable pub call_of : Ask → Call
call_of (Asks.Bind holder) = bind holder
call_of (Asks.Destroy holder) = destroy holder
call_of (Asks.Alloc holder r) = alloc holder r.size r.align r.offset r.offer
call_of Asks.Prepare = prepare
call_of (Asks.Mark place block) = mark place block
call_of (Asks.Release holder) = release holder
call_of Asks.SharedRelease = shared_release

-- a reply as five numbers: its own, and "the answer's numbers in order, [..] zeros after" (02, R-2)
abbrev pub said_of : Reply → Said
said_of reply =
    let at : ℕ → ℕ = λ i. get_or reply.values i 0 in
    record { number = reply.number; first = at 0; second = at 1; third = at 2; fourth = at 3 }

-- what is said, and everything lent after it
pub record Outcome : Type 0 where
  pub said : Said
  pub lent : Lent

abbrev pub outcome : Said → Lent → Outcome
outcome said l = record { said = said; lent = l }

unfoldable pub outcome_of : Returned → Outcome
outcome_of r = outcome (said_of r.reply) r.lent
