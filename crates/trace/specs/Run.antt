-- What a line gives, and a whole trace. Assumes nothing.
use Rattle.std.specs.Prelude.{if◌then◌else◌, ◌≡◌, List, map, ℕ, ◌≤◌, eqb, length, Option, Some, None}
use Rattle.model.specs.Params.{Lent}
use Rattle.model.specs.Promise.{lend}
use Rattle.model.specs.Calls.{Call}
use Rattle.model.specs.Census.{line_result, Ran}
use Rattle.listing.specs.declared.print.Refused.{Refused}
use Rattle.listing.specs.Print.{refused_line}
use Rattle.trace.specs.declared.run.Buffers.{Buffers}

-- what the buffers lend
abbrev pub lent_in : Buffers → Lent
lent_in b = lend b.words b.states b.marks b.heap

-- the refusal of this number; none by 0
unfoldable pub refusal_said : ℕ → Option ℕ
refusal_said n = if eqb n 0 then None else Some n

-- a line on what is lent: its refusal's number, if it was refused, and what is lent after it
pub record LineRan (l : Lent) (line : Option Call) (refusal : Option ℕ) (l' : Lent) : Type 0 where
  pub number : refusal ≡ refusal_said (line_result l line).reply.number
  pub lent : l' ≡ (line_result l line).lent

-- the lines of a trace: these were refused
pub record TraceRan (ran : Ran) (refused : List Refused) (l' : Lent) : Type 0 where
  pub few : length refused ≤ 256
  pub refusals : map refused_line refused ≡ ran.refusals
  pub lent : l' ≡ ran.lent
