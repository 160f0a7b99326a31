-- `global::unmark_blocks` maps all state bytes. The invariant: those passed are done, the others as they were. Assumes nothing.
use Rattle.std.proofs.Common.{◌≡◌, ◌++◌, map, take, drop}
use Rattle.model.specs.Global.{unmarked_state}
use Rattle.native_ms.proofs.global.unmark_blocks.Given as goal

abbrev pub invariant-loop-state : goal.invariant-loop-state
invariant-loop-state l = l.st ≡ map unmarked_state (take l.state-index l.initial.st) ++ drop l.state-index l.initial.st
