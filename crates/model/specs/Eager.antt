-- 02, R-8: what stands when a collection with the choice of eager sweeping is over, whatever was lent. Proved in the crate soundness.
use Rattle.std.specs.Prelude.{ℕ, ◌<◌, ◌≡◌, ◌≢◌, true, get_or, length}
use Rattle.model.specs.declared.Params.{Params}
use Rattle.model.specs.Params.{Lent}
use Rattle.model.specs.Tables.{view}
use Rattle.model.specs.Block.{state_unallocated, state_marked, sweep_chain, free_chain}
use Rattle.model.specs.Global.{phase_running}
use Rattle.model.specs.Calls.{Call, release, shared_release, call}

-- the block b after the last release, from l to l'
pub record LeftSwept (p : Params) (l l' : Lent) (b : ℕ) : Type 0 where
  -- only Marked blocks were there to sweep, as the Rust asserts
  pub state : get_or l'.states b 0 ≡ state_marked
  -- "Each block's chain afterwards is the one a lazy sweep would build from the same marks": `sweep_chain` is what the sweep of an alloc
  -- builds (FreeListAllocator `sweep_of`)
  pub chain : free_chain p l'.heap b (view l'.words) ≡ sweep_chain p l.marks b (get_or (view l'.words).size b 0)
  -- and its free count is as long
  pub cells : get_or (view l'.words).cells b 0 ≡ length (sweep_chain p l.marks b (get_or (view l'.words).size b 0))

-- the call c is the last release: the collection is over after it
unfoldable pub EndsSwept : Params → Lent → Call → Type 0
EndsSwept p l c =
    p.eager ≡ true → (call p l c).reply.number ≡ 0 → (view (call p l c).lent.words).phase ≡ phase_running
    → (b : ℕ) → b < p.blocks → get_or (call p l c).lent.states b 0 ≢ state_unallocated → LeftSwept p l (call p l c).lent b

unfoldable pub EagerSwept : Type 0
EagerSwept = (p : Params) (l : Lent) → ((holder : ℕ) → EndsSwept p l (release holder)) × EndsSwept p l shared_release
