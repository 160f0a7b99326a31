-- The two sections on tables and heap, as the model's listing has them. Their laws are of three kinds: the walk along a free
-- chain, the walk down the cells that a sweep would free, and a loop over the numbers that pass a test. Assumes nothing.
use Rattle.std.specs.Prelude.{Bool, not, List, [], ◌∷◌, map, ℕ, eqb, get_or}
use Rattle.model.specs.Base.{filter}
use Rattle.model.specs.Tables.{Tables, tables_of, view}
use Rattle.model.specs.declared.ChainWalk.{ChainWalk}
use Rattle.model.specs.Block.{state_unallocated, chain_from, sweep_chain}
use Rattle.model.specs.Census.{census_params, decimal, spaced, section, up_to, occupied}
use Rattle.model.specs.Census.{block_row, free_section}

unfoldable pub tables_read : List ℕ → List ℕ → List ℕ → Tables
tables_read words states marks = tables_of (view words) states marks

-- no row of it looks at a mark
unfoldable pub blocks_text : List ℕ → List ℕ → List ℕ
blocks_text words states =
    let t : Tables = tables_read words states [] in
    section (98 ∷ 108 ∷ 111 ∷ 99 ∷ 107 ∷ 115 ∷ []) (map (block_row t) (occupied t))

unfoldable pub free_text : List ℕ → List ℕ → List ℕ → List ℕ → List ℕ
free_text words states marks heap = section (102 ∷ 114 ∷ 101 ∷ 101 ∷ []) (free_section (tables_read words states marks) heap)

-- ---- the free cells of one block

-- the rows of cells of the block b
unfoldable pub cell_rows : ℕ → List ℕ → List (List ℕ)
cell_rows b cells = map (λ a. spaced (decimal b ∷ decimal a ∷ [])) cells

-- the cells that a walk along a free chain still meets
unfoldable pub cells_of : List ℕ → ChainWalk → List ℕ
cells_of h w = chain_from w.left census_params h w.block.0 w.size w.at.0

-- ---- the cells of one block that a sweep would free

-- the chain that it would build, by the size that the words give
abbrev pub chain_swept : List ℕ → List ℕ → ℕ → List ℕ
chain_swept words marks b = sweep_chain census_params marks b (get_or (view words).size b 0)

-- ---- the blocks that are not Unallocated, by their state bytes

unfoldable pub is_occupied : List ℕ → ℕ → Bool
is_occupied states b = not (eqb (get_or states b 0) state_unallocated)

unfoldable pub occupied_in : List ℕ → List ℕ
occupied_in states = filter (is_occupied states) (up_to 4)
