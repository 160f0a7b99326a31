-- "Block": states, whole cells, the chain of free cells, init, the two sweeps and the choice between them, release.
-- A chain is the list of its cells' addresses, the free head first.
use Rattle.std.specs.Prelude.{if◌then◌else◌, ℕ, zero, suc, ◌+◌, ◌-◌, ◌*◌, ◌/◌, ◌%◌, ◌≡◌, Bool, false, not, ◌&&◌, eqb, ltb, leb, get_or, length}
use mathlib.Core.List.{List, [], ◌∷◌, head_d}
use Rattle.model.specs.declared.Params.{Params}
use Rattle.model.specs.declared.Block.{Block}
use Rattle.model.specs.declared.ChainWalk.{ChainWalk}
use Rattle.model.specs.Base.{any_below}
use Rattle.model.specs.Params.{good_params, start, plus_lower}
use Rattle.model.specs.Memory.{load, store, marked}
use Rattle.model.specs.SizeClasses.{words_in}
use Rattle.model.specs.Tables.{Words, set_next, set_prev, set_free, set_size, set_list, set_tls, set_cells}

-- "State bytes: 0 Unallocated, 255 Unmarked, 254 Marked."
abbrev pub state_unallocated : ℕ
state_unallocated = 0

abbrev pub state_unmarked : ℕ
state_unmarked = 255

abbrev pub state_marked : ℕ
state_marked = 254

-- ---- whole cells

-- how many whole cells of this size a block has; the short tail is none
unfoldable pub cell_count : Params → ℕ → ℕ
cell_count p size = p.bytes / size

-- a is a whole cell of the block b with cells of this size
unfoldable pub is_cell : Params → ℕ → ℕ → ℕ → Bool
is_cell p b size a =
    ltb 0 size && leb (start p b) a && eqb ((a - start p b) % size) 0 && leb ((a - start p b) + size) p.bytes

-- of the k cells of this size from `from` on, those that are not kept, the highest first
unfoldable pub cells_down : (ℕ → Bool) → ℕ → ℕ → ℕ → List ℕ
cells_down kept from size zero = []
cells_down kept from size (suc k) =
    if kept (from + k * size) then cells_down kept from size k else ((from + k * size) ∷ cells_down kept from size k)

-- each cell of the chain holds the address of the next, 0 at its end: all that init or a sweep writes into the heap
unfoldable pub link_all : Params → List ℕ → List ℕ → List ℕ
link_all p [] h = h
link_all p (a ∷ chain) h = store p (link_all p chain h) a (head_d chain 0)

-- ---- init

-- "`init_block` links whole cells, the highest first."
unfoldable pub init_chain : Params → ℕ → ℕ → List ℕ
init_chain p b size = cells_down (λ a. false) (start p b) size (cell_count p size)

-- the words of a block after init, by this holder; its state is set where the offer is taken (`acquire_fresh`). 02, R-7: "the length of
-- its free chain after the last init, sweep or alloc on it"
unfoldable pub init_block : Params → ℕ → ℕ → ℕ → Words → Words
init_block p b size holder w =
    let chain : List ℕ = init_chain p b size in
    set_cells b (length chain) (set_tls b holder (set_size b size (set_free b (head_d chain 0) w)))

-- ---- sweeps

-- "`sweep` chooses simple if offsets are off, MIN = MAX and unified."
unfoldable pub simple : Params → Bool
simple p = not p.offsets && eqb p.min p.max && p.unified

-- Whether the sweep chosen finds a mark for the cell of this size at a, and so keeps it; `mark` says which places are marked.
-- "`simple_sweep` frees each whole cell with no mark at its start. `naive_brute_force_sweep` frees a cell with no mark at
-- cell + 8k + L for 8k below the cell size". 01's "a cell is called marked" is this at the mark bits; the book asks it at
-- its places
unfoldable pub keeps : Params → (ℕ → Bool) → ℕ → ℕ → Bool
keeps p mark size a = if simple p then mark a else any_below (words_in size) (λ i. mark (plus_lower p (a + 8 * i)))

-- the chain that a sweep of the block b with cells of this size builds from these marks
unfoldable pub sweep_chain : Params → List ℕ → ℕ → ℕ → List ℕ
sweep_chain p ms b size = cells_down (keeps p (marked p ms) size) (start p b) size (cell_count p size)

-- "A sweep writes only the first word of freed cells and the free head", since R-7 the free count too: the words after a sweep of b
unfoldable pub swept_words : Params → List ℕ → ℕ → Words → Words
swept_words p ms b w =
    let chain : List ℕ = sweep_chain p ms b (get_or w.size b 0) in
    set_cells b (length chain) (set_free b (head_d chain 0) w)

-- ---- release: all words of the block are 0 again; its state is set where a block is released (Global `release_from`)

unfoldable pub clear_block : ℕ → Words → Words
clear_block b w = set_cells b 0 (set_tls b 0 (set_list b 0 (set_size b 0 (set_free b 0 (set_prev b 0 (set_next b 0 w))))))

-- ---- the free chain that stands in the heap

-- from the address a on, the words at the cells of the list lead from each to the next, and the last to 0: the list is the chain
unfoldable pub ChainStands : Params → List ℕ → ℕ → List ℕ → Type 0
ChainStands p h a [] = a ≡ 0
ChainStands p h a (x ∷ chain) = (a ≡ x) × ChainStands p h (load p h x) chain

-- from the address a on, the whole cells of b that are linked one after the other: up to a link that is none, at most k
unfoldable pub chain_from : ℕ → Params → List ℕ → ℕ → ℕ → ℕ → List ℕ
chain_from zero p h b size a = []
chain_from (suc k) p h b size a = if is_cell p b size a then (a ∷ chain_from k p h b size (load p h a)) else []

-- the free chain of the block b: "stops at a bad link or after a block's cell count"
unfoldable pub free_chain : Params → List ℕ → ℕ → Words → List ℕ
free_chain p h b w = chain_from (cell_count p (get_or w.size b 0)) p h b (get_or w.size b 0) (get_or w.free b 0)

-- The same, a cell at a time, as a listing prints it. Each is of all inputs: on parameters that are off a walk stands at no cell

-- the walk at the free head of the block b, which may meet as many cells as the block has
unfoldable pub first_cell : Params → Words → Block → ChainWalk
first_cell p w b =
    record {
      block = b;
      at = record { 0 = get_or w.free b.0 0 };
      size = get_or w.size b.0 0;
      left = cell_count p (get_or w.size b.0 0);
    }

-- whether it stands at a cell
unfoldable pub more_cells : Params → ChainWalk → Bool
more_cells p walk = good_params p && ltb 0 walk.left && is_cell p walk.block.0 walk.size walk.at.0

-- the walk from that cell's link on
unfoldable pub next_cell : Params → List ℕ → ChainWalk → ChainWalk
next_cell p h walk = record { block = walk.block; at = record { 0 = load p h walk.at.0 }; size = walk.size; left = walk.left - 1 }

-- ---- the chain that a sweep would build, a cell at a time, as a listing prints it; each is of all inputs

-- where the i-th whole cell of the block b with cells of this size stands, from 0; 0 if there is none
unfoldable pub cell_at : Params → ℕ → ℕ → ℕ → ℕ
cell_at p b size i = if good_params p && ltb i (cell_count p size) then start p b + i * size else 0

-- whether a sweep by these marks frees it
unfoldable pub frees_cell : Params → List ℕ → ℕ → ℕ → ℕ → Bool
frees_cell p ms b size i =
    good_params p && ltb i (cell_count p size) && not (keeps p (marked p ms) size (start p b + i * size))
