-- "Sound tables" (01's term): tables that a call may work on; on any others it is refused BadTables and changes nothing.
-- A test with a part for each item of 01's sentence, in its order. "Exactly the list it names" is in two parts (`on_list_named`,
-- `linked`), and `flags_known` is about words that 01 leaves to us. R-8's and R-7's sentences are at the end; the test of
-- chains alone reads the heap.
use Rattle.std.specs.Prelude.{if◌then◌else◌, ℕ, zero, suc, ◌+◌, ◌-◌, ◌*◌, ◌/◌, ◌%◌, Bool, true, not, ◌&&◌, ◌||◌, ◌≡◌, ◌≢◌, List, eqb, ltb, leb, get_or, length}
use Rattle.model.specs.declared.Params.{Params}
use Rattle.model.specs.Base.{all_below, any_below, member, In, Pairwise}
use Rattle.model.specs.Params.{block_at, is_start, bins, lists, holders, parts, list_of, list_word, local_sets, abandoned, in_gc}
use Rattle.model.specs.Memory.{load}
use Rattle.model.specs.Tables.{Words, Tables}
use Rattle.model.specs.SizeClasses.{cell_bytes}
use Rattle.model.specs.BlockList.{blocks_on}
use Rattle.model.specs.Block.{state_unallocated, state_unmarked, state_marked, cell_count, is_cell, ChainStands}
use Rattle.model.specs.Global.{phase_running, phase_marking, phase_releasing, is_holder, is_bound, has_released, all_released}

-- ---- each block

unfoldable pub state_of : Tables → ℕ → ℕ
state_of t b = get_or t.states b 0

-- "state bytes are the three"
unfoldable pub state_known : Tables → ℕ → Bool
state_known t b = eqb (state_of t b) state_unallocated || eqb (state_of t b) state_unmarked || eqb (state_of t b) state_marked

-- "an Unallocated block's words are 0", the free count too (02, R-7: "0 when Unallocated")
unfoldable pub block_clear : Words → ℕ → Bool
block_clear w b =
    eqb (get_or w.next b 0) 0 && eqb (get_or w.prev b 0) 0 && eqb (get_or w.free b 0) 0
    && eqb (get_or w.size b 0) 0 && eqb (get_or w.list b 0) 0 && eqb (get_or w.tls b 0) 0
    && eqb (get_or w.cells b 0) 0

-- the list that a block names, its bin and its set: the one definition of which list a block is on
unfoldable pub list_named : Words → ℕ → ℕ
list_named w b = get_or w.list b 0 - 1

unfoldable pub bin_named : Words → ℕ → ℕ
bin_named w b = list_named w b % bins

unfoldable pub set_named : Words → ℕ → ℕ
set_named w b = list_named w b / bins

-- "any other block is on [..] the list it names": there is such a list, and its walk meets the block. That no other list's
-- walk meets it is `linked`, below: a walk meets only blocks that name its own list
unfoldable pub on_list_named : Params → Words → ℕ → Bool
on_list_named p w b =
    leb 1 (get_or w.list b 0) && leb (get_or w.list b 0) lists && member b (blocks_on p (list_named w b) w)

-- "its bin is 1 or more with that cell size". 02, R-5: "sound tables read sizes from the rows"; a bin without a row has no cell size, and
-- so no block is sound there
unfoldable pub size_ok : Params → Words → ℕ → Bool
size_ok p w b =
    leb 1 (bin_named w b) && ltb 0 (get_or w.size b 0) && eqb (get_or w.size b 0) (cell_bytes p (bin_named w b))

-- "its free head is 0 or a whole cell of it"
unfoldable pub link_ok : Params → Words → ℕ → ℕ → Bool
link_ok p w b a = eqb a 0 || is_cell p b (get_or w.size b 0) a

-- "its tls is 1 to 8 and equals h on a local list"
unfoldable pub tls_ok : Words → ℕ → Bool
tls_ok w b =
    is_holder (get_or w.tls b 0)
    && (leb abandoned (set_named w b) || eqb (get_or w.tls b 0) (set_named w b / 3 + 1))

unfoldable pub block_sound : Params → Tables → ℕ → Bool
block_sound p t b =
    if eqb (state_of t b) state_unallocated then block_clear t.words b
    else (state_known t b && on_list_named p t.words b && size_ok p t.words b
    && link_ok p t.words b (get_or t.words.free b 0) && tls_ok t.words b)

-- ---- each list

-- "links agree both ways": from the address a on, behind the block at `before`, at most k blocks: each link is the start of
-- an occupied block that names this list and whose prev is the block before; the list's last is the last block met
unfoldable pub linked_from : ℕ → Params → Tables → ℕ → ℕ → ℕ → Bool
linked_from zero p t list before a = eqb a 0 && eqb (get_or t.words.last list 0) before
linked_from (suc k) p t list before a =
    let b : ℕ = block_at p a in
    if eqb a 0 then eqb (get_or t.words.last list 0) before
    else (is_start p a && not (eqb (state_of t b) state_unallocated) && eqb (get_or t.words.list b 0) (list_word list)
    && eqb (get_or t.words.prev b 0) before && linked_from k p t list a (get_or t.words.next b 0))

unfoldable pub linked : Params → Tables → ℕ → Bool
linked p t list = linked_from p.blocks p t list 0 (get_or t.words.first list 0)

-- the three sets of an owner are empty
unfoldable pub owner_empty : Words → ℕ → Bool
owner_empty w owner = all_below (3 * bins) (λ i. eqb (get_or w.first (list_of owner i) 0) 0)

-- "unbound holders' lists are empty"
unfoldable pub unbound_empty : Words → Bool
unbound_empty w = all_below holders (λ i. is_bound w (suc i) || owner_empty w (local_sets (suc i)))

-- "in-gc lists are empty unless Releasing"
unfoldable pub in_gc_empty : Words → Bool
in_gc_empty w = eqb w.phase phase_releasing || owner_empty w in_gc

-- ---- phase, bound holders and released marks

-- "phase is one of three"
unfoldable pub phase_known : Words → Bool
phase_known w = eqb w.phase phase_running || eqb w.phase phase_marking || eqb w.phase phase_releasing

-- each bound word and each released word is 0 or 1 (how 01's marks are kept here)
unfoldable pub flags_known : Words → Bool
flags_known w = all_below holders (λ i. leb (get_or w.bound i 0) 1) && all_below parts (λ i. leb (get_or w.released i 0) 1)

-- "released marks are set only in Releasing, only for bound holders and the shared part;"
unfoldable pub released_few : Words → Bool
released_few w =
    all_below parts (λ part. not (has_released w part) || (eqb w.phase phase_releasing && (eqb part 0 || is_bound w part)))

-- "there at least one is set and at least one is still due;"
unfoldable pub released_some : Words → Bool
released_some w = not (eqb w.phase phase_releasing) || (any_below parts (λ part. has_released w part) && not (all_released w))

-- "a released holder's lists are empty."
unfoldable pub released_empty : Words → Bool
released_empty w = all_below holders (λ i. not (has_released w (suc i)) || owner_empty w (local_sets (suc i)))

-- "Tables are sound if"
unfoldable pub sound : Params → Tables → Bool
sound p t =
    all_below p.blocks (block_sound p t)
    && all_below lists (linked p t)
    && unbound_empty t.words
    && in_gc_empty t.words
    && (phase_known t.words && flags_known t.words)
    && (released_few t.words && released_some t.words)
    && released_empty t.words

-- ---- eager sweeping. 02, R-8: "With the choice on, BadTables also covers a block on any unswept list

unfoldable pub on_unswept : Words → ℕ → Bool
on_unswept w b = eqb (set_named w b % 3) 1

-- and, in Releasing, an Unmarked block in in-gc or, once the shared part is done, on abandoned."
unfoldable pub released_before : Words → ℕ → Bool
released_before w b =
    eqb w.phase phase_releasing && (leb in_gc (set_named w b) || (leb abandoned (set_named w b) && has_released w 0))

unfoldable pub eager_block : Tables → ℕ → Bool
eager_block t b =
    eqb (state_of t b) state_unallocated
    || (not (on_unswept t.words b) && not (eqb (state_of t b) state_unmarked && released_before t.words b))

unfoldable pub eager_ok : Params → Tables → Bool
eager_ok p t = not p.eager || all_below p.blocks (eager_block t)

-- ---- chains. 02, R-7: "Sound tables now also require that each word equals its chain's length, with the chain in whole cells of its
-- block and none repeated."

-- that sentence, of the block b
pub record ChainSound (p : Params) (h : List ℕ) (w : Words) (b : ℕ) : Type 0 where
  -- "its chain": from the free head along the links, to the link 0
  pub chain : List ℕ
  pub stands : ChainStands p h (get_or w.free b 0) chain
  -- "each word equals its chain's length"
  pub word : get_or w.cells b 0 ≡ length chain
  -- "in whole cells of its block"
  pub whole : (a : ℕ) → In a chain → is_cell p b (get_or w.size b 0) a ≡ true
  -- "and none repeated"
  pub once : Pairwise (λ a a'. a ≢ a') chain

-- The test of it: a walk. A chain that comes back to a cell never comes to 0, so none is repeated on one that does; and as none is,
-- there are at most as many as the block has cells, which bounds the walk before it starts. `ChainsTested` (Refusals.antt) says that
-- test and sentence are one

-- from the address a on, k whole cells of b linked one after the other, and then 0
unfoldable pub chain_counts : ℕ → Params → List ℕ → ℕ → ℕ → ℕ → Bool
chain_counts zero p h b size a = eqb a 0
chain_counts (suc k) p h b size a = is_cell p b size a && chain_counts k p h b size (load p h a)

unfoldable pub chain_ok : Params → List ℕ → Words → ℕ → Bool
chain_ok p h w b =
    leb (get_or w.cells b 0) (cell_count p (get_or w.size b 0))
    && chain_counts (get_or w.cells b 0) p h b (get_or w.size b 0) (get_or w.free b 0)

unfoldable pub chained : Params → Tables → List ℕ → Bool
chained p t h = all_below p.blocks (λ b. eqb (state_of t b) state_unallocated || chain_ok p h t.words b)

-- tables that are sound, on the heap h: 01's sentence, R-8's and R-7's
abbrev pub sound_on : Params → Tables → List ℕ → Bool
sound_on p t h = sound p t && eager_ok p t && chained p t h
