-- "Block lists": push, pop, remove and append on the words, walks along next, and pages used.
-- A list is by its number from 0, a block by its number, a link by its address with 0 for none.
-- Each operation makes the Rust's stores in the Rust's order, list words too.
use Rattle.std.specs.Prelude.{if◌then◌else◌, ℕ, zero, suc, ◌+◌, ◌*◌, ◌/◌, Bool, true, ◌&&◌, List, [], ◌∷◌, eqb, length, get_or}
use Rattle.model.specs.declared.Params.{Params}
use Rattle.model.specs.Base.{all_below, sum_below}
use Rattle.model.specs.Params.{start, block_at, is_start, last_bin, list_word}
use Rattle.model.specs.Tables.{Words, set_first, set_last, set_next, set_prev, set_list}

-- "push adds at the head": the only block of an empty list, or before its head
unfoldable pub push : Params → ℕ → ℕ → Words → Words
push p list b w =
    let a : ℕ = start p b in
    let head : ℕ = get_or w.first list 0 in
    if eqb head 0 then set_list b (list_word list) (set_last list a (set_first list a (set_prev b 0 (set_next b 0 w))))
    else set_list b (list_word list) (set_first list a (set_prev b 0 (set_prev (block_at p head) a (set_next b head w))))

-- what pop gives: the address of the block taken off, 0 for none, and the words after
pub record Popped : Type 0 where
  pub at : ℕ
  pub words : Words

abbrev pub popped : ℕ → Words → Popped
popped a w = record { at = a; words = w }

-- "pop takes the head": b, which was the only block, or which `next` follows
unfoldable pub pop_head : Params → ℕ → ℕ → ℕ → Words → Words
pop_head p list b next w =
    if eqb next 0 then set_prev b 0 (set_next b 0 (set_last list 0 (set_first list 0 w)))
    else set_prev b 0 (set_next b 0 (set_list (block_at p next) (list_word list) (set_prev (block_at p next) 0 (set_first list next w))))

unfoldable pub pop : Params → ℕ → Words → Popped
pop p list w =
    let head : ℕ = get_or w.first list 0 in
    if eqb head 0 then popped 0 w
    else popped head (pop_head p list (block_at p head) (get_or w.next (block_at p head) 0) w)

-- the block between prev and next is taken out of the list; its own words stay
unfoldable pub remove_between : Params → ℕ → ℕ → ℕ → Words → Words
remove_between p list prev next w =
    if eqb prev 0
    then (if eqb next 0 then set_last list 0 (set_first list 0 w)
    else set_list (block_at p next) (list_word list) (set_first list next (set_prev (block_at p next) 0 w)))
    else (if eqb next 0 then set_list (block_at p prev) (list_word list) (set_last list prev (set_next (block_at p prev) 0 w))
    else set_prev (block_at p next) prev (set_next (block_at p prev) next w))

unfoldable pub remove : Params → ℕ → ℕ → Words → Words
remove p list b w = remove_between p list (get_or w.prev b 0) (get_or w.next b 0) w

-- each block from the address a on gets the list's word, at most k of them
unfoldable pub relabel : ℕ → Params → ℕ → ℕ → Words → Words
relabel zero p list a w = w
relabel (suc k) p list a w =
    if eqb a 0 then w
    else relabel k p list (get_or w.next (block_at p a) 0) (set_list (block_at p a) (list_word list) w)

-- the list `other`, not empty, is put behind the list
unfoldable pub link : Params → ℕ → ℕ → Words → Words
link p list other w =
    if eqb (get_or w.first list 0) 0 then set_last list (get_or w.last other 0) (set_first list (get_or w.first other 0) w)
    else set_last list (get_or w.last other 0)
    (set_prev (block_at p (get_or w.first other 0)) (get_or w.last list 0)
    (set_next (block_at p (get_or w.last list 0)) (get_or w.first other 0) w))

-- "append puts the other list behind the last and empties it"
unfoldable pub append : Params → ℕ → ℕ → Words → Words
append p list other w =
    if eqb (get_or w.first other 0) 0 then w
    else set_last other 0 (set_first other 0
    (relabel p.blocks p list (get_or w.first other 0) (link p list other w)))

-- ---- walks: from the address a along `next`, at most k blocks

-- the blocks met
unfoldable pub walk : ℕ → Params → List ℕ → ℕ → List ℕ
walk zero p next a = []
walk (suc k) p next a = if eqb a 0 then [] else (block_at p a ∷ walk k p next (get_or next (block_at p a) 0))

-- the blocks on the list, from its first on
unfoldable pub blocks_on : Params → ℕ → Words → List ℕ
blocks_on p list w = walk p.blocks p w.next (get_or w.first list 0)

-- 02, R-6: "Appending one list to another must also give the number of blocks appended, zero for an empty one": those on `other`
-- before
unfoldable pub appended : Params → ℕ → Words → ℕ
appended p other w = length (blocks_on p other w)

-- the walk meets only block starts and ends, by a 0, within k blocks
unfoldable pub ends : ℕ → Params → List ℕ → ℕ → Bool
ends zero p next a = eqb a 0
ends (suc k) p next a = if eqb a 0 then true else (is_start p a && ends k p next (get_or next (block_at p a) 0))

-- ---- "Pages used by one set of 49 list records counts bins 1 to 48 only": by the records' firsts

unfoldable pub pages_used : Params → List ℕ → List ℕ → ℕ
pages_used p next firsts =
    p.bytes / 4096 * sum_below last_bin (λ i. length (walk p.blocks p next (get_or firsts (i + 1) 0)))

-- the opposite of "a walk that meets a link neither 0 nor a block start, or on one list passes more blocks than there are"
unfoldable pub pages_end : Params → List ℕ → List ℕ → Bool
pages_end p next firsts = all_below last_bin (λ i. ends p.blocks p next (get_or firsts (i + 1) 0))
