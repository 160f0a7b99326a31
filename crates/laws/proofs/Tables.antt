-- The words of all tables in one list, taken apart by `view`: a store in one table is that table's store in the view, and
-- changes no other; `view` and `flat` undo one another; no store changes how long a table is.
-- The twelve parts follow each other, so all of it is one induction over their lengths (`cuts`). Assumes nothing.
use Prim.Native.Nat.{ℕ, zero, suc, ◌+◌, ◌-◌, ◌*◌, ◌/◌, ◌<◌, ◌≤◌}
use mathlib.Core.Path.{◌≡◌, refl, sym, ap, ◌∙◌}
use mathlib.Core.Bool.{Bool, true, false}
use mathlib.Core.List.{List, [], ◌∷◌, ◌++◌}
use native.Mathlib.Nat.{zero-add, zero-mul, suc-mul, add_assoc}
use native.Mathlib.Omega.{arith}
use lib.Dec.{ltb}
use lib.ListN.{length, take, drop, get_or, set, replicate, length-append, length-set, length-take, length-drop, take-append-drop, get_or-eq_default}
use lib.Seq.{set_out, set-get_or, get_or-take, get_or-drop, get_or-set_same, take-set-le, take-set-lt, drop-set-lt, drop-set-add, drop-drop, drop-cons, take_at, drop_at, take_all}
use borrow.Author.Tests.{lt-ltb, le-ltb, ltb-true, ltb-false}
use Rattle.model.specs.Params.{lists, holders, parts, phase_word, bound_words, released_words, head_words, block_tables}
use Rattle.model.specs.Tables.{Words, part, blocks_in, block_table, view, flat, put_in, put_first, put_last, put_bound, put_released, put_next, put_prev, put_free, put_size, put_list, put_tls, put_cells, put_phase, set_first, set_last, set_bound, set_released, set_next, set_prev, set_free, set_size, set_list, set_tls, set_cells, set_phase}
use Rattle.laws.proofs.Memory.{get_d_zeros}

-- the two cases of a test
pub by_lt : {P : Type 0} (i k : ℕ) → (i < k → P) → (k ≤ i → P) → P
by_lt {P} i k f g = go (ltb i k) refl
  where
    go : (b : Bool) → ltb i k ≡ b → P
    go true e = f (ltb-true i k e)
    go false e = g (ltb-false i k e)

pub put_in_in : (o k i v : ℕ) (w : List ℕ) → i < k → put_in o k i v w ≡ set w (o + i) v
put_in_in o k i v w h = rw (lt-ltb i k h)

pub put_in_out : (o k i v : ℕ) (w : List ℕ) → k ≤ i → put_in o k i v w ≡ w
put_in_out o k i v w h = rw (le-ltb i k h)

pub put_in_past : (o k i v : ℕ) (w : List ℕ) → length w ≤ o + i → put_in o k i v w ≡ w
put_in_past o k i v w h =
    by_lt i k (λ q. put_in_in o k i v w q ∙ set_out w (o + i) v h) (λ q. put_in_out o k i v w q)

pub length_put_in : (o k i v : ℕ) (w : List ℕ) → length (put_in o k i v w) ≡ length w
length_put_in o k i v w =
    by_lt i k (λ h. rw (lt-ltb i k h) (length-set w (o + i) v)) (λ h. rw (le-ltb i k h))

-- ---- a word of a part, and none past its end

length_part : (o k : ℕ) (w : List ℕ) → length (part o k w) ≤ k
length_part o k w = simp length-take (omega arith)

pub get_d_part : (o k i : ℕ) (w : List ℕ) → i < k → get_or (part o k w) i 0 ≡ get_or w (o + i) 0
get_d_part o k i w h = get_or-take k (drop o w) i 0 h ∙ get_or-drop o w i 0

pub get_d_part_out : (o k i : ℕ) (w : List ℕ) → k ≤ i → get_or (part o k w) i 0 ≡ 0
get_d_part_out o k i w h = get_or-eq_default (part o k w) 0 (omega (arith, length_part o k w))

pub get_d_part_past : (o k i : ℕ) (w : List ℕ) → length w ≤ o + i → get_or (part o k w) i 0 ≡ 0
get_d_part_past o k i w h =
    by_lt i k (λ q. get_d_part o k i w q ∙ get_or-eq_default w 0 h) (λ q. get_d_part_out o k i w q)

pub part_zeros : (o k n i : ℕ) → get_or (part o k (replicate n 0)) i 0 ≡ 0
part_zeros o k n i =
    by_lt i k (λ h. get_d_part o k i (replicate n 0) h ∙ get_d_zeros n (o + i)) (λ h. get_d_part_out o k i (replicate n 0) h)

-- ---- a list cut into pieces of given lengths, and where the j-th of them starts

cuts : List ℕ → List ℕ → List (List ℕ)
cuts [] w = []
cuts (k ∷ ks) w = take k w ∷ cuts ks (drop k w)

cut_start : List ℕ → ℕ → ℕ
cut_start [] j = 0
cut_start (k ∷ ks) zero = 0
cut_start (k ∷ ks) (suc j) = k + cut_start ks j

-- a store in the j-th piece
cuts_set : (ks : List ℕ) (j i v : ℕ) (w : List ℕ) → i < get_or ks j 0 → cuts ks (set w (cut_start ks j + i) v) ≡ set (cuts ks w) j (set (get_or (cuts ks w) j []) i v)
unfolding cuts cut_start
cuts_set [] j i v w h = refl
cuts_set (k ∷ ks) zero i v w h = rw (zero-add i, take-set-lt k w i v h, drop-set-lt k w i v h)
cuts_set (k ∷ ks) (suc j) i v w h =
    let s = cut_start ks j + i in
    rw (add_assoc k (cut_start ks j) i, take-set-le k w (k + s) v (omega arith), drop-set-add k w s v)
    (ap (λ (l : List (List ℕ)). take k w ∷ l) (cuts_set ks j i v (drop k w) h))

length_cut : (ks : List ℕ) (j : ℕ) (w : List ℕ) → length (get_or (cuts ks w) j []) ≤ get_or ks j 0
unfolding cuts
length_cut [] j w = omega arith
length_cut (k ∷ ks) zero w = length_part 0 k w
length_cut (k ∷ ks) (suc j) w = length_cut ks j (drop k w)

cuts_put_in : (ks : List ℕ) (j i v : ℕ) (w : List ℕ) → cuts ks (put_in (cut_start ks j) (get_or ks j 0) i v w) ≡ set (cuts ks w) j (set (get_or (cuts ks w) j []) i v)
cuts_put_in ks j i v w =
    by_lt i (get_or ks j 0)
    (λ h. ap (cuts ks) (put_in_in (cut_start ks j) (get_or ks j 0) i v w h) ∙ cuts_set ks j i v w h)
    (λ h. ap (cuts ks) (put_in_out (cut_start ks j) (get_or ks j 0) i v w h)
    ∙ sym (ap (set (cuts ks w) j) (set_out (get_or (cuts ks w) j []) i v (omega (arith, length_cut ks j w))) ∙ set-get_or (cuts ks w) j []))

cut_at : (k : ℕ) (ks x y : List ℕ) → length x ≡ k → cuts (k ∷ ks) (x ++ y) ≡ x ∷ cuts ks y
unfolding cuts
cut_at k ks x y e = rw (take_at x y k e, drop_at x y k e)

-- ---- the twelve parts of the words of n blocks, and the view from them

spans : ℕ → List ℕ
spans n = 1470 ∷ 1470 ∷ 1 ∷ 8 ∷ 9 ∷ n ∷ n ∷ n ∷ n ∷ n ∷ n ∷ n ∷ []

assemble : List (List ℕ) → Words
assemble cs =
    record {
      first = get_or cs 0 [];
      last = get_or cs 1 [];
      phase = get_or (get_or cs 2 []) 0 0;
      bound = get_or cs 3 [];
      released = get_or cs 4 [];
      next = get_or cs 5 [];
      prev = get_or cs 6 [];
      free = get_or cs 7 [];
      size = get_or cs 8 [];
      list = get_or cs 9 [];
      tls = get_or cs 10 [];
      cells = get_or cs 11 [];
    }

-- the parts, at their places in the words
in_place : ℕ → List ℕ → List (List ℕ)
in_place n w =
    part 0 1470 w ∷ part 1470 1470 w ∷ part 2940 1 w ∷ part 2941 8 w ∷ part 2949 9 w ∷ block_table n 0 w ∷ block_table n 1 w
    ∷ block_table n 2 w ∷ block_table n 3 w ∷ block_table n 4 w ∷ block_table n 5 w ∷ block_table n 6 w ∷ []

-- from one block table to the next
next_table : (n j : ℕ) (w : List ℕ) → drop n (drop (2958 + j * n) w) ≡ drop (2958 + suc j * n) w
next_table n j w =
    let e : 2958 + j * n + n ≡ 2958 + suc j * n = omega (arith, suc-mul j n) in
    drop-drop n (2958 + j * n) w ∙ ap (λ (o : ℕ). drop o w) e

cuts_parts : (n : ℕ) (w : List ℕ) → cuts (spans n) w ≡ in_place n w
unfolding cuts spans in_place
cuts_parts n w =
    let zeroth : drop 2958 w ≡ drop (2958 + 0 * n) w = rw (zero-mul n) in
    rw (drop-drop 1470 1470 w, drop-drop 1 2940 w, drop-drop 8 2941 w, drop-drop 9 2949 w, zeroth)
    (rw (next_table n 0 w, next_table n 1 w, next_table n 2 w, next_table n 3 w, next_table n 4 w, next_table n 5 w))

view_parts : (w : List ℕ) → view w ≡ assemble (in_place (blocks_in w) w)
unfolding view assemble in_place
view_parts w =
    let phase : get_or w 2940 0 ≡ get_or (part 2940 1 w) 0 0 = sym (get_d_part 2940 1 0 w (omega arith)) in
    rw phase

view_cuts : (w : List ℕ) → view w ≡ assemble (cuts (spans (blocks_in w)) w)
view_cuts w = view_parts w ∙ ap assemble (sym (cuts_parts (blocks_in w) w))

pub blocks_same : (u w : List ℕ) → length u ≡ length w → blocks_in u ≡ blocks_in w
blocks_same u w e = ap (λ (m : ℕ). (m - 2958) / 7) e

-- ---- a store in the part j, that starts at o and is m words long

view_put : (j o m i v : ℕ) (w : List ℕ) → cut_start (spans (blocks_in w)) j ≡ o → get_or (spans (blocks_in w)) j 0 ≡ m → view (put_in o m i v w) ≡ assemble (set (cuts (spans (blocks_in w)) w) j (set (get_or (cuts (spans (blocks_in w)) w) j []) i v))
view_put j o m i v w eo em =
    let u = put_in o m i v w in
    let n : blocks_in u ≡ blocks_in w = blocks_same u w (length_put_in o m i v w) in
    let at : u ≡ put_in (cut_start (spans (blocks_in w)) j) (get_or (spans (blocks_in w)) j 0) i v w = rw (eo, em) in
    view_cuts u ∙ ap (λ (k : ℕ). assemble (cuts (spans k) u)) n
    ∙ ap (λ (x : List ℕ). assemble (cuts (spans (blocks_in w)) x)) at
    ∙ ap assemble (cuts_put_in (spans (blocks_in w)) j i v w)

-- from here on u is the words w after a store in one of their tables

module _ (i v : ℕ) (w : List ℕ) {u : List ℕ} where
  pub put_first_lem : u ≡ put_first i v w → view u ≡ set_first i v (view w)
  unfolding assemble cuts cut_start spans put_first set_first
  put_first_lem e = ap view e ∙ view_put 0 0 1470 i v w refl refl ∙ ap (set_first i v) (sym (view_cuts w))

  pub put_last_lem : u ≡ put_last i v w → view u ≡ set_last i v (view w)
  unfolding assemble cuts cut_start spans put_last set_last
  put_last_lem e = ap view e ∙ view_put 1 1470 1470 i v w refl refl ∙ ap (set_last i v) (sym (view_cuts w))

  pub put_bound_lem : u ≡ put_bound i v w → view u ≡ set_bound i v (view w)
  unfolding assemble cuts cut_start spans put_bound set_bound
  put_bound_lem e = ap view e ∙ view_put 3 2941 8 i v w refl refl ∙ ap (set_bound i v) (sym (view_cuts w))

  pub put_released_lem : u ≡ put_released i v w → view u ≡ set_released i v (view w)
  unfolding assemble cuts cut_start spans put_released set_released
  put_released_lem e = ap view e ∙ view_put 4 2949 9 i v w refl refl ∙ ap (set_released i v) (sym (view_cuts w))

  pub put_next_lem : u ≡ put_next i v w → view u ≡ set_next i v (view w)
  unfolding assemble cuts cut_start spans put_next set_next
  put_next_lem e = ap view e ∙ view_put 5 (2958 + 0 * blocks_in w) (blocks_in w) i v w (omega arith) refl ∙ ap (set_next i v) (sym (view_cuts w))

  pub put_prev_lem : u ≡ put_prev i v w → view u ≡ set_prev i v (view w)
  unfolding assemble cuts cut_start spans put_prev set_prev
  put_prev_lem e = ap view e ∙ view_put 6 (2958 + 1 * blocks_in w) (blocks_in w) i v w (omega arith) refl ∙ ap (set_prev i v) (sym (view_cuts w))

  pub put_free_lem : u ≡ put_free i v w → view u ≡ set_free i v (view w)
  unfolding assemble cuts cut_start spans put_free set_free
  put_free_lem e = ap view e ∙ view_put 7 (2958 + 2 * blocks_in w) (blocks_in w) i v w (omega arith) refl ∙ ap (set_free i v) (sym (view_cuts w))

  pub put_size_lem : u ≡ put_size i v w → view u ≡ set_size i v (view w)
  unfolding assemble cuts cut_start spans put_size set_size
  put_size_lem e = ap view e ∙ view_put 8 (2958 + 3 * blocks_in w) (blocks_in w) i v w (omega arith) refl ∙ ap (set_size i v) (sym (view_cuts w))

  pub put_list_lem : u ≡ put_list i v w → view u ≡ set_list i v (view w)
  unfolding assemble cuts cut_start spans put_list set_list
  put_list_lem e = ap view e ∙ view_put 9 (2958 + 4 * blocks_in w) (blocks_in w) i v w (omega arith) refl ∙ ap (set_list i v) (sym (view_cuts w))

  pub put_tls_lem : u ≡ put_tls i v w → view u ≡ set_tls i v (view w)
  unfolding assemble cuts cut_start spans put_tls set_tls
  put_tls_lem e = ap view e ∙ view_put 10 (2958 + 5 * blocks_in w) (blocks_in w) i v w (omega arith) refl ∙ ap (set_tls i v) (sym (view_cuts w))

  pub put_cells_lem : u ≡ put_cells i v w → view u ≡ set_cells i v (view w)
  unfolding assemble cuts cut_start spans put_cells set_cells
  put_cells_lem e = ap view e ∙ view_put 11 (2958 + 6 * blocks_in w) (blocks_in w) i v w (omega arith) refl ∙ ap (set_cells i v) (sym (view_cuts w))

-- the phase is one word, and no list: a store of it is seen only where the word is there
pub put_phase_lem : (v : ℕ) (w : List ℕ) {u : List ℕ} → 2940 < length w → u ≡ put_phase v w → view u ≡ set_phase v (view w)
unfolding assemble cuts cut_start spans put_phase set_phase
put_phase_lem v w {u} h e =
    let third : List ℕ = take 1 (drop 1470 (drop 1470 w)) in
    let some : 0 < length third = simp (length-take, length-drop) (omega arith) in
    ap view (e ∙ sym (put_in_in 2940 1 0 v w (omega arith))) ∙ view_put 2 2940 1 0 v w refl refl
    ∙ rw (get_or-set_same third 0 v 0 some) (ap (set_phase v) (sym (view_cuts w)))

-- ---- how long each table is

pub record Sized (n : ℕ) (t : Words) : Type 0 where
  pub first : length t.first ≡ 1470
  pub last : length t.last ≡ 1470
  pub bound : length t.bound ≡ 8
  pub released : length t.released ≡ 9
  pub next : length t.next ≡ n
  pub prev : length t.prev ≡ n
  pub free : length t.free ≡ n
  pub size : length t.size ≡ n
  pub list : length t.list ≡ n
  pub tls : length t.tls ≡ n
  pub cells : length t.cells ≡ n

-- the lengths as one list: that a step keeps them is one equation
unfoldable pub lengths : Words → List ℕ
lengths t =
    length t.first ∷ length t.last ∷ length t.bound ∷ length t.released ∷ length t.next ∷ length t.prev
    ∷ length t.free ∷ length t.size ∷ length t.list ∷ length t.tls ∷ length t.cells ∷ []

pub sized_same : {n : ℕ} {t u : Words} → lengths u ≡ lengths t → Sized n t → Sized n u
unfolding lengths
sized_same {n} {t} {u} e s =
    let at : (i : ℕ) → get_or (lengths u) i 0 ≡ get_or (lengths t) i 0 = λ i. ap (λ (l : List ℕ). get_or l i 0) e in
    record {
      first = at 0 ∙ s.first;
      last = at 1 ∙ s.last;
      bound = at 2 ∙ s.bound;
      released = at 3 ∙ s.released;
      next = at 4 ∙ s.next;
      prev = at 5 ∙ s.prev;
      free = at 6 ∙ s.free;
      size = at 7 ∙ s.size;
      list = at 8 ∙ s.list;
      tls = at 9 ∙ s.tls;
      cells = at 10 ∙ s.cells;
    }

module _ (i v : ℕ) (t : Words) where
  pub lengths_set_first : lengths (set_first i v t) ≡ lengths t
  unfolding lengths set_first
  lengths_set_first = simp length-set

  pub lengths_set_last : lengths (set_last i v t) ≡ lengths t
  unfolding lengths set_last
  lengths_set_last = simp length-set

  pub lengths_set_bound : lengths (set_bound i v t) ≡ lengths t
  unfolding lengths set_bound
  lengths_set_bound = simp length-set

  pub lengths_set_released : lengths (set_released i v t) ≡ lengths t
  unfolding lengths set_released
  lengths_set_released = simp length-set

  pub lengths_set_next : lengths (set_next i v t) ≡ lengths t
  unfolding lengths set_next
  lengths_set_next = simp length-set

  pub lengths_set_prev : lengths (set_prev i v t) ≡ lengths t
  unfolding lengths set_prev
  lengths_set_prev = simp length-set

  pub lengths_set_free : lengths (set_free i v t) ≡ lengths t
  unfolding lengths set_free
  lengths_set_free = simp length-set

  pub lengths_set_size : lengths (set_size i v t) ≡ lengths t
  unfolding lengths set_size
  lengths_set_size = simp length-set

  pub lengths_set_list : lengths (set_list i v t) ≡ lengths t
  unfolding lengths set_list
  lengths_set_list = simp length-set

  pub lengths_set_tls : lengths (set_tls i v t) ≡ lengths t
  unfolding lengths set_tls
  lengths_set_tls = simp length-set

  pub lengths_set_cells : lengths (set_cells i v t) ≡ lengths t
  unfolding lengths set_cells
  lengths_set_cells = simp length-set

pub lengths_set_phase : (v : ℕ) (t : Words) → lengths (set_phase v t) ≡ lengths t
unfolding lengths set_phase
lengths_set_phase v t = refl

-- for a step that is made of stores: `sized_same (simp kept_lengths)` under the step's `unfolding`
pub ruleset kept_lengths = (lengths_set_first, lengths_set_last, lengths_set_bound, lengths_set_released, lengths_set_next, lengths_set_prev, lengths_set_free, lengths_set_size, lengths_set_list, lengths_set_tls, lengths_set_cells, lengths_set_phase)

sized_part : (o k : ℕ) (w : List ℕ) → o + k ≤ length w → length (part o k w) ≡ k
sized_part o k w h = simp (length-take, length-drop) (omega arith)

pub sized_view : (n : ℕ) (w : List ℕ) → length w ≡ 2958 + 7 * n → Sized n (view w)
unfolding view
sized_view n w e =
    let m : blocks_in w ≡ n = omega arith in
    let table : (j : ℕ) → 2958 + j * n + n ≤ length w → length (block_table (blocks_in w) j w) ≡ n =
    λ j h. rw m (sized_part (2958 + j * n) n w h) in
    record {
      first = sized_part 0 1470 w (omega arith);
      last = sized_part 1470 1470 w (omega arith);
      bound = sized_part 2941 8 w (omega arith);
      released = sized_part 2949 9 w (omega arith);
      next = table 0 (omega arith);
      prev = table 1 (omega arith);
      free = table 2 (omega arith);
      size = table 3 (omega arith);
      list = table 4 (omega arith);
      tls = table 5 (omega arith);
      cells = table 6 (omega arith);
    }

-- ---- the view loses nothing

join_next : (o k q : ℕ) (w : List ℕ) → o + k ≡ q → part o k w ++ drop q w ≡ drop o w
join_next o k q w e =
    ap (λ (m : ℕ). part o k w ++ drop m w) (sym e) ∙ ap (λ (l : List ℕ). part o k w ++ l) (sym (drop-drop k o w))
    ∙ take-append-drop k (drop o w)

join_last : (o k : ℕ) (w : List ℕ) → length w ≤ o + k → part o k w ≡ drop o w
join_last o k w h = take_all k (drop o w) (simp length-drop (omega arith))

-- the seven block tables, one behind the other from o on
join_tables : (n o : ℕ) (w : List ℕ) → length w ≡ o + block_tables * n
    → part (o + 0 * n) n w ++ (part (o + 1 * n) n w ++ (part (o + 2 * n) n w ++ (part (o + 3 * n) n w ++ (part (o + 4 * n) n w ++ (part (o + 5 * n) n w ++ part (o + 6 * n) n w)))))
    ≡ drop (o + 0 * n) w
join_tables n o w e =
    rw (join_last (o + 6 * n) n w (omega arith), join_next (o + 5 * n) n (o + 6 * n) w (omega arith), join_next (o + 4 * n) n (o + 5 * n) w (omega arith), join_next (o + 3 * n) n (o + 4 * n) w (omega arith), join_next (o + 2 * n) n (o + 3 * n) w (omega arith), join_next (o + 1 * n) n (o + 2 * n) w (omega arith), join_next (o + 0 * n) n (o + 1 * n) w (omega arith))

flat_at : (n : ℕ) (w : List ℕ) → length w ≡ head_words + block_tables * n → blocks_in w ≡ n → flat (view w) ≡ w
unfolding flat view
flat_at n w e m =
    let zeroth : released_words + parts ≡ head_words + 0 * n = omega arith in
    let phase : drop phase_word w ≡ get_or w phase_word 0 ∷ drop bound_words w = drop-cons w phase_word 0 (omega arith) in
    rw (m, join_tables n head_words w e, join_next released_words parts (head_words + 0 * n) w zeroth, join_next bound_words holders released_words w refl, ← phase, join_next lists lists phase_word w refl, join_next 0 lists lists w refl)

pub flat_view : (n : ℕ) (w : List ℕ) → length w ≡ 2958 + 7 * n → flat (view w) ≡ w
flat_view n w e = flat_at n w e (omega arith)

-- the words after a call, from an equation of views
pub words_flat : (n : ℕ) (u w : List ℕ) (t : Words) → length w ≡ 2958 + 7 * n → length u ≡ length w → view u ≡ t → u ≡ flat t
words_flat n u w t e l q = sym (flat_view n u (l ∙ e)) ∙ ap flat q

-- ---- and every record of tables of these lengths is a view

pub length_flat : (n : ℕ) (t : Words) → Sized n t → length (flat t) ≡ 2958 + 7 * n
unfolding flat
length_flat n t s = simp length-append (omega arith)

cut_one : (ks y : List ℕ) (a : ℕ) → cuts (1 ∷ ks) (a ∷ y) ≡ (a ∷ []) ∷ cuts ks y
unfolding cuts
cut_one ks y a = refl

cut_last : (k : ℕ) (x : List ℕ) → length x ≡ k → cuts (k ∷ []) x ≡ x ∷ []
unfolding cuts
cut_last k x e = rw (take_all k x (omega arith))

cuts_flat : (n : ℕ) (t : Words) → Sized n t → cuts (spans n) (flat t) ≡ t.first ∷ t.last ∷ (t.phase ∷ []) ∷ t.bound ∷ t.released ∷ t.next ∷ t.prev ∷ t.free ∷ t.size ∷ t.list ∷ t.tls ∷ t.cells ∷ []
unfolding flat spans
cuts_flat n t s =
    let first = s.first in
    let last = s.last in
    let bound = s.bound in
    let released = s.released in
    let next = s.next in
    let prev = s.prev in
    let free = s.free in
    let size = s.size in
    let list = s.list in
    let tls = s.tls in
    let cells = s.cells in
    rw (cut_at, cut_at, cut_one, cut_at, cut_at, cut_at, cut_at, cut_at, cut_at, cut_at, cut_at, cut_last)

pub view_flat : (n : ℕ) (t : Words) → Sized n t → view (flat t) ≡ t
unfolding assemble
view_flat n t s =
    let m : blocks_in (flat t) ≡ n = omega (arith, length_flat n t s) in
    view_cuts (flat t) ∙ ap (λ (k : ℕ). assemble (cuts (spans k) (flat t))) m ∙ ap assemble (cuts_flat n t s)
