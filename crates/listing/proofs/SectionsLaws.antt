-- The sections of a listing, as the model has them. Their laws are of three kinds: the walk along a free
-- chain, the walk down the cells that a sweep would free, and a loop over the numbers that pass a test. Assumes nothing.
use mathlib.Core.Path.{◌≡◌, refl, sym, ap, ◌∙◌}
use mathlib.Core.Bool.{Bool, true, false, not, ◌&&◌}
use mathlib.Core.Logic.{◌≢◌, ⊎_elim}
use Rattle.std.specs.Prelude.{if◌then◌else◌, cond, count_by}
use Rattle.std.specs.List.{range_with_len, sum_by, filter as kept_by}
use Rattle.std.proofs.lemmas.List.Sums.{sum_by-cons, sum_by_push, length-filter, count_by-le-length}
use Rattle.std.proofs.lemmas.List.Recursion.{is_count_by}
use mathlib.Core.List.{List, [], ◌∷◌, ◌++◌, map, append_assoc, append-nil, flatten, flat_map}
use Prim.Native.Nat.{ℕ, zero, suc, ◌+◌, ◌-◌, ◌*◌, ◌/◌, ◌^◌, ◌≤◌, ◌<◌}
use native.Mathlib.Nat.{not-suc-le-zero, suc-mul, div-le_self}
use native.Mathlib.Numerals.{add-one}
use native.Mathlib.Omega.{arith}
use lib.Dec.{ltb}
use lib.ListN.{length, get_or, drop, length-append, length-map, drop_of_length-le, get_or-append}
use lib.Seq.{drop-cons, get_or_at}
use borrow.Author.Tests.{lt-ltb, ltb-true, eq-eqb, ne_eqb, not-true, not-false}
use Rattle.model.specs.declared.Params.{Params}
use Rattle.model.specs.declared.Block.{Block}
use Rattle.model.specs.declared.ChainWalk.{ChainWalk}
use Rattle.model.specs.Base.{filter, any_below, member}
use Rattle.model.specs.Params.{power_of_two, lower_ok, heap_bytes, heap_end, good_params, start}
use Rattle.model.specs.Tables.{Words, view}
use Rattle.model.specs.Memory.{load, marked}
use Rattle.model.specs.Block.{cell_count, is_cell, chain_from, free_chain, first_cell, more_cells, next_cell}
use Rattle.model.specs.Block.{cells_down, keeps, sweep_chain, cell_at, frees_cell}
use Rattle.model.specs.Sound.{state_of, set_named}
use Rattle.model.specs.Census.{census_params, decimal, spaced, section, up_to, occupied, letter}
use Rattle.model.specs.Census.{block_row, awaits_sweep, printed_chain, free_rows, free_section}
use Rattle.model.specs.Text.{Printed}
use Rattle.laws.proofs.Below.{and_left, and_right, test}
use mathlib.Core.Logic.{◌⊎◌, inl, inr}
use Rattle.laws.proofs.Base.{below_last, if_cases}
use Rattle.laws.proofs.Cells.{length_cells_down, cells_down_kept, cells_down_freed}
use Rattle.listing.proofs.PrintLaws.{Left, left_start, left_end, puts_append, rows_round}
use Rattle.listing.specs.declared.print.Page.{Page}
use Rattle.listing.specs.declared.print.Refused.{Refused}
use Rattle.listing.specs.Print.{Puts, refused_rows}
use Rattle.listing.specs.Listing.{listing_text}
use Rattle.listing.specs.Sections.{blocks_text, cells_of, cell_rows, chain_swept, free_text, is_occupied, occupied_in, tables_read}

-- ---- the free cells of one block

-- the census's parameters are good
pub fine : good_params census_params ≡ true
unfolding good_params power_of_two any_below lower_ok heap_end heap_bytes census_params
fine = refl

pub cells_first : (h : List ℕ) (t : Words) (b : Block) → cells_of h (first_cell census_params t b) ≡ free_chain census_params h b.0 t
unfolding cells_of first_cell free_chain
cells_first h t b = refl

-- the cells that a walk from the free head on meets are the chain
pub cells_begin : {w : ChainWalk} (h : List ℕ) (t : Words) (b : Block) → w ≡ first_cell census_params t b → cells_of h w ≡ free_chain census_params h b.0 t
cells_begin h t b e = rw e (cells_first h t b)

-- a walk under parameters that are the census's
pub first_here : {p : Params} {w : ChainWalk} (t : Words) (b : Block) → p ≡ census_params → w ≡ first_cell p t b → w ≡ first_cell census_params t b
first_here t b e f = f ∙ ap (λ (q : Params). first_cell q t b) e

module _ {p : Params} (w : ChainWalk) (e : p ≡ census_params) where
  pub more_here : {r y : Bool} → r ≡ more_cells p w → r ≡ y → more_cells census_params w ≡ y
  more_here f y = sym (f ∙ ap (λ (q : Params). more_cells q w) e) ∙ y

  pub next_here : {w' : ChainWalk} (h : List ℕ) → w' ≡ next_cell p h w → w' ≡ next_cell census_params h w
  next_here h f = f ∙ ap (λ (q : Params). next_cell q h w) e

module _ (h : List ℕ) (w : ChainWalk) where
  -- that the walk stands at a cell, but for the parameters, which are good
  stands : {y : Bool} → more_cells census_params w ≡ y → (ltb 0 w.left && is_cell census_params w.block.0 w.size w.at.0) ≡ y
  unfolding more_cells
  stands e = sym (ap (λ (g : Bool). g && ltb 0 w.left && is_cell census_params w.block.0 w.size w.at.0) fine) ∙ e

  pub cells_left : more_cells census_params w ≡ true → 0 < w.left
  cells_left e = ltb-true 0 w.left (and_left (ltb 0 w.left) _ (stands e))

  pub cells_fall : {w' : ChainWalk} → more_cells census_params w ≡ true → w' ≡ next_cell census_params h w → w'.left < w.left
  unfolding next_cell
  cells_fall y e = rw e (omega (arith, cells_left y))

  pub cells_more : more_cells census_params w ≡ true → cells_of h w ≡ w.at.0 ∷ cells_of h (next_cell census_params h w)
  unfolding cells_of next_cell chain_from
  cells_more e = go w.left (cells_left e) (and_right (ltb 0 w.left) _ (stands e))
    where
      go : (k : ℕ) → 0 < k → is_cell census_params w.block.0 w.size w.at.0 ≡ true
          → chain_from k census_params h w.block.0 w.size w.at.0
          ≡ w.at.0 ∷ chain_from (k - 1) census_params h w.block.0 w.size (load census_params h w.at.0)
      go zero l cell = absurd (not-suc-le-zero l)
      go (suc k) l cell = let d : suc k - 1 ≡ k = omega arith in rw (d, cell)

  pub cells_end : more_cells census_params w ≡ false → cells_of h w ≡ []
  unfolding cells_of chain_from
  cells_end e = go w.left (stands e)
    where
      go : (k : ℕ) → (ltb 0 k && is_cell census_params w.block.0 w.size w.at.0) ≡ false
          → chain_from k census_params h w.block.0 w.size w.at.0 ≡ []
      go zero f = refl
      go (suc k) f = rw (rw (lt-ltb 0 (suc k) (omega arith)) at f)

length_chain : (k : ℕ) (p : Params) (h : List ℕ) (b s a : ℕ) → length (chain_from k p h b s a) ≤ k
unfolding chain_from
length_chain zero p h b s a = omega arith
length_chain (suc k) p h b s a =
    let more : length (chain_from k p h b s (load p h a)) ≤ k = length_chain k p h b s (load p h a) in
    if_cases (λ (l : List ℕ). length l ≤ suc k) (is_cell p b s a) (λ t. omega arith) (λ t. omega arith)

-- a chain is no longer than a block of cells of one byte
pub chain_few : (t : Words) (h : List ℕ) (b : ℕ) → length (free_chain census_params h b t) ≤ 4096
unfolding free_chain cell_count census_params
chain_few t h b =
    omega (
      arith,
      length_chain (4096 / get_or t.size b 0) census_params h b (get_or t.size b 0) (get_or t.free b 0),
      div-le_self 4096 (get_or t.size b 0),
    )

-- a loop that prints them: the rows of those that are left, printed here, make all printed there
abbrev pub CellsLeft : List ℕ → List ℕ → ℕ → List ℕ → Page → Page → Type 0
CellsLeft words heap b rest p q =
    Left p q (flatten (cell_rows b (free_chain census_params heap b (view words)))) (flatten (cell_rows b rest))

module _ (words heap : List ℕ) (b : ℕ) {rest : List ℕ} {p q : Page} (left : CellsLeft words heap b rest p q) where
  pub cells_round : {x : ℕ} {rest' : List ℕ} {r : Page} → rest ≡ x ∷ rest' → Puts q r (spaced (decimal b ∷ decimal x ∷ [])) → CellsLeft words heap b rest' p r
  unfolding cell_rows
  cells_round {rest'} e put = rows_round _ (cell_rows b rest') (rw e at left) put

  pub cells_printed : rest ≡ [] → Puts p q (flatten (cell_rows b (free_chain census_params heap b (view words))))
  unfolding cell_rows flatten
  cells_printed z = left_end (rw z at left)

-- ---- the cells of one block that a sweep would free

-- of the lowest k cells of s bytes
abbrev pub swept_of : List ℕ → ℕ → ℕ → ℕ → List ℕ
swept_of marks b s k = cells_down (keeps census_params (marked census_params marks) s) (start census_params b) s k

-- of all of them: where the walk begins
pub swept_first : {w : ChainWalk} (words marks : List ℕ) (b : Block) → w ≡ first_cell census_params (view words) b
    → swept_of marks b.0 w.size w.left ≡ chain_swept words marks b.0
unfolding first_cell sweep_chain
swept_first words marks b e = rw e

-- the walk begins at the top of a block of cells of its size
pub walk_count : {w : ChainWalk} (words : List ℕ) (b : Block) → w ≡ first_cell census_params (view words) b → w.left ≡ cell_count census_params w.size
unfolding first_cell
walk_count words b e = rw e

pub count_few : {n : ℕ} (s : ℕ) → n ≡ cell_count census_params s → n ≤ 4096
unfolding cell_count census_params
count_few s e = omega (arith, e, div-le_self 4096 s)

module _ (marks : List ℕ) (b s k : ℕ) (l : k < cell_count census_params s) where
  pub cell_here : {p : Params} {a : ℕ} → p ≡ census_params → a ≡ cell_at p b s k → a ≡ start census_params b + k * s
  unfolding cell_at
  cell_here e f = f ∙ rw (e, fine, lt-ltb k (cell_count census_params s) l)

  frees_here : {p : Params} {r : Bool} → p ≡ census_params → r ≡ frees_cell p marks b s k
      → r ≡ not (keeps census_params (marked census_params marks) s (start census_params b + k * s))
  unfolding frees_cell
  frees_here e f = f ∙ rw (e, fine, lt-ltb k (cell_count census_params s) l)

  pub swept_yes : {p : Params} {r : Bool} → p ≡ census_params → r ≡ frees_cell p marks b s k → r ≡ true
      → swept_of marks b s (k + 1) ≡ (start census_params b + k * s) ∷ swept_of marks b s k
  swept_yes e f y = sym (cells_down_freed _ (start census_params b) s k refl (not-true _ (sym (frees_here e f) ∙ y)))

  pub swept_no : {p : Params} {r : Bool} → p ≡ census_params → r ≡ frees_cell p marks b s k → r ≡ false
      → swept_of marks b s (k + 1) ≡ swept_of marks b s k
  swept_no e f z = sym (cells_down_kept _ (start census_params b) s k refl (not-false _ (sym (frees_here e f) ∙ z)))

-- how many of the lowest k a sweep would free
range_last : (a n : ℕ) → range_with_len a (suc n) ≡ range_with_len a n ++ ((a + n) ∷ [])
range_last a zero = let e : a ≡ a + 0 = omega arith in ap (λ (x : ℕ). x ∷ []) e
range_last a (suc n) = let e : a + 1 + n ≡ a + suc n = omega arith in ap (λ (xs : List ℕ). a ∷ xs) (range_last (a + 1) n ∙ rw e)

module _ (marks : List ℕ) (b s : ℕ) where
  freed_below : (k : ℕ) → k ≤ cell_count census_params s → count_by (frees_cell census_params marks b s) (range_with_len 0 k) ≡ length (swept_of marks b s k)
  unfolding cells_down
  freed_below zero l = refl
  freed_below (suc k) l =
      let z : 0 + k ≡ k = omega arith in
      rw (range_last 0 k, z, sum_by_push (λ (i : ℕ). cond (frees_cell census_params marks b s i) 1 0))
      (go (test (frees_cell census_params marks b s k)) (freed_below k (omega arith)))
    where
      go : (frees_cell census_params marks b s k ≡ true) ⊎ (frees_cell census_params marks b s k ≡ false)
          → count_by (frees_cell census_params marks b s) (range_with_len 0 k) ≡ length (swept_of marks b s k)
          → count_by (frees_cell census_params marks b s) (range_with_len 0 k) + cond (frees_cell census_params marks b s k) 1 0 ≡ length (swept_of marks b s (suc k))
      go (inl y) e = rw y (omega (arith, e, ap length (rw add-one at (swept_yes marks b s k (omega arith) refl refl y))))
      go (inr z) e = rw z (omega (arith, e, ap length (rw add-one at (swept_no marks b s k (omega arith) refl refl z))))

-- all of them
pub swept_count : {w : ChainWalk} {p : Params} {n : ℕ} (words marks : List ℕ) (b : Block) → p ≡ census_params → w ≡ first_cell p (view words) b
    → n ≡ length (kept_by (λ k. frees_cell p marks b.0 w.size k) (range_with_len 0 w.left)) → n ≡ length (chain_swept words marks b.0)
swept_count {w} words marks b e f q =
    let g : w ≡ first_cell census_params (view words) b = first_here (view words) b e f in
    (rw (e, length-filter (λ (k : ℕ). frees_cell census_params marks b.0 w.size k) (range_with_len 0 w.left)) at q) ∙ freed_below marks b.0 w.size w.left (omega (arith, walk_count words b g)) ∙ ap length (swept_first words marks b g)

-- of no cells
swept_none : (marks : List ℕ) (b s : ℕ) {k : ℕ} → k ≡ 0 → swept_of marks b s k ≡ []
unfolding cells_down
swept_none marks b s q = rw q

-- a loop that prints them: of the rows of the lowest n₀ cells, those of the lowest k are left
pub record SweptLeft (marks : List ℕ) (b s n₀ k : ℕ) (p q : Page) : Type 0 where
  pub rows : Left p q (flatten (cell_rows b (swept_of marks b s n₀))) (flatten (cell_rows b (swept_of marks b s k)))
  pub few : k ≤ n₀

module _ (marks : List ℕ) (b s n₀ k : ℕ) {p q : Page} (c : SweptLeft marks b s n₀ k p q) (e : n₀ ≡ cell_count census_params s) (l : 0 < k) where
  below : k - 1 < cell_count census_params s
  below = omega (arith, c.few, e, l)

  -- with the highest of them in sight
  split : Left p q (flatten (cell_rows b (swept_of marks b s n₀))) (flatten (cell_rows b (swept_of marks b s ((k - 1) + 1))))
  split = let q : (k - 1) + 1 ≡ k = omega (arith, l) in rw q c.rows

  pub swept_put : {ps : Params} {y : Bool} {a : ℕ} {r : Page} → ps ≡ census_params → y ≡ frees_cell ps marks b s (k - 1) → y ≡ true
      → a ≡ cell_at ps b s (k - 1) → Puts q r (spaced (decimal b ∷ decimal a ∷ [])) → SweptLeft marks b s n₀ (k - 1) p r
  unfolding cell_rows
  swept_put ep f y ea put =
      record {
        rows = rows_round _ (cell_rows b (swept_of marks b s (k - 1))) (rw (swept_yes marks b s (k - 1) below ep f y) at split)
            (rw (cell_here marks b s (k - 1) below ep ea) at put);
        few = omega (arith, c.few);
      }

  pub swept_over : {ps : Params} {y : Bool} → ps ≡ census_params → y ≡ frees_cell ps marks b s (k - 1) → y ≡ false
      → SweptLeft marks b s n₀ (k - 1) p q
  swept_over ep f z =
      record { rows = rw (swept_no marks b s (k - 1) below ep f z) at split; few = omega (arith, c.few) }

pub swept_end : {w : ChainWalk} (words marks : List ℕ) (b : Block) (k : ℕ) {p q : Page} → w ≡ first_cell census_params (view words) b
    → SweptLeft marks b.0 w.size w.left k p q → k ≤ 0 → Puts p q (flatten (cell_rows b.0 (chain_swept words marks b.0)))
unfolding cell_rows flatten
swept_end {w} words marks b k e c z =
    let low : k ≡ 0 = omega (arith, z) in
    rw (← swept_first words marks b e) (left_end (rw (low, swept_none marks b.0 w.size {k = 0} refl) at c.rows))

-- ---- which of the two is printed

-- by the letter of the list
module _ (w : Words) (b : ℕ) {l : ℕ} (e : l ≡ letter (set_named w b)) where
  pub awaits_local : l ≡ 85 → true ≡ awaits_sweep w b
  unfolding awaits_sweep member
  awaits_local f = rw (← e, f)

  pub awaits_abandoned : l ≡ 117 → true ≡ awaits_sweep w b
  unfolding awaits_sweep member
  awaits_abandoned f = rw (← e, f)

  pub awaits_gc : l ≡ 103 → true ≡ awaits_sweep w b
  unfolding awaits_sweep member
  awaits_gc f = rw (← e, f)

  pub awaits_none : l ≢ 85 → l ≢ 117 → l ≢ 103 → false ≡ awaits_sweep w b
  unfolding awaits_sweep member
  awaits_none f g i = rw (← e, ne_eqb l 85 f, ne_eqb l 117 g, ne_eqb l 103 i)

module _ (words states marks heap : List ℕ) (b : ℕ) where
  pub printed_swept : awaits_sweep (view words) b ≡ true → printed_chain (tables_read words states marks) heap b ≡ chain_swept words marks b
  unfolding printed_chain tables_read
  printed_swept y = rw y

  pub printed_standing : awaits_sweep (view words) b ≡ false → printed_chain (tables_read words states marks) heap b ≡ free_chain census_params heap b (view words)
  unfolding printed_chain tables_read
  printed_standing z = rw z

  pub rows_printed : {chain : List ℕ} → printed_chain (tables_read words states marks) heap b ≡ chain
      → flatten (cell_rows b chain) ≡ flatten (free_rows (tables_read words states marks) heap b)
  unfolding free_rows cell_rows
  rows_printed e = rw e

-- no more than a block of cells of one byte has
pub printed_few : (words marks heap : List ℕ) (b : ℕ) → length (printed_chain (tables_read words [] marks) heap b) ≤ 4096
unfolding printed_chain tables_read sweep_chain
printed_few words marks heap b =
    if_cases (λ (l : List ℕ). length l ≤ 4096) (awaits_sweep (view words) b)
    (λ y. let s : ℕ = get_or (view words).size b 0 in omega (arith, length_cells_down (keeps census_params (marked census_params marks) s) (start census_params b) s (cell_count census_params s), count_few s refl))
    (λ z. chain_few (view words) heap b)

-- ---- a loop over the numbers below n that pass a test: those from i on

unfoldable pub passing : (ℕ → Bool) → ℕ → ℕ → List ℕ
passing f n i = filter f (drop i (up_to n))

length_up_to : (n : ℕ) → length (up_to n) ≡ n
unfolding up_to
length_up_to zero = refl
length_up_to (suc n) = simp length-append (omega (arith, length_up_to n))

up_to_at : (n i : ℕ) → i < n → get_or (up_to n) i 0 ≡ i
unfolding up_to
up_to_at zero i l = absurd (not-suc-le-zero l)
up_to_at (suc n) i l =
    ⊎_elim (λ e. rw e (get_or_at (up_to n) n [] 0 n (length_up_to n)))
    (λ k. get_or-append (up_to n) (n ∷ []) 0 i (rw (length_up_to n) k) ∙ up_to_at n i k) (below_last i n l)

up_to_drop : (n i : ℕ) → i < n → drop i (up_to n) ≡ i ∷ drop (i + 1) (up_to n)
up_to_drop n i l =
    drop-cons (up_to n) i 0 (rw (length_up_to n) l) ∙ rw (up_to_at n i l, add-one i)

module _ (f : ℕ → Bool) (n i : ℕ) where
  pub passing_yes : i < n → f i ≡ true → passing f n i ≡ i ∷ passing f n (i + 1)
  unfolding passing filter
  passing_yes l e = rw (up_to_drop n i l, e)

  pub passing_no : i < n → f i ≡ false → passing f n i ≡ passing f n (i + 1)
  unfolding passing filter
  passing_no l e = rw (up_to_drop n i l, e)

  pub passing_end : n ≤ i → passing f n i ≡ []
  unfolding passing filter
  passing_end l =
      let past : length (up_to n) ≤ i = rw (length_up_to n) l in
      rw (drop_of_length-le (up_to n) past)

pub passing_all : (f : ℕ → Bool) (n : ℕ) → passing f n 0 ≡ filter f (up_to n)
unfolding passing
passing_all f n = refl

-- ---- what is counted over them

-- those that pass, by the library's word
same_filter : (f : ℕ → Bool) (xs : List ℕ) → kept_by f xs ≡ filter f xs
unfolding filter
same_filter f [] = refl
same_filter f (x ∷ xs) = go (f x) (same_filter f xs)
  where
    go : (b : Bool) → kept_by f xs ≡ filter f xs → (if b then (x ∷ kept_by f xs) else kept_by f xs) ≡ (if b then (x ∷ filter f xs) else filter f xs)
    go true e = ap (λ (ys : List ℕ). x ∷ ys) e
    go false e = e

-- ---- what such a loop prints: the text g b for each b

abbrev pub texts : (ℕ → List ℕ) → List ℕ → List ℕ
texts g bs = flatten (map g bs)

abbrev pub TextsLeft : (ℕ → Bool) → (ℕ → List ℕ) → ℕ → Page → Page → ℕ → Type 0
TextsLeft f g n p q i = Left p q (texts g (filter f (up_to n))) (texts g (passing f n i))

pub texts_start : (f : ℕ → Bool) (g : ℕ → List ℕ) (n : ℕ) (p : Page) → TextsLeft f g n p p 0
texts_start f g n p = rw (passing_all f n) (left_start p _)

module _ (f : ℕ → Bool) (g : ℕ → List ℕ) (n : ℕ) {p q : Page} (i : ℕ) (left : TextsLeft f g n p q i) where
  pub texts_yes : {r : Page} → i < n → f i ≡ true → Puts q r (g i) → TextsLeft f g n p r (i + 1)
  texts_yes l y put = rows_round (g i) (map g (passing f n (i + 1))) (rw (passing_yes f n i l y) at left) put

  pub texts_no : i < n → f i ≡ false → TextsLeft f g n p q (i + 1)
  texts_no l z = rw (passing_no f n i l z) at left

  pub texts_end : n ≤ i → Puts p q (texts g (filter f (up_to n)))
  unfolding flatten
  texts_end l = left_end (rw (passing_end f n i l) at left)

-- ---- the blocks that are not Unallocated, by their state bytes

occupied_in_lem : (words states marks : List ℕ) → occupied (tables_read words states marks) ≡ occupied_in states
unfolding occupied tables_read state_of is_occupied occupied_in census_params
occupied_in_lem words states marks = refl

pub blocks_section : (words states : List ℕ)
    → section (98 ∷ 108 ∷ 111 ∷ 99 ∷ 107 ∷ 115 ∷ []) (map (block_row (tables_read words states [])) (occupied_in states))
    ≡ blocks_text words states
unfolding blocks_text
blocks_section words states = rw (occupied_in_lem words states [])

phase_read : (words states marks : List ℕ) → (tables_read words states marks).words.phase ≡ (view words).phase
unfolding tables_read
phase_read words states marks = refl

module _ (words states marks heap : List ℕ) {phase : ℕ} (e : phase ≡ (view words).phase) where
  rows_then : phase ≢ 1
      → free_section (tables_read words states marks) heap ≡ flat_map (free_rows (tables_read words states marks) heap) (occupied (tables_read words states marks))
  unfolding free_section
  rows_then f = rw (phase_read words states marks, ne_eqb (view words).phase 1 (λ q. f (e ∙ q)))

  pub free_section_lem : phase ≢ 1
      → section (102 ∷ 114 ∷ 101 ∷ 101 ∷ []) (flat_map (free_rows (tables_read words states marks) heap) (occupied_in states))
      ≡ free_text words states marks heap
  unfolding free_text
  free_section_lem f =
      ap (λ (bs : List ℕ). section (102 ∷ 114 ∷ 101 ∷ 101 ∷ []) (flat_map (free_rows (tables_read words states marks) heap) bs)) (sym (occupied_in_lem words states marks))
      ∙ ap (section (102 ∷ 114 ∷ 101 ∷ 101 ∷ [])) (sym (rows_then f))

  pub free_none : phase ≡ 1 → spaced ((102 ∷ 114 ∷ 101 ∷ 101 ∷ []) ∷ decimal 0 ∷ []) ≡ free_text words states marks heap
  unfolding free_text free_section section flatten
  free_none f =
      rw (phase_read words states marks, eq-eqb (view words).phase 1 (sym e ∙ f)) (sym (append-nil _))

-- ---- their rows

-- how many pass, by the library's words
count_filter : (f : ℕ → Bool) (xs : List ℕ) → count_by f xs ≡ length (filter f xs)
unfolding filter
count_filter f xs = sym (is_count_by (λ ys. length (filter f ys)) f refl (λ x ys. go (f x) (filter f ys) x) xs)
  where
    go : (b : Bool) (l : List ℕ) (x : ℕ) → length (if b then (x ∷ l) else l) ≡ cond b (1 + length l) (length l)
    go true l x = omega arith
    go false l x = refl

occupied_count : (states : List ℕ) → count_by (λ b. is_occupied states b) (range_with_len 0 4) ≡ length (occupied_in states)
unfolding occupied_in up_to
occupied_count states = count_filter (is_occupied states) (up_to 4)

pub blocks_count : (words states : List ℕ) {n : ℕ} → n ≡ count_by (λ b. is_occupied states b) (range_with_len 0 4)
    → n ≡ length (map (block_row (tables_read words states [])) (occupied_in states))
blocks_count words states e = e ∙ occupied_count states ∙ sym (length-map (occupied_in states) (block_row (tables_read words states [])))

-- a row from what was read
module _ (words states : List ℕ) (b : ℕ) {state size set list holder : ℕ} where
  pub block_text : state ≡ get_or states b 0 → size ≡ get_or (view words).size b 0 → set ≡ set_named (view words) b
      → list ≡ letter set → holder ≡ get_or (view words).tls b 0
      → spaced (decimal b ∷ decimal state ∷ decimal size ∷ (list ∷ []) ∷ decimal holder ∷ [])
      ≡ block_row (tables_read words states []) b
  unfolding block_row tables_read state_of
  block_text st si se li ho = rw (st, si, li, se, ho)

-- ---- the rows of their free cells

-- of the block b: how many, and their text; its state is not looked at
abbrev pub cells_in : List ℕ → List ℕ → List ℕ → ℕ → ℕ
cells_in words marks heap b = length (printed_chain (tables_read words [] marks) heap b)

abbrev pub cell_text : List ℕ → List ℕ → List ℕ → ℕ → List ℕ
cell_text words marks heap b = flatten (free_rows (tables_read words [] marks) heap b)

pub flatten_append : (xs ys : List (List ℕ)) → flatten (xs ++ ys) ≡ flatten xs ++ flatten ys
unfolding flatten
flatten_append [] ys = refl
flatten_append (x ∷ xs) ys = rw (flatten_append xs ys) (sym (append_assoc x (flatten xs) (flatten ys)))

module _ (words states marks heap : List ℕ) where
  pub total_cells : (bs : List ℕ) → sum_by (cells_in words marks heap) bs ≡ length (flat_map (free_rows (tables_read words states marks) heap) bs)
  unfolding flat_map free_rows tables_read printed_chain
  total_cells [] = refl
  total_cells (b ∷ bs) = rw (sum_by-cons, total_cells bs, length-append, length-map)

  pub texts_cells : (bs : List ℕ) → texts (cell_text words marks heap) bs ≡ flatten (flat_map (free_rows (tables_read words states marks) heap) bs)
  unfolding flatten flat_map free_rows tables_read printed_chain
  texts_cells [] = refl
  texts_cells (b ∷ bs) = rw (texts_cells bs) (sym (flatten_append (free_rows (tables_read words states marks) heap b) _))

-- how many there are, over the blocks that are occupied, and that they are few
few_cells : (words marks heap bs : List ℕ) → sum_by (cells_in words marks heap) bs ≤ length bs * 4096
few_cells words marks heap [] = omega arith
few_cells words marks heap (b ∷ bs) =
    rw (sum_by-cons, suc-mul) (omega (arith, few_cells words marks heap bs, printed_few words marks heap b))

abbrev pub occupied_kept : List ℕ → List ℕ
occupied_kept states = kept_by (is_occupied states) (range_with_len 0 4)

occupied_same : (states : List ℕ) → occupied_kept states ≡ occupied_in states
unfolding occupied_in up_to
occupied_same states = same_filter (is_occupied states) (up_to 4)

pub cells_fit : (words states marks heap : List ℕ) → sum_by (cells_in words marks heap) (occupied_kept states) < 2 ^ 64
cells_fit words states marks heap =
    omega (
      arith,
      few_cells words marks heap (occupied_kept states),
      length-filter (is_occupied states) (range_with_len 0 4),
      count_by-le-length (is_occupied states) (range_with_len 0 4),
    )

pub cells_counted : (words states marks heap : List ℕ) {n : ℕ} → n ≡ sum_by (cells_in words marks heap) (occupied_kept states)
    → n ≡ length (flat_map (free_rows (tables_read words states marks) heap) (occupied_in states))
cells_counted words states marks heap e = e ∙ rw (occupied_same states) (total_cells words states marks heap (occupied_in states))

-- ---- the whole listing

-- put one behind the other, and the buffer then handed back
pub three_put : {p q r z : Page} {h : List ℕ} (refused : List Refused) (words states marks heap : List ℕ) → p.at ≡ 0
    → Puts p q (section (114 ∷ 101 ∷ 102 ∷ 117 ∷ 115 ∷ 101 ∷ 100 ∷ []) (refused_rows refused))
    → Puts q r (blocks_text words states) → Puts r z (free_text words states marks heap)
    → (p.bytes.ghost_name ≡ z.bytes.ghost_name → h ≡ z.bytes.now)
    → Printed p.bytes.now h 0 z.at (listing_text refused words states marks heap)
unfolding listing_text
three_put refused words states marks heap e a b c back =
    let all = puts_append a (puts_append b c) in rw (e, ← back (sym all.same_reference)) at all.printed
