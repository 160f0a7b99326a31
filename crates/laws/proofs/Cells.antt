-- Whole cells of a block, chains of them, and a chain that stands in the heap. Leans on the laws of bytes and of blocks'
-- places; assumes nothing.
use Rattle.std.specs.Prelude.{if◌then◌else◌}
use mathlib.Core.Path.{◌≡◌, refl, sym, ap, ◌∙◌, subst}
use mathlib.Core.Logic.{◌≢◌, ◌⊎◌, inl, inr, ⊎_elim}
use mathlib.Core.Bool.{Bool, true, false, ◌&&◌}
use mathlib.Core.List.{List, [], ◌∷◌, head_d}
use Prim.Native.Nat.{ℕ, zero, suc, ◌+◌, ◌-◌, ◌*◌, ◌/◌, ◌%◌, ◌^◌, ◌≤◌, ◌<◌}
use native.Mathlib.Nat.{not-suc-le-zero, mul-le-mul_right, suc-mul, div-add-mod', mul-mod_left, le-div_iff_mul-le, div-mul-le_self}
use native.Mathlib.Decide.{dec_lt}
use native.Mathlib.Numerals.{add-one}
use native.Mathlib.Omega.{arith}
use lib.Dec.{eqb, ltb, leb}
use lib.ListN.{length}
use borrow.Author.Tests.{leb-true, eqb-true, lt-ltb, le-leb, lt-leb, eq-eqb}
use Rattle.model.specs.declared.Params.{Params}
use Rattle.model.specs.Base.{In, Pairwise}
use Rattle.model.specs.Params.{start, block_at, heap_bytes}
use Rattle.model.specs.Memory.{load, store}
use Rattle.model.specs.Block.{cell_count, is_cell, cells_down, link_all, ChainStands}
use Rattle.laws.proofs.Below.{and_four, and_both}
use Rattle.laws.proofs.Base.{if_cases, below_last, pairwise_more}
use Rattle.laws.proofs.Params.{Bounds, start_in, start_end, block_at_within}
use Rattle.laws.proofs.Memory.{Apart, Same, same_trans, same_store, length_store, load_store, load_same}

-- ---- whole cells

-- a is the k-th whole cell of s bytes of the block b
pub record Whole (p : Params) (b s a : ℕ) : Type 0 where
  pub k : ℕ
  pub at : a ≡ start p b + k * s
  pub word : 8 ≤ s
  pub fits : k * s + s ≤ p.bytes

pub whole_is_cell : (p : Params) (b s a : ℕ) → Whole p b s a → is_cell p b s a ≡ true
unfolding is_cell
whole_is_cell p b s a w =
    let d : a - start p b ≡ w.k * s = omega (arith, w.at) in
    and_both
    (and_both
    (and_both (lt-ltb 0 s (omega (arith, w.word))) (le-leb (start p b) a (omega (arith, w.at))))
    (rw d (eq-eqb (w.k * s % s) 0 (mul-mod_left w.k s))))
    (rw d (le-leb (w.k * s + s) p.bytes w.fits))

pub is_cell_whole : (p : Params) (b s a : ℕ) → 8 ≤ s → is_cell p b s a ≡ true → Whole p b s a
unfolding is_cell
is_cell_whole p b s a word e =
    let r = and_four (ltb 0 s) (leb (start p b) a) (eqb ((a - start p b) % s) 0) (leb ((a - start p b) + s) p.bytes) e in
    let l : start p b ≤ a = leb-true (start p b) a r.1 in
    let z : (a - start p b) % s ≡ 0 = eqb-true ((a - start p b) % s) 0 r.2 in
    let f : (a - start p b) + s ≤ p.bytes = leb-true ((a - start p b) + s) p.bytes r.3 in
    let d : (a - start p b) / s * s + (a - start p b) % s ≡ a - start p b = div-add-mod' (a - start p b) s in
    record { k = (a - start p b) / s; at = omega arith; word = word; fits = omega arith }

-- less, equal or more
pub tri : (a b : ℕ) → (a < b) ⊎ ((a ≡ b) ⊎ (b < a))
tri a b = go (dec_lt a b) (dec_lt b a)
  where
    go : Dec (a < b) → Dec (b < a) → (a < b) ⊎ ((a ≡ b) ⊎ (b < a))
    go (yes l) d = inl l
    go (no f) (yes g) = inr (inr g)
    go (no f) (no g) = inr (inl (omega arith))

-- of two cells of one size in one block the lower ends before the higher starts
below_apart : (f s k m : ℕ) → k < m → (f + k * s) + s ≤ f + m * s
below_apart f s k m l = omega (arith, mul-le-mul_right {m = suc k} {n = m} s l, suc-mul k s)

same_block : (p : Params) (b s a a' : ℕ) → Whole p b s a → Whole p b s a' → a ≢ a' → Apart a s a' s
same_block p b s a a' w w' ne = go (tri w.k w'.k)
  where
    go : (w.k < w'.k) ⊎ ((w.k ≡ w'.k) ⊎ (w'.k < w.k)) → Apart a s a' s
    go (inl l) = inl (omega (arith, below_apart (start p b) s w.k w'.k l, w.at, w'.at))
    go (inr (inl e)) = absurd (ne (w.at ∙ ap (λ (x : ℕ). start p b + x * s) e ∙ sym w'.at))
    go (inr (inr l)) = inr (omega (arith, below_apart (start p b) s w'.k w.k l, w.at, w'.at))

other_block : (p : Params) (b s a b' s' a' : ℕ) → b < b' → b' < p.blocks → Whole p b s a → Whole p b' s' a' → a + s ≤ a'
other_block p b s a b' s' a' l h w w' =
    omega (arith, below_apart p.base p.bytes b b' l, start_in p b (omega arith), start_in p b' h, w.at, w.fits, w'.at)

-- two whole cells, of one size if of one block, meet only if they are one
pub whole_apart : (p : Params) (b s a b' s' a' : ℕ) → b < p.blocks → b' < p.blocks → Whole p b s a → Whole p b' s' a'
    → (b ≡ b' → s ≡ s') → a ≢ a' → Apart a s a' s'
whole_apart p b s a b' s' a' hb hb' w w' same ne = go (tri b b')
  where
    go : (b < b') ⊎ ((b ≡ b') ⊎ (b' < b)) → Apart a s a' s'
    go (inl l) = inl (other_block p b s a b' s' a' l hb' w w')
    go (inr (inl e)) =
        subst (λ (x : ℕ). Apart a s a' x) (same e)
        (same_block p b s a a' w
        (subst (λ (x : ℕ). Whole p b x a') (sym (same e)) (subst (λ (x : ℕ). Whole p x s' a') (sym e) w')) ne)
    go (inr (inr l)) = inr (other_block p b' s' a' b s a l hb w' w)

module _ (p : Params) (g : Bounds p) (b s a : ℕ) (h : b < p.blocks) (w : Whole p b s a) where
  pub whole_from_lem : p.base ≤ a
  whole_from_lem = omega (arith, start_in p b h, w.at)

  pub whole_to : a + s ≤ p.base + p.blocks * p.bytes
  whole_to = omega (arith, start_end p g b h, w.at, w.fits)

  -- every byte of a whole cell lies in its block, and so in the heap
  pub whole_block : (i : ℕ) → i < s → block_at p (a + i) ≡ b
  whole_block i l =
      let e : a + i ≡ start p b + (w.k * s + i) = omega (arith, w.at) in
      rw e (block_at_within p g b (w.k * s + i) h (omega (arith, w.fits)))

  pub whole_block_at : block_at p a ≡ b
  whole_block_at = let e : a + 0 ≡ a = omega arith in rw e at (whole_block 0 (omega (arith, w.word)))

  pub whole_nonzero : 0 < a
  whole_nonzero = omega (arith, whole_from_lem, g.base_low)

-- ---- chains

-- address 0 is no cell of a block that stands above it
pub no_cell : (p : Params) (b s : ℕ) → 0 < start p b → is_cell p b s 0 ≡ false
unfolding is_cell
no_cell p b s z = rw (lt-leb (start p b) 0 z) (none (ltb 0 s) _ _)
  where
    none : (x y z : Bool) → (x && false && y && z) ≡ false
    none true y z = refl
    none false y z = refl

-- each element lies s or more above every later one
abbrev pub Desc : ℕ → List ℕ → Type 0
Desc s l = Pairwise (λ x y. y + s ≤ x) l

pub desc_less : (s t : ℕ) (l : List ℕ) → t ≤ s → Desc s l → Desc t l
desc_less s t l le d = pairwise_more (λ x y. y + s ≤ x) (λ x y. y + t ≤ x) l (λ x y r. omega arith) d

-- a is one of the n cells of s bytes from `from` on, and is not kept
pub record Free (kept : ℕ → Bool) (from s n a : ℕ) : Type 0 where
  pub k : ℕ
  pub low : k < n
  pub at : a ≡ from + k * s
  pub free : kept a ≡ false

free_more : (kept : ℕ → Bool) (from s n a : ℕ) → Free kept from s n a → Free kept from s (suc n) a
free_more kept from s n a f = record { k = f.k; low = omega (arith, f.low); at = f.at; free = f.free }

pub in_cells_down : (kept : ℕ → Bool) (from s n a : ℕ) → In a (cells_down kept from s n) → Free kept from s n a
unfolding cells_down In
in_cells_down kept from s zero a m = absurd m
in_cells_down kept from s (suc n) a m = go (kept (from + n * s)) refl m (in_cells_down kept from s n a)
  where
    go : (t : Bool) → kept (from + n * s) ≡ t
        → In a (if t then cells_down kept from s n else ((from + n * s) ∷ cells_down kept from s n))
        → (In a (cells_down kept from s n) → Free kept from s n a) → Free kept from s (suc n) a
    go true e m' ih = free_more kept from s n a (ih m')
    go false e (inl q) ih = record { k = n; low = omega arith; at = q; free = ap kept q ∙ e }
    go false e (inr m') ih = free_more kept from s n a (ih m')

pub cells_down_in : (kept : ℕ → Bool) (from s n a : ℕ) → Free kept from s n a → In a (cells_down kept from s n)
unfolding cells_down In
cells_down_in kept from s zero a f = absurd (not-suc-le-zero f.low)
cells_down_in kept from s (suc n) a f =
    ⊎_elim
    (λ q. let e : a ≡ from + n * s = f.at ∙ ap (λ (x : ℕ). from + x * s) q in
    rw (ap kept (sym e) ∙ f.free) (inl e))
    (λ l. let m : In a (cells_down kept from s n) = cells_down_in kept from s n a (record { k = f.k; low = l; at = f.at; free = f.free }) in
    if_cases (λ (c : List ℕ). In a c) (kept (from + n * s)) (λ t. m) (λ t. inr m))
    (below_last f.k n f.low)

pub desc_cells_down : (kept : ℕ → Bool) (from s n : ℕ) → Desc s (cells_down kept from s n)
unfolding cells_down Pairwise
desc_cells_down kept from s zero = tt
desc_cells_down kept from s (suc n) =
    let ih : Desc s (cells_down kept from s n) = desc_cells_down kept from s n in
    if_cases (λ (c : List ℕ). Desc s c) (kept (from + n * s)) (λ t. ih)
    (λ t. (
      (λ y m. let f : Free kept from s n y = in_cells_down kept from s n y m in
          omega (arith, f.at, below_apart from s f.k n f.low)),
      ih,
    ))

pub length_cells_down : (kept : ℕ → Bool) (from s n : ℕ) → length (cells_down kept from s n) ≤ n
unfolding cells_down
length_cells_down kept from s zero = omega arith
length_cells_down kept from s (suc n) =
    let ih : length (cells_down kept from s n) ≤ n = length_cells_down kept from s n in
    if_cases (λ (c : List ℕ). length c ≤ suc n) (kept (from + n * s)) (λ t. omega arith) (λ t. omega arith)

-- all of them, where none is kept
pub length_all : (from s n : ℕ) → length (cells_down (λ a. false) from s n) ≡ n
unfolding cells_down
length_all from s zero = refl
length_all from s (suc n) = ap suc (length_all from s n)

-- one cell more, kept or not
pub cells_down_kept : (kept : ℕ → Bool) (from s k : ℕ) {a : ℕ} → a ≡ from + k * s → kept a ≡ true
    → cells_down kept from s k ≡ cells_down kept from s (k + 1)
unfolding cells_down
cells_down_kept kept from s k e t = rw (add-one k, ap kept (sym e) ∙ t)

pub cells_down_freed : (kept : ℕ → Bool) (from s k : ℕ) {a : ℕ} → a ≡ from + k * s → kept a ≡ false
    → (a ∷ cells_down kept from s k) ≡ cells_down kept from s (k + 1)
unfolding cells_down
cells_down_freed kept from s k e t = rw (add-one k, ap kept (sym e) ∙ t, e)

-- the cells of a block that are not kept: what a sweep or an init links
module _ (p : Params) (kept : ℕ → Bool) (b s a : ℕ) where
  pub in_chain : 8 ≤ s → In a (cells_down kept (start p b) s (cell_count p s)) → Whole p b s a × (kept a ≡ false)
  unfolding cell_count
  in_chain word m =
      let f : Free kept (start p b) s (p.bytes / s) a = in_cells_down kept (start p b) s (p.bytes / s) a m in (
        record {
          k = f.k;
          at = f.at;
          word = word;
          fits = omega (arith, mul-le-mul_right {m = suc f.k} {n = p.bytes / s} s f.low, suc-mul f.k s, div-mul-le_self p.bytes s);
        },
        f.free,
      )

  pub chain_in : Whole p b s a → kept a ≡ false → In a (cells_down kept (start p b) s (cell_count p s))
  unfolding cell_count
  chain_in w e =
      let room : suc w.k * s ≤ p.bytes = omega (arith, suc-mul w.k s, w.fits) in
      cells_down_in kept (start p b) s (p.bytes / s) a
      (record { k = w.k; low = (le-div_iff_mul-le {k = s} (omega (arith, w.word))).1 room; at = w.at; free = e })

-- ---- a chain in the heap

-- every cell of the list has its first word in the heap h
abbrev pub Placed : Params → List ℕ → List ℕ → Type 0
Placed p h l = (x : ℕ) → In x l → (p.base ≤ x) × ((x - p.base) + 8 ≤ length h) × (x < 2 ^ 64)

pub length_link_all : (p : Params) (l h : List ℕ) → length (link_all p l h) ≡ length h
unfolding link_all
length_link_all p [] h = refl
length_link_all p (a ∷ l) h = length_store p (link_all p l h) a (head_d l 0) ∙ length_link_all p l h

-- linking writes the first words of the chain's cells, and nothing else
pub same_link_all : (p : Params) (l h : List ℕ) (j m : ℕ) → ((x : ℕ) → In x l → Apart (x - p.base) 8 j m) → Same h (link_all p l h) j m
unfolding link_all In
same_link_all p [] h j m w = λ k lo hi. refl
same_link_all p (a ∷ l) h j m w =
    same_trans h (link_all p l h) (store p (link_all p l h) a (head_d l 0)) j m
    (same_link_all p l h j m (λ x i. w x (inr i)))
    (same_store p (link_all p l h) a (head_d l 0) j m (w a (inl refl)))

-- a chain stands on where the bytes of its first words stay
pub stands_frame : (p : Params) (h h' : List ℕ) (a : ℕ) (l : List ℕ) → ((x : ℕ) → In x l → Same h h' (x - p.base) 8)
    → ChainStands p h a l → ChainStands p h' a l
unfolding ChainStands In
stands_frame p h h' a [] s c = c
stands_frame p h h' a (x ∷ l) s c = (
  c.0,
  subst (λ (v : ℕ). ChainStands p h' v l) (load_same p h h' x (s x (inl refl)))
      (stands_frame p h h' (load p h x) l (λ y i. s y (inr i)) c.1),
)

head_small : (p : Params) (h l : List ℕ) → Placed p h l → head_d l 0 < 2 ^ 64
unfolding head_d In
head_small p h [] w = omega arith
head_small p h (x ∷ l) w = (w x (inl refl)).2

-- what linking makes: the chain stands
pub stands_link_all : (p : Params) (l h : List ℕ) → Placed p h l → Desc 8 l → ChainStands p (link_all p l h) (head_d l 0) l
unfolding ChainStands link_all head_d In Pairwise
stands_link_all p [] h w d = refl
stands_link_all p (x ∷ l) h w d =
    let rest : ChainStands p (link_all p l h) (head_d l 0) l = stands_link_all p l h (λ y i. w y (inr i)) d.1 in
    let len : length (link_all p l h) ≡ length h = length_link_all p l h in
    let fit : (x - p.base) + 8 ≤ length (link_all p l h) = omega (arith, (w x (inl refl)).1) in
    let e : load p (store p (link_all p l h) x (head_d l 0)) x ≡ head_d l 0 = load_store p (link_all p l h) x (head_d l 0) fit (head_small p h l (λ y i. w y (inr i))) in (
      refl,
      rw e (stands_frame p (link_all p l h) (store p (link_all p l h) x (head_d l 0)) (head_d l 0) l
          (λ y i. same_store p (link_all p l h) x (head_d l 0) (y - p.base) 8
          (inr (omega (arith, d.0 y i, (w y (inr i)).0)))) rest),
    )

-- the chain of a block with these cells is placed in a heap of the right length
pub whole_placed : (p : Params) (h : List ℕ) (b s : ℕ) (l : List ℕ) → Bounds p → length h ≡ heap_bytes p → b < p.blocks
    → ((x : ℕ) → In x l → Whole p b s x) → Placed p h l
unfolding heap_bytes
whole_placed p h b s l g e lt w x i =
    let c : Whole p b s x = w x i in
    let from : p.base ≤ x = whole_from_lem p g b s x lt c in
    let to : x + s ≤ p.base + p.blocks * p.bytes = whole_to p g b s x lt c in
    (from, omega (arith, c.word, e), omega (arith, g.end_high, c.word))
