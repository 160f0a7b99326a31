-- Laws of the test of tables, on what it is lent: unions of words, words of blocks, the block size, whole sets of lists. Assumes nothing.
use Prim.Native.Nat.{ℕ, zero, suc, ◌+◌, ◌-◌, ◌*◌, ◌/◌, ◌^◌, ◌<◌, ◌≤◌}
use mathlib.Core.Path.{◌≡◌, refl, sym, ap, ◌∙◌}
use mathlib.Core.Bool.{Bool, true, false, ◌&&◌}
use mathlib.Core.Logic.{◌⊎◌, inl, inr}
use mathlib.Core.List.{List}
use native.Mathlib.Nat.{mul-le-mul_right, lt-suc_self, le_step}
use native.Mathlib.Numerals.{add-one}
use native.Mathlib.Omega.{arith}
use lib.Bits.{bit_or, or_add_and, and_le_l, and_le_r}
use lib.Count.{count_trailing_zeros}
use lib.Dec.{eqb, leb}
use lib.ListN.{length, get_or, set}
use borrow.Author.Tests.{eqb-true, eq-eqb, leb-true}
use Rattle.model.specs.declared.Params.{Params}
use Rattle.model.specs.Base.{all_below}
use Rattle.model.specs.Params.{good_params, power_of_two, is_start, block_at, list_of, head_words, block_tables}
use Rattle.model.specs.Tables.{Words, view, blocks_in, block_table, put_block_word}
use Rattle.model.specs.Sound.{block_clear, owner_empty}
use Rattle.laws.proofs.Below.{same_test, and_both, and_left, and_right, all_below_at, all_below_from}
use Rattle.laws.proofs.Good.{each_power}
use Rattle.laws.proofs.Params.{good_bounds, start_in, block_at_from, block_at_is_start, start_block_at, is_start_start, is_start_out, in_heap_under}
use Rattle.laws.proofs.Tables.{get_d_part, get_d_part_out, put_in_in, put_in_out, by_lt}
use Rattle.std.proofs.Common.{Some}
use Rattle.native_ms.specs.SoundWalk.{pass_from, passes}
use Rattle.native_ms.proofs.SoundTests.{last_here, pass_last, passes_step, passes_end, empty_at, owner_lists}
use Rattle.native_ms.specs.SoundLent.{Firsts, zero_at}

-- ---- a union of words is 0 if each is

or_both : (a b : ℕ) → bit_or a b ≡ 0 → (a ≡ 0) × (b ≡ 0)
or_both a b e =
    let s = or_add_and a b in
    let l = and_le_l a b in
    let r = and_le_r a b in
    (omega arith, omega arith)

or_none : (a b : ℕ) → a ≡ 0 → b ≡ 0 → bit_or a b ≡ 0
or_none a b ea eb = omega (arith, or_add_and a b)

pub or_zero : (a b : ℕ) → eqb (bit_or a b) 0 ≡ (eqb a 0 && eqb b 0)
or_zero a b =
    same_test (eqb (bit_or a b) 0) (eqb a 0 && eqb b 0)
    (λ t. let r = or_both a b (eqb-true _ _ t) in and_both (eq-eqb a 0 r.0) (eq-eqb b 0 r.1))
    (λ t. eq-eqb _ _ (or_none a b (eqb-true a 0 (and_left _ _ t)) (eqb-true b 0 (and_right (eqb a 0) _ t))))

and_swap : (a b : Bool) → (a && b) ≡ (b && a)
and_swap true true = refl
and_swap true false = refl
and_swap false true = refl
and_swap false false = refl

-- ---- words from a on

module _ (w : List ℕ) (a : ℕ) where
  pub words_none : eqb 0 0 ≡ all_below 0 (zero_at w a)
  unfolding all_below
  words_none = refl

  pub words_step : (z i : ℕ) → eqb z 0 ≡ all_below i (zero_at w a) → eqb (bit_or z (get_or w (a + i) 0)) 0 ≡ all_below (i + 1) (zero_at w a)
  unfolding all_below zero_at
  words_step z i e = rw (add-one i) (or_zero z (get_or w (a + i) 0) ∙ and_swap (eqb z 0) (eqb (get_or w (a + i) 0) 0) ∙ ap (λ (b : Bool). eqb (get_or w (a + i) 0) 0 && b) e)

  pub words_all : (z i n : ℕ) → i ≤ n → n ≤ i → eqb z 0 ≡ all_below i (zero_at w a) → eqb z 0 ≡ all_below n (zero_at w a)
  words_all z i n h k e = let d : i ≡ n = omega arith in e ∙ ap (λ (m : ℕ). all_below m (zero_at w a)) d

-- ---- words of blocks

pub few_tables : (j n : ℕ) → j < block_tables → j * n ≤ 6 * n
few_tables j n h = mul-le-mul_right n (omega arith)

pub table_word : (w : List ℕ) (n j i : ℕ) → length w ≡ head_words + block_tables * n → i < n
    → get_or w (head_words + j * n + i) 0 ≡ get_or (block_table (blocks_in w) j w) i 0
table_word w n j i e h =
    let m : n ≡ blocks_in w = omega arith in
    sym (get_d_part (head_words + j * n) n i w h) ∙ ap (λ (k : ℕ). get_or (block_table k j w) i 0) m

pub table_none : (w : List ℕ) (n j i : ℕ) → length w ≡ head_words + block_tables * n → n ≤ i → 0 ≡ get_or (block_table (blocks_in w) j w) i 0
table_none w n j i e l =
    let m : blocks_in w ≡ n = omega arith in
    rw m (sym (get_d_part_out (head_words + j * n) n i w l))

pub table_put : (w : List ℕ) (n j i v : ℕ) → length w ≡ head_words + block_tables * n → i < n → set w (head_words + j * n + i) v ≡ put_block_word j i v w
table_put w n j i v e h =
    let m : blocks_in w ≡ n = omega arith in
    rw m (sym (put_in_in (head_words + j * n) n i v w h))

pub table_left : (w : List ℕ) (n j i v : ℕ) → length w ≡ head_words + block_tables * n → n ≤ i → w ≡ put_block_word j i v w
table_left w n j i v e l =
    let m : blocks_in w ≡ n = omega arith in
    rw m (sym (put_in_out (head_words + j * n) n i v w l))

-- one after the other, in the order of a union
or_next : {x : Bool} (a b : ℕ) → eqb a 0 ≡ x → eqb (bit_or a b) 0 ≡ (x && eqb b 0)
or_next a b e = or_zero a b ∙ ap (λ (y : Bool). y && eqb b 0) e

pub clear_words : (t : Words) (b : ℕ) {n v f s l h c : ℕ} → n ≡ get_or t.next b 0 → v ≡ get_or t.prev b 0 → f ≡ get_or t.free b 0
    → s ≡ get_or t.size b 0 → l ≡ get_or t.list b 0 → h ≡ get_or t.tls b 0 → c ≡ get_or t.cells b 0
    → eqb (bit_or (bit_or (bit_or (bit_or (bit_or (bit_or n v) f) s) l) h) c) 0 ≡ block_clear t b
unfolding block_clear
clear_words t b {n} {v} {f} {s} {l} {h} {c} en ev ef es el eh ec =
    or_next (bit_or (bit_or (bit_or (bit_or (bit_or n v) f) s) l) h) c
    (or_next (bit_or (bit_or (bit_or (bit_or n v) f) s) l) h
    (or_next (bit_or (bit_or (bit_or n v) f) s) l (or_next (bit_or (bit_or n v) f) s (or_next (bit_or n v) f (or_next n v refl))))) ∙ rw (← en, ← ev, ← ef, ← es, ← el, ← eh, ← ec)

same_below : (n : ℕ) (f g : ℕ → Bool) → ((i : ℕ) → i < n → f i ≡ g i) → all_below n f ≡ all_below n g
unfolding all_below
same_below zero f g h = refl
same_below (suc n) f g h = rw (h n (lt-suc_self n), same_below n f g (λ i l. h i (le_step l)))

pub first_word : (w : List ℕ) (l : ℕ) → l < 1470 → get_or w l 0 ≡ get_or (view w).first l 0
unfolding view
first_word w l h =
    let d : l ≡ 0 + l = omega arith in
    ap (λ (x : ℕ). get_or w x 0) d ∙ sym (get_d_part 0 1470 l w h)

pub bound_word : (w : List ℕ) (holder : ℕ) → 1 ≤ holder → holder ≤ 8 → get_or w (2940 + holder) 0 ≡ get_or (view w).bound (holder - 1) 0
unfolding view
bound_word w holder l m =
    let d : 2940 + holder ≡ 2941 + (holder - 1) = omega arith in
    ap (λ (x : ℕ). get_or w x 0) d ∙ sym (get_d_part 2941 8 (holder - 1) w (omega arith))

-- a table of firsts, set by set
module _ (w : List ℕ) where
  abbrev pub set_is : List ℕ → ℕ → Type 0
  set_is fs k = eqb (get_or fs k 0) 0 ≡ all_below 49 (zero_at w (49 * k))

  module _ (fs : List ℕ) (g : Firsts w fs) (owner : ℕ) (h : owner ≤ 27) where
    three : ℕ
    three = bit_or (bit_or (get_or fs owner 0) (get_or fs (owner + 1) 0)) (get_or fs (owner + 2) 0)

    -- the list i of the owner
    here : ℕ → Bool
    here i = eqb (get_or w (49 * owner + i) 0) 0

    in_set : (o i k : ℕ) → o < 30 → k < 49 → 49 * o + k ≡ 49 * owner + i → get_or fs o 0 ≡ 0 → here i ≡ true
    unfolding here zero_at
    in_set o i k l m q z =
        ap (λ (x : ℕ). eqb (get_or w x 0) 0) (sym q)
        ∙ all_below_at 49 (zero_at w (49 * o)) (sym (g.set o l) ∙ eq-eqb _ _ z) k m

    some_set : three ≡ 0 → (i : ℕ) → i < 147 → here i ≡ true
    unfolding three
    some_set z i l =
        let r = or_both _ (get_or fs (owner + 2) 0) z in
        let q = or_both (get_or fs owner 0) (get_or fs (owner + 1) 0) r.0 in
        by_lt i 49 (λ a. in_set owner i i (omega arith) a refl q.0)
        (λ a. by_lt i 98 (λ b. in_set (owner + 1) i (i - 49) (omega arith) (omega arith) (omega arith) q.1)
        (λ b. in_set (owner + 2) i (i - 98) (omega arith) (omega arith) (omega arith) r.1))

    of_set : (o : ℕ) → o < 30 → (a : ℕ) → a + 49 ≤ 147 → 49 * o ≡ 49 * owner + a → all_below 147 here ≡ true → get_or fs o 0 ≡ 0
    unfolding here zero_at
    of_set o l a b q e =
        eqb-true (get_or fs o 0) 0 (g.set o l ∙ all_below_from 49 (zero_at w (49 * o)) (λ i m.
        let d : 49 * o + i ≡ 49 * owner + (a + i) = omega arith in
        ap (λ (x : ℕ). eqb (get_or w x 0) 0) d ∙ all_below_at 147 here e (a + i) (omega arith)))

    pub owner_words : eqb (bit_or (bit_or (get_or fs owner 0) (get_or fs (owner + 1) 0)) (get_or fs (owner + 2) 0)) 0 ≡ owner_empty (view w) owner
    unfolding three here empty_at list_of
    owner_words =
        same_test (eqb three 0) (all_below 147 here)
        (λ t. all_below_from 147 here (some_set (eqb-true three 0 t)))
        (λ t. eq-eqb three 0 (or_none _ (get_or fs (owner + 2) 0)
        (or_none (get_or fs owner 0) (get_or fs (owner + 1) 0) (of_set owner (omega arith) 0 (omega arith) (omega arith) t)
        (of_set (owner + 1) (omega arith) 49 (omega arith) (omega arith) t)) (of_set (owner + 2) (omega arith) 98 (omega arith) (omega arith) t)))
        ∙ same_below 147 here (empty_at (view w) owner)
        (λ i l. ap (λ (x : ℕ). eqb x 0) (first_word w (49 * owner + i) (omega arith)))
        ∙ owner_lists (view w) owner

-- ---- the block size

logged : ℕ → Bool
logged x = eqb x (2 ^ count_trailing_zeros 64 x) && leb (count_trailing_zeros 64 x) 16

pub power_log : (x : ℕ) → power_of_two x ≡ true → (x ≡ 2 ^ count_trailing_zeros 64 x) × (count_trailing_zeros 64 x ≤ 16)
unfolding logged all_below count_trailing_zeros
power_log x e =
    let t = each_power logged refl e in
    (eqb-true _ _ (and_left _ _ t), leb-true _ _ (and_right (eqb x (2 ^ count_trailing_zeros 64 x)) _ t))

-- ---- the block that starts at an address

refuted : (b : Bool) → (b ≡ true → ⊥) → b ≡ false
refuted true n = absurd (n refl)
refuted false n = refl

-- below the heap none does
pub starts_low : (p : Params) (a : ℕ) → a < p.base → is_start p a ≡ false
starts_low p a h = is_start_out p a (in_heap_under p a h)

-- d bytes above the heap's start
module _ (p : Params) (good : good_params p ≡ true) (log : ℕ) (power : p.bytes ≡ 2 ^ log) (a : ℕ) {d : ℕ} (h : p.base ≤ a) (ed : d ≡ a - p.base) where
  number : d / 2 ^ log ≡ block_at p a
  number = ap (λ (x : ℕ). d / x) (sym power) ∙ ap (λ (x : ℕ). x / p.bytes) ed ∙ sym (block_at_from p a h)

  starts_past : p.blocks ≤ d / 2 ^ log → is_start p a ≡ false
  starts_past q = refuted (is_start p a) (λ e. omega (arith, number, block_at_is_start p (good_bounds p good) a e))

  starts_off : (p.base + d / 2 ^ log * p.bytes ≡ a → ⊥) → is_start p a ≡ false
  starts_off n =
      refuted (is_start p a) (λ e. n (ap (λ (x : ℕ). p.base + x * p.bytes) number
      ∙ sym (start_in p (block_at p a) (block_at_is_start p (good_bounds p good) a e)) ∙ start_block_at p (good_bounds p good) a e))

  pub starts_none : (p.blocks ≤ d / 2 ^ log) ⊎ (p.base + d / 2 ^ log * p.bytes ≡ a → ⊥) → is_start p a ≡ false
  starts_none = elim [ inl q ↦ starts_past q | inr n ↦ starts_off n ]

  pub starts_here : d / 2 ^ log < p.blocks → p.base + d / 2 ^ log * p.bytes ≡ a → (is_start p a ≡ true) × (d / 2 ^ log ≡ block_at p a)
  starts_here l q = (ap (is_start p) (sym (start_in p (d / 2 ^ log) l ∙ q)) ∙ is_start_start p (good_bounds p good) (d / 2 ^ log) l, number)

-- ---- walks

module _ (p : Params) (t : Words) (s : List ℕ) where
  -- a list with no first and no last passes
  empty_pass : (l left : ℕ) → get_or t.first l 0 ≡ 0 → get_or t.last l 0 ≡ 0 → pass_from left p t s l 0 (get_or t.first l 0) ≡ Some left
  empty_pass l left f e = sym (pass_last p t s l 0 (get_or t.first l 0) left f (last_here t l 0 left refl e))

  module _ (l left : ℕ) (h : 0 < l) where
    step : {x : ℕ} → pass_from left p t s (l - 1) 0 (get_or t.first (l - 1) 0) ≡ Some x → passes (l - 1) p t s x ≡ passes l p t s left
    step {x} q = passes_step p t s left l h {r = Some x} (sym q) refl

    pub list_skip : {f e : ℕ} → f ≡ get_or t.first (l - 1) 0 → e ≡ get_or t.last (l - 1) 0 → bit_or f e ≡ 0
        → passes (l - 1) p t s left ≡ passes l p t s left
    list_skip {f} {e} ef ee z =
        let r = or_both f e z in
        step (empty_pass (l - 1) left (sym ef ∙ r.0) (sym ee ∙ r.1))

  -- lists with no first and no last pass
  empties : (from left n : ℕ) → ((i : ℕ) → i < n → (get_or t.first (from + i) 0 ≡ 0) × (get_or t.last (from + i) 0 ≡ 0))
      → passes from p t s left ≡ passes (from + n) p t s left
  empties from left zero f = let d : from ≡ from + 0 = omega arith in ap (λ (i : ℕ). passes i p t s left) d
  empties from left (suc n) f =
      let d : from + n ≡ from + suc n - 1 = omega arith in
      let g = f n (lt-suc_self n) in
      empties from left n (λ i l. f i (le_step l))
      ∙ ap (λ (i : ℕ). passes i p t s left) d
      ∙ step (from + suc n) left (omega arith) (rw (← d) (empty_pass (from + n) left g.0 g.1))

-- a set with no first and no last
pub set_skip : (p : Params) (w s : List ℕ) (from left f e : ℕ) → from + 49 ≤ 1470
    → eqb f 0 ≡ all_below 49 (zero_at w from) → eqb e 0 ≡ all_below 49 (zero_at w (1470 + from)) → bit_or f e ≡ 0
    → passes from p (view w) s left ≡ passes (from + 49) p (view w) s left
unfolding view zero_at
set_skip p w s from left f e h ef ee z =
    let r = or_both f e z in
    empties p (view w) s from left 49 (λ i l.
    let k : 1470 + (from + i) ≡ 1470 + from + i = omega arith in (
      sym (first_word w (from + i) (omega arith))
          ∙ eqb-true _ _ (all_below_at 49 (zero_at w from) (sym ef ∙ eq-eqb f 0 r.0) i l),
      get_d_part 1470 1470 (from + i) w (omega arith) ∙ ap (λ (x : ℕ). get_or w x 0) k
          ∙ eqb-true _ _ (all_below_at 49 (zero_at w (1470 + from)) (sym ee ∙ eq-eqb e 0 r.1) i l),
    ))

module _ (p : Params) (t : Words) (s : List ℕ) where
  pub lists_end : (from l k : ℕ) → from ≤ l → l ≤ from → passes from p t s k ≡ passes l p t s k
  lists_end from l k h g = let d : from ≡ l = omega arith in ap (λ (i : ℕ). passes i p t s k) d

  -- the lists below the o-th set's
  module _ (o k : ℕ) (h : 0 < o) where
    up : 49 * (o - 1) + 49 ≡ 49 * o
    up = omega arith

    pub set_up_lem : passes (49 * (o - 1) + 49) p t s k ≡ passes (49 * o) p t s k
    set_up_lem = ap (λ (i : ℕ). passes i p t s k) up

  pub passes_none : (o k : ℕ) → o ≤ 0 → Some k ≡ passes (49 * o) p t s k
  passes_none o k h = passes_end p t s k (49 * o) (omega arith)
