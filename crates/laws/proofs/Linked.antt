-- What `linked` says of a list's walk: its blocks are occupied, name the list and stand on it once. So the blocks met on all
-- lists are as many as the blocks that are on the list they name. Leans on `start_block_at` and on the counting laws. Assumes nothing.
use Prim.Native.Nat.{ℕ, zero, suc, ◌+◌, ◌-◌, ◌<◌, ◌≤◌}
use mathlib.Core.Path.{◌≡◌, refl, sym, ap, ◌∙◌, subst}
use mathlib.Core.Bool.{Bool, true, false, not, ◌&&◌}
use mathlib.Core.List.{List, [], ◌∷◌}
use mathlib.Core.Logic.{◌⊎◌, inl, inr, ⊎_elim}
use native.Mathlib.Numerals.{add-one}
use native.Mathlib.Omega.{arith}
use lib.Dec.{eqb, leb}
use lib.ListN.{length, get_or}
use borrow.Author.Tests.{eqb-true, eqb-false, leb-true, eq-eqb, ne_eqb, le-leb, not-true}
use Rattle.model.specs.declared.Params.{Params}
use Rattle.model.specs.Base.{member, sum_below, flag}
use Rattle.model.specs.Params.{block_at, is_start, start, list_word}
use Rattle.model.specs.Tables.{Tables}
use Rattle.model.specs.BlockList.{walk, blocks_on}
use Rattle.model.specs.Sound.{state_of, list_named, on_list_named, linked_from, linked}
use Rattle.laws.proofs.Below.{true_not_false, and_left, and_right, and_three, and_both, or_cases, test}
use Rattle.laws.proofs.Params.{Bounds, block_at_is_start, start_block_at}
use Rattle.laws.proofs.Pigeon.{sum_same, sum_swap, sum_one, sum_zero, flag_one, flag_none, Distinct, Under, members_count}

-- ---- one block of a walk

-- the block at a stands on the list l behind the one at `before`
abbrev pub stands : Params → Tables → ℕ → ℕ → ℕ → Bool
stands p t l before a =
    is_start p a && not (eqb (state_of t (block_at p a)) 0) && eqb (get_or t.words.list (block_at p a) 0) (list_word l)
    && eqb (get_or t.words.prev (block_at p a) 0) before

abbrev pub next_of : Params → Tables → ℕ → ℕ
next_of p t a = get_or t.words.next (block_at p a) 0

module _ (p : Params) (t : Tables) (l : ℕ) where
  -- by the address: the end, or a block and what follows it
  pub linked_end : (k before a : ℕ) → a ≡ 0 → linked_from k p t l before a ≡ eqb (get_or t.words.last l 0) before
  unfolding linked_from
  linked_end zero before a e = rw (eq-eqb a 0 e)
  linked_end (suc k) before a e = rw (eq-eqb a 0 e)

  pub linked_long : (before a : ℕ) → (a ≡ 0 → ⊥) → linked_from zero p t l before a ≡ false
  unfolding linked_from
  linked_long before a n = rw (ne_eqb a 0 n)

  pub linked_on : (k before a : ℕ) → (a ≡ 0 → ⊥)
      → linked_from (suc k) p t l before a ≡ (stands p t l before a && linked_from k p t l a (next_of p t a))
  unfolding linked_from
  linked_on k before a n = rw (ne_eqb a 0 n)

  pub walk_end : (k a : ℕ) → a ≡ 0 → walk k p t.words.next a ≡ []
  unfolding walk
  walk_end zero a e = refl
  walk_end (suc k) a e = rw (eq-eqb a 0 e)

  pub walk_on : (k a : ℕ) → (a ≡ 0 → ⊥) → walk (suc k) p t.words.next a ≡ block_at p a ∷ walk k p t.words.next (next_of p t a)
  unfolding walk
  walk_on k a n = rw (ne_eqb a 0 n)

  -- what `stands` says
  pub record Stands (before a : ℕ) : Type 0 where
    pub starts : is_start p a ≡ true
    pub occupied : eqb (state_of t (block_at p a)) 0 ≡ false
    pub names : get_or t.words.list (block_at p a) 0 ≡ list_word l

  pub stands_says : (before a : ℕ) → stands p t l before a ≡ true → Stands before a
  stands_says before a e =
      let i : Bool = is_start p a in
      let s : Bool = not (eqb (state_of t (block_at p a)) 0) in
      let m : Bool = eqb (get_or t.words.list (block_at p a) 0) (list_word l) in
      let r = and_three i s m (and_left (i && s && m) (eqb (get_or t.words.prev (block_at p a) 0) before) e) in
      record { starts = r.0; occupied = not-true (eqb (state_of t (block_at p a)) 0) r.1; names = eqb-true _ _ r.2 }

  -- a walk that is linked, taken apart
  pub record Goes (k before a : ℕ) : Type 0 where
    pub some : a ≡ 0 → ⊥
    pub here : Stands before a
    pub on : linked_from k p t l a (next_of p t a) ≡ true

  pub goes : (k before a : ℕ) → (a ≡ 0 → ⊥) → linked_from (suc k) p t l before a ≡ true → Goes k before a
  goes k before a n e =
      let f : (stands p t l before a && linked_from k p t l a (next_of p t a)) ≡ true = sym (linked_on k before a n) ∙ e in
      record {
        some = n;
        here = stands_says before a (and_left (stands p t l before a) (linked_from k p t l a (next_of p t a)) f);
        on = and_right (stands p t l before a) (linked_from k p t l a (next_of p t a)) f;
      }

  zero_or : (a : ℕ) → (a ≡ 0) ⊎ (a ≡ 0 → ⊥)
  zero_or a = ⊎_elim (λ y. inl (eqb-true a 0 y)) (λ z. inr (eqb-false a 0 z)) (test (eqb a 0))

  -- ---- how long a walk is does not hang on the bound
  same_length : (k m b c a : ℕ) → linked_from k p t l b a ≡ true → linked_from m p t l c a ≡ true
      → length (walk k p t.words.next a) ≡ length (walk m p t.words.next a)
  same_length zero m b c a e f =
      ⊎_elim (λ z. ap length (walk_end zero a z ∙ sym (walk_end m a z))) (λ n. absurd (true_not_false (sym e ∙ linked_long b a n)))
      (zero_or a)
  same_length (suc k) zero b c a e f =
      ⊎_elim (λ z. ap length (walk_end (suc k) a z ∙ sym (walk_end zero a z))) (λ n. absurd (true_not_false (sym f ∙ linked_long c a n)))
      (zero_or a)
  same_length (suc k) (suc m) b c a e f =
      ⊎_elim (λ z. ap length (walk_end (suc k) a z ∙ sym (walk_end (suc m) a z)))
      (λ n.
      ap length (walk_on k a n)
      ∙ ap suc (same_length k m a a (next_of p t a) (goes k b a n e).on (goes m c a n f).on)
      ∙ ap length (sym (walk_on m a n)))
      (zero_or a)

  -- ---- a block that a walk meets: the walk from there on is no longer, and it is linked too
  pub record Met (b : ℕ) (long : ℕ) : Type 0 where
    pub fuel : ℕ
    pub behind : ℕ
    pub at : ℕ
    pub some : at ≡ 0 → ⊥
    pub is : block_at p at ≡ b
    pub here : Stands behind at
    pub linked_there : linked_from fuel p t l behind at ≡ true
    pub no_longer : length (walk fuel p t.words.next at) ≤ long

  longer : (b m n : ℕ) → m ≤ n → Met b m → Met b n
  longer b m n h w =
      record {
        fuel = w.fuel;
        behind = w.behind;
        at = w.at;
        some = w.some;
        is = w.is;
        here = w.here;
        linked_there = w.linked_there;
        no_longer = omega (arith, w.no_longer);
      }

  pub met : (k before a b : ℕ) → linked_from k p t l before a ≡ true → member b (walk k p t.words.next a) ≡ true
      → Met b (length (walk k p t.words.next a))
  unfolding member
  met zero before a b e m =
      absurd (true_not_false (sym m ∙ ap (member b) (⊎_elim (λ z. walk_end zero a z) (λ n. absurd (true_not_false (sym e ∙ linked_long before a n))) (zero_or a))))
  met (suc k) before a b e m =
      ⊎_elim (λ z. absurd (true_not_false (sym m ∙ ap (member b) (walk_end (suc k) a z))))
      (λ n.
      let w : walk (suc k) p t.words.next a ≡ block_at p a ∷ walk k p t.words.next (next_of p t a) = walk_on k a n in
      let rest : List ℕ = walk k p t.words.next (next_of p t a) in
      let long : length (walk (suc k) p t.words.next a) ≡ length rest + 1 = ap length w ∙ sym (add-one (length rest)) in
      ⊎_elim
      (λ y.
      record {
        fuel = suc k;
        behind = before;
        at = a;
        some = n;
        is = sym (eqb-true b (block_at p a) y);
        here = (goes k before a n e).here;
        linked_there = e;
        no_longer = omega arith;
      })
      (λ y.
      longer b (length rest) (length (walk (suc k) p t.words.next a)) (omega arith)
      (met k a (next_of p t a) b (goes k before a n e).on y))
      (or_cases (eqb b (block_at p a)) (member b rest) (sym (ap (member b) w) ∙ m)))
      (zero_or a)

  -- ---- no block is met twice
  module _ (g : Bounds p) where
    not_again : (k before a : ℕ) (n : a ≡ 0 → ⊥) → linked_from (suc k) p t l before a ≡ true
        → member (block_at p a) (walk k p t.words.next (next_of p t a)) ≡ false
    not_again k before a n e =
        ⊎_elim
        (λ y.
        let w = met k a (next_of p t a) (block_at p a) (goes k before a n e).on y in
        let same : w.at ≡ a =
        sym (start_block_at p g w.at w.here.starts) ∙ ap (start p) w.is ∙ start_block_at p g a (goes k before a n e).here.starts in
        let there : linked_from w.fuel p t l w.behind a ≡ true =
        subst (λ (x : ℕ). linked_from w.fuel p t l w.behind x ≡ true) same w.linked_there in
        let rest : List ℕ = walk k p t.words.next (next_of p t a) in
        let long : length (walk (suc k) p t.words.next a) ≡ length rest + 1 = ap length (walk_on k a n) ∙ sym (add-one (length rest)) in
        let eq : length (walk w.fuel p t.words.next a) ≡ length (walk (suc k) p t.words.next a) =
        same_length w.fuel (suc k) w.behind before a there e in
        let le : length (walk w.fuel p t.words.next a) ≤ length rest =
        subst (λ (x : ℕ). length (walk w.fuel p t.words.next x) ≤ length rest) same w.no_longer in
        absurd (omega arith))
        (λ z. z) (test (member (block_at p a) (walk k p t.words.next (next_of p t a))))

    walk_distinct : (k before a : ℕ) → linked_from k p t l before a ≡ true → Distinct (walk k p t.words.next a)
    unfolding Distinct
    walk_distinct zero before a e =
        ⊎_elim (λ z. subst Distinct (sym (walk_end zero a z)) tt) (λ n. absurd (true_not_false (sym e ∙ linked_long before a n)))
        (zero_or a)
    walk_distinct (suc k) before a e =
        ⊎_elim (λ z. subst Distinct (sym (walk_end (suc k) a z)) tt)
        (λ n. subst Distinct (sym (walk_on k a n)) (not_again k before a n e, walk_distinct k a (next_of p t a) (goes k before a n e).on))
        (zero_or a)

    walk_under : (k before a : ℕ) → linked_from k p t l before a ≡ true → Under p.blocks (walk k p t.words.next a)
    unfolding Under
    walk_under zero before a e =
        ⊎_elim (λ z. subst (Under p.blocks) (sym (walk_end zero a z)) tt) (λ n. absurd (true_not_false (sym e ∙ linked_long before a n)))
        (zero_or a)
    walk_under (suc k) before a e =
        ⊎_elim (λ z. subst (Under p.blocks) (sym (walk_end (suc k) a z)) tt)
        (λ n.
        subst (Under p.blocks) (sym (walk_on k a n))
        (block_at_is_start p g a (goes k before a n e).here.starts, walk_under k a (next_of p t a) (goes k before a n e).on))
        (zero_or a)

-- ---- one list, and all lists

module _ (p : Params) (t : Tables) (g : Bounds p) where
  -- a block that the walk of l meets is occupied and names l
  pub record On (l b : ℕ) : Type 0 where
    pub low : b < p.blocks
    pub occupied : eqb (state_of t b) 0 ≡ false
    pub names : get_or t.words.list b 0 ≡ 1 + l

  pub met_on : (l b : ℕ) → linked p t l ≡ true → member b (blocks_on p l t.words) ≡ true → On l b
  unfolding linked blocks_on list_word
  met_on l b e m =
      let w = met p t l p.blocks 0 (get_or t.words.first l 0) b e m in
      record {
        low = subst (λ (x : ℕ). x < p.blocks) w.is (block_at_is_start p g w.at w.here.starts);
        occupied = subst (λ (x : ℕ). eqb (state_of t x) 0 ≡ false) w.is w.here.occupied;
        names = subst (λ (x : ℕ). get_or t.words.list x 0 ≡ 1 + l) w.is w.here.names;
      }

  list_members : (l : ℕ) → linked p t l ≡ true
      → length (blocks_on p l t.words) ≡ sum_below p.blocks (λ b. flag (member b (blocks_on p l t.words)))
  unfolding linked blocks_on
  list_members l e =
      members_count p.blocks (walk p.blocks p t.words.next (get_or t.words.first l 0))
      (walk_distinct p t l g p.blocks 0 (get_or t.words.first l 0) e)
      (walk_under p t l g p.blocks 0 (get_or t.words.first l 0) e)

  abbrev pub AllLinked : Type 0
  AllLinked = (l : ℕ) → l < 1470 → linked p t l ≡ true

  -- on the list it names, taken apart and put together
  named : (b : ℕ) → on_list_named p t.words b ≡ true
      → (1 ≤ get_or t.words.list b 0) × (get_or t.words.list b 0 ≤ 1470) × (member b (blocks_on p (list_named t.words b) t.words) ≡ true)
  unfolding on_list_named
  named b e =
      let n : ℕ = get_or t.words.list b 0 in
      let r = and_three (leb 1 n) (leb n 1470) (member b (blocks_on p (list_named t.words b) t.words)) e in
      (leb-true _ _ r.0, leb-true _ _ r.1, r.2)

  name_it : (all : AllLinked) (l b : ℕ) → l < 1470 → member b (blocks_on p l t.words) ≡ true → on_list_named p t.words b ≡ true
  unfolding on_list_named list_named
  name_it all l b h m =
      let o = met_on l b (all l h) m in
      let n : ℕ = get_or t.words.list b 0 in
      let e : n ≡ 1 + l = o.names in
      let s : n - 1 ≡ l = omega arith in
      and_both (and_both (le-leb 1 n (omega arith)) (le-leb n 1470 (omega arith)))
      (subst (λ (x : ℕ). member b (blocks_on p x t.words) ≡ true) (sym s) m)

  -- of all lists, at most the one it names meets a block
  lists_of : AllLinked → (b : ℕ) → sum_below 1470 (λ l. flag (member b (blocks_on p l t.words))) ≡ flag (on_list_named p t.words b)
  unfolding list_named
  lists_of all b = ⊎_elim yes_on none_on (test (on_list_named p t.words b))
    where
      terms : ℕ → ℕ
      terms l = flag (member b (blocks_on p l t.words))

      yes_on : on_list_named p t.words b ≡ true → sum_below 1470 terms ≡ flag (on_list_named p t.words b)
      yes_on e =
          let r = named b e in
          let j : ℕ = get_or t.words.list b 0 - 1 in
          sum_one 1470 terms j (omega (arith, r.0, r.1))
          (λ i h n.
          ⊎_elim (λ m. absurd (n (let q = (met_on i b (all i h) m).names in omega arith))) (λ z. flag_none z)
          (test (member b (blocks_on p i t.words))))
          ∙ flag_one r.2 ∙ sym (flag_one e)

      none_on : on_list_named p t.words b ≡ false → sum_below 1470 terms ≡ flag (on_list_named p t.words b)
      none_on e =
          sum_same 1470 terms (λ l. 0)
          (λ i h.
          ⊎_elim (λ m. absurd (true_not_false (sym (name_it all i b h m) ∙ e))) (λ z. flag_none z)
          (test (member b (blocks_on p i t.words))))
          ∙ sum_zero 1470 ∙ sym (flag_none e)

  -- the blocks met on all lists are those that are on the list they name
  pub met_count : AllLinked
      → sum_below 1470 (λ l. length (blocks_on p l t.words)) ≡ sum_below p.blocks (λ b. flag (on_list_named p t.words b))
  met_count all =
      sum_same 1470 (λ l. length (blocks_on p l t.words)) (λ l. sum_below p.blocks (λ b. flag (member b (blocks_on p l t.words))))
      (λ l h. list_members l (all l h))
      ∙ sum_swap 1470 p.blocks (λ l b. flag (member b (blocks_on p l t.words)))
      ∙ sum_same p.blocks (λ b. sum_below 1470 (λ l. flag (member b (blocks_on p l t.words)))) (λ b. flag (on_list_named p t.words b))
      (λ b h. lists_of all b)

  -- and each is occupied
  pub on_occupied : AllLinked → (b : ℕ) → on_list_named p t.words b ≡ true → eqb (state_of t b) 0 ≡ false
  unfolding list_named
  on_occupied all b e =
      let r = named b e in
      (met_on (get_or t.words.list b 0 - 1) b (all (get_or t.words.list b 0 - 1) (omega (arith, r.0, r.1))) r.2).occupied
