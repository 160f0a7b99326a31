-- Push and pop on the block lists: a push puts the block at the head of its list, a pop takes the head off, and all other
-- lists stay. A pop is a remove whose block loses its links. Assumes nothing.
use mathlib.Core.Path.{◌≡◌, refl, sym, ap, ◌∙◌, subst}
use mathlib.Core.Logic.{◌≢◌, inl, inr, ⊎_elim}
use mathlib.Core.List.{List, [], ◌∷◌}
use Prim.Native.Nat.{ℕ, ◌<◌}
use native.Mathlib.Omega.{arith}
use lib.Dec.{eqb}
use lib.ListN.{get_or, set, length-set}
use borrow.Author.Tests.{eq-eqb, ne_eqb}
use Rattle.model.specs.declared.Params.{Params}
use Rattle.model.specs.Base.{In}
use Rattle.model.specs.Params.{start, block_at, list_word}
use Rattle.model.specs.Tables.{Words, set_first, set_last, set_next, set_prev, set_list}
use Rattle.model.specs.BlockList.{push, pop_head, pop, Popped, popped, remove, remove_between}
use Rattle.laws.proofs.Base.{if_cases, if_true, if_false, member_out}
use Rattle.laws.proofs.Stores.{set_at, set_off}
use Rattle.laws.proofs.Params.{Bounds, some_start, block_at_start}
use Rattle.laws.proofs.Tables.{Sized}
use Rattle.laws.proofs.BlockList.{push_only}
use Rattle.laws.proofs.Frame.{push_first}
use Rattle.laws.proofs.Pigeon.{Distinct}
use Rattle.soundness.proofs.Lists.{Seg, Run, Lists, Off, put, in_put, Same, seg_same, one_list, lists_distinct, lists_off, lists_put, first_none, first_some}
use Rattle.soundness.proofs.Removes.{without, without_head, words_same, remove_stays, remove_lists}

-- a pop of the first block x of a list is its removal, and its links are 0 then
pub pop_head_remove : (p : Params) (l x : ℕ) (w : Words) → get_or w.prev x 0 ≡ 0
    → pop_head p l x (get_or w.next x 0) w ≡ set_prev x 0 (set_next x 0 (remove p l x w))
unfolding pop_head remove remove_between set_first set_last set_next set_prev set_list
pop_head_remove p l x w e = rw e (if_cases (λ (t : Words). t ≡ set_prev x 0 (set_next x 0 (R (get_or w.next x 0)))) (eqb (get_or w.next x 0) 0) (λ f. rw f) (λ f. rw f))
  where
    R : ℕ → Words
    R n = remove_between p l 0 n w

module _ (p : Params) (B : Bounds p) (st : List ℕ) (w : Words) (Z : Sized p.blocks w) (L : ℕ → List ℕ) (K : Lists p st w L) where
  -- ---- push

  module _ (l b : ℕ) (low : l < 1470) where
    -- to an empty list
    push_empty : L l ≡ [] → push p l b w ≡ push_only p l b w
    unfolding push push_only
    push_empty e = if_true (eqb (get_or w.first l 0) 0) _ _ (eq-eqb _ _ (first_none p B K l low e))

    only_stays : (z : ℕ) → z ≢ b → Same st st w (push_only p l b w) z
    unfolding push_only set_first set_last set_next set_prev set_list
    only_stays z f =
        record {
          occupied = λ o. o;
          next = set_off w.next b 0 z f;
          prev = set_off w.prev b 0 z f;
          list = set_off w.list b (list_word l) z f;
        }

    -- before the head y
    ahead : ℕ → Words
    ahead y = set_list b (list_word l) (set_first l (start p b) (set_prev b 0 (set_prev y (start p b) (set_next b (start p y) w))))

    push_before : (y : ℕ) (ys : List ℕ) → L l ≡ y ∷ ys → push p l b w ≡ ahead y
    unfolding push ahead
    push_before y ys e =
        let H = first_some p B K l low y ys e in
        rw (H.at, ne_eqb (start p y) 0 (some_start p B y H.low), block_at_start p B y H.low)

    ahead_stays : (y z : ℕ) → z ≢ b → z ≢ y → Same st st w (ahead y) z
    unfolding ahead set_first set_next set_prev set_list
    ahead_stays y z f g =
        record {
          occupied = λ o. o;
          next = set_off w.next b (start p y) z f;
          prev = set_off (set w.prev y (start p b)) b 0 z f ∙ set_off w.prev y (start p b) z g;
          list = set_off w.list b (list_word l) z f;
        }

    -- another block that is not on the list stays as it is
    pub push_stays : (z : ℕ) → z ≢ b → (In z (L l) → ⊥) → Same st st w (push p l b w) z
    unfolding In
    push_stays z f g = go (L l) refl
      where
        go : (xs : List ℕ) → L l ≡ xs → Same st st w (push p l b w) z
        go [] e = rw (push_empty e) (only_stays z f)
        go (y ∷ ys) e = rw (push_before y ys e) (ahead_stays y z f (λ q. g (rw e (inl q))))

    -- the lasts of other lists stay
    push_last : (m : ℕ) → m ≢ l → (xs : List ℕ) → L l ≡ xs → get_or (push p l b w).last m 0 ≡ get_or w.last m 0
    unfolding push_only ahead set_first set_last set_next set_prev set_list
    push_last m f [] e = rw (push_empty e) (set_off w.last l (start p b) m f)
    push_last m f (y ∷ ys) e = rw (push_before y ys e)

    module _ (hb : b < p.blocks) (ob : get_or st b 0 ≢ 0) (off : Off L b) where
      -- b is on no list
      other : (m z : ℕ) → m < 1470 → In z (L m) → z ≢ b
      unfolding Off
      other m z h i e = off m h (subst (λ (c : ℕ). In c (L m)) e i)

      only_run : Run p st (push_only p l b w) l (b ∷ [])
      unfolding push_only set_first set_last set_next set_prev set_list Seg
      only_run = (
        record {
          at = set_at w.first l (start p b) (omega (arith, Z.first));
          low = hb;
          occupied = ob;
          names = set_at w.list b (list_word l) (omega (arith, Z.list));
          prev = set_at w.prev b 0 (omega (arith, Z.prev));
        },
        (
          set_at w.next b 0 (omega (arith, Z.next)),
          set_at w.last l (start p b) (omega (arith, Z.last)),
        ),
      )

      ahead_run : (y : ℕ) (ys : List ℕ) → L l ≡ y ∷ ys → Run p st (ahead y) l (b ∷ y ∷ ys)
      unfolding ahead set_first set_last set_next set_prev set_list Seg Distinct In
      ahead_run y ys e = (
        record {
          at = set_at w.first l (start p b) (omega (arith, Z.first));
          low = hb;
          occupied = ob;
          names = set_at w.list b (list_word l) (omega (arith, Z.list));
          prev = set_at (set w.prev y (start p b)) b 0 (omega (arith, length-set w.prev y (start p b), Z.prev));
        },
        (
          record {
            at = set_at w.next b (start p y) (omega (arith, Z.next));
            low = s.0.low;
            occupied = s.0.occupied;
            names = set_off w.list b (list_word l) y yb ∙ s.0.names;
            prev = set_off (set w.prev y (start p b)) b 0 y yb ∙ set_at w.prev y (start p b) (omega (arith, Z.prev, s.0.low));
          },
          rw (set_off w.next b (start p y) y yb)
              (seg_same p st st w (ahead y) (list_word l) (get_or w.last l 0) (start p y) (get_or w.next y 0) ys
              (λ z i. ahead_stays y z (other l z low (rw e (inr i))) (λ q. member_out y ys d.0 (subst (λ (c : ℕ). In c ys) q i)))
              s.1),
        ),
      )
        where
          s : Run p st w l (y ∷ ys)
          s = subst (Run p st w l) e (K.seg l low)

          d : Distinct (y ∷ ys)
          d = subst Distinct e (lists_distinct p K B l low)

          yb : y ≢ b
          yb = other l y low (rw e (inl refl))

      -- b, which is on no list, comes to the head of the list l
      pub push_lists : Lists p st (push p l b w) (put l (b ∷ L l) L)
      push_lists =
          lists_put p K (push p l b w) l (b ∷ L l) (go (L l) refl)
          (λ m f. ap (λ (x : List ℕ). get_or x m 0) (push_first p l b w) ∙ set_off w.first l (start p b) m f)
          (λ m f. push_last m f (L l) refl)
          (λ m z h f i. push_stays z (other m z h i) (λ k. f (one_list p K m l z h low i k)))
        where
          go : (xs : List ℕ) → L l ≡ xs → Run p st (push p l b w) l (b ∷ L l)
          go [] e = rw (e, push_empty e) only_run
          go (y ∷ ys) e = rw (e, push_before y ys e) (ahead_run y ys e)

  -- ---- pop

  -- a pop of an empty list does nothing
  pub pop_none : (l : ℕ) → l < 1470 → L l ≡ [] → pop p l w ≡ popped 0 w
  unfolding pop pop_head
  pop_none l low e = if_true (eqb (get_or w.first l 0) 0) _ _ (eq-eqb _ _ (first_none p B K l low e))

  module _ (l x : ℕ) (xs : List ℕ) (low : l < 1470) (e : L l ≡ x ∷ xs) where
    -- a pop of a list with the head x
    pub pop_head_lem : pop p l w ≡ popped (start p x) (set_prev x 0 (set_next x 0 (remove p l x w)))
    unfolding pop
    pop_head_lem =
        let H = first_some p B K l low x xs e in
        if_false (eqb (get_or w.first l 0) 0) _ _ (ne_eqb _ _ (λ q. some_start p B x H.low (sym H.at ∙ q)))
        ∙ ap (λ (a : ℕ). popped a (pop_head p l (block_at p a) (get_or w.next (block_at p a) 0) w)) H.at
        ∙ ap (λ (c : ℕ). popped (start p x) (pop_head p l c (get_or w.next c 0) w)) (block_at_start p B x H.low)
        ∙ ap (λ (t : Words). popped (start p x) t) (pop_head_remove p l x w H.prev)

    pub pop_at_lem : (pop p l w).at ≡ start p x
    pop_at_lem = ap (λ (g : Popped). g.at) pop_head_lem

    -- it takes the head off, which is on no list then
    pub pop_off : Off (put l xs L) x
    unfolding Off Distinct In
    pop_off m lm i =
        let d : Distinct (x ∷ xs) = subst Distinct e (lists_distinct p K B l low) in
        ⊎_elim (λ q. member_out x xs d.0 q.1) (λ q. q.0 (one_list p K m l x lm low q.1 (rw e (inl refl)))) (in_put l xs L m x i)

    -- list words stay
    pub pop_words : (z : ℕ) → get_or (pop p l w).words.list z 0 ≡ get_or w.list z 0
    unfolding In set_next set_prev
    pop_words z = rw pop_head_lem (words_same p B st w Z L K l x low (rw e (inl refl)) z)

    -- a block that was not on the list stays as it is
    pub pop_stays : (z : ℕ) → (In z (L l) → ⊥) → Same st st w (pop p l w).words z
    unfolding In set_next set_prev
    pop_stays z f =
        let S = remove_stays p B st w Z L K l x low (rw e (inl refl)) z f in
        let ne : z ≢ x = λ q. f (rw e (inl q)) in
        rw pop_head_lem
        (record {
          occupied = λ o. o;
          next = set_off (remove p l x w).next x 0 z ne ∙ S.next;
          prev = set_off (remove p l x w).prev x 0 z ne ∙ S.prev;
          list = S.list;
        })

    pub pop_lists : Lists p st (pop p l w).words (put l xs L)
    unfolding In set_next set_prev
    pop_lists =
        let left : without x (L l) ≡ xs = ap (without x) e ∙ without_head x xs (subst Distinct e (lists_distinct p K B l low)) in
        let R : Lists p st (remove p l x w) (put l xs L) = subst (λ (ys : List ℕ). Lists p st (remove p l x w) (put l ys L)) left (remove_lists p B st w Z L K l x low (rw e (inl refl))) in
        rw pop_head_lem
        (lists_off p R x pop_off refl refl
        (λ z f. record {
          occupied = λ o. o;
          next = set_off (remove p l x w).next x 0 z f;
          prev = set_off (remove p l x w).prev x 0 z f;
          list = refl;
        }))
