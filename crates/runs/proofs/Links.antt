-- The block lists in the search of an alloc, which pops blocks and pushes them elsewhere: what a pop and a push do to the words,
-- where all that matters of the lists is that there are such. Assumes nothing.
use mathlib.Core.Path.{◌≡◌, refl, ap, ◌∙◌}
use mathlib.Core.Logic.{◌≢◌, ◌⊎◌, inl, inr}
use mathlib.Core.List.{List, [], ◌∷◌}
use Prim.Native.Nat.{ℕ, ◌<◌}
use native.Mathlib.Omega.{arith}
use lib.ListN.{get_or}
use Rattle.model.specs.declared.Params.{Params}
use Rattle.model.specs.Params.{start, list_word}
use Rattle.model.specs.Tables.{Words}
use Rattle.model.specs.BlockList.{push, pop, popped}
use Rattle.laws.proofs.Params.{Bounds}
use Rattle.laws.proofs.Stores.{set_at, set_off}
use Rattle.laws.proofs.Tables.{Sized, sized_same}
use Rattle.laws.proofs.Frame.{links_refl, push_links, pop_links, push_list}
use Rattle.soundness.proofs.Lists.{Lists, Off, put, links_of, on_list, lists_same, first_none, first_some}
use Rattle.soundness.proofs.Moves.{push_lists, pop_none, pop_at_lem, pop_off, pop_lists, pop_words}

module _ (p : Params) (st : List ℕ) where
  -- b is an occupied block
  abbrev pub Occupied : ℕ → Type 0
  Occupied b = ((b < p.blocks) × (get_or st b 0 ≢ 0))

  -- the words link lists of blocks
  pub record Linked (w : Words) : Type 0 where
    pub lists : ℕ → List ℕ
    pub linked : Lists p st w lists

  -- and b is on none
  pub record Loose (w : Words) (b : ℕ) : Type 0 where
    pub linked : Linked w
    pub off : Off linked.lists b

  -- so do other words with the same links
  pub linked_same : {w : Words} (w' : Words) → links_of w' ≡ links_of w → Linked w → Linked w'
  linked_same w' e K =
      record { lists = K.lists; linked = lists_same p K.linked e (λ l b low i. (on_list p K.linked l b low i).occupied) }

  pub loose_same : {w : Words} (w' : Words) {b : ℕ} → links_of w' ≡ links_of w → Loose w b → Loose w' b
  unfolding linked_same
  loose_same w' e K = record { linked = linked_same w' e K.linked; off = K.off }

  module _ (B : Bounds p) (w : Words) (len : Sized p.blocks w) (K : Linked w) where
    -- ---- pop

    -- what is known after b was taken off the list l, leaving w'
    pub record Popping (l : ℕ) (b : ℕ) (w' : Words) : Type 0 where
      pub occupied : Occupied b
      pub word : get_or w.list b 0 ≡ list_word l
      pub linked : Linked w'
      pub loose : Loose w' b
      pub lists : (z : ℕ) → get_or w'.list z 0 ≡ get_or w.list z 0
      pub lengths : Sized p.blocks w'

    pub record Pop (l b : ℕ) : Type 0 where
      pub first : get_or w.first l 0 ≡ start p b
      pub words : Words
      pub is : pop p l w ≡ popped (start p b) words
      pub popping : Popping l b words

    -- an empty list, or its first block popped
    pub record Empty (l : ℕ) : Type 0 where
      pub first : get_or w.first l 0 ≡ 0
      pub is : pop p l w ≡ popped 0 w

    pub pop_cases : (l : ℕ) → l < 1470 → Empty l ⊎ ((b : ℕ) × Pop l b)
    pop_cases l low = go (K.lists l) refl
      where
        go : (xs : List ℕ) → K.lists l ≡ xs → Empty l ⊎ ((b : ℕ) × Pop l b)
        go [] e = inl (record { first = first_none p B K.linked l low e; is = pop_none p B st w len K.lists K.linked l low e })
        go (x ∷ xs) e =
            let H = first_some p B K.linked l low x xs e in
            let L : Linked (pop p l w).words =
            record { lists = put l xs K.lists; linked = pop_lists p B st w len K.lists K.linked l x xs low e } in
            inr (
              x,
              record {
                first = H.at;
                words = (pop p l w).words;
                is = ap (λ (a : ℕ). popped a (pop p l w).words) (pop_at_lem p B st w len K.lists K.linked l x xs low e);
                popping = record {
                  occupied = (H.low, H.occupied);
                  word = H.names;
                  linked = L;
                  loose = record { linked = L; off = pop_off p B st w len K.lists K.linked l x xs low e };
                  lists = pop_words p B st w len K.lists K.linked l x xs low e;
                  lengths = sized_same (pop_links p l w (links_refl w)).lengths len;
                };
              },
            )

    -- ---- push: b, which is on no list, goes to the head of c

    pub record Pushed (c b : ℕ) (w' : Words) : Type 0 where
      pub linked : Linked w'
      pub word : get_or w'.list b 0 ≡ list_word c
      pub others : (z : ℕ) → z ≢ b → get_or w'.list z 0 ≡ get_or w.list z 0
      pub lengths : Sized p.blocks w'

    pub push_pushed : (c b : ℕ) → c < 1470 → Occupied b → Loose w b → Pushed c b (push p c b w)
    push_pushed c b low ob free =
        record {
          linked = record {
            lists = put c (b ∷ free.linked.lists c) free.linked.lists;
            linked = push_lists p B st w len free.linked.lists free.linked.linked c b low ob.0 ob.1 free.off;
          };
          word = ap (λ (x : List ℕ). get_or x b 0) (push_list p c b w) ∙ set_at w.list b (list_word c) (omega (arith, len.list, ob.0));
          others = λ z f. ap (λ (x : List ℕ). get_or x z 0) (push_list p c b w) ∙ set_off w.list b (list_word c) z f;
          lengths = sized_same (push_links p c b w (links_refl w)).lengths len;
        }
