-- A line's kind as the code answers it, tied to the model's `line_of`. Assumes nothing.
use Rattle.std.specs.Prelude.{if◌then◌else◌, Option, Some, None, nat_eq}
use Rattle.std.specs.Option.{option_eq}
use mathlib.Core.Path.{◌≡◌, refl, sym, ap, ◌∙◌}
use mathlib.Core.Bool.{Bool, true, false, ◌&&◌, ◌||◌}
use mathlib.Core.Logic.{◌⊎◌, inl, inr}
use mathlib.Core.List.{List, []}
use Prim.Native.Nat.{ℕ, ◌+◌, ◌-◌, ◌<◌}
use native.Mathlib.Omega.{arith}
use lib.Dec.{eqb}
use lib.ListN.{length, get_or}
use borrow.Author.Tests.{ne_eqb, eqb-false}
use Rattle.model.specs.declared.Block.{Block}
use Rattle.model.specs.Base.{all_below}
use Rattle.model.specs.Calls.{Call, bind, destroy, alloc, prepare, mark, release, shared_release}
use Rattle.model.specs.Census.{is_number, value_of, is_word, numbers_to, is_line, arg, is_alloc, offer_of, line_of}
use Rattle.laws.proofs.Below.{test, and_second, all_below_off}
use Rattle.trace.specs.Number.{number_of}
use Rattle.trace.proofs.NumberLaws.{is_number_lem, no_number}
use Rattle.trace.specs.Line.{alloc_asked, asked, asked_one, letter_of, mark_asked, offered, one_number}

-- a word that is a letter, and one that is none
word_letter : (c l : ℕ) (w : List ℕ) → letter_of w ≡ Some l → is_word c w ≡ eqb l c
unfolding is_word letter_of
word_letter c l w e = go (eqb (length w) 1) e
  where
    go : (b : Bool) → (if b then Some (get_or w 0 0) else None) ≡ Some l → (b && eqb (get_or w 0 0) c) ≡ eqb l c
    go true e' = let q : get_or w 0 0 ≡ l = cc in rw q
    go false e' = absurd (let z : ◌≡◌ {A = ℕ} 0 1 = cc in omega arith)

word_none : (c : ℕ) (w : List ℕ) → letter_of w ≡ None → is_word c w ≡ false
unfolding is_word letter_of
word_none c w e = go (eqb (length w) 1) e
  where
    go : (b : Bool) → (if b then Some (get_or w 0 0) else None) ≡ None → (b && eqb (get_or w 0 0) c) ≡ false
    go true e' = absurd (let z : ◌≡◌ {A = ℕ} 0 1 = cc in omega arith)
    go false e' = refl

-- so is a test for one
pub word_tested : (c : ℕ) (w : List ℕ) {o : Option ℕ} {e y : Bool} → o ≡ letter_of w → e ≡ option_eq nat_eq o (Some c) → e ≡ y → is_word c w ≡ y
unfolding is_word letter_of
word_tested c w {o} {e} {y} q f g = go (eqb (length w) 1) ∙ (rw q at (sym f ∙ g))
  where
    go : (b : Bool) → (b && eqb (get_or w 0 0) c) ≡ option_eq nat_eq (if b then Some (get_or w 0 0) else None) (Some c)
    go true = refl
    go false = refl

-- the lines by their letter
unfoldable pub line_by : ℕ → List (List ℕ) → Option Call
line_by l ws =
    if eqb l 98 && eqb (length ws) 2 && numbers_to 2 ws then Some (bind (arg ws 1))
    else if eqb l 100 && eqb (length ws) 2 && numbers_to 2 ws then Some (destroy (arg ws 1))
    else if eqb l 97 && eqb (length ws) 6 && numbers_to 5 ws && (is_word 45 (get_or ws 5 []) || is_number (get_or ws 5 []))
    then Some (alloc (arg ws 1) (arg ws 2) (arg ws 3) (arg ws 4) (offer_of (get_or ws 5 [])))
    else if eqb l 112 && eqb (length ws) 1 && numbers_to 1 ws then Some prepare
    else if eqb l 109 && eqb (length ws) 3 && numbers_to 3 ws then Some (mark (arg ws 1) (arg ws 2))
    else if eqb l 114 && eqb (length ws) 2 && numbers_to 2 ws then Some (release (arg ws 1))
    else if eqb l 115 && eqb (length ws) 1 && numbers_to 1 ws then Some shared_release
    else None

pub line_letter : (ws : List (List ℕ)) (l : ℕ) {r : Option ℕ} → r ≡ letter_of (get_or ws 0 []) → r ≡ Some l → line_by l ws ≡ line_of ws
unfolding line_of is_line is_alloc line_by
line_letter ws l q f =
    let w : List ℕ = get_or ws 0 [] in
    let e : letter_of (get_or ws 0 []) ≡ Some l = sym q ∙ f in
    rw (
      ← (word_letter 98 l w e),
      ← (word_letter 100 l w e),
      ← (word_letter 97 l w e),
      ← (word_letter 112 l w e),
      ← (word_letter 109 l w e),
      ← (word_letter 114 l w e),
      ← (word_letter 115 l w e),
    )

-- a word that is no letter begins no line
pub line_none : (ws : List (List ℕ)) {r : Option ℕ} → r ≡ letter_of (get_or ws 0 []) → r ≡ None → None ≡ line_of ws
unfolding line_of is_line is_alloc
line_none ws q f =
    let w : List ℕ = get_or ws 0 [] in
    let e : letter_of (get_or ws 0 []) ≡ None = sym q ∙ f in
    rw (word_none 98 w e, word_none 100 w e, word_none 97 w e, word_none 112 w e, word_none 109 w e, word_none 114 w e, word_none 115 w e)

-- a letter of no line
pub line_other : (ws : List (List ℕ)) (l : ℕ) {o : Option ℕ} → o ≡ letter_of (get_or ws 0 []) → o ≡ Some l → (l ≡ 98 → ⊥) → (l ≡ 100 → ⊥) → (l ≡ 97 → ⊥)
    → (l ≡ 112 → ⊥) → (l ≡ 109 → ⊥) → (l ≡ 114 → ⊥) → (l ≡ 115 → ⊥) → None ≡ line_of ws
unfolding line_by
line_other ws l q f b d a p m r s =
    rw (← (line_letter ws l q f), ne_eqb l 98 b, ne_eqb l 100 d, ne_eqb l 97 a, ne_eqb l 112 p, ne_eqb l 109 m, ne_eqb l 114 r, ne_eqb l 115 s)

-- ---- lines whose letter is known

module _ (ws : List (List ℕ)) where
  -- an answer of the word k
  pub said : (k : ℕ) (r : Option ℕ) (v : ℕ) → r ≡ number_of (get_or ws k []) → r ≡ Some v → (is_number (get_or ws k []) ≡ true) × (arg ws k ≡ v)
  unfolding arg
  said k r v e g = is_number_lem (get_or ws k []) v (sym e ∙ g)

  pub numbers_off : (n k : ℕ) (r : Option ℕ) → r ≡ number_of (get_or ws k []) → r ≡ None → 0 < k → k < n → numbers_to n ws ≡ false
  unfolding numbers_to
  numbers_off n k r e g l m =
      let j : k - 1 + 1 ≡ k = omega arith in
      all_below_off (n - 1) _ (k - 1) (omega arith)
      (ap (λ (i : ℕ). is_number (get_or ws i [])) j ∙ no_number (get_or ws k []) (sym e ∙ g))

  pub asked_count : (n : ℕ) (c : Call) → (length ws ≡ n → ⊥) → None ≡ asked n ws c
  unfolding asked
  asked_count n c e = rw (ne_eqb (length ws) n e)

  pub asked_off : (n k : ℕ) (c : Call) (r : Option ℕ) → r ≡ number_of (get_or ws k []) → r ≡ None → 0 < k → k < n → None ≡ asked n ws c
  unfolding asked
  asked_off n k c r e g l m = rw (numbers_off n k r e g l m, and_second (eqb (length ws) n) {b = false} refl)

  pub asked_one_lem : (c : Call) → length ws ≡ 1 → Some c ≡ asked 1 ws c
  unfolding asked numbers_to all_below
  asked_one_lem c e = rw e

  pub asked_two : (f : ℕ → Call) (r : Option ℕ) (h : ℕ) → r ≡ one_number ws → r ≡ Some h → Some (f h) ≡ asked_one f ws
  unfolding asked numbers_to all_below one_number
  asked_two f r h e g = go (test (eqb (length ws) 2))
    where
      go : (eqb (length ws) 2 ≡ true) ⊎ (eqb (length ws) 2 ≡ false) → Some (f h) ≡ asked 2 ws (f (arg ws 1))
      go (inl y) = let a = said 1 r h (rw y at e) g in rw (y, a.0, a.1)
      go (inr z) = absurd (let q : None ≡ Some h = sym (rw z at e) ∙ g in let z : ◌≡◌ {A = ℕ} 0 1 = cc in omega arith)

  pub asked_two_off : (f : ℕ → Call) (r : Option ℕ) → r ≡ one_number ws → r ≡ None → None ≡ asked_one f ws
  unfolding one_number
  asked_two_off f r e g = go (test (eqb (length ws) 2))
    where
      go : (eqb (length ws) 2 ≡ true) ⊎ (eqb (length ws) 2 ≡ false) → None ≡ asked_one f ws
      go (inl y) = asked_off 2 1 (f (arg ws 1)) r (rw y at e) g (omega arith) (omega arith)
      go (inr z) = asked_count 2 (f (arg ws 1)) (eqb-false (length ws) 2 z)

  pub asked_mark : (r q : Option ℕ) (a b : ℕ) → length ws ≡ 3 → r ≡ number_of (get_or ws 1 []) → r ≡ Some a
      → q ≡ number_of (get_or ws 2 []) → q ≡ Some b → Some (mark a b) ≡ mark_asked ws
  unfolding asked numbers_to all_below
  asked_mark r q a b n e g e' g' =
      let s₁ = said 1 r a e g in
      let s₂ = said 2 q b e' g' in
      rw (n, s₁.0, s₁.1, s₂.0, s₂.1)

  -- ---- an alloc

  pub alloc_count : (length ws ≡ 6 → ⊥) → None ≡ alloc_asked ws
  unfolding alloc_asked
  alloc_count e = rw (ne_eqb (length ws) 6 e)

  pub alloc_off : (k : ℕ) (r : Option ℕ) → r ≡ number_of (get_or ws k []) → r ≡ None → 0 < k → k < 5 → None ≡ alloc_asked ws
  unfolding alloc_asked
  alloc_off k r e g l m = rw (numbers_off 5 k r e g l m, and_second (eqb (length ws) 6) {b = false} refl)

  -- the block that an alloc's last word names
  abbrev named : Block
  named = record { 0 = value_of (get_or ws 5 []) }

  offer_none : offered (get_or ws 5 []) ≡ None → (is_word 45 (get_or ws 5 []) || is_number (get_or ws 5 [])) ≡ false
  unfolding offered
  offer_none e = go (is_word 45 (get_or ws 5 [])) (is_number (get_or ws 5 [])) e
    where
      go : (a b : Bool) → ◌≡◌ {A = Option (Option Block)} (if a then Some None else if b then Some (Some named) else None) None
          → (a || b) ≡ false
      go true b e' = absurd (let z : ◌≡◌ {A = ℕ} 0 1 = cc in omega arith)
      go false true e' = absurd (let z : ◌≡◌ {A = ℕ} 0 1 = cc in omega arith)
      go false false e' = refl

  offer_some : (o : Option Block) → offered (get_or ws 5 []) ≡ Some o
      → ((is_word 45 (get_or ws 5 []) || is_number (get_or ws 5 [])) ≡ true) × (offer_of (get_or ws 5 []) ≡ o)
  unfolding offered offer_of
  offer_some o e = go (is_word 45 (get_or ws 5 [])) (is_number (get_or ws 5 [])) e
    where
      go : (a b : Bool) → ◌≡◌ {A = Option (Option Block)} (if a then Some None else if b then Some (Some named) else None) (Some o)
          → ((a || b) ≡ true) × (◌≡◌ {A = Option Block} (if a then None else Some named) o)
      go true b e' = (refl, cc)
      go false true e' = (refl, cc)
      go false false e' = absurd (let z : ◌≡◌ {A = ℕ} 0 1 = cc in omega arith)

  pub alloc_offer : (r : Option (Option Block)) → r ≡ offered (get_or ws 5 []) → r ≡ None → None ≡ alloc_asked ws
  unfolding alloc_asked
  alloc_offer r e g =
      rw (offer_none (sym e ∙ g), and_second (eqb (length ws) 6 && numbers_to 5 ws) {b = false} refl)

  -- the words from the second to the fifth, as numbers
  pub record Said (h size align offset : ℕ) : Type 0 where
    pub first : (is_number (get_or ws 1 []) ≡ true) × (arg ws 1 ≡ h)
    pub second : (is_number (get_or ws 2 []) ≡ true) × (arg ws 2 ≡ size)
    pub third : (is_number (get_or ws 3 []) ≡ true) × (arg ws 3 ≡ align)
    pub fourth : (is_number (get_or ws 4 []) ≡ true) × (arg ws 4 ≡ offset)

  pub asked_alloc : (h size align offset : ℕ) (o : Option Block) (r : Option (Option Block)) → length ws ≡ 6 → Said h size align offset
      → r ≡ offered (get_or ws 5 []) → r ≡ Some o → Some (alloc h size align offset o) ≡ alloc_asked ws
  unfolding alloc_asked numbers_to all_below
  asked_alloc h size align offset o r n s e g =
      let p = offer_some o (sym e ∙ g) in
      rw (n, s.first.0, s.first.1, s.second.0, s.second.1, s.third.0, s.third.1, s.fourth.0, s.fourth.1, p.0, p.1)

-- ---- the offer that a word names

module _ (w : List ℕ) where
  pub offer_dash : is_word 45 w ≡ true → Some None ≡ offered w
  unfolding offered
  offer_dash y = rw y

  pub offer_block : (r : Option ℕ) (b : ℕ) → is_word 45 w ≡ false → r ≡ number_of w → r ≡ Some b → Some (Some (record { 0 = b })) ≡ offered w
  unfolding offered
  offer_block r b n e g = let s = is_number_lem w b (sym e ∙ g) in rw (n, s.0, s.1)

  pub offer_bad : (r : Option ℕ) → is_word 45 w ≡ false → r ≡ number_of w → r ≡ None → None ≡ offered w
  unfolding offered
  offer_bad r n e g = rw (n, no_number w (sym e ∙ g))
