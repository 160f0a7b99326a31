-- Laws of the census program's text: numbers, pieces between separators, and bytes put one behind the other in a buffer.
-- Assumes nothing.
use Rattle.std.specs.Prelude.{if◌then◌else◌}
use mathlib.Core.Path.{◌≡◌, refl, sym, ap, ◌∙◌}
use mathlib.Core.Bool.{Bool, true, false, ◌&&◌}
use mathlib.Core.List.{List, [], ◌∷◌, ◌++◌, foldl}
use Prim.Native.Nat.{ℕ, zero, suc, ◌+◌, ◌-◌, ◌*◌, ◌≤◌, ◌<◌, min, max}
use native.Mathlib.Nat.{not-suc-le-zero, le_of_suc-le-suc}
use native.Mathlib.Omega.{arith}
use lib.Dec.{eqb, ltb, leb}
use borrow.Author.Tests.{ltb-true, lt-ltb, le-ltb, leb-true, leb-false}
use mathlib.Core.Logic.{◌⊎◌, inl, inr}
use lib.ListN.{length, get_or, set, take, drop, length-append, length-take, length-drop, drop_of_length-le}
use lib.Seq.{drop-drop}
use Rattle.model.specs.Base.{all_below}
use Rattle.model.specs.Memory.{overwrite}
use Rattle.model.specs.Census.{newline, before, pieces, drop_blank_end, is_digit}
use Rattle.laws.proofs.Below.{all_below_at, all_below_from, same_test, and_both, and_left, and_right, test}
use Rattle.laws.proofs.Memory.{length_overwrite, overwrite_out, overwrite_nil, overwrite_set}
use Rattle.model.specs.Text.{until, piece_end, lines_from, place_after, Printed}

-- ---- pieces

pub until_le : (sep : ℕ) (cs : List ℕ) → until sep cs ≤ length cs
unfolding until
until_le sep [] = omega arith
until_le sep (c ∷ cs) = go (eqb c sep) (until_le sep cs)
  where
    go : (b : Bool) → until sep cs ≤ length cs → (if b then 0 else suc (until sep cs)) ≤ length (c ∷ cs)
    go true e = omega arith
    go false e = omega arith

-- what is behind the first piece
unfoldable pub behind : ℕ → List ℕ → List (List ℕ)
behind sep cs = if ltb (until sep cs) (length cs) then pieces sep (drop (suc (until sep cs)) cs) else []

ltb_suc : (a b : ℕ) → ltb (suc a) (suc b) ≡ ltb a b
ltb_suc a b =
    same_test (ltb (suc a) (suc b)) (ltb a b) (λ q. lt-ltb a b (omega (arith, ltb-true (suc a) (suc b) q)))
    (λ q. lt-ltb (suc a) (suc b) (omega (arith, ltb-true a b q)))

pub pieces_step : (sep : ℕ) (cs : List ℕ) → pieces sep cs ≡ take (until sep cs) cs ∷ behind sep cs
unfolding pieces until behind before
pieces_step sep [] = refl
pieces_step sep (c ∷ cs) = go (eqb c sep) (pieces_step sep cs)
  where
    go : (b : Bool) → pieces sep cs ≡ take (until sep cs) cs ∷ behind sep cs
        → (if b then ([] ∷ pieces sep cs) else before c (pieces sep cs))
        ≡ take (if b then 0 else suc (until sep cs)) (c ∷ cs)
        ∷ (if ltb (if b then 0 else suc (until sep cs)) (length (c ∷ cs)) then pieces sep (drop (suc (if b then 0 else suc (until sep cs))) (c ∷ cs)) else [])
    go true e = rw (lt-ltb 0 (suc (length cs)) (omega arith))
    go false e = rw (e, ltb_suc (until sep cs) (length cs))

-- ---- pieces by places: the first byte of a piece, and the place behind its last

module _ (sep : ℕ) (s : List ℕ) (at : ℕ) where
  pub end_ge : at ≤ piece_end sep s at
  unfolding piece_end
  end_ge = omega arith

  pub end_le : at ≤ length s → piece_end sep s at ≤ length s
  unfolding piece_end
  end_le l = omega (arith, until_le sep (drop at s), length-drop at s)

  -- the piece, and what is behind it
  pub piece_more : at ≤ length s → piece_end sep s at < length s
      → pieces sep (drop at s) ≡ take (piece_end sep s at - at) (drop at s) ∷ pieces sep (drop (piece_end sep s at + 1) s)
  unfolding piece_end behind
  piece_more l m =
      let n : until sep (drop at s) < length (drop at s) = rw length-drop (omega arith) in
      let d : at + until sep (drop at s) - at ≡ until sep (drop at s) = omega arith in
      let e : at + suc (until sep (drop at s)) ≡ at + until sep (drop at s) + 1 = omega arith in
      pieces_step sep (drop at s) ∙ rw (lt-ltb (until sep (drop at s)) (length (drop at s)) n, drop-drop, d, e)

  pub piece_last : at ≤ length s → length s ≤ piece_end sep s at
      → pieces sep (drop at s) ≡ take (piece_end sep s at - at) (drop at s) ∷ []
  unfolding piece_end behind
  piece_last l m =
      let n : length (drop at s) ≤ until sep (drop at s) = rw length-drop (omega arith) in
      let d : at + until sep (drop at s) - at ≡ until sep (drop at s) = omega arith in
      pieces_step sep (drop at s) ∙ rw (le-ltb (until sep (drop at s)) (length (drop at s)) n, d)

pub end_between : (sep : ℕ) (s : List ℕ) (at e : ℕ) → e ≡ piece_end sep s at → at ≤ length s → (at ≤ e) × (e ≤ length s)
end_between sep s at e q l = (omega (arith, end_ge sep s at), omega (arith, end_le sep s at l))

-- ---- the lines of a trace from a place on

blank_end_cons : (x : List ℕ) (sep : ℕ) (cs : List ℕ) → drop_blank_end (x ∷ pieces sep cs) ≡ x ∷ drop_blank_end (pieces sep cs)
unfolding drop_blank_end
blank_end_cons [] sep cs = rw pieces_step
blank_end_cons (c ∷ x) sep cs = rw pieces_step

blank_end_one : (x : List ℕ) → 0 < length x → drop_blank_end (x ∷ []) ≡ x ∷ []
unfolding drop_blank_end
blank_end_one [] l = absurd (not-suc-le-zero l)
blank_end_one (c ∷ x) l = refl

pub lines_end : (s : List ℕ) (at : ℕ) → length s ≤ at → lines_from s at ≡ []
unfolding lines_from drop_blank_end pieces
lines_end s at l = rw (drop_of_length-le s l)

module _ (s : List ℕ) (at : ℕ) where
  pub lines_more : at ≤ length s → piece_end newline s at < length s
      → lines_from s at ≡ take (piece_end newline s at - at) (drop at s) ∷ lines_from s (piece_end newline s at + 1)
  unfolding lines_from
  lines_more l m = rw (piece_more newline s at l m) (blank_end_cons _ newline _)

  pub lines_last : at < length s → length s ≤ piece_end newline s at
      → lines_from s at ≡ take (piece_end newline s at - at) (drop at s) ∷ lines_from s (piece_end newline s at)
  unfolding lines_from
  lines_last l m =
      let n : 0 < length (take (piece_end newline s at - at) (drop at s)) = simp (length-take, length-drop) (omega arith) in
      let e : drop_blank_end (pieces newline (drop (piece_end newline s at) s)) ≡ [] = lines_end s (piece_end newline s at) m in
      rw (piece_last newline s at (omega arith) m, e) (blank_end_one _ n)

-- ---- numbers

-- the value of digits behind others of the value v
abbrev pub value_from : ℕ → List ℕ → ℕ
value_from v cs = foldl (λ (n c : ℕ). 10 * n + (c - 48)) v cs

-- "decimal": digits alone, from the front
unfoldable pub all_digits : List ℕ → Bool
all_digits [] = true
all_digits (c ∷ cs) = is_digit c && all_digits cs

digits_from : (cs : List ℕ) → ((i : ℕ) → i < length cs → is_digit (get_or cs i 0) ≡ true) → all_digits cs ≡ true
unfolding all_digits
digits_from [] h = refl
digits_from (c ∷ cs) h = and_both (h 0 (omega arith)) (digits_from cs (λ i l. h (suc i) (omega arith)))

digits_at : (cs : List ℕ) → all_digits cs ≡ true → (i : ℕ) → i < length cs → is_digit (get_or cs i 0) ≡ true
unfolding all_digits
digits_at [] h i l = absurd (not-suc-le-zero l)
digits_at (c ∷ cs) h zero l = and_left (is_digit c) _ h
digits_at (c ∷ cs) h (suc i) l = digits_at cs (and_right (is_digit c) _ h) i (le_of_suc-le-suc l)

pub all_digits_lem : (cs : List ℕ) → all_below (length cs) (λ i. is_digit (get_or cs i 0)) ≡ all_digits cs
unfolding all_digits
all_digits_lem cs =
    same_test (all_below (length cs) (λ i. is_digit (get_or cs i 0))) (all_digits cs)
    (λ h. digits_from cs (λ i l. all_below_at (length cs) _ h i l)) (λ h. all_below_from (length cs) _ (digits_at cs h))

-- ---- a buffer that is written piece by piece

pub overwrite_append : (i : ℕ) (xs ys h : List ℕ) → overwrite i (xs ++ ys) h ≡ overwrite (i + length xs) ys (overwrite i xs h)
unfolding overwrite
overwrite_append i xs ys [] = refl
overwrite_append zero [] ys (x ∷ h) = refl
overwrite_append zero (v ∷ vs) ys (x ∷ h) =
    let e : 0 + length (v ∷ vs) ≡ suc (0 + length vs) = omega arith in
    rw e (ap (λ (k : List ℕ). v ∷ k) (overwrite_append 0 vs ys h))
overwrite_append (suc i) xs ys (x ∷ h) =
    let e : suc i + length xs ≡ suc (i + length xs) = omega arith in
    rw e (ap (λ (k : List ℕ). x ∷ k) (overwrite_append i xs ys h))

pub place_add : (len at n m : ℕ) → place_after len (place_after len at n) m ≡ place_after len at (n + m)
unfolding place_after
place_add len at n m = omega arith

pub printed_nil : (h : List ℕ) (at : ℕ) → Printed h h at at []
unfolding place_after
printed_nil h at = record { bytes = sym (overwrite_nil at h); place = omega arith }

pub printed_byte : (h : List ℕ) (at b : ℕ) → at < length h → Printed h (set h at b) at (at + 1) (b ∷ [])
unfolding place_after
printed_byte h at b l = record { bytes = sym (overwrite_set at b [] h ∙ overwrite_nil (at + 1) (set h at b)); place = omega arith }

-- nothing fits any more
pub printed_full : (h : List ℕ) (at : ℕ) (text : List ℕ) → length h ≤ at → Printed h h at at text
unfolding place_after
printed_full h at text l = record { bytes = sym (overwrite_out at text h l); place = omega arith }

pub length_printed : {h h' : List ℕ} {at at' : ℕ} {text : List ℕ} → Printed h h' at at' text → length h' ≡ length h
length_printed {h} {h'} {at} {at'} {text} p = ap length p.bytes ∙ length_overwrite at text h

-- writing at the place after, or where the text ends, is the same
overwrite_place : (h : List ℕ) (at n : ℕ) (ys : List ℕ) → overwrite (place_after (length h) at n) ys h ≡ overwrite (at + n) ys h
unfolding place_after
overwrite_place h at n ys = go (test (leb (at + n) (length h)))
  where
    go : (leb (at + n) (length h) ≡ true) ⊎ (leb (at + n) (length h) ≡ false)
        → overwrite (max at (min (at + n) (length h))) ys h ≡ overwrite (at + n) ys h
    go (inl y) =
        let l : at + n ≤ length h = leb-true _ _ y in
        let e : max at (min (at + n) (length h)) ≡ at + n = omega arith in
        rw e
    go (inr z) =
        let l : length h < at + n = leb-false _ _ z in
        overwrite_out _ ys h (omega arith) ∙ sym (overwrite_out (at + n) ys h (omega arith))

-- what is printed behind a text, as if with it
module _ {h h' : List ℕ} {at at' : ℕ} {xs : List ℕ} (p : Printed h h' at at' xs) (ys : List ℕ) where
  pub behind_bytes : overwrite at' ys h' ≡ overwrite at (xs ++ ys) h
  behind_bytes =
      let place' : at' ≡ place_after (length h') at (length xs) = rw (length_printed p) p.place in
      rw place' (overwrite_place h' at (length xs) ys ∙ rw p.bytes (sym (overwrite_append at xs ys h)))

  pub behind_place : place_after (length h') at' (length ys) ≡ place_after (length h) at (length (xs ++ ys))
  behind_place = rw (length_printed p, p.place, length-append) (place_add (length h) at (length xs) (length ys))

pub printed_append : {h h' h'' : List ℕ} {at at' at'' : ℕ} {xs ys : List ℕ}
    → Printed h h' at at' xs → Printed h' h'' at' at'' ys → Printed h h'' at at'' (xs ++ ys)
printed_append {ys = ys} p q = record { bytes = q.bytes ∙ behind_bytes p ys; place = q.place ∙ behind_place p ys }

-- ---- a loop that prints: what remains, printed here, makes the whole printed there

pub record Remains (h h' : List ℕ) (at at' : ℕ) (whole rest : List ℕ) : Type 0 where
  pub same : length h' ≡ length h
  pub bytes : overwrite at' rest h' ≡ overwrite at whole h
  pub place : place_after (length h') at' (length rest) ≡ place_after (length h) at (length whole)

pub remains_start : (h : List ℕ) (at : ℕ) (whole : List ℕ) → Remains h h at at whole whole
remains_start h at whole = record { same = refl; bytes = refl; place = refl }

pub remains_round : {h h' h'' : List ℕ} {at at' at'' : ℕ} {whole x : List ℕ} (rest : List ℕ)
    → Remains h h' at at' whole (x ++ rest) → Printed h' h'' at' at'' x → Remains h h'' at at'' whole rest
remains_round rest i p =
    record {
      same = length_printed p ∙ i.same;
      bytes = behind_bytes p rest ∙ i.bytes;
      place = behind_place p rest ∙ i.place;
    }

pub remains_end : {h h' : List ℕ} {at at' : ℕ} {whole : List ℕ} → Remains h h' at at' whole [] → Printed h h' at at' whole
unfolding place_after
remains_end {h} {h'} {at} {at'} {whole} i =
    record { bytes = sym (overwrite_nil at' h') ∙ i.bytes; place = omega (arith, i.place) }
