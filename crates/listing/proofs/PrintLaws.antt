-- What the printing functions put, piece by piece. Assumes nothing.
use mathlib.Core.Path.{◌≡◌, refl, sym, ap, ◌∙◌}
use mathlib.Core.List.{List, [], ◌∷◌, ◌++◌, append_assoc, flatten}
use Prim.Native.Nat.{ℕ, suc, ◌+◌, ◌^◌, ◌≤◌, ◌<◌}
use native.Mathlib.Numerals.{add-one}
use lib.ListN.{length, get_or, take, drop, length-map, drop_of_length-le}
use lib.Seq.{take-suc, drop-cons}
use borrow.Author.Tests.{lt-ltb, le-ltb}
use borrow.Author.Rules.{rules}
use Rattle.std.specs.Fmt.{decimal as text_of}
use Rattle.std.proofs.lemmas.Fmt.{AppendsLastDigit, decimal_from_appends, length-decimal-le}
use Rattle.model.specs.Census.{newline, space, digits, decimal, spaced, section, refused_row}
use Rattle.laws.proofs.Text.{printed_nil, printed_append, Remains, remains_start, remains_round, remains_end}
use Rattle.listing.specs.declared.print.Page.{Page}
use Rattle.listing.specs.declared.print.Refused.{Refused}
use Rattle.listing.specs.Print.{Puts, refused_rows}

-- ---- texts put one behind the other

pub puts_nil : (p : Page) → Puts p p []
puts_nil p = record { printed = printed_nil p.bytes.now p.at; same_reference = refl }

pub puts_append : {p q r : Page} {xs ys : List ℕ} → Puts p q xs → Puts q r ys → Puts p r (xs ++ ys)
puts_append a b =
    record { printed = printed_append a.printed b.printed; same_reference = b.same_reference ∙ a.same_reference }

-- of a whole text this is left to put
pub record Left (before page : Page) (whole rest : List ℕ) : Type 0 where
  pub remains : Remains before.bytes.now page.bytes.now before.at page.at whole rest
  pub same_reference : page.bytes.ghost_name ≡ before.bytes.ghost_name

pub left_start : (p : Page) (whole : List ℕ) → Left p p whole whole
left_start p whole = record { remains = remains_start p.bytes.now p.at whole; same_reference = refl }

pub left_round : {p q r : Page} {whole x : List ℕ} (rest : List ℕ) → Left p q whole (x ++ rest) → Puts q r x → Left p r whole rest
left_round rest left put =
    record { remains = remains_round rest left.remains put.printed; same_reference = put.same_reference ∙ left.same_reference }

pub left_end : {p q : Page} {whole : List ℕ} → Left p q whole [] → Puts p q whole
left_end left = record { printed = remains_end left.remains; same_reference = left.same_reference }

-- the same text, written otherwise
pub retext : {p r : Page} {xs ys : List ℕ} → xs ≡ ys → Puts p r xs → Puts p r ys
retext e p = rw e at p

-- ---- decimal

by_last_digit : AppendsLastDigit digits
unfolding digits
by_last_digit = record { one = λ k n l. rw (lt-ltb n 10 l); more = λ k n l. rw (le-ltb n 10 l) }

-- the library's text of a number, and what is put behind it
pub number_text : (n : ℕ) → n < 2 ^ 64 → text_of n ≡ decimal n
unfolding decimal
number_text n small =
    let short : length (text_of n) ≤ 20 = search (rules, length-decimal-le 20) in
    sym (decimal_from_appends digits by_last_digit 20 n small short)

pub number_put : {p q r : Page} {xs ys : List ℕ} (n b : ℕ) → n < 2 ^ 64 → xs ≡ text_of n → ys ≡ xs → Puts p q ys → Puts q r (b ∷ [])
    → Puts p r (decimal n ++ (b ∷ []))
number_put n b small e f p q = puts_append (retext (f ∙ e ∙ number_text n small) p) q

-- ---- a text, byte by byte

pub print_round : {p q r : Page} (s : List ℕ) (i : ℕ) → i < length s → Puts p q (take i s)
    → Puts q r (get_or s i 0 ∷ []) → Puts p r (take (i + 1) s)
print_round s i l p q = retext (sym (take-suc s i 0 l) ∙ ap (λ (n : ℕ). take n s) (sym (add-one i))) (puts_append p q)

-- ---- rows: each word with the space or the newline behind it

pub spaced_one : (w : List ℕ) → w ++ (newline ∷ []) ≡ spaced (w ∷ [])
unfolding spaced
spaced_one w = refl

pub spaced_more : (w v : List ℕ) (ws : List (List ℕ)) → (w ++ (space ∷ [])) ++ spaced (v ∷ ws) ≡ spaced (w ∷ (v ∷ ws))
unfolding spaced
spaced_more w v ws = append_assoc w (space ∷ []) (spaced (v ∷ ws))

pub row_more : (w v : List ℕ) (ws : List (List ℕ)) {p q r : Page}
    → Puts p q (w ++ (space ∷ [])) → Puts q r (spaced (v ∷ ws)) → Puts p r (spaced (w ∷ (v ∷ ws)))
row_more w v ws p q = retext (spaced_more w v ws) (puts_append p q)

pub row_last : (w : List ℕ) {p r : Page} → Puts p r (w ++ (newline ∷ [])) → Puts p r (spaced (w ∷ []))
row_last w p = retext (spaced_one w) p

-- ---- a section: its head, then its rows one after the other

pub print_section : (name : List ℕ) (rows : List (List ℕ)) (n : ℕ) {p q r : Page} → n ≡ length rows
    → Puts p q (spaced (name ∷ decimal n ∷ [])) → Puts q r (flatten rows) → Puts p r (section name rows)
unfolding section
print_section name rows n e p q = puts_append (rw e at p) q

pub rows_round : (x : List ℕ) (xs : List (List ℕ)) {p q r : Page} {whole : List ℕ}
    → Left p q whole (flatten (x ∷ xs)) → Puts q r x → Left p r whole (flatten xs)
unfolding flatten
rows_round x xs i put = left_round (flatten xs) i put

-- ---- the refused lines

-- how many there are
pub refused_count : (rs : List Refused) → length rs ≡ length (refused_rows rs)
unfolding refused_rows
refused_count rs = simp length-map

-- a loop over them: those from i on are left
module _ (rs : List Refused) {p q : Page} (i : ℕ) (left : Left p q (flatten (refused_rows rs)) (flatten (refused_rows (drop i rs)))) where
  pub refused_round : {r : Page} (d : Refused) → i < length rs
      → Puts q r (spaced (decimal (get_or rs i d).line ∷ decimal (get_or rs i d).number ∷ []))
      → Left p r (flatten (refused_rows rs)) (flatten (refused_rows (drop (i + 1) rs)))
  unfolding refused_rows refused_row
  refused_round d l put =
      rw (add-one i) (rows_round _ (refused_rows (drop (suc i) rs)) (rw (drop-cons rs i d l) at left) put)

  pub refused_end : length rs ≤ i → Puts p q (flatten (refused_rows rs))
  unfolding refused_rows flatten
  refused_end l = left_end (rw (drop_of_length-le rs l) at left)
