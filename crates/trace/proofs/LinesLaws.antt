-- The lines of a trace, one after the other. Assumes nothing.
use mathlib.Core.Path.{◌≡◌, refl, sym}
use mathlib.Core.Bool.{true, false}
use mathlib.Core.Logic.{◌⊎◌, inl, inr}
use mathlib.Core.List.{List, [], ◌∷◌}
use Prim.Native.Nat.{ℕ, ◌+◌, ◌-◌, ◌≤◌, ◌<◌}
use native.Mathlib.Omega.{arith}
use lib.Dec.{ltb}
use lib.ListN.{length, take, drop, length-drop}
use lib.Seq.{take_all}
use borrow.Author.Tests.{ltb-true, ltb-false, lt-ltb, le-ltb}
use Rattle.model.specs.Census.{newline}
use Rattle.laws.proofs.Below.{test}
use Rattle.model.specs.Text.{piece_end, lines_from}
use Rattle.laws.proofs.Text.{lines_end, lines_more, lines_last, end_between}
use Rattle.std.specs.Prelude.{Some, None}
use Rattle.trace.specs.declared.lines.Line.{Line}
use Rattle.trace.specs.Lines.{next_line}

-- the bytes of a line
unfoldable pub line_bytes : List ℕ → ℕ → ℕ → List ℕ
line_bytes s from to = take (to - from) (drop from s)

module _ (s : List ℕ) (at : ℕ) where
  pub next_end : length s ≤ at → None ≡ next_line s at
  unfolding next_line
  next_end l = rw (le-ltb at (length s) l)

  pub next_more : (e : ℕ) → at < length s → e ≡ piece_end newline s at → e < length s
      → Some (record { from = at; to = e; next = e + 1 }) ≡ next_line s at
  unfolding next_line
  next_more e l q m = rw (← q, lt-ltb at (length s) l, lt-ltb e (length s) m)

  pub next_last : (e : ℕ) → at < length s → e ≡ piece_end newline s at → length s ≤ e
      → Some (record { from = at; to = e; next = e }) ≡ next_line s at
  unfolding next_line
  next_last e l q m = rw (← q, lt-ltb at (length s) l, le-ltb e (length s) m)

-- what an answer says: a line of what remains, and what remains behind it
pub record Step (s : List ℕ) (at : ℕ) (line : Line) : Type 0 where
  pub ordered : line.from ≤ line.to
  pub inside : line.to ≤ length s
  pub further : at < line.next
  pub within : line.next ≤ length s
  pub rest : lines_from s at ≡ line_bytes s line.from line.to ∷ lines_from s line.next

step_more : (s : List ℕ) (at : ℕ) → at < length s → piece_end newline s at < length s
    → Step s at (record { from = at; to = piece_end newline s at; next = piece_end newline s at + 1 })
unfolding line_bytes
step_more s at l m =
    let b = end_between newline s at (piece_end newline s at) refl (omega arith) in
    record { ordered = b.0; inside = b.1; further = omega (arith, b.0); within = omega arith; rest = lines_more s at (omega arith) m }

step_last : (s : List ℕ) (at : ℕ) → at < length s → length s ≤ piece_end newline s at
    → Step s at (record { from = at; to = piece_end newline s at; next = piece_end newline s at })
unfolding line_bytes
step_last s at l m =
    let b = end_between newline s at (piece_end newline s at) refl (omega arith) in
    record { ordered = b.0; inside = b.1; further = omega arith; within = b.1; rest = lines_last s at l m }

same_step : (s : List ℕ) (at : ℕ) (line line' : Line) → Some line ≡ Some line' → Step s at line → Step s at line'
same_step s at line line' e p = let a : line ≡ line' = cc in rw a at p

not_line : (line : Line) → None ≡ Some line → ⊥
not_line line e = let z : ◌≡◌ {A = ℕ} 0 1 = cc in omega arith

pub next_step : (s : List ℕ) (at : ℕ) (line : Line) → next_line s at ≡ Some line → Step s at line
unfolding next_line
next_step s at line h = go (test (ltb at (length s))) (test (ltb (piece_end newline s at) (length s)))
  where
    go : (ltb at (length s) ≡ true) ⊎ (ltb at (length s) ≡ false)
        → (ltb (piece_end newline s at) (length s) ≡ true) ⊎ (ltb (piece_end newline s at) (length s) ≡ false) → Step s at line
    go (inl y) (inl m) = same_step s at _ line (rw (y, m) at h) (step_more s at (ltb-true _ _ y) (ltb-true _ _ m))
    go (inl y) (inr m) = same_step s at _ line (rw (y, m) at h) (step_last s at (ltb-true _ _ y) (ltb-false _ _ m))
    go (inr z) m = absurd (not_line line (rw z at h))

pub next_over : (s : List ℕ) (at : ℕ) → next_line s at ≡ None → lines_from s at ≡ []
unfolding next_line
next_over s at h = go (test (ltb at (length s)))
  where
    go : (ltb at (length s) ≡ true) ⊎ (ltb at (length s) ≡ false) → lines_from s at ≡ []
    go (inl y) = absurd (not_line _ (sym (rw y at h)))
    go (inr z) = lines_end s at (ltb-false _ _ z)

-- the lines of what is left behind a place
pub left_behind : (s : List ℕ) (at : ℕ) → lines_from (take (length s - at) (drop at s)) 0 ≡ lines_from s at
unfolding lines_from
left_behind s at =
    let all : take (length s - at) (drop at s) ≡ drop at s = take_all (length s - at) (drop at s) (rw length-drop (omega arith)) in
    rw all
