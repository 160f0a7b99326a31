-- What the census program's leaves promise about text: where a piece ends, the lines from a place on, and bytes put one behind
-- the other in a lent buffer.
use Rattle.std.specs.Prelude.{if◌then◌else◌, ◌≡◌, List, [], ◌∷◌, ◌++◌, ℕ, suc, ◌+◌, ◌≤◌, min, max, eqb, length, take, drop}
use Rattle.model.specs.Memory.{overwrite}
use Rattle.model.specs.Census.{newline, pieces, drop_blank_end}

-- how many bytes stand before the first separator, or before the end
unfoldable pub until : ℕ → List ℕ → ℕ
until sep [] = 0
until sep (byte ∷ bytes) = if eqb byte sep then 0 else suc (until sep bytes)

unfoldable pub piece_end : ℕ → List ℕ → ℕ → ℕ
piece_end sep bytes at = at + until sep (drop at bytes)

unfoldable pub lines_from : List ℕ → ℕ → List (List ℕ)
lines_from bytes at = drop_blank_end (pieces newline (drop at bytes))

-- the place behind n bytes written at a place: it stops at the end
unfoldable pub place_after : ℕ → ℕ → ℕ → ℕ
place_after len at n = max at (min (at + n) len)

-- what it means that a text was printed: the buffer before and after, the place before and after
pub record Printed (out out' : List ℕ) (at at' : ℕ) (text : List ℕ) : Type 0 where
  pub bytes : out' ≡ overwrite at text out
  pub place : at' ≡ place_after (length out) at (length text)

-- ---- what the census promises of the buffer lent for a listing

-- the room that is lent for a listing; `LISTING_BYTES` in the code
abbrev pub listing_bytes : ℕ
listing_bytes = 20000

-- As many bytes of the listing as the buffer holds stand at its front, the others are as before, and n says how many: all of
-- them if it holds 20,000.
pub record Listed (out out' : List ℕ) (n : ℕ) (text : List ℕ) : Type 0 where
  pub printed : Printed out out' 0 n text
  pub inside : n ≤ length out'
  pub whole : listing_bytes ≤ length out → take n out' ≡ text

-- The whole text stands at the front, every other byte is as before, and n says how many it has.
pub record Whole (out out' : List ℕ) (n : ℕ) (text : List ℕ) : Type 0 where
  pub bytes : out' ≡ text ++ drop (length text) out
  pub count : n ≡ length text
