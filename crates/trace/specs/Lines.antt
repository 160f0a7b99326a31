-- The lines of a trace, one after the other. Assumes nothing.
use Rattle.std.specs.Prelude.{if◌then◌else◌, List, ℕ, ◌+◌, ltb, length, Option, Some, None}
use Rattle.model.specs.Census.{newline}
use Rattle.model.specs.Text.{piece_end}
use Rattle.trace.specs.declared.lines.Line.{Line}

-- the line at a place, and the place behind it and its newline
unfoldable pub next_line : List ℕ → ℕ → Option Line
next_line s at =
    let e : ℕ = piece_end newline s at in
    if ltb at (length s) then Some (record { from = at; to = e; next = if ltb e (length s) then e + 1 else e }) else None
