-- What the printing functions put, piece by piece. Assumes nothing.
use Rattle.std.specs.Prelude.{◌≡◌, List, map, ℕ}
use Rattle.model.specs.Text.{Printed}
use Rattle.model.specs.Census.{RefusedLine, refused_row}
use Rattle.listing.specs.declared.print.Page.{Page}
use Rattle.listing.specs.declared.print.Refused.{Refused}

-- a text was put on a page: on its bytes, from its place on. The page's buffer stays the same one
pub record Puts (before after : Page) (text : List ℕ) : Type 0 where
  pub printed : Printed before.bytes.now after.bytes.now before.at after.at text
  pub same_reference : after.bytes.ghost_name ≡ before.bytes.ghost_name

-- ---- the refused lines

abbrev pub refused_line : Refused → RefusedLine
refused_line r = record { line = r.line; number = r.number }

unfoldable pub refused_rows : List Refused → List (List ℕ)
refused_rows refused = map refused_row (map refused_line refused)
