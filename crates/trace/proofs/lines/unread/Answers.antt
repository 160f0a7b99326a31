-- `unread` meets its contract. Leans on Left.antt.
use Rattle.std.specs.Prelude.{◌≡◌, slice_get}
use mathlib.Core.Path.{◌∙◌}
use borrow.Author.Tests.{lt-ltb}
use Rattle.std.specs.Option.{option_map}
use Rattle.std.proofs.lemmas.Iterator.Consumers.{YieldsList-from_first, nth_from_yields_List}
use Rattle.model.specs.Text.{lines_from}
use Rattle.trace.proofs.Left.{unread_bytes, unread_lines, longer}
use Rattle.trace.proofs.lines.unread.Goals as goal

pub returns-then-s-gt-TRACE_BYTES : goal.returns-then-s-gt-TRACE_BYTES
returns-then-s-gt-TRACE_BYTES c = lt-ltb _ _ c.if-s-gt-TRACE_BYTES.true ∙ unread_bytes _ c.if-s-gt-TRACE_BYTES.true

pub returns-else-s-gt-TRACE_BYTES : goal.returns-else-s-gt-TRACE_BYTES
returns-else-s-gt-TRACE_BYTES c =
    let lines = lines_from c.read_part.result.now 0 in
    let line : option_map (λ x. x.now) c.nth.result ≡ slice_get lines 256 =
    nth_from_yields_List {all = lines} c.nth.result c.nth.new.self 256 c.nth.ensures.ran (YieldsList-from_first (λ x. x.now) (λ s. lines_from s.rest.now 0) lines (rw c.of.ensures)) in
    unread_lines _ c.if-s-gt-TRACE_BYTES.false c.read_part.ensures (c.is_some.ensures ∙ longer (λ x. x.now) c.nth.result lines 256 line)
