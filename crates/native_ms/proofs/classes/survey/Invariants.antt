-- `classes::survey` meets its contract. The invariant: the rows looked at are counted and level up to `next`.
use Rattle.std.proofs.Common.{◌≡◌, ℕ, ◌≤◌, ◌<◌, get_or}
use Rattle.model.specs.SizeClasses.{no_row}
use Rattle.native_ms.specs.Borders.{Level}
use Rattle.native_ms.proofs.Borders.{over}
use Rattle.native_ms.proofs.classes.survey.Given as goal

abbrev pub invariant-loop-row : goal.invariant-loop-row
invariant-loop-row l = record {
  few : l.over ≤ l.row-index;
  rows : l.over ≡ over l.space.p.rows l.at l.row-index;
  past : l.at < l.next;
  low : l.next ≤ l.end;
  level : (i : ℕ) → i < l.row-index → Level (get_or l.space.p.rows i no_row) l.at l.next;
}
