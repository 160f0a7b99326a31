-- `classes::border` meets its contract, by its tests. Leans on one law for each way out.
use native.Mathlib.Omega.{arith}
use Rattle.native_ms.proofs.Borders.{level_later, level_ended, level_none, level_in}
use Rattle.native_ms.proofs.classes.border.Goals as goal
use Rattle.native_ms.proofs.classes.border.Goals.{then-row-eq0-via-then-row-eq0, then-row-eq0-via-else-row-eq0+then-row-at}

pub returns-then-at-row : goal.returns-then-at-row
returns-then-at-row c = record { past = omega (arith, c.min.ensures); low = omega (arith, c.min.ensures); level = level_later _ _ _ (omega (arith, c.min.ensures)) c.if-at-row.true }

pub returns-then-row-eq0 : goal.returns-then-row-eq0
returns-then-row-eq0 c =
    record {
      past = c.requires;
      low = omega arith;
      level = elim c.then-row-eq0.branch [
        | then-row-eq0-via-then-row-eq0 w ↦ level_none _ _ _ w.if-row-eq0.true
        | then-row-eq0-via-else-row-eq0+then-row-at w ↦ level_ended _ _ _ w.if-row-at.true
      ];
    }

pub returns : goal.returns
returns c =
    record {
      past = omega (arith, c.min-2.ensures);
      low = omega (arith, c.min-2.ensures);
      level = level_in _ _ _ (omega (arith, c.if-row-eq0.false)) c.if-at-row.false c.if-row-at.false (omega (arith, c.min-2.ensures));
    }
