-- `size_class::class_bytes` meets its contract. Leans on the computed test of all bins; assumes nothing.
use mathlib.Core.Path.{sym}
use Rattle.laws.proofs.Classes.{class_bytes_past}
use Rattle.native_ms.proofs.ClassSizes.{bytes_none, bytes_low, bytes_high}
use Rattle.native_ms.proofs.size_class.class_bytes.Goals as goal

pub returns-then-bin-ge-BINS : goal.returns-then-bin-ge-BINS
returns-then-bin-ge-BINS c = sym (class_bytes_past _ c.if-bin-ge-BINS.true)

pub returns-then-bin-eq0 : goal.returns-then-bin-eq0
returns-then-bin-eq0 c = bytes_none _ c.if-bin-eq0.true

pub returns-then-bin-lt9 : goal.returns-then-bin-lt9
returns-then-bin-lt9 c = bytes_low _ c.if-bin-lt9.true c.if-bin-eq0.false

pub returns : goal.returns
returns c = bytes_high _ c.if-bin-ge-BINS.false c.if-bin-lt9.false
