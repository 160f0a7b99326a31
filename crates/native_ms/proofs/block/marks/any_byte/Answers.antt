use Prim.Native.Nat.{◌+◌}
use Rattle.native_ms.proofs.Span.{slice_some, slice_none}
use Rattle.native_ms.proofs.block.marks.any_byte.Goals as goal

pub returns-then-byte-ne0 : goal.returns-then-byte-ne0
returns-then-byte-ne0 c = let a = c.args in slice_some a.marks.now a.from a.to c.loop-byte.byte-index c.loop-byte-test.true (c.type_inv.marks (a.from + c.loop-byte.byte-index)).fits c.if-byte-ne0.true

pub returns : goal.returns
returns c = slice_none c.args.marks.now c.args.from c.args.to _ c.requires.1 c.loop-byte.invariant c.loop-byte-test.false
