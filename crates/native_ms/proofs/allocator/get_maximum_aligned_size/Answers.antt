-- `allocator::get_maximum_aligned_size` meets its contract. Leans on the laws of raised sizes.
use native.Mathlib.Omega.{arith}
use Rattle.native_ms.proofs.RaisedLaws.{raised_past, raised_in}
use Rattle.native_ms.proofs.allocator.get_maximum_aligned_size.Goals as goal

pub returns-in_err-room : goal.returns-in_err-room
returns-in_err-room c = rw c.from_residual.ensures (raised_past c.args.p c.args.size c.args.align (omega (arith, c.in_err-room.ensures)))

pub returns-then-room-more : goal.returns-then-room-more
returns-then-room-more c = raised_past c.args.p c.args.size c.args.align (omega (arith, c.if-room-more.true, c.in_ok-room.ensures, c.saturating_sub-more.ensures))

pub returns : goal.returns
returns c = raised_in c.args.p c.args.size c.args.align (omega (arith, c.saturating_sub-more.ensures)) (omega (arith, c.if-room-more.false, c.in_ok-room.ensures))
