-- `block_list::count_bins` counts the bins from 48 down. The invariant: what is counted and what remains is the whole, and each adds at most 1,024.
use Rattle.std.proofs.Common.{◌≡◌, ◌≤◌, ◌+◌, ◌-◌, ◌*◌, map}
use Rattle.model.specs.Tables.{view}
use Rattle.native_ms.specs.Counted.{counted_bins}
use Rattle.native_ms.proofs.block_list.count_bins.Given as goal

abbrev pub invariant-loop-bin : goal.invariant-loop-bin
invariant-loop-bin g l = record {
  low : 1 ≤ l.bin;
  high : l.bin ≤ 49;
  few : l.met + 1024 * (l.bin - 1) ≤ 49152;
  same : counted_bins (l.bin - 1) l.space.p (view l.w).next (map g.L.Starts.first_of l.lists) l.met ≡ counted_bins 48 l.space.p (view l.w).next (map g.L.Starts.first_of l.lists) 0;
}
