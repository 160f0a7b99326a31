-- `marks::any_marked` meets its contract: the bits of the places that lie in the heap are one run of mark bits. Assumes nothing.
use Prim.Native.Nat.{ℕ, ◌+◌, ◌/◌, min}
use mathlib.Core.Path.{refl, ap, ◌∙◌}
use native.Mathlib.Omega.{arith}
use Rattle.model.specs.SizeClasses.{words_in}
use Rattle.laws.proofs.Params.{good_bounds}
use Rattle.native_ms.proofs.Span.{lent_any, lent_run, lent_count, heap_whole}
use Rattle.native_ms.proofs.block.marks.any_marked.Goals as goal

pub overflow_add-first : goal.overflow_add-first
overflow_add-first c = let g = good_bounds c.args.space.now.p c.args.space.now.good in omega (arith, c.up_by.ensures, g.lower_high, c.args.cell.low)

pub overflow_add-low : goal.overflow_add-low
overflow_add-low c = let g = good_bounds c.args.space.now.p c.args.space.now.good in omega (arith, g.end_high)

pub overflow_add-saturating_sub : goal.overflow_add-saturating_sub
overflow_add-saturating_sub c = let g = good_bounds c.args.space.now.p c.args.space.now.good in omega (arith, g.end_high, c.saturating_sub.ensures)

pub overflow_add-first-2 : goal.overflow_add-first-2
overflow_add-first-2 c = let g = good_bounds c.args.space.now.p c.args.space.now.good in omega (arith, c.up_by.ensures, g.lower_high, c.args.cell.low, c.args.cell.small, c.min-skip.ensures)

pub overflow_mul-space : goal.overflow_mul-space
overflow_mul-space c = let g = good_bounds c.args.space.now.p c.args.space.now.good in omega (arith, g.heap_high)

pub overflow_mul-lines : goal.overflow_mul-lines
overflow_mul-lines c = let g = good_bounds c.args.space.now.p c.args.space.now.good in omega (arith, g.heap_high, c.min-lines.ensures)

pub any_set-requires : goal.any_set-requires
any_set-requires c = let g = good_bounds c.args.space.now.p c.args.space.now.good in lent_run c.args.space.now.p c.args.marks.now c.args.cell.at.0 ((c.args.cell.size + 7) / 8) (omega (arith, g.base_low)) (ap (λ (x : ℕ). c.args.cell.at.0 + x) c.up_by.ensures) (record { skips = c.min-skip.ensures ∙ ap (λ (x : ℕ). min ((c.args.cell.size + 7) / 8) ((x + 7) / 8)) c.saturating_sub.ensures; begins = c.saturating_sub-from.ensures; counts = refl }) c.min-lines.result c.min-lines.ensures (heap_whole _ g) (lent_count _ _ _ c.saturating_sub-left.ensures c.min.ensures) (omega (arith, c.up_by.ensures, g.lower_high, c.args.cell.low)) (omega (arith, c.args.cell.small))

pub returns : goal.returns
unfolding words_in
returns c = let g = good_bounds c.args.space.now.p c.args.space.now.good in c.any_set.ensures ∙ lent_any c.args.space.now.p c.args.marks.now c.args.cell.at.0 ((c.args.cell.size + 7) / 8) (omega (arith, g.base_low)) (ap (λ (x : ℕ). c.args.cell.at.0 + x) c.up_by.ensures) (record { skips = c.min-skip.ensures ∙ ap (λ (x : ℕ). min ((c.args.cell.size + 7) / 8) ((x + 7) / 8)) c.saturating_sub.ensures; begins = c.saturating_sub-from.ensures; counts = refl }) c.min-lines.result c.min-lines.ensures (heap_whole _ g) (lent_count _ _ _ c.saturating_sub-left.ensures c.min.ensures)
