-- `known::set_chain` writes two of its block's words. Leans on the laws of tables; assumes nothing.
use mathlib.Core.Path.{ap, ◌∙◌}
use Rattle.model.specs.Tables.{put_free, put_cells, set_cells}
use Rattle.laws.proofs.Tables.{put_free_lem, put_cells_lem}
use Rattle.native_ms.proofs.block.known.set_chain.Goals as goal

pub returns : goal.returns
unfolding put_free put_cells
returns c = put_cells_lem _ _ _ c.set_word-2.ensures ∙ ap (set_cells c.args.b.0 c.args.chain.count) (put_free_lem _ _ _ c.set_word.ensures)
