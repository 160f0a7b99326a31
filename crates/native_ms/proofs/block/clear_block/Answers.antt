-- `block::clear_block` meets its contract: seven words and the state, in the order of `clear_block`. Assumes nothing.
use Rattle.laws.proofs.Tables.{put_next_lem, put_prev_lem, put_free_lem, put_size_lem, put_list_lem, put_tls_lem, put_cells_lem}
use Rattle.native_ms.proofs.Chains.{cleared}
use Rattle.native_ms.proofs.block.clear_block.Goals as goal

pub returns : goal.returns
returns c = cleared _ _ _ (put_next_lem _ _ _ c.set_next.ensures) (put_prev_lem _ _ _ c.set_prev.ensures) (put_free_lem _ _ _ c.set_free.ensures) (put_size_lem _ _ _ c.set_size.ensures) (put_list_lem _ _ _ c.set_list.ensures) (put_tls_lem _ _ _ c.set_tls.ensures) (put_cells_lem _ _ _ c.set_cells.ensures) c.set_state.ensures
