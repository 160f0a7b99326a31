-- R-4's two listings, computed: what Cases.antt says the census prints is what it prints. They stand here since the machine takes
-- its time to compute them, and nothing leans on them.
use mathlib.Core.Path.{◌≡◌, refl}
use mathlib.Core.Bool.{true}
use mathlib.Core.List.{head_d, flatten, flat_map}
use lib.Count.{count_leading_zeros}
use Rattle.model.specs.declared.Params.{Params}
use Rattle.model.specs.Base.{all_below, any_below, member, filter, sum_below, each_below, flag}
use Rattle.model.specs.Params.{power_of_two, lower_ok, biased, plus_lower, minus_lower, heap_bytes, heap_end, good_params, word_count, fits, start, block_at, in_heap, is_start, list_of, list_word, local_sets, available, unswept, consumed}
use Rattle.model.specs.Memory.{load_bytes, bytes_of, overwrite, load, store, zeroed, bit_of, set_bit, mark_index, marked, set_mark, cleared}
use Rattle.model.specs.Tables.{view, flat, set_first, set_last, set_bound, set_released, set_next, set_prev, set_free, set_size, set_list, set_tls, set_cells, set_phase, with_released}
use Rattle.model.specs.SizeClasses.{fours, class_words, class_bytes, words_in, highest_bit, bin_in_octave, mi_bin, bin_of, cell_bytes, raised, shift, align_allocation}
use Rattle.model.specs.Classes.{classes_fit}
use Rattle.model.specs.BlockList.{push, pop_head, pop, remove_between, remove, relabel, link, append, walk, blocks_on, appended}
use Rattle.model.specs.Block.{cell_count, is_cell, cells_down, link_all, init_chain, init_block, simple, keeps, sweep_chain, swept_words, clear_block, chain_from, free_chain}
use Rattle.model.specs.Events.{event_heap, events_heap, is_sweep, is_release, sweeps, releases}
use Rattle.model.specs.FreeListAllocator.{find_free_block_with, recycle_local_blocks, acquire_abandoned, acquire_fresh, find_block}
use Rattle.model.specs.Global.{fresh_words, fresh_tables, is_holder, is_bound, bind_holder, abandon_bin, abandon_blocks, abandoned_bin, abandoned_below, abandoned_blocks, destroy_holder, unmarked_state, prepared, mark_place, release_from, release_blocks, append_to, left_unswept, release_bin, release_holder, sweep_later_bin, sweep_later, has_released, all_released, is_last, sweep_block, sweep_all, recycle_from, recycle_bin, recycle_blocks, swept_eagerly, eagerly, part_released, merged}
use Rattle.model.specs.Sound.{state_of, state_known, block_clear, list_named, bin_named, set_named, on_list_named, size_ok, link_ok, tls_ok, block_sound, linked_from, linked, owner_empty, unbound_empty, in_gc_empty, phase_known, flags_known, released_few, released_some, released_empty, sound, chain_counts, chain_ok, on_unswept, released_before, eager_block, eager_ok, chained}
use Rattle.model.specs.Calls.{refusal_number, good_request, too_big, good_offer, good_object, may_leave, may_release, and_then, phase_test, bind_tests, leave_tests, bound_tests, request_tests, mark_tests, release_tests, shared_tests, call_tests, take_plan, release_plan, plan_passed, if_passed, plan_sound, plan, take_cell, finish, step, call, set_up}
use Rattle.model.specs.Census.{before, pieces, drop_blank_end, lines_of, is_digit, value_of, is_number, is_word, numbers_to, is_line, arg, is_alloc, offer_of, line_of, census_params, census_lent, line_result, run_lines, digits, decimal, spaced, section, refused_row, up_to, occupied, letter, block_row, awaits_sweep, printed_chain, free_rows, free_section, listing, census}
use Rattle.model.specs.Cases.{same, collected_trace, collected_listing, marking_trace, marking_listing}

-- who opens `machine` opens all that its line names
machine : Params
unfolding same count_leading_zeros all_below any_below member filter sum_below each_below flag power_of_two lower_ok biased plus_lower minus_lower heap_bytes heap_end good_params word_count fits start block_at in_heap is_start list_of list_word local_sets available unswept consumed load_bytes bytes_of overwrite load store zeroed bit_of set_bit mark_index marked set_mark cleared view flat set_first set_last set_bound set_released set_next set_prev set_free set_size set_list set_tls set_cells set_phase with_released fours class_words class_bytes words_in highest_bit bin_in_octave mi_bin bin_of cell_bytes classes_fit raised shift align_allocation push pop_head pop head_d remove_between remove relabel link append walk blocks_on cell_count is_cell cells_down link_all init_chain init_block simple keeps sweep_chain swept_words clear_block chain_from free_chain event_heap events_heap is_sweep is_release sweeps releases find_free_block_with recycle_local_blocks acquire_abandoned acquire_fresh find_block fresh_words fresh_tables is_holder is_bound bind_holder abandon_bin abandon_blocks destroy_holder unmarked_state prepared mark_place release_from release_blocks append_to left_unswept release_bin release_holder sweep_later_bin sweep_later has_released all_released part_released is_last sweep_block sweep_all recycle_from recycle_bin recycle_blocks swept_eagerly eagerly state_of state_known block_clear list_named bin_named set_named on_list_named size_ok link_ok tls_ok block_sound linked_from linked owner_empty unbound_empty in_gc_empty phase_known flags_known released_few released_some released_empty sound chain_counts chain_ok chained on_unswept released_before eager_block eager_ok refusal_number good_request too_big good_offer good_object take_plan may_release release_plan and_then phase_test bind_tests bound_tests request_tests mark_tests release_tests shared_tests call_tests plan_passed if_passed plan_sound plan take_cell finish step call set_up before pieces drop_blank_end lines_of is_digit value_of is_number is_word numbers_to is_line arg is_alloc offer_of line_of census_params census_lent line_result run_lines digits decimal spaced section refused_row up_to occupied letter block_row awaits_sweep printed_chain free_rows free_section flatten flat_map listing census appended abandoned_bin abandoned_below abandoned_blocks merged may_leave leave_tests
machine = census_params

pub collected_holds : same (census collected_trace) collected_listing ≡ true
unfolding machine collected_trace collected_listing
collected_holds = refl

pub marking_holds : same (census marking_trace) marking_listing ≡ true
unfolding machine marking_trace marking_listing
marking_holds = refl
