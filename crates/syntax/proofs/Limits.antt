-- The definition of ST2094-10_data at each limit and at each pair in the order of refusals, and each starred payload of document 01.
use mathlib.Core.Path.{◌≡◌, refl}
use mathlib.Core.List.{map}
use Rattle.tree.specs.Bits.{bits_of, code, value_from}
use Rattle.tree.specs.Reading.{u, i, ue, zeros_then_one, among_z}
use Rattle.tree.specs.Syntax.{read, ◌>>=◌, row, zero_bits, read_whole}
use Rattle.tree.specs.Wrapper.{wrapper_table}
use Rattle.tree.specs.Coding.{total_width}
use Rattle.valid.specs.Valid.{many, targets}
use Rattle.syntax.specs.Data.{block_count, head, content, reserved_content, whole_block, block, kept_in, passed_in, blocks_after, ST2094-10_data, bare_data}
use Rattle.syntax.specs.Wrapper.{wrapped_data}
use Rattle.syntax.specs.Limits.{Outcome, outcome_of, Case, limits, code_numbers, places, long_payloads, many_blocks, starred, wrapped_cases}

abbrev pub found : Case → Outcome
found c = outcome_of (bare_data (bits_of c.bytes))

abbrev pub expected : Case → Outcome
expected c = c.outcome

pub the_limits_and_the_order : map found limits ≡ map expected limits
unfolding bits_of code value_from u i ue zeros_then_one among_z total_width read ◌>>=◌ row zero_bits read_whole many targets block_count head content reserved_content whole_block block kept_in passed_in blocks_after ST2094-10_data
the_limits_and_the_order = refl

-- 02, d
pub each_place_checks_its_own_range : map found code_numbers ≡ map expected code_numbers
unfolding bits_of code value_from u i ue zeros_then_one among_z total_width read ◌>>=◌ row zero_bits read_whole many targets block_count head content reserved_content whole_block block kept_in passed_in blocks_after ST2094-10_data
each_place_checks_its_own_range = refl

-- 02, e
pub each_fault_is_told_where_it_is : map found places ≡ map expected places
unfolding bits_of code value_from u i ue zeros_then_one among_z total_width read ◌>>=◌ row zero_bits read_whole many targets block_count head content reserved_content whole_block block kept_in passed_in blocks_after ST2094-10_data
each_fault_is_told_where_it_is = refl

pub sixteen_of_level_2_and_no_more : map found long_payloads ≡ map expected long_payloads
unfolding bits_of code value_from u i ue zeros_then_one among_z total_width read ◌>>=◌ row zero_bits read_whole many targets block_count head content reserved_content whole_block block kept_in passed_in blocks_after ST2094-10_data
sixteen_of_level_2_and_no_more = refl

pub two_hundred_and_fifty_four_blocks : map found many_blocks ≡ map expected many_blocks
unfolding bits_of code value_from u i ue zeros_then_one among_z total_width read ◌>>=◌ row zero_bits read_whole many targets block_count head content reserved_content whole_block block kept_in passed_in blocks_after ST2094-10_data
two_hundred_and_fifty_four_blocks = refl

-- each starred payload gets the outcome that document 01 gives, two of them that of 02, b, and one that of 02, d
pub the_starred_cases : map found starred ≡ map expected starred
unfolding bits_of code value_from u i ue zeros_then_one among_z total_width read ◌>>=◌ row zero_bits read_whole many targets block_count head content reserved_content whole_block block kept_in passed_in blocks_after ST2094-10_data
the_starred_cases = refl

abbrev pub found_wrapped : Case → Outcome
found_wrapped c = outcome_of (wrapped_data (bits_of c.bytes))

pub the_wrapped_cases : map found_wrapped wrapped_cases ≡ map expected wrapped_cases
unfolding bits_of code value_from u i ue zeros_then_one among_z total_width read ◌>>=◌ row zero_bits read_whole many targets block_count head content reserved_content whole_block block kept_in passed_in blocks_after ST2094-10_data wrapper_table
the_wrapped_cases = refl
