-- How deep derivations are, so that reading ends.
use Rattle.std.specs.Prelude.{ℕ, Bool, true, false}
use Rattle.text_grammar.specs.Ranks.{Ranks}
use Rattle.bash_grammar.specs.Tokens.{Op, End, Io, Far, Word}
use Rattle.bash_grammar.specs.Moves.{Step, op, far, ends, from_token, from_unit, to_here, to_word, to_regex, begin_sum, end_sum, begin_operand, end_operand, enter, leave}
use Rattle.bash_grammar.specs.Table.{Rule, piece, line_piece, complete, complete_more, separator, list, maybe_list, list_more, lines, chain, link, and_link, or_link, pipeline, bang, stage, command, compound_command, compound, parenthesis, other_compound, loop_or_case, group, subshell, sum_command, if_command, if_branch, elif_branch, else_part, while_loop, until_loop, do_body, for_loop, name_for, for_words, for_in, sum_for, section, last_section, select_loop, case_command, case_in, case_item, pattern_more, item_end, other_command, function_command, function_rest, parens, time_command, time_prefix, timed_bang, coproc_command, coproc_rest, coproc_named, conditional, cond_or, or_more, cond_and, and_more, cond_not, cond_term, cond_group, unary, binary, binary_more, cond_word, regex_test, regex, regex_part, regex_group, simple_command, simple_body, prefixed, behind_prefix, called, calling, declaring, declared, declared_items, declared_item, list_word, suffix, prefix_item, suffix_item, assign, assigned, elements, element_item, element, indexed, element_value, redirect, target, file, word, value, word_parts, tilde_part, more_parts, pattern, part, unit, quote, odd_quote, double_quotes, dollar_part, dollar_quote, ansi_quote, locale, expansion, named_expansion, other_unit, glob_unit, process, glob, old, subst, ticks, braces, length_braces, pointed_braces, valued_braces, special_braces, index, subscript, key_part, key_operand, operation, other_operation, transform, fill, trim, casing, replace, replacement, slice, offset, slice_length, braced, sum, sum_part, sum_group, sum_operand, body_parts}

-- operators that are tokens take bytes
abbrev pub op_takes : Op → Bool
op_takes End = false
op_takes Io = false
op_takes Far = false
op_takes Word = false
op_takes o = true

-- steps that take a byte
abbrev pub step_takes : Step → Bool
step_takes (op o) = op_takes o
step_takes ends = false
step_takes far = false
step_takes from_token = false
step_takes from_unit = false
step_takes to_here = false
step_takes to_word = false
step_takes to_regex = false
step_takes begin_sum = false
step_takes (end_sum o q) = false
step_takes begin_operand = false
step_takes end_operand = false
step_takes enter = false
step_takes leave = false
step_takes k = true

-- rules that may take no byte
abbrev pub rule_takes : Rule → Bool
rule_takes maybe_list = false
rule_takes lines = false
rule_takes for_words = false
rule_takes item_end = false
rule_takes behind_prefix = false
rule_takes declared_items = false
rule_takes suffix = false
rule_takes assigned = false
rule_takes more_parts = false
rule_takes (index c) = false
rule_takes (offset c) = false
rule_takes (braced c) = false
rule_takes body_parts = false
rule_takes r = true

-- the levels of a derivation that takes no byte
abbrev pub rank : Rule → ℕ
rank piece = 49
rank line_piece = 49
rank complete = 46
rank complete_more = 4
rank separator = 2
rank list = 47
rank maybe_list = 48
rank list_more = 5
rank lines = 2
rank chain = 44
rank link = 4
rank and_link = 2
rank or_link = 2
rank pipeline = 42
rank bang = 1
rank stage = 2
rank command = 39
rank compound_command = 17
rank compound = 14
rank parenthesis = 4
rank other_compound = 10
rank loop_or_case = 6
rank group = 2
rank subshell = 2
rank sum_command = 2
rank if_command = 2
rank if_branch = 49
rank elif_branch = 2
rank else_part = 2
rank while_loop = 2
rank until_loop = 2
rank do_body = 2
rank for_loop = 2
rank name_for = 2
rank for_words = 6
rank for_in = 2
rank sum_for = 2
rank section = 29
rank last_section = 29
rank select_loop = 3
rank case_command = 2
rank case_in = 2
rank case_item = 26
rank pattern_more = 2
rank item_end = 3
rank other_command = 8
rank function_command = 3
rank function_rest = 4
rank parens = 2
rank time_command = 5
rank time_prefix = 2
rank timed_bang = 2
rank coproc_command = 3
rank coproc_rest = 31
rank coproc_named = 28
rank conditional = 2
rank cond_or = 36
rank or_more = 2
rank cond_and = 34
rank and_more = 2
rank cond_not = 32
rank cond_term = 30
rank cond_group = 2
rank unary = 2
rank binary = 27
rank binary_more = 2
rank cond_word = 25
rank regex_test = 2
rank regex = 25
rank regex_part = 21
rank regex_group = 2
rank simple_command = 36
rank simple_body = 34
rank prefixed = 12
rank behind_prefix = 32
rank called = 30
rank calling = 28
rank declaring = 28
rank declared = 28
rank declared_items = 31
rank declared_item = 29
rank list_word = 4
rank suffix = 30
rank prefix_item = 10
rank suffix_item = 28
rank assign = 3
rank assigned = 28
rank elements = 2
rank element_item = 29
rank element = 27
rank indexed = 5
rank element_value = 22
rank redirect = 8
rank target = 4
rank file = 2
rank word = 26
rank value = 25
rank word_parts = 22
rank tilde_part = 3
rank more_parts = 21
rank pattern = 23
rank (part c) = 19
rank (unit c) = 16
rank (quote c) = 6
rank (odd_quote c) = 2
rank double_quotes = 2
rank (dollar_part c) = 13
rank (dollar_quote c) = 6
rank (ansi_quote c) = 3
rank locale = 2
rank (expansion c) = 11
rank (named_expansion c) = 8
rank (other_unit c) = 8
rank (glob_unit c) = 4
rank process = 2
rank glob = 2
rank old = 2
rank subst = 2
rank ticks = 2
rank (braces c) = 6
rank (length_braces c) = 2
rank (pointed_braces c) = 2
rank (valued_braces c) = 2
rank (special_braces c) = 2
rank (index c) = 5
rank (subscript c) = 2
rank (key_part c) = 24
rank (key_operand c) = 22
rank (operation c) = 10
rank (other_operation c) = 6
rank transform = 2
rank (fill c) = 2
rank (trim c) = 2
rank (casing c) = 2
rank (replace c) = 2
rank (replacement c) = 2
rank (slice c) = 2
rank (offset c) = 29
rank (slice_length c) = 2
rank (braced c) = 23
rank (sum c) = 2
rank (sum_part s c) = 25
rank (sum_group c) = 2
rank (sum_operand c) = 22
rank body_parts = 23

abbrev pub ranks : Ranks Step Rule
ranks = record { step_takes = step_takes; rule_takes = rule_takes; rank = rank; levels = 51; weight = 100 }
