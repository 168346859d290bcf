-- How deep derivations are, so that reading ends.
use Rattle.std.specs.Prelude.{ℕ, Bool, true, false}
use Rattle.text_grammar.specs.Ranks.{Ranks}
use Rattle.sh_grammar.specs.Tokens.{Op, End, Io, Word, Other}
use Rattle.sh_grammar.specs.Table.{Step, op, ends, to_word, operand, enter, leave, Rule, piece, line_piece, complete, complete_more, list, maybe_list, list_more, lines, chain, link, and_link, or_link, pipeline, bang, stage, command, compound_command, compound, other_compound, group, subshell, if_command, if_branch, elif_branch, else_part, while_loop, until_loop, do_body, for_loop, for_words, for_in, case_command, case_in, case_item, pattern_more, item_end, function_command, simple_command, prefixed, called, suffix, prefix_item, suffix_item, assign, redirect, target, file, word, value, word_parts, more_parts, pattern, part, double_quotes, expansion, braces, fill, trim, subst, sum, sum_part, sum_group, body_parts}

-- the operators that the table reads take bytes
abbrev pub op_takes : Op → Bool
op_takes End = false
op_takes Word = false
op_takes Other = false
op_takes Io = false
op_takes o = true

-- steps that take a byte
abbrev pub step_takes : Step → Bool
step_takes (op o) = op_takes o
step_takes ends = false
step_takes to_word = false
step_takes operand = false
step_takes enter = false
step_takes leave = false
step_takes k = true

-- rules that may take no byte
abbrev pub rule_takes : Rule → Bool
rule_takes maybe_list = false
rule_takes lines = false
rule_takes for_words = false
rule_takes item_end = false
rule_takes suffix = false
rule_takes more_parts = false
rule_takes body_parts = false
rule_takes r = true

-- the levels of a derivation that takes no byte
abbrev pub rank : Rule → ℕ
rank piece = 37
rank line_piece = 37
rank complete = 34
rank complete_more = 2
rank list = 35
rank maybe_list = 36
rank list_more = 3
rank lines = 2
rank chain = 32
rank link = 4
rank and_link = 2
rank or_link = 2
rank pipeline = 30
rank bang = 1
rank stage = 2
rank command = 27
rank compound_command = 12
rank compound = 10
rank other_compound = 6
rank group = 2
rank subshell = 2
rank if_command = 2
rank if_branch = 37
rank elif_branch = 2
rank else_part = 2
rank while_loop = 2
rank until_loop = 2
rank do_body = 2
rank for_loop = 2
rank for_words = 6
rank for_in = 2
rank case_command = 2
rank case_in = 2
rank case_item = 20
rank pattern_more = 2
rank item_end = 3
rank function_command = 2
rank simple_command = 24
rank prefixed = 11
rank called = 21
rank suffix = 23
rank prefix_item = 9
rank suffix_item = 21
rank assign = 2
rank redirect = 7
rank target = 5
rank file = 2
rank word = 19
rank value = 18
rank word_parts = 17
rank more_parts = 16
rank pattern = 17
rank (part c) = 14
rank double_quotes = 2
rank (expansion c) = 9
rank (braces c) = 5
rank (fill c) = 2
rank (trim c) = 2
rank subst = 2
rank sum = 2
rank sum_part = 13
rank sum_group = 2
rank body_parts = 17

abbrev pub ranks : Ranks Step Rule
ranks = record { step_takes = step_takes; rule_takes = rule_takes; rank = rank; levels = 39; weight = 100 }
