-- What each rule makes of what was read below it.
use Rattle.std.specs.Prelude.{true, false, List, [], ◌∷◌}
use Rattle.sh_grammar.specs.Shape.{double, subst as subst_part, Kind, simple, group as group_kind, subshell as subshell_kind, branching, loop, walk, cases, function, listed, no_redirect, pipeline as pipeline_of, chain as chain_of}
use Rattle.sh_grammar.specs.Shape as shape
use Rattle.sh_grammar.specs.State.{Node, part_node, word_node, assign_node, kind_node, command_node, bang_node, pipeline_node, and_node, or_node, chain_node, script_node, branch_node, else_node, listed_node, item_node, parts_in, words_in, assigns_in, redirects_in, stages_in, links_in, chains_in, branches_in, items_in, text_in, digit_in, word_in, value_in, script_in, second_script_in, has_bang, else_in, listed_in, kind_in, command_in, pipeline_in, filled_in, aimed_in, op_in, operands_in, sum_in}
use Rattle.sh_grammar.specs.Table.{Rule, list, maybe_list, chain, and_link, or_link, pipeline, bang, compound_command, group, subshell, if_command, if_branch, else_part, while_loop, until_loop, for_loop, for_in, case_command, case_item, function_command, simple_command, assign, redirect, file, word, value, pattern, double_quotes, fill, trim, subst, sum, body_parts}

abbrev a : Kind → List Node
a k = kind_node k ∷ []

abbrev pub act : Rule → List Node → List Node
act list xs = script_node (chains_in xs) ∷ []
act maybe_list xs = script_node (chains_in xs) ∷ []
act chain xs = chain_node (chain_of (pipeline_in xs) (links_in xs)) ∷ []
act and_link xs = and_node (pipeline_in xs) ∷ []
act or_link xs = or_node (pipeline_in xs) ∷ []
act pipeline xs = pipeline_node (pipeline_of (has_bang xs) (stages_in xs)) ∷ []
act bang xs = bang_node ∷ []
act compound_command xs = command_node (shape.command (kind_in xs) (redirects_in xs)) ∷ []
act group xs = a (group_kind (script_in xs))
act subshell xs = a (subshell_kind (script_in xs))
act if_command xs = a (branching (branches_in xs) (else_in xs))
act if_branch xs = branch_node (script_in xs) (second_script_in xs) ∷ []
act else_part xs = else_node (script_in xs) ∷ []
act while_loop xs = a (loop false (script_in xs) (second_script_in xs))
act until_loop xs = a (loop true (script_in xs) (second_script_in xs))
act for_loop xs = a (walk (text_in xs) (listed_in xs) (script_in xs))
act for_in xs = listed_node (listed (words_in xs)) ∷ []
act case_command xs = a (cases (word_in xs) (items_in xs))
act case_item xs = item_node (words_in xs) (script_in xs) ∷ []
act function_command xs = command_node (shape.command (function (text_in xs) (command_in xs)) no_redirect) ∷ []
act simple_command xs = command_node (shape.command (simple (assigns_in xs) (words_in xs)) (redirects_in xs)) ∷ []
act assign xs = assign_node (text_in xs) (value_in xs) ∷ []
act redirect xs = aimed_in xs (digit_in xs)
act file xs = op_in xs (word_in xs)
act word xs = word_node (parts_in xs) ∷ []
act value xs = word_node (parts_in xs) ∷ []
act pattern xs = word_node (parts_in xs) ∷ []
act double_quotes xs = part_node (double (parts_in xs)) ∷ []
act (fill c) xs = part_node (filled_in xs (parts_in xs)) ∷ []
act (trim c) xs = part_node (filled_in xs (parts_in xs)) ∷ []
act subst xs = part_node (subst_part (script_in xs)) ∷ []
act sum xs = part_node (sum_in xs (operands_in xs)) ∷ []
act body_parts xs = word_node (parts_in xs) ∷ []
act r xs = xs
