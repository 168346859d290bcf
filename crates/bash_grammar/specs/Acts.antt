-- What each rule makes of what was read below it.
use Rattle.std.specs.Prelude.{◌==◌, ℕ, zero, Bool, true, false, ◌&&◌, List, [], ◌∷◌, Option, Some, None, if◌then◌else◌, codes}
use Rattle.span_text.specs.declared.span.Span.{Span}
use Rattle.span_text.specs.Names.{is_name}
use Rattle.span_text.specs.KnownNames.{same_text}
use Rattle.bash_grammar.specs.Shape.{Code, case_pattern, descriptor, error_expansion, extended_glob, function_name, indirect, locale_quote, old_arithmetic, process_substitution, read_substitution, regex_test as regex_code, reserved_command, special_parameter, Name, RedirectOp, refused_op, read, Part, plain, double, param as param_part, subst as subst_part, arith_part, compound as list_part, refused_part, no_part, part as next_part, Word, word as a_word, no_word, MaybeArith, some_arith, index as both_index, key_only, MaybeSubscript, no_subscript, some_subscript, Param, named, member, members as members_of, ParamOp, as_is, length_of, keys as keys_of, fill as fill_of, trim as trim_of, slice as slice_of, replace as replace_of, casing as casing_of, items_value, element as element_of, Assign, assign as assign_of, no_assign, Redirects, no_redirect, redirect as next_redirect, Command, command as command_of, Kind, simple, group as group_of, subshell as subshell_of, branching, loop, walk, arith_loop, cases, arith_command, conditional as conditional_of, function as function_of, refused_command, listed, Cond, text_cond, unary_cond, binary_cond, no_stage, stage as next_stage, pipeline as pipeline_of, no_link, chain as chain_of, Script, no_chain, next_chain}
use Rattle.bash_grammar.specs.Heads.{known, refused}
use Rattle.bash_grammar.specs.Nodes.{Node, unit_node, code_node, code_at_node, part_node, operand_node, bad_node, arith_node, subject_node, members_node, index_node, fill_node, trim_node, case_node, replace_node, operation_node, word_node, op_node, aimed_node, redirect_node, value_node, element_node, assign_node, kind_node, command_node, bang_node, pipeline_node, and_node, or_node, chain_node, script_node, branch_node, else_node, listed_node, item_node, test_node, cond_node, parts_in, words_in, elements_in, assigns_in, redirects_in, stages_in, both_in, links_in, chains_in, branches_in, items_in, ors_in, ands_in, joined_in, negated_in, slots_in, slot_of, rest_of, span_in, name_in, has_name, digit_in, has_far, nowhere, word_in, second_word_in, value_in, index_in, append_in, script_in, second_script_in, has_bang, else_in, listed_in, end_in, kind_in, command_in, has_command, pipeline_in, operation_in, code_in, bad_in, arith_in}
use Rattle.bash_grammar.specs.Table.{Rule, list, maybe_list, chain, and_link, or_link, pipeline, bang, compound_command, group, subshell, sum_command, if_command, if_branch, else_part, while_loop, until_loop, for_loop, for_in, section, last_section, select_loop, case_command, case_item, function_command, time_command, coproc_command, conditional, cond_or, cond_and, cond_not, unary, binary, regex_test, regex, simple_body, calling, declaring, list_word, assign, elements, element, element_value, redirect, file, word, value, tilde_part, pattern, part, double_quotes, locale, process, glob, old, subst, ticks, length_braces, pointed_braces, valued_braces, special_braces, subscript, key_operand, fill, trim, casing, replace, slice, offset, slice_length, braced, sum, sum_operand, body_parts}

abbrev a : Kind → List Node
a k = kind_node k ∷ []

-- ---- words

abbrev of_code : Code → ℕ → Span → Part
of_code c from s = refused_part c (record s { from = from })

-- the part that a unit is, or what is refused in its place
abbrev placed : Span → List Node → List Node
placed s [] = []
placed s (unit_node p ∷ xs) = part_node p s ∷ []
placed s (code_node c ∷ xs) = part_node (refused_part c s) s ∷ []
placed s (code_at_node c at ∷ xs) = part_node (of_code c at s) s ∷ []
placed s (x ∷ xs) = placed s xs

abbrev a_word_node : List Node → List Node
a_word_node xs = word_node (a_word (parts_in xs) (span_in xs)) ∷ []

-- the word of one part
abbrev as_operand : List Node → List Node
as_operand [] = []
as_operand (part_node p s ∷ xs) = operand_node (a_word (next_part p s no_part) s) ∷ []
as_operand (x ∷ xs) = as_operand xs

-- the part too, where a subscript is also a word
abbrev with_part : List Node → List Node
with_part [] = []
with_part (part_node p s ∷ xs) = part_node p s ∷ as_operand (part_node p s ∷ [])
with_part (x ∷ xs) = with_part xs

-- `< a` and nothing else
abbrev reads_only : Script → Bool
reads_only (next_chain (chain_of (pipeline_of false (next_stage (command_of (simple no_assign no_word) (next_redirect None read w s no_redirect) t) no_stage) []) no_link) None no_chain) = true
reads_only (next_chain (chain_of (pipeline_of false (next_stage (command_of (simple no_assign no_word) (next_redirect (Some zero) read w s no_redirect) t) no_stage) []) no_link) None no_chain) = true
reads_only s = false

abbrev a_subst : Script → List Node
a_subst s = if reads_only s then code_node read_substitution ∷ [] else unit_node (subst_part s) ∷ []

-- ---- expressions

abbrev a_sum : List Node → List Node
a_sum [] = []
a_sum (arith_node e ∷ xs) = unit_node (arith_part e) ∷ []
a_sum (bad_node c at s ∷ xs) = code_at_node c at ∷ []
a_sum (x ∷ xs) = a_sum xs

abbrev refused_from : Span → Code → ℕ → Kind
refused_from s c at = refused_command c (record s { from = at })

abbrev to_end : ℕ → Span → Span
to_end from s = record s { from = from }

-- `((a))`, whose last mark is its end
abbrev sum_kind : Span → List Node → List Node
sum_kind s [] = []
sum_kind s (arith_node e ∷ xs) = a (arith_command e)
sum_kind s (bad_node c at x ∷ xs) = a (refused_from s c at)
sum_kind s (x ∷ xs) = sum_kind s xs

abbrev loop_kind : Option (Code × ℕ) → Span → List MaybeArith → Script → Kind
loop_kind (Some x) s slots body = refused_from s x.0 x.1
loop_kind None s slots body = arith_loop (slot_of slots) (slot_of (rest_of slots)) (slot_of (rest_of (rest_of slots))) body

abbrev for_kind : List Node → Kind
for_kind xs = if has_name xs then walk (name_in xs) (listed_in xs) (script_in xs) else loop_kind (bad_in xs) (span_in xs) (slots_in xs) (script_in xs)

-- a subscript, which is a word and perhaps an expression
abbrev a_subscript : Word → Span → List Node → List Node
a_subscript w s [] = []
a_subscript w s (arith_node e ∷ xs) = index_node (both_index w e s) ∷ []
a_subscript w s (bad_node c at x ∷ xs) = index_node (key_only w (to_end at s) s) ∷ []
a_subscript w s (x ∷ xs) = a_subscript w s xs

-- ---- parameters

abbrev indexed_param : Name → MaybeSubscript → Param
indexed_param n no_subscript = named n
indexed_param n (some_subscript i) = member n i

abbrev param_in : Name → List Node → Param
param_in n [] = named n
param_in n (members_node b ∷ xs) = members_of n b
param_in n (index_node i ∷ xs) = member n i
param_in n (x ∷ xs) = param_in n xs

abbrev or_code : Option Code → List Node → List Node
or_code (Some c) xs = code_node c ∷ []
or_code None xs = xs

abbrev or_bad : Option (Code × ℕ) → List Node → List Node
or_bad (Some x) xs = code_at_node x.0 x.1 ∷ []
or_bad None xs = xs

-- `${a..}`, where nothing is refused
abbrev operated : Param → List Node → List Node
operated p xs = or_bad (bad_in xs) (or_code (code_in xs) (unit_node (param_part p (operation_in xs)) ∷ []))

abbrev is_underscore : Name → Bool
is_underscore n = same_text n.text (codes "_")

abbrev valued : Name → List Node → List Node
valued n xs = if is_underscore n then or_code (code_in xs) (code_node special_parameter ∷ []) else operated (param_in n xs) xs

abbrev length_in : Name → List Node → List Node
length_in n xs = if is_underscore n then code_node special_parameter ∷ [] else unit_node (param_part (param_in n xs) length_of) ∷ []

abbrev is_as_is : ParamOp → Bool
is_as_is as_is = true
is_as_is o = false

abbrev is_none : {A : Type 0} → Option A → Bool
is_none None = true
is_none (Some x) = false

-- `${!a[@]}`; what else `${!` begins is refused
abbrev is_members : Param → Bool
is_members (members_of n b) = true
is_members p = false

abbrev pointed : Param → List Node → List Node
pointed p xs = if is_members p && is_as_is (operation_in xs) && is_none (code_in xs) && is_none (bad_in xs) then unit_node (param_part p keys_of) ∷ [] else code_node indirect ∷ []

-- of two things that are refused at one place the one that comes first in the table of refusals
abbrev lesser : Code → Option Code → List Node
lesser special_parameter (Some c) = code_node c ∷ []
lesser c o = code_node c ∷ []

abbrev special_in : List Node → List Node
special_in [] = []
special_in (subject_node (known p) true ∷ xs) = unit_node (param_part p length_of) ∷ []
special_in (subject_node (known p) false ∷ xs) = operated p xs
special_in (subject_node (refused c) n ∷ xs) = lesser c (code_in xs)
special_in (x ∷ xs) = special_in xs

abbrev filled_in : Word → List Node → List Node
filled_in w [] = []
filled_in w (fill_node (Some t) colon ∷ xs) = operation_node (fill_of t colon w) ∷ []
filled_in w (fill_node None colon ∷ xs) = code_node error_expansion ∷ []
filled_in w (x ∷ xs) = filled_in w xs

abbrev trimmed_in : Word → List Node → List Node
trimmed_in w [] = []
trimmed_in w (trim_node suffix longest ∷ xs) = operation_node (trim_of suffix longest w) ∷ []
trimmed_in w (x ∷ xs) = trimmed_in w xs

abbrev has_parts : Word → Bool
has_parts (a_word no_part s) = false
has_parts (a_word ps s) = true

abbrev cased_in : Word → List Node → List Node
cased_in w [] = []
cased_in w (case_node upper all ∷ xs) = if has_parts w then code_node case_pattern ∷ [] else operation_node (casing_of upper all) ∷ []
cased_in w (x ∷ xs) = cased_in w xs

abbrev replaced_in : Word → Word → List Node → List Node
replaced_in p w [] = []
replaced_in p w (replace_node at ∷ xs) = operation_node (replace_of at p w) ∷ []
replaced_in p w (x ∷ xs) = replaced_in p w xs

abbrev sliced : List MaybeArith → List Node
sliced (some_arith o ∷ ls) = operation_node (slice_of o (slot_of ls)) ∷ []
sliced ls = []

abbrev or_first_bad : Option (Code × ℕ) → Span → List Node → List Node
or_first_bad (Some x) s xs = bad_node x.0 x.1 s ∷ []
or_first_bad None s xs = xs

-- ---- redirections

abbrev aimed_in : List Node → (RedirectOp → RedirectOp) → Option ℕ → Span → List Node
aimed_in [] f fd s = []
aimed_in (aimed_node op w ∷ xs) f fd s = redirect_node fd (f op) w s ∷ []
aimed_in (x ∷ xs) f fd s = aimed_in xs f fd s

-- with a descriptor that is refused
abbrev with_far : Bool → Span → RedirectOp → RedirectOp
with_far true s op = refused_op descriptor s
with_far false s op = op

abbrev op_in : List Node → Word → List Node
op_in [] w = []
op_in (op_node op ∷ xs) w = aimed_node op w ∷ []
op_in (x ∷ xs) w = op_in xs w

-- ---- commands

-- the name of a function: a word of bytes that are a name
abbrev function_in : Word → Span → Command → Kind
function_in (a_word (next_part (plain text) s no_part) t) all body = if is_name text then function_of (record { text = text; span = t }) body else refused_command function_name all
function_in (a_word (next_part (refused_part c s) t ps) u) all body = refused_command (if s.from == all.from then c else function_name) all
function_in w all body = refused_command function_name all

abbrev word_start : Word → ℕ
word_start (a_word ps s) = s.from

abbrev command_end : Command → ℕ
command_end (command_of k r s) = s.to

abbrev defined : Word → Command → Kind
defined w body = function_in w (record { from = word_start w; to = command_end body }) body

-- a function, or words
abbrev called_in : List Node → List Node
called_in xs = if has_command xs then a (defined (word_in nowhere xs) (command_in xs)) else xs

abbrev a_command : Kind → Redirects → List Node → List Node
a_command k r xs = command_node (command_of k r (span_in xs)) ∷ []

abbrev refused_all : List Node → List Node
refused_all xs = a_command (refused_command reserved_command (span_in xs)) no_redirect xs

-- ---- conditions

abbrev tested : Word → List Node → Cond
tested w [] = text_cond w
tested w (test_node o ∷ xs) = binary_cond w o (word_in nowhere xs)
tested w (x ∷ xs) = tested w xs

abbrev unary_in : List Node → List Node
unary_in [] = []
unary_in (test_node o ∷ xs) = cond_node (unary_cond o (word_in nowhere xs)) ∷ []
unary_in (x ∷ xs) = unary_in xs

abbrev of_regex : ℕ → Word → Word
of_regex from (a_word ps s) = a_word (next_part (refused_part regex_code (to_end from s)) s no_part) s

-- what is behind `=~` is refused from the operator on
abbrev regex_in : List Node → List Node
regex_in [] = []
regex_in (test_node o ∷ xs) = test_node o ∷ word_node (of_regex o.span.from (word_in nowhere xs)) ∷ []
regex_in (x ∷ xs) = regex_in xs

abbrev listed_by : Assign → List Node
listed_by (assign_of n i append v s) = word_node (a_word (next_part (list_part (assign_of n i append v s)) s no_part) s) ∷ []

abbrev list_in : List Node → List Node
list_in [] = []
list_in (assign_node x ∷ xs) = listed_by x
list_in (x ∷ xs) = list_in xs

abbrev cond_kind : List Node → List Node
cond_kind [] = []
cond_kind (cond_node c ∷ xs) = a (conditional_of c)
cond_kind (x ∷ xs) = cond_kind xs

-- ---- rules

abbrev pub act : Rule → List Node → List Node
act list xs = script_node (chains_in xs) ∷ []
act maybe_list xs = script_node (chains_in xs) ∷ []
act chain xs = chain_node (chain_of (pipeline_in xs) (links_in xs)) ∷ []
act and_link xs = and_node (pipeline_in xs) ∷ []
act or_link xs = or_node (pipeline_in xs) ∷ []
act pipeline xs = pipeline_node (pipeline_of (has_bang xs) (stages_in xs) (both_in xs)) ∷ []
act bang xs = bang_node ∷ []
act compound_command xs = a_command (kind_in (group_of no_chain) xs) (redirects_in xs) xs
act group xs = a (group_of (script_in xs))
act subshell xs = a (subshell_of (script_in xs))
act sum_command xs = sum_kind (span_in xs) (arith_in xs)
act if_command xs = a (branching (branches_in xs) (else_in xs))
act if_branch xs = branch_node (script_in xs) (second_script_in xs) ∷ []
act else_part xs = else_node (script_in xs) ∷ []
act while_loop xs = a (loop false (script_in xs) (second_script_in xs))
act until_loop xs = a (loop true (script_in xs) (second_script_in xs))
act for_loop xs = a (for_kind xs)
act for_in xs = listed_node (listed (words_in xs)) ∷ []
act section xs = arith_in xs
act last_section xs = arith_in xs
act select_loop xs = a (refused_command reserved_command (span_in xs))
act case_command xs = a (cases (word_in nowhere xs) (items_in xs))
act case_item xs = item_node (words_in xs) (script_in xs) (end_in xs) ∷ []
act function_command xs = a_command (function_in (word_in nowhere xs) (to_end (word_start (word_in nowhere xs)) (span_in xs)) (command_in xs)) no_redirect xs
act time_command xs = refused_all xs
act coproc_command xs = refused_all xs
act conditional xs = cond_kind xs
act cond_or xs = joined_in ors_in xs
act cond_and xs = joined_in ands_in xs
act cond_not xs = negated_in xs
act unary xs = unary_in xs
act binary xs = cond_node (tested (word_in nowhere xs) xs) ∷ []
act regex_test xs = regex_in xs
act regex xs = a_word_node xs
act simple_body xs = a_command (kind_in (simple (assigns_in xs) (words_in xs)) xs) (redirects_in xs) xs
act calling xs = called_in xs
act declaring xs = called_in xs
act list_word xs = list_in xs
act assign xs = assign_node (assign_of (name_in xs) (index_in xs) (append_in xs) (value_in xs) (span_in xs)) ∷ []
act elements xs = value_node (items_value (elements_in xs)) ∷ []
act element xs = element_node (element_of (index_in xs) (value_in xs) (span_in xs)) ∷ []
act element_value xs = a_word_node xs
act redirect xs = aimed_in xs (with_far (has_far xs) (span_in xs)) (digit_in xs) (span_in xs)
act file xs = op_in xs (word_in nowhere xs)
act word xs = a_word_node xs
act value xs = a_word_node xs
act tilde_part xs = placed (span_in xs) xs
act pattern xs = a_word_node xs
act (part c) xs = placed (span_in xs) xs
act double_quotes xs = unit_node (double (parts_in xs)) ∷ []
act locale xs = code_node locale_quote ∷ []
act process xs = code_node process_substitution ∷ []
act glob xs = code_node extended_glob ∷ []
act old xs = code_node old_arithmetic ∷ []
act subst xs = a_subst (script_in xs)
act ticks xs = a_subst (script_in xs)
act (length_braces c) xs = length_in (name_in xs) xs
act (pointed_braces c) xs = pointed (param_in (name_in xs) xs) xs
act (valued_braces c) xs = valued (name_in xs) xs
act (special_braces c) xs = special_in xs
act (subscript c) xs = a_subscript (a_word (parts_in xs) (span_in xs)) (span_in xs) (arith_in xs)
act (key_operand c) xs = with_part xs
act (fill c) xs = filled_in (word_in nowhere xs) xs
act (trim c) xs = trimmed_in (word_in nowhere xs) xs
act (casing c) xs = cased_in (word_in nowhere xs) xs
act (replace c) xs = replaced_in (word_in nowhere xs) (second_word_in xs) xs
act (slice c) xs = or_first_bad (bad_in xs) (span_in xs) (sliced (slots_in xs))
act (offset c) xs = arith_in xs
act (slice_length c) xs = arith_in xs
act (braced c) xs = a_word_node xs
act (sum c) xs = a_sum (arith_in xs)
act (sum_operand c) xs = as_operand xs
act body_parts xs = a_word_node xs
act r xs = xs
