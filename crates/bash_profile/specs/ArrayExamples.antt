-- Texts with the first of what is refused of them, worked out: prefixes and arrays. Of each code there is a form that is refused, and its
-- nearest neighbour that is taken.
use Rattle.std.specs.Prelude.{◌≡◌, List, [], ◌∷◌, map, Some, refl, codes}
use Rattle.std.specs.Fmt.{digits as digits_of}
use Rattle.span_text.specs.Names.{begins_name, continues_name}
use Rattle.span_text.specs.KnownNames.{builtins, refused_builtins, standard_words, bash_words, other_commands, special_names, special_prefixes}
use Rattle.span_text.specs.Constant.{number_of}
use Rattle.span_text.specs.ExprTokens.{sign_of, longer, is_gap}
use Rattle.arith64.specs.Parsing.{reduce}
use Rattle.text_grammar.specs.Values.{vals}
use Rattle.text_grammar.specs.Reading.{parse, read}
use Rattle.text_grammar.specs.Later.{vals_twice}
use Rattle.bash_grammar.specs.Bytes.{clear, comment_end, gap, is_special_param, is_meta, is_ended, is_quote, is_active, is_plain, is_escaped_in, is_escaped, opens_glob, opens_process, expands, is_literal, literal_run, literal_in, begins_unit, unit_starts, unit_starts_in, name_run, digit_run, idle}
use Rattle.bash_grammar.specs.Quotes.{quoted_run, letter, ansi_from}
use Rattle.bash_grammar.specs.Tokens.{code, semi_at, and_at, pipe_at, here_at, less_at, great_at, front, token, is_token, key_text, is_key, is_word_of, compound_words, command_words, other_words, declaring_words, unary_tests, binary_tests, here_next, copy_next, both_next, redirect_next, plain_next, simple_next, compound_next, command_next, pipeline_next, sum_command_next, parens_next, name_at, tilde_at, tilde_next}
use Rattle.bash_grammar.specs.Heads.{short_param_at, special_at, behind_two, dollar_name, dollar_short, brace_name, length_name, pointed_name, brace_special, brace_next, dollar_sum, sum_next, subst_next, old_next, ansi_next, locale_next, expansion_next, members_at, names_at, fill_at, trim_at, case_at, replace_at, is_transform, transform_at, slice_at}
use Rattle.bash_grammar.specs.Bodies.{delimiter_from, delimiter_at, delimiter_for, body_from, body_at}
use Rattle.bash_grammar.specs.State.{behind_quotes, ahead, place_of, place_behind}
use Rattle.bash_grammar.specs.Sums.{stretch_run, outcome, marks}
use Rattle.bash_grammar.specs.Steps.{equals_at, bodies_at, tick_run, ticks_at, run_step}
use Rattle.bash_grammar.specs.Tests.{assign_at, indexed_next, holds}
use Rattle.bash_grammar.specs.Spelling.{bash}
use Rattle.bash_grammar.specs.Pieces.{next_piece, nodes_in, nodes_from}
use Rattle.fmt_print.specs.Pieces.{pieces}
use Rattle.bash_profile.specs.Literals.{literal_text, written_text, operand_name, member_name}
use Rattle.bash_profile.specs.Kinds.{expr_notes, simple_notes, notes_of, is_associative, notes}
use Rattle.bash_profile.specs.Braces.{brace_words}
use Rattle.bash_profile.specs.Effects.{deep}
use Rattle.bash_profile.specs.Worked.{first, none, no, Row}
use Rattle.bash_profile.specs.Refusals.{refusals}

abbrev prefixes1 : List Row
prefixes1 =
    (codes "f() { a; }; x=1 f", no 35 12) ∷
    (codes "x=1 a", none) ∷ []

prefixes1_are : map (λ r. first r.0) prefixes1 ≡ map (λ r. Some r.1) prefixes1
unfolding number_of sign_of longer is_gap reduce parse read vals vals_twice begins_name continues_name clear comment_end gap is_special_param is_meta is_ended is_quote is_active is_plain is_escaped_in is_escaped opens_glob opens_process expands is_literal literal_run literal_in begins_unit unit_starts unit_starts_in name_run digit_run idle quoted_run letter ansi_from code semi_at and_at pipe_at here_at less_at great_at front token is_token key_text is_key is_word_of compound_words command_words other_words declaring_words unary_tests binary_tests here_next copy_next both_next redirect_next plain_next simple_next compound_next command_next pipeline_next sum_command_next parens_next name_at tilde_at tilde_next short_param_at special_at behind_two dollar_name dollar_short brace_name length_name pointed_name brace_special brace_next dollar_sum sum_next subst_next old_next ansi_next locale_next expansion_next members_at names_at fill_at trim_at case_at replace_at is_transform transform_at slice_at delimiter_from delimiter_at delimiter_for body_from body_at behind_quotes ahead place_of place_behind stretch_run outcome marks equals_at bodies_at tick_run ticks_at run_step assign_at indexed_next holds bash next_piece nodes_in nodes_from expr_notes literal_text operand_name member_name simple_notes notes_of is_associative notes refusals builtins refused_builtins standard_words bash_words other_commands special_names special_prefixes written_text brace_words digits_of deep pieces
prefixes1_are = refl

abbrev prefixes2 : List Row
prefixes2 =
    (codes "x=1 $y", no 35 0) ∷
    (codes "x=1 set -- a", no 35 0) ∷ []

prefixes2_are : map (λ r. first r.0) prefixes2 ≡ map (λ r. Some r.1) prefixes2
unfolding number_of sign_of longer is_gap reduce parse read vals vals_twice begins_name continues_name clear comment_end gap is_special_param is_meta is_ended is_quote is_active is_plain is_escaped_in is_escaped opens_glob opens_process expands is_literal literal_run literal_in begins_unit unit_starts unit_starts_in name_run digit_run idle quoted_run letter ansi_from code semi_at and_at pipe_at here_at less_at great_at front token is_token key_text is_key is_word_of compound_words command_words other_words declaring_words unary_tests binary_tests here_next copy_next both_next redirect_next plain_next simple_next compound_next command_next pipeline_next sum_command_next parens_next name_at tilde_at tilde_next short_param_at special_at behind_two dollar_name dollar_short brace_name length_name pointed_name brace_special brace_next dollar_sum sum_next subst_next old_next ansi_next locale_next expansion_next members_at names_at fill_at trim_at case_at replace_at is_transform transform_at slice_at delimiter_from delimiter_at delimiter_for body_from body_at behind_quotes ahead place_of place_behind stretch_run outcome marks equals_at bodies_at tick_run ticks_at run_step assign_at indexed_next holds bash next_piece nodes_in nodes_from expr_notes literal_text operand_name member_name simple_notes notes_of is_associative notes refusals builtins refused_builtins standard_words bash_words other_commands special_names special_prefixes written_text brace_words digits_of deep pieces
prefixes2_are = refl

abbrev prefixes3 : List Row
prefixes3 =
    (codes "x=1 read y", none) ∷
    (codes "x+=1 a", no 35 0) ∷ []

prefixes3_are : map (λ r. first r.0) prefixes3 ≡ map (λ r. Some r.1) prefixes3
unfolding number_of sign_of longer is_gap reduce parse read vals vals_twice begins_name continues_name clear comment_end gap is_special_param is_meta is_ended is_quote is_active is_plain is_escaped_in is_escaped opens_glob opens_process expands is_literal literal_run literal_in begins_unit unit_starts unit_starts_in name_run digit_run idle quoted_run letter ansi_from code semi_at and_at pipe_at here_at less_at great_at front token is_token key_text is_key is_word_of compound_words command_words other_words declaring_words unary_tests binary_tests here_next copy_next both_next redirect_next plain_next simple_next compound_next command_next pipeline_next sum_command_next parens_next name_at tilde_at tilde_next short_param_at special_at behind_two dollar_name dollar_short brace_name length_name pointed_name brace_special brace_next dollar_sum sum_next subst_next old_next ansi_next locale_next expansion_next members_at names_at fill_at trim_at case_at replace_at is_transform transform_at slice_at delimiter_from delimiter_at delimiter_for body_from body_at behind_quotes ahead place_of place_behind stretch_run outcome marks equals_at bodies_at tick_run ticks_at run_step assign_at indexed_next holds bash next_piece nodes_in nodes_from expr_notes literal_text operand_name member_name simple_notes notes_of is_associative notes refusals builtins refused_builtins standard_words bash_words other_commands special_names special_prefixes written_text brace_words digits_of deep pieces
prefixes3_are = refl

abbrev prefixes4 : List Row
prefixes4 =
    (codes "x=1 read x", no 35 0) ∷
    (codes "x=1 y=$x a", no 35 6) ∷ []

prefixes4_are : map (λ r. first r.0) prefixes4 ≡ map (λ r. Some r.1) prefixes4
unfolding number_of sign_of longer is_gap reduce parse read vals vals_twice begins_name continues_name clear comment_end gap is_special_param is_meta is_ended is_quote is_active is_plain is_escaped_in is_escaped opens_glob opens_process expands is_literal literal_run literal_in begins_unit unit_starts unit_starts_in name_run digit_run idle quoted_run letter ansi_from code semi_at and_at pipe_at here_at less_at great_at front token is_token key_text is_key is_word_of compound_words command_words other_words declaring_words unary_tests binary_tests here_next copy_next both_next redirect_next plain_next simple_next compound_next command_next pipeline_next sum_command_next parens_next name_at tilde_at tilde_next short_param_at special_at behind_two dollar_name dollar_short brace_name length_name pointed_name brace_special brace_next dollar_sum sum_next subst_next old_next ansi_next locale_next expansion_next members_at names_at fill_at trim_at case_at replace_at is_transform transform_at slice_at delimiter_from delimiter_at delimiter_for body_from body_at behind_quotes ahead place_of place_behind stretch_run outcome marks equals_at bodies_at tick_run ticks_at run_step assign_at indexed_next holds bash next_piece nodes_in nodes_from expr_notes literal_text operand_name member_name simple_notes notes_of is_associative notes refusals builtins refused_builtins standard_words bash_words other_commands special_names special_prefixes written_text brace_words digits_of deep pieces
prefixes4_are = refl

abbrev prefixes5 : List Row
prefixes5 =
    (codes "x=1 y=$z a", none) ∷
    (codes "x=1 y=$(b) a", no 35 6) ∷ []

prefixes5_are : map (λ r. first r.0) prefixes5 ≡ map (λ r. Some r.1) prefixes5
unfolding number_of sign_of longer is_gap reduce parse read vals vals_twice begins_name continues_name clear comment_end gap is_special_param is_meta is_ended is_quote is_active is_plain is_escaped_in is_escaped opens_glob opens_process expands is_literal literal_run literal_in begins_unit unit_starts unit_starts_in name_run digit_run idle quoted_run letter ansi_from code semi_at and_at pipe_at here_at less_at great_at front token is_token key_text is_key is_word_of compound_words command_words other_words declaring_words unary_tests binary_tests here_next copy_next both_next redirect_next plain_next simple_next compound_next command_next pipeline_next sum_command_next parens_next name_at tilde_at tilde_next short_param_at special_at behind_two dollar_name dollar_short brace_name length_name pointed_name brace_special brace_next dollar_sum sum_next subst_next old_next ansi_next locale_next expansion_next members_at names_at fill_at trim_at case_at replace_at is_transform transform_at slice_at delimiter_from delimiter_at delimiter_for body_from body_at behind_quotes ahead place_of place_behind stretch_run outcome marks equals_at bodies_at tick_run ticks_at run_step assign_at indexed_next holds bash next_piece nodes_in nodes_from expr_notes literal_text operand_name member_name simple_notes notes_of is_associative notes refusals builtins refused_builtins standard_words bash_words other_commands special_names special_prefixes written_text brace_words digits_of deep pieces
prefixes5_are = refl

abbrev arrays1 : List Row
arrays1 =
    (codes "declare -A m; show $m", no 37 20) ∷ []

arrays1_are : map (λ r. first r.0) arrays1 ≡ map (λ r. Some r.1) arrays1
unfolding number_of sign_of longer is_gap reduce parse read vals vals_twice begins_name continues_name clear comment_end gap is_special_param is_meta is_ended is_quote is_active is_plain is_escaped_in is_escaped opens_glob opens_process expands is_literal literal_run literal_in begins_unit unit_starts unit_starts_in name_run digit_run idle quoted_run letter ansi_from code semi_at and_at pipe_at here_at less_at great_at front token is_token key_text is_key is_word_of compound_words command_words other_words declaring_words unary_tests binary_tests here_next copy_next both_next redirect_next plain_next simple_next compound_next command_next pipeline_next sum_command_next parens_next name_at tilde_at tilde_next short_param_at special_at behind_two dollar_name dollar_short brace_name length_name pointed_name brace_special brace_next dollar_sum sum_next subst_next old_next ansi_next locale_next expansion_next members_at names_at fill_at trim_at case_at replace_at is_transform transform_at slice_at delimiter_from delimiter_at delimiter_for body_from body_at behind_quotes ahead place_of place_behind stretch_run outcome marks equals_at bodies_at tick_run ticks_at run_step assign_at indexed_next holds bash next_piece nodes_in nodes_from expr_notes literal_text operand_name member_name simple_notes notes_of is_associative notes refusals builtins refused_builtins standard_words bash_words other_commands special_names special_prefixes written_text brace_words digits_of deep pieces
arrays1_are = refl

abbrev arrays2 : List Row
arrays2 =
    (codes "declare -A m; show ${m[a]}", none) ∷ []

arrays2_are : map (λ r. first r.0) arrays2 ≡ map (λ r. Some r.1) arrays2
unfolding number_of sign_of longer is_gap reduce parse read vals vals_twice begins_name continues_name clear comment_end gap is_special_param is_meta is_ended is_quote is_active is_plain is_escaped_in is_escaped opens_glob opens_process expands is_literal literal_run literal_in begins_unit unit_starts unit_starts_in name_run digit_run idle quoted_run letter ansi_from code semi_at and_at pipe_at here_at less_at great_at front token is_token key_text is_key is_word_of compound_words command_words other_words declaring_words unary_tests binary_tests here_next copy_next both_next redirect_next plain_next simple_next compound_next command_next pipeline_next sum_command_next parens_next name_at tilde_at tilde_next short_param_at special_at behind_two dollar_name dollar_short brace_name length_name pointed_name brace_special brace_next dollar_sum sum_next subst_next old_next ansi_next locale_next expansion_next members_at names_at fill_at trim_at case_at replace_at is_transform transform_at slice_at delimiter_from delimiter_at delimiter_for body_from body_at behind_quotes ahead place_of place_behind stretch_run outcome marks equals_at bodies_at tick_run ticks_at run_step assign_at indexed_next holds bash next_piece nodes_in nodes_from expr_notes literal_text operand_name member_name simple_notes notes_of is_associative notes refusals builtins refused_builtins standard_words bash_words other_commands special_names special_prefixes written_text brace_words digits_of deep pieces
arrays2_are = refl

abbrev arrays3 : List Row
arrays3 =
    (codes "declare -A m; m=a", no 37 14) ∷ []

arrays3_are : map (λ r. first r.0) arrays3 ≡ map (λ r. Some r.1) arrays3
unfolding number_of sign_of longer is_gap reduce parse read vals vals_twice begins_name continues_name clear comment_end gap is_special_param is_meta is_ended is_quote is_active is_plain is_escaped_in is_escaped opens_glob opens_process expands is_literal literal_run literal_in begins_unit unit_starts unit_starts_in name_run digit_run idle quoted_run letter ansi_from code semi_at and_at pipe_at here_at less_at great_at front token is_token key_text is_key is_word_of compound_words command_words other_words declaring_words unary_tests binary_tests here_next copy_next both_next redirect_next plain_next simple_next compound_next command_next pipeline_next sum_command_next parens_next name_at tilde_at tilde_next short_param_at special_at behind_two dollar_name dollar_short brace_name length_name pointed_name brace_special brace_next dollar_sum sum_next subst_next old_next ansi_next locale_next expansion_next members_at names_at fill_at trim_at case_at replace_at is_transform transform_at slice_at delimiter_from delimiter_at delimiter_for body_from body_at behind_quotes ahead place_of place_behind stretch_run outcome marks equals_at bodies_at tick_run ticks_at run_step assign_at indexed_next holds bash next_piece nodes_in nodes_from expr_notes literal_text operand_name member_name simple_notes notes_of is_associative notes refusals builtins refused_builtins standard_words bash_words other_commands special_names special_prefixes written_text brace_words digits_of deep pieces
arrays3_are = refl

abbrev arrays4 : List Row
arrays4 =
    (codes "declare -A m; m=([a]=b)", none) ∷ []

arrays4_are : map (λ r. first r.0) arrays4 ≡ map (λ r. Some r.1) arrays4
unfolding number_of sign_of longer is_gap reduce parse read vals vals_twice begins_name continues_name clear comment_end gap is_special_param is_meta is_ended is_quote is_active is_plain is_escaped_in is_escaped opens_glob opens_process expands is_literal literal_run literal_in begins_unit unit_starts unit_starts_in name_run digit_run idle quoted_run letter ansi_from code semi_at and_at pipe_at here_at less_at great_at front token is_token key_text is_key is_word_of compound_words command_words other_words declaring_words unary_tests binary_tests here_next copy_next both_next redirect_next plain_next simple_next compound_next command_next pipeline_next sum_command_next parens_next name_at tilde_at tilde_next short_param_at special_at behind_two dollar_name dollar_short brace_name length_name pointed_name brace_special brace_next dollar_sum sum_next subst_next old_next ansi_next locale_next expansion_next members_at names_at fill_at trim_at case_at replace_at is_transform transform_at slice_at delimiter_from delimiter_at delimiter_for body_from body_at behind_quotes ahead place_of place_behind stretch_run outcome marks equals_at bodies_at tick_run ticks_at run_step assign_at indexed_next holds bash next_piece nodes_in nodes_from expr_notes literal_text operand_name member_name simple_notes notes_of is_associative notes refusals builtins refused_builtins standard_words bash_words other_commands special_names special_prefixes written_text brace_words digits_of deep pieces
arrays4_are = refl

abbrev arrays5 : List Row
arrays5 =
    (codes "a=(b); for a in c; do d; done", no 37 11) ∷ []

arrays5_are : map (λ r. first r.0) arrays5 ≡ map (λ r. Some r.1) arrays5
unfolding number_of sign_of longer is_gap reduce parse read vals vals_twice begins_name continues_name clear comment_end gap is_special_param is_meta is_ended is_quote is_active is_plain is_escaped_in is_escaped opens_glob opens_process expands is_literal literal_run literal_in begins_unit unit_starts unit_starts_in name_run digit_run idle quoted_run letter ansi_from code semi_at and_at pipe_at here_at less_at great_at front token is_token key_text is_key is_word_of compound_words command_words other_words declaring_words unary_tests binary_tests here_next copy_next both_next redirect_next plain_next simple_next compound_next command_next pipeline_next sum_command_next parens_next name_at tilde_at tilde_next short_param_at special_at behind_two dollar_name dollar_short brace_name length_name pointed_name brace_special brace_next dollar_sum sum_next subst_next old_next ansi_next locale_next expansion_next members_at names_at fill_at trim_at case_at replace_at is_transform transform_at slice_at delimiter_from delimiter_at delimiter_for body_from body_at behind_quotes ahead place_of place_behind stretch_run outcome marks equals_at bodies_at tick_run ticks_at run_step assign_at indexed_next holds bash next_piece nodes_in nodes_from expr_notes literal_text operand_name member_name simple_notes notes_of is_associative notes refusals builtins refused_builtins standard_words bash_words other_commands special_names special_prefixes written_text brace_words digits_of deep pieces
arrays5_are = refl

abbrev arrays6 : List Row
arrays6 =
    (codes "a=(b); export a", no 37 14) ∷ []

arrays6_are : map (λ r. first r.0) arrays6 ≡ map (λ r. Some r.1) arrays6
unfolding number_of sign_of longer is_gap reduce parse read vals vals_twice begins_name continues_name clear comment_end gap is_special_param is_meta is_ended is_quote is_active is_plain is_escaped_in is_escaped opens_glob opens_process expands is_literal literal_run literal_in begins_unit unit_starts unit_starts_in name_run digit_run idle quoted_run letter ansi_from code semi_at and_at pipe_at here_at less_at great_at front token is_token key_text is_key is_word_of compound_words command_words other_words declaring_words unary_tests binary_tests here_next copy_next both_next redirect_next plain_next simple_next compound_next command_next pipeline_next sum_command_next parens_next name_at tilde_at tilde_next short_param_at special_at behind_two dollar_name dollar_short brace_name length_name pointed_name brace_special brace_next dollar_sum sum_next subst_next old_next ansi_next locale_next expansion_next members_at names_at fill_at trim_at case_at replace_at is_transform transform_at slice_at delimiter_from delimiter_at delimiter_for body_from body_at behind_quotes ahead place_of place_behind stretch_run outcome marks equals_at bodies_at tick_run ticks_at run_step assign_at indexed_next holds bash next_piece nodes_in nodes_from expr_notes literal_text operand_name member_name simple_notes notes_of is_associative notes refusals builtins refused_builtins standard_words bash_words other_commands special_names special_prefixes written_text brace_words digits_of deep pieces
arrays6_are = refl

abbrev arrays7 : List Row
arrays7 =
    (codes "IFS=(a)", no 37 0) ∷ []

arrays7_are : map (λ r. first r.0) arrays7 ≡ map (λ r. Some r.1) arrays7
unfolding number_of sign_of longer is_gap reduce parse read vals vals_twice begins_name continues_name clear comment_end gap is_special_param is_meta is_ended is_quote is_active is_plain is_escaped_in is_escaped opens_glob opens_process expands is_literal literal_run literal_in begins_unit unit_starts unit_starts_in name_run digit_run idle quoted_run letter ansi_from code semi_at and_at pipe_at here_at less_at great_at front token is_token key_text is_key is_word_of compound_words command_words other_words declaring_words unary_tests binary_tests here_next copy_next both_next redirect_next plain_next simple_next compound_next command_next pipeline_next sum_command_next parens_next name_at tilde_at tilde_next short_param_at special_at behind_two dollar_name dollar_short brace_name length_name pointed_name brace_special brace_next dollar_sum sum_next subst_next old_next ansi_next locale_next expansion_next members_at names_at fill_at trim_at case_at replace_at is_transform transform_at slice_at delimiter_from delimiter_at delimiter_for body_from body_at behind_quotes ahead place_of place_behind stretch_run outcome marks equals_at bodies_at tick_run ticks_at run_step assign_at indexed_next holds bash next_piece nodes_in nodes_from expr_notes literal_text operand_name member_name simple_notes notes_of is_associative notes refusals builtins refused_builtins standard_words bash_words other_commands special_names special_prefixes written_text brace_words digits_of deep pieces
arrays7_are = refl

abbrev arrays8 : List Row
arrays8 =
    (codes "show ${IFS[@]}", no 37 7) ∷ []

arrays8_are : map (λ r. first r.0) arrays8 ≡ map (λ r. Some r.1) arrays8
unfolding number_of sign_of longer is_gap reduce parse read vals vals_twice begins_name continues_name clear comment_end gap is_special_param is_meta is_ended is_quote is_active is_plain is_escaped_in is_escaped opens_glob opens_process expands is_literal literal_run literal_in begins_unit unit_starts unit_starts_in name_run digit_run idle quoted_run letter ansi_from code semi_at and_at pipe_at here_at less_at great_at front token is_token key_text is_key is_word_of compound_words command_words other_words declaring_words unary_tests binary_tests here_next copy_next both_next redirect_next plain_next simple_next compound_next command_next pipeline_next sum_command_next parens_next name_at tilde_at tilde_next short_param_at special_at behind_two dollar_name dollar_short brace_name length_name pointed_name brace_special brace_next dollar_sum sum_next subst_next old_next ansi_next locale_next expansion_next members_at names_at fill_at trim_at case_at replace_at is_transform transform_at slice_at delimiter_from delimiter_at delimiter_for body_from body_at behind_quotes ahead place_of place_behind stretch_run outcome marks equals_at bodies_at tick_run ticks_at run_step assign_at indexed_next holds bash next_piece nodes_in nodes_from expr_notes literal_text operand_name member_name simple_notes notes_of is_associative notes refusals builtins refused_builtins standard_words bash_words other_commands special_names special_prefixes written_text brace_words digits_of deep pieces
arrays8_are = refl

abbrev arrays9 : List Row
arrays9 =
    (codes "declare -A m; declare -a m", no 37 25) ∷ []

arrays9_are : map (λ r. first r.0) arrays9 ≡ map (λ r. Some r.1) arrays9
unfolding number_of sign_of longer is_gap reduce parse read vals vals_twice begins_name continues_name clear comment_end gap is_special_param is_meta is_ended is_quote is_active is_plain is_escaped_in is_escaped opens_glob opens_process expands is_literal literal_run literal_in begins_unit unit_starts unit_starts_in name_run digit_run idle quoted_run letter ansi_from code semi_at and_at pipe_at here_at less_at great_at front token is_token key_text is_key is_word_of compound_words command_words other_words declaring_words unary_tests binary_tests here_next copy_next both_next redirect_next plain_next simple_next compound_next command_next pipeline_next sum_command_next parens_next name_at tilde_at tilde_next short_param_at special_at behind_two dollar_name dollar_short brace_name length_name pointed_name brace_special brace_next dollar_sum sum_next subst_next old_next ansi_next locale_next expansion_next members_at names_at fill_at trim_at case_at replace_at is_transform transform_at slice_at delimiter_from delimiter_at delimiter_for body_from body_at behind_quotes ahead place_of place_behind stretch_run outcome marks equals_at bodies_at tick_run ticks_at run_step assign_at indexed_next holds bash next_piece nodes_in nodes_from expr_notes literal_text operand_name member_name simple_notes notes_of is_associative notes refusals builtins refused_builtins standard_words bash_words other_commands special_names special_prefixes written_text brace_words digits_of deep pieces
arrays9_are = refl

abbrev arrays10 : List Row
arrays10 =
    (codes "a[1+]=b", no 38 4) ∷ []

arrays10_are : map (λ r. first r.0) arrays10 ≡ map (λ r. Some r.1) arrays10
unfolding number_of sign_of longer is_gap reduce parse read vals vals_twice begins_name continues_name clear comment_end gap is_special_param is_meta is_ended is_quote is_active is_plain is_escaped_in is_escaped opens_glob opens_process expands is_literal literal_run literal_in begins_unit unit_starts unit_starts_in name_run digit_run idle quoted_run letter ansi_from code semi_at and_at pipe_at here_at less_at great_at front token is_token key_text is_key is_word_of compound_words command_words other_words declaring_words unary_tests binary_tests here_next copy_next both_next redirect_next plain_next simple_next compound_next command_next pipeline_next sum_command_next parens_next name_at tilde_at tilde_next short_param_at special_at behind_two dollar_name dollar_short brace_name length_name pointed_name brace_special brace_next dollar_sum sum_next subst_next old_next ansi_next locale_next expansion_next members_at names_at fill_at trim_at case_at replace_at is_transform transform_at slice_at delimiter_from delimiter_at delimiter_for body_from body_at behind_quotes ahead place_of place_behind stretch_run outcome marks equals_at bodies_at tick_run ticks_at run_step assign_at indexed_next holds bash next_piece nodes_in nodes_from expr_notes literal_text operand_name member_name simple_notes notes_of is_associative notes refusals builtins refused_builtins standard_words bash_words other_commands special_names special_prefixes written_text brace_words digits_of deep pieces
arrays10_are = refl

abbrev arrays11 : List Row
arrays11 =
    (codes "a[$(b)]=$(c)", no 39 2) ∷ []

arrays11_are : map (λ r. first r.0) arrays11 ≡ map (λ r. Some r.1) arrays11
unfolding number_of sign_of longer is_gap reduce parse read vals vals_twice begins_name continues_name clear comment_end gap is_special_param is_meta is_ended is_quote is_active is_plain is_escaped_in is_escaped opens_glob opens_process expands is_literal literal_run literal_in begins_unit unit_starts unit_starts_in name_run digit_run idle quoted_run letter ansi_from code semi_at and_at pipe_at here_at less_at great_at front token is_token key_text is_key is_word_of compound_words command_words other_words declaring_words unary_tests binary_tests here_next copy_next both_next redirect_next plain_next simple_next compound_next command_next pipeline_next sum_command_next parens_next name_at tilde_at tilde_next short_param_at special_at behind_two dollar_name dollar_short brace_name length_name pointed_name brace_special brace_next dollar_sum sum_next subst_next old_next ansi_next locale_next expansion_next members_at names_at fill_at trim_at case_at replace_at is_transform transform_at slice_at delimiter_from delimiter_at delimiter_for body_from body_at behind_quotes ahead place_of place_behind stretch_run outcome marks equals_at bodies_at tick_run ticks_at run_step assign_at indexed_next holds bash next_piece nodes_in nodes_from expr_notes literal_text operand_name member_name simple_notes notes_of is_associative notes refusals builtins refused_builtins standard_words bash_words other_commands special_names special_prefixes written_text brace_words digits_of deep pieces
arrays11_are = refl

abbrev arrays12 : List Row
arrays12 =
    (codes "a[$(b)]=c", none) ∷ []

arrays12_are : map (λ r. first r.0) arrays12 ≡ map (λ r. Some r.1) arrays12
unfolding number_of sign_of longer is_gap reduce parse read vals vals_twice begins_name continues_name clear comment_end gap is_special_param is_meta is_ended is_quote is_active is_plain is_escaped_in is_escaped opens_glob opens_process expands is_literal literal_run literal_in begins_unit unit_starts unit_starts_in name_run digit_run idle quoted_run letter ansi_from code semi_at and_at pipe_at here_at less_at great_at front token is_token key_text is_key is_word_of compound_words command_words other_words declaring_words unary_tests binary_tests here_next copy_next both_next redirect_next plain_next simple_next compound_next command_next pipeline_next sum_command_next parens_next name_at tilde_at tilde_next short_param_at special_at behind_two dollar_name dollar_short brace_name length_name pointed_name brace_special brace_next dollar_sum sum_next subst_next old_next ansi_next locale_next expansion_next members_at names_at fill_at trim_at case_at replace_at is_transform transform_at slice_at delimiter_from delimiter_at delimiter_for body_from body_at behind_quotes ahead place_of place_behind stretch_run outcome marks equals_at bodies_at tick_run ticks_at run_step assign_at indexed_next holds bash next_piece nodes_in nodes_from expr_notes literal_text operand_name member_name simple_notes notes_of is_associative notes refusals builtins refused_builtins standard_words bash_words other_commands special_names special_prefixes written_text brace_words digits_of deep pieces
arrays12_are = refl

abbrev arrays13 : List Row
arrays13 =
    (codes "a[1]=(x y)", no 40 0) ∷ []

arrays13_are : map (λ r. first r.0) arrays13 ≡ map (λ r. Some r.1) arrays13
unfolding number_of sign_of longer is_gap reduce parse read vals vals_twice begins_name continues_name clear comment_end gap is_special_param is_meta is_ended is_quote is_active is_plain is_escaped_in is_escaped opens_glob opens_process expands is_literal literal_run literal_in begins_unit unit_starts unit_starts_in name_run digit_run idle quoted_run letter ansi_from code semi_at and_at pipe_at here_at less_at great_at front token is_token key_text is_key is_word_of compound_words command_words other_words declaring_words unary_tests binary_tests here_next copy_next both_next redirect_next plain_next simple_next compound_next command_next pipeline_next sum_command_next parens_next name_at tilde_at tilde_next short_param_at special_at behind_two dollar_name dollar_short brace_name length_name pointed_name brace_special brace_next dollar_sum sum_next subst_next old_next ansi_next locale_next expansion_next members_at names_at fill_at trim_at case_at replace_at is_transform transform_at slice_at delimiter_from delimiter_at delimiter_for body_from body_at behind_quotes ahead place_of place_behind stretch_run outcome marks equals_at bodies_at tick_run ticks_at run_step assign_at indexed_next holds bash next_piece nodes_in nodes_from expr_notes literal_text operand_name member_name simple_notes notes_of is_associative notes refusals builtins refused_builtins standard_words bash_words other_commands special_names special_prefixes written_text brace_words digits_of deep pieces
arrays13_are = refl

abbrev arrays14 : List Row
arrays14 =
    (codes "declare -A m=(a)", no 40 14) ∷ []

arrays14_are : map (λ r. first r.0) arrays14 ≡ map (λ r. Some r.1) arrays14
unfolding number_of sign_of longer is_gap reduce parse read vals vals_twice begins_name continues_name clear comment_end gap is_special_param is_meta is_ended is_quote is_active is_plain is_escaped_in is_escaped opens_glob opens_process expands is_literal literal_run literal_in begins_unit unit_starts unit_starts_in name_run digit_run idle quoted_run letter ansi_from code semi_at and_at pipe_at here_at less_at great_at front token is_token key_text is_key is_word_of compound_words command_words other_words declaring_words unary_tests binary_tests here_next copy_next both_next redirect_next plain_next simple_next compound_next command_next pipeline_next sum_command_next parens_next name_at tilde_at tilde_next short_param_at special_at behind_two dollar_name dollar_short brace_name length_name pointed_name brace_special brace_next dollar_sum sum_next subst_next old_next ansi_next locale_next expansion_next members_at names_at fill_at trim_at case_at replace_at is_transform transform_at slice_at delimiter_from delimiter_at delimiter_for body_from body_at behind_quotes ahead place_of place_behind stretch_run outcome marks equals_at bodies_at tick_run ticks_at run_step assign_at indexed_next holds bash next_piece nodes_in nodes_from expr_notes literal_text operand_name member_name simple_notes notes_of is_associative notes refusals builtins refused_builtins standard_words bash_words other_commands special_names special_prefixes written_text brace_words digits_of deep pieces
arrays14_are = refl

abbrev arrays15 : List Row
arrays15 =
    (codes "a=([1]={b,c})", no 40 7) ∷ []

arrays15_are : map (λ r. first r.0) arrays15 ≡ map (λ r. Some r.1) arrays15
unfolding number_of sign_of longer is_gap reduce parse read vals vals_twice begins_name continues_name clear comment_end gap is_special_param is_meta is_ended is_quote is_active is_plain is_escaped_in is_escaped opens_glob opens_process expands is_literal literal_run literal_in begins_unit unit_starts unit_starts_in name_run digit_run idle quoted_run letter ansi_from code semi_at and_at pipe_at here_at less_at great_at front token is_token key_text is_key is_word_of compound_words command_words other_words declaring_words unary_tests binary_tests here_next copy_next both_next redirect_next plain_next simple_next compound_next command_next pipeline_next sum_command_next parens_next name_at tilde_at tilde_next short_param_at special_at behind_two dollar_name dollar_short brace_name length_name pointed_name brace_special brace_next dollar_sum sum_next subst_next old_next ansi_next locale_next expansion_next members_at names_at fill_at trim_at case_at replace_at is_transform transform_at slice_at delimiter_from delimiter_at delimiter_for body_from body_at behind_quotes ahead place_of place_behind stretch_run outcome marks equals_at bodies_at tick_run ticks_at run_step assign_at indexed_next holds bash next_piece nodes_in nodes_from expr_notes literal_text operand_name member_name simple_notes notes_of is_associative notes refusals builtins refused_builtins standard_words bash_words other_commands special_names special_prefixes written_text brace_words digits_of deep pieces
arrays15_are = refl

abbrev arrays16 : List Row
arrays16 =
    (codes "a=([1]+=b)", no 40 3) ∷ []

arrays16_are : map (λ r. first r.0) arrays16 ≡ map (λ r. Some r.1) arrays16
unfolding number_of sign_of longer is_gap reduce parse read vals vals_twice begins_name continues_name clear comment_end gap is_special_param is_meta is_ended is_quote is_active is_plain is_escaped_in is_escaped opens_glob opens_process expands is_literal literal_run literal_in begins_unit unit_starts unit_starts_in name_run digit_run idle quoted_run letter ansi_from code semi_at and_at pipe_at here_at less_at great_at front token is_token key_text is_key is_word_of compound_words command_words other_words declaring_words unary_tests binary_tests here_next copy_next both_next redirect_next plain_next simple_next compound_next command_next pipeline_next sum_command_next parens_next name_at tilde_at tilde_next short_param_at special_at behind_two dollar_name dollar_short brace_name length_name pointed_name brace_special brace_next dollar_sum sum_next subst_next old_next ansi_next locale_next expansion_next members_at names_at fill_at trim_at case_at replace_at is_transform transform_at slice_at delimiter_from delimiter_at delimiter_for body_from body_at behind_quotes ahead place_of place_behind stretch_run outcome marks equals_at bodies_at tick_run ticks_at run_step assign_at indexed_next holds bash next_piece nodes_in nodes_from expr_notes literal_text operand_name member_name simple_notes notes_of is_associative notes refusals builtins refused_builtins standard_words bash_words other_commands special_names special_prefixes written_text brace_words digits_of deep pieces
arrays16_are = refl

abbrev arrays17 : List Row
arrays17 =
    (codes "a=([1]=b c)", none) ∷ []

arrays17_are : map (λ r. first r.0) arrays17 ≡ map (λ r. Some r.1) arrays17
unfolding number_of sign_of longer is_gap reduce parse read vals vals_twice begins_name continues_name clear comment_end gap is_special_param is_meta is_ended is_quote is_active is_plain is_escaped_in is_escaped opens_glob opens_process expands is_literal literal_run literal_in begins_unit unit_starts unit_starts_in name_run digit_run idle quoted_run letter ansi_from code semi_at and_at pipe_at here_at less_at great_at front token is_token key_text is_key is_word_of compound_words command_words other_words declaring_words unary_tests binary_tests here_next copy_next both_next redirect_next plain_next simple_next compound_next command_next pipeline_next sum_command_next parens_next name_at tilde_at tilde_next short_param_at special_at behind_two dollar_name dollar_short brace_name length_name pointed_name brace_special brace_next dollar_sum sum_next subst_next old_next ansi_next locale_next expansion_next members_at names_at fill_at trim_at case_at replace_at is_transform transform_at slice_at delimiter_from delimiter_at delimiter_for body_from body_at behind_quotes ahead place_of place_behind stretch_run outcome marks equals_at bodies_at tick_run ticks_at run_step assign_at indexed_next holds bash next_piece nodes_in nodes_from expr_notes literal_text operand_name member_name simple_notes notes_of is_associative notes refusals builtins refused_builtins standard_words bash_words other_commands special_names special_prefixes written_text brace_words digits_of deep pieces
arrays17_are = refl

abbrev arrays18 : List Row
arrays18 =
    (codes "declare a=(${a[0]})", no 11 0) ∷ []

arrays18_are : map (λ r. first r.0) arrays18 ≡ map (λ r. Some r.1) arrays18
unfolding number_of sign_of longer is_gap reduce parse read vals vals_twice begins_name continues_name clear comment_end gap is_special_param is_meta is_ended is_quote is_active is_plain is_escaped_in is_escaped opens_glob opens_process expands is_literal literal_run literal_in begins_unit unit_starts unit_starts_in name_run digit_run idle quoted_run letter ansi_from code semi_at and_at pipe_at here_at less_at great_at front token is_token key_text is_key is_word_of compound_words command_words other_words declaring_words unary_tests binary_tests here_next copy_next both_next redirect_next plain_next simple_next compound_next command_next pipeline_next sum_command_next parens_next name_at tilde_at tilde_next short_param_at special_at behind_two dollar_name dollar_short brace_name length_name pointed_name brace_special brace_next dollar_sum sum_next subst_next old_next ansi_next locale_next expansion_next members_at names_at fill_at trim_at case_at replace_at is_transform transform_at slice_at delimiter_from delimiter_at delimiter_for body_from body_at behind_quotes ahead place_of place_behind stretch_run outcome marks equals_at bodies_at tick_run ticks_at run_step assign_at indexed_next holds bash next_piece nodes_in nodes_from expr_notes literal_text operand_name member_name simple_notes notes_of is_associative notes refusals builtins refused_builtins standard_words bash_words other_commands special_names special_prefixes written_text brace_words digits_of deep pieces
arrays18_are = refl

abbrev arrays19 : List Row
arrays19 =
    (codes "declare a=(${b[0]})", none) ∷ []

arrays19_are : map (λ r. first r.0) arrays19 ≡ map (λ r. Some r.1) arrays19
unfolding number_of sign_of longer is_gap reduce parse read vals vals_twice begins_name continues_name clear comment_end gap is_special_param is_meta is_ended is_quote is_active is_plain is_escaped_in is_escaped opens_glob opens_process expands is_literal literal_run literal_in begins_unit unit_starts unit_starts_in name_run digit_run idle quoted_run letter ansi_from code semi_at and_at pipe_at here_at less_at great_at front token is_token key_text is_key is_word_of compound_words command_words other_words declaring_words unary_tests binary_tests here_next copy_next both_next redirect_next plain_next simple_next compound_next command_next pipeline_next sum_command_next parens_next name_at tilde_at tilde_next short_param_at special_at behind_two dollar_name dollar_short brace_name length_name pointed_name brace_special brace_next dollar_sum sum_next subst_next old_next ansi_next locale_next expansion_next members_at names_at fill_at trim_at case_at replace_at is_transform transform_at slice_at delimiter_from delimiter_at delimiter_for body_from body_at behind_quotes ahead place_of place_behind stretch_run outcome marks equals_at bodies_at tick_run ticks_at run_step assign_at indexed_next holds bash next_piece nodes_in nodes_from expr_notes literal_text operand_name member_name simple_notes notes_of is_associative notes refusals builtins refused_builtins standard_words bash_words other_commands special_names special_prefixes written_text brace_words digits_of deep pieces
arrays19_are = refl

abbrev arrays20 : List Row
arrays20 =
    (codes "export x=$@", no 17 9) ∷ []

arrays20_are : map (λ r. first r.0) arrays20 ≡ map (λ r. Some r.1) arrays20
unfolding number_of sign_of longer is_gap reduce parse read vals vals_twice begins_name continues_name clear comment_end gap is_special_param is_meta is_ended is_quote is_active is_plain is_escaped_in is_escaped opens_glob opens_process expands is_literal literal_run literal_in begins_unit unit_starts unit_starts_in name_run digit_run idle quoted_run letter ansi_from code semi_at and_at pipe_at here_at less_at great_at front token is_token key_text is_key is_word_of compound_words command_words other_words declaring_words unary_tests binary_tests here_next copy_next both_next redirect_next plain_next simple_next compound_next command_next pipeline_next sum_command_next parens_next name_at tilde_at tilde_next short_param_at special_at behind_two dollar_name dollar_short brace_name length_name pointed_name brace_special brace_next dollar_sum sum_next subst_next old_next ansi_next locale_next expansion_next members_at names_at fill_at trim_at case_at replace_at is_transform transform_at slice_at delimiter_from delimiter_at delimiter_for body_from body_at behind_quotes ahead place_of place_behind stretch_run outcome marks equals_at bodies_at tick_run ticks_at run_step assign_at indexed_next holds bash next_piece nodes_in nodes_from expr_notes literal_text operand_name member_name simple_notes notes_of is_associative notes refusals builtins refused_builtins standard_words bash_words other_commands special_names special_prefixes written_text brace_words digits_of deep pieces
arrays20_are = refl
