-- Texts with the first of what is refused of them, worked out: commands. Of each code there is a form that is refused, and its
-- nearest neighbour that is taken.
use Rattle.std.specs.Prelude.{◌≡◌, List, [], ◌∷◌, map, Some, refl, codes}
use Rattle.std.specs.Fmt.{digits as digits_of}
use Rattle.span_text.specs.Names.{begins_name, continues_name}
use Rattle.span_text.specs.KnownNames.{builtins, refused_builtins, standard_words, bash_words, other_commands, special_names, special_prefixes}
use Rattle.span_text.specs.Constant.{number_of}
use Rattle.span_text.specs.ExprTokens.{sign_of, longer, is_gap}
use Rattle.arith64.specs.Parsing.{reduce}
use Rattle.text_grammar.specs.Values.{vals}
use Rattle.text_grammar.specs.Reading.{parse, read}
use Rattle.text_grammar.specs.Later.{vals_twice}
use Rattle.bash_grammar.specs.Bytes.{clear, comment_end, gap, is_special_param, is_meta, is_ended, is_quote, is_active, is_plain, is_escaped_in, is_escaped, opens_glob, opens_process, expands, is_literal, literal_run, literal_in, begins_unit, unit_starts, unit_starts_in, name_run, digit_run, idle}
use Rattle.bash_grammar.specs.Quotes.{quoted_run, letter, ansi_from}
use Rattle.bash_grammar.specs.Tokens.{code, semi_at, and_at, pipe_at, here_at, less_at, great_at, front, token, is_token, key_text, is_key, is_word_of, compound_words, command_words, other_words, declaring_words, unary_tests, binary_tests, here_next, copy_next, both_next, redirect_next, plain_next, simple_next, compound_next, command_next, pipeline_next, sum_command_next, parens_next, name_at, tilde_at, tilde_next}
use Rattle.bash_grammar.specs.Heads.{short_param_at, special_at, behind_two, dollar_name, dollar_short, brace_name, length_name, pointed_name, brace_special, brace_next, dollar_sum, sum_next, subst_next, old_next, ansi_next, locale_next, expansion_next, members_at, names_at, fill_at, trim_at, case_at, replace_at, is_transform, transform_at, slice_at}
use Rattle.bash_grammar.specs.Bodies.{delimiter_from, delimiter_at, delimiter_for, body_from, body_at}
use Rattle.bash_grammar.specs.State.{behind_quotes, ahead, place_of, place_behind}
use Rattle.bash_grammar.specs.Sums.{stretch_run, outcome, marks}
use Rattle.bash_grammar.specs.Steps.{equals_at, bodies_at, tick_run, ticks_at, run_step}
use Rattle.bash_grammar.specs.Tests.{assign_at, indexed_next, holds}
use Rattle.bash_grammar.specs.Spelling.{bash}
use Rattle.bash_grammar.specs.Pieces.{next_piece, nodes_in, nodes_from}
use Rattle.fmt_print.specs.Pieces.{pieces}
use Rattle.bash_profile.specs.Literals.{literal_text, written_text, operand_name, member_name}
use Rattle.bash_profile.specs.Kinds.{expr_notes, simple_notes, notes_of, is_associative, notes}
use Rattle.bash_profile.specs.Braces.{brace_words}
use Rattle.bash_profile.specs.Effects.{deep}
use Rattle.bash_profile.specs.Worked.{first, none, no, Row}
use Rattle.bash_profile.specs.Refusals.{refusals}

abbrev operators1 : List Row
operators1 =
    (codes "show a &", no 4 7) ∷
    (codes "show a; show b", none) ∷
    (codes "show <(a)", no 5 5) ∷ []

operators1_are : map (λ r. first r.0) operators1 ≡ map (λ r. Some r.1) operators1
unfolding number_of sign_of longer is_gap reduce parse read vals vals_twice begins_name continues_name clear comment_end gap is_special_param is_meta is_ended is_quote is_active is_plain is_escaped_in is_escaped opens_glob opens_process expands is_literal literal_run literal_in begins_unit unit_starts unit_starts_in name_run digit_run idle quoted_run letter ansi_from code semi_at and_at pipe_at here_at less_at great_at front token is_token key_text is_key is_word_of compound_words command_words other_words declaring_words unary_tests binary_tests here_next copy_next both_next redirect_next plain_next simple_next compound_next command_next pipeline_next sum_command_next parens_next name_at tilde_at tilde_next short_param_at special_at behind_two dollar_name dollar_short brace_name length_name pointed_name brace_special brace_next dollar_sum sum_next subst_next old_next ansi_next locale_next expansion_next members_at names_at fill_at trim_at case_at replace_at is_transform transform_at slice_at delimiter_from delimiter_at delimiter_for body_from body_at behind_quotes ahead place_of place_behind stretch_run outcome marks equals_at bodies_at tick_run ticks_at run_step assign_at indexed_next holds bash next_piece nodes_in nodes_from expr_notes literal_text operand_name member_name simple_notes notes_of is_associative notes refusals builtins refused_builtins standard_words bash_words other_commands special_names special_prefixes written_text brace_words digits_of deep pieces
operators1_are = refl

abbrev operators2 : List Row
operators2 =
    (codes "show '<(a)'", none) ∷
    (codes "show @(a|b)", no 6 5) ∷
    (codes "show '@(a|b)'", none) ∷ []

operators2_are : map (λ r. first r.0) operators2 ≡ map (λ r. Some r.1) operators2
unfolding number_of sign_of longer is_gap reduce parse read vals vals_twice begins_name continues_name clear comment_end gap is_special_param is_meta is_ended is_quote is_active is_plain is_escaped_in is_escaped opens_glob opens_process expands is_literal literal_run literal_in begins_unit unit_starts unit_starts_in name_run digit_run idle quoted_run letter ansi_from code semi_at and_at pipe_at here_at less_at great_at front token is_token key_text is_key is_word_of compound_words command_words other_words declaring_words unary_tests binary_tests here_next copy_next both_next redirect_next plain_next simple_next compound_next command_next pipeline_next sum_command_next parens_next name_at tilde_at tilde_next short_param_at special_at behind_two dollar_name dollar_short brace_name length_name pointed_name brace_special brace_next dollar_sum sum_next subst_next old_next ansi_next locale_next expansion_next members_at names_at fill_at trim_at case_at replace_at is_transform transform_at slice_at delimiter_from delimiter_at delimiter_for body_from body_at behind_quotes ahead place_of place_behind stretch_run outcome marks equals_at bodies_at tick_run ticks_at run_step assign_at indexed_next holds bash next_piece nodes_in nodes_from expr_notes literal_text operand_name member_name simple_notes notes_of is_associative notes refusals builtins refused_builtins standard_words bash_words other_commands special_names special_prefixes written_text brace_words digits_of deep pieces
operators2_are = refl

abbrev operators3 : List Row
operators3 =
    (codes "[[ x =~ y ]]", no 7 5) ∷
    (codes "[[ x == y ]]", none) ∷
    (codes "time a", no 8 0) ∷ []

operators3_are : map (λ r. first r.0) operators3 ≡ map (λ r. Some r.1) operators3
unfolding number_of sign_of longer is_gap reduce parse read vals vals_twice begins_name continues_name clear comment_end gap is_special_param is_meta is_ended is_quote is_active is_plain is_escaped_in is_escaped opens_glob opens_process expands is_literal literal_run literal_in begins_unit unit_starts unit_starts_in name_run digit_run idle quoted_run letter ansi_from code semi_at and_at pipe_at here_at less_at great_at front token is_token key_text is_key is_word_of compound_words command_words other_words declaring_words unary_tests binary_tests here_next copy_next both_next redirect_next plain_next simple_next compound_next command_next pipeline_next sum_command_next parens_next name_at tilde_at tilde_next short_param_at special_at behind_two dollar_name dollar_short brace_name length_name pointed_name brace_special brace_next dollar_sum sum_next subst_next old_next ansi_next locale_next expansion_next members_at names_at fill_at trim_at case_at replace_at is_transform transform_at slice_at delimiter_from delimiter_at delimiter_for body_from body_at behind_quotes ahead place_of place_behind stretch_run outcome marks equals_at bodies_at tick_run ticks_at run_step assign_at indexed_next holds bash next_piece nodes_in nodes_from expr_notes literal_text operand_name member_name simple_notes notes_of is_associative notes refusals builtins refused_builtins standard_words bash_words other_commands special_names special_prefixes written_text brace_words digits_of deep pieces
operators3_are = refl

abbrev operators4 : List Row
operators4 =
    (codes "show time a", none) ∷ []

operators4_are : map (λ r. first r.0) operators4 ≡ map (λ r. Some r.1) operators4
unfolding number_of sign_of longer is_gap reduce parse read vals vals_twice begins_name continues_name clear comment_end gap is_special_param is_meta is_ended is_quote is_active is_plain is_escaped_in is_escaped opens_glob opens_process expands is_literal literal_run literal_in begins_unit unit_starts unit_starts_in name_run digit_run idle quoted_run letter ansi_from code semi_at and_at pipe_at here_at less_at great_at front token is_token key_text is_key is_word_of compound_words command_words other_words declaring_words unary_tests binary_tests here_next copy_next both_next redirect_next plain_next simple_next compound_next command_next pipeline_next sum_command_next parens_next name_at tilde_at tilde_next short_param_at special_at behind_two dollar_name dollar_short brace_name length_name pointed_name brace_special brace_next dollar_sum sum_next subst_next old_next ansi_next locale_next expansion_next members_at names_at fill_at trim_at case_at replace_at is_transform transform_at slice_at delimiter_from delimiter_at delimiter_for body_from body_at behind_quotes ahead place_of place_behind stretch_run outcome marks equals_at bodies_at tick_run ticks_at run_step assign_at indexed_next holds bash next_piece nodes_in nodes_from expr_notes literal_text operand_name member_name simple_notes notes_of is_associative notes refusals builtins refused_builtins standard_words bash_words other_commands special_names special_prefixes written_text brace_words digits_of deep pieces
operators4_are = refl

abbrev commands1 : List Row
commands1 =
    (codes "eval a", no 9 0) ∷
    (codes "'ev'al a", no 9 0) ∷
    (codes "show eval", none) ∷ []

commands1_are : map (λ r. first r.0) commands1 ≡ map (λ r. Some r.1) commands1
unfolding number_of sign_of longer is_gap reduce parse read vals vals_twice begins_name continues_name clear comment_end gap is_special_param is_meta is_ended is_quote is_active is_plain is_escaped_in is_escaped opens_glob opens_process expands is_literal literal_run literal_in begins_unit unit_starts unit_starts_in name_run digit_run idle quoted_run letter ansi_from code semi_at and_at pipe_at here_at less_at great_at front token is_token key_text is_key is_word_of compound_words command_words other_words declaring_words unary_tests binary_tests here_next copy_next both_next redirect_next plain_next simple_next compound_next command_next pipeline_next sum_command_next parens_next name_at tilde_at tilde_next short_param_at special_at behind_two dollar_name dollar_short brace_name length_name pointed_name brace_special brace_next dollar_sum sum_next subst_next old_next ansi_next locale_next expansion_next members_at names_at fill_at trim_at case_at replace_at is_transform transform_at slice_at delimiter_from delimiter_at delimiter_for body_from body_at behind_quotes ahead place_of place_behind stretch_run outcome marks equals_at bodies_at tick_run ticks_at run_step assign_at indexed_next holds bash next_piece nodes_in nodes_from expr_notes literal_text operand_name member_name simple_notes notes_of is_associative notes refusals builtins refused_builtins standard_words bash_words other_commands special_names special_prefixes written_text brace_words digits_of deep pieces
commands1_are = refl

abbrev commands2 : List Row
commands2 =
    (codes "print a", no 10 0) ∷
    (codes "show print", none) ∷
    (codes "x=1 done", no 10 4) ∷ []

commands2_are : map (λ r. first r.0) commands2 ≡ map (λ r. Some r.1) commands2
unfolding number_of sign_of longer is_gap reduce parse read vals vals_twice begins_name continues_name clear comment_end gap is_special_param is_meta is_ended is_quote is_active is_plain is_escaped_in is_escaped opens_glob opens_process expands is_literal literal_run literal_in begins_unit unit_starts unit_starts_in name_run digit_run idle quoted_run letter ansi_from code semi_at and_at pipe_at here_at less_at great_at front token is_token key_text is_key is_word_of compound_words command_words other_words declaring_words unary_tests binary_tests here_next copy_next both_next redirect_next plain_next simple_next compound_next command_next pipeline_next sum_command_next parens_next name_at tilde_at tilde_next short_param_at special_at behind_two dollar_name dollar_short brace_name length_name pointed_name brace_special brace_next dollar_sum sum_next subst_next old_next ansi_next locale_next expansion_next members_at names_at fill_at trim_at case_at replace_at is_transform transform_at slice_at delimiter_from delimiter_at delimiter_for body_from body_at behind_quotes ahead place_of place_behind stretch_run outcome marks equals_at bodies_at tick_run ticks_at run_step assign_at indexed_next holds bash next_piece nodes_in nodes_from expr_notes literal_text operand_name member_name simple_notes notes_of is_associative notes refusals builtins refused_builtins standard_words bash_words other_commands special_names special_prefixes written_text brace_words digits_of deep pieces
commands2_are = refl

abbrev commands3 : List Row
commands3 =
    (codes "$x a", none) ∷ []

commands3_are : map (λ r. first r.0) commands3 ≡ map (λ r. Some r.1) commands3
unfolding number_of sign_of longer is_gap reduce parse read vals vals_twice begins_name continues_name clear comment_end gap is_special_param is_meta is_ended is_quote is_active is_plain is_escaped_in is_escaped opens_glob opens_process expands is_literal literal_run literal_in begins_unit unit_starts unit_starts_in name_run digit_run idle quoted_run letter ansi_from code semi_at and_at pipe_at here_at less_at great_at front token is_token key_text is_key is_word_of compound_words command_words other_words declaring_words unary_tests binary_tests here_next copy_next both_next redirect_next plain_next simple_next compound_next command_next pipeline_next sum_command_next parens_next name_at tilde_at tilde_next short_param_at special_at behind_two dollar_name dollar_short brace_name length_name pointed_name brace_special brace_next dollar_sum sum_next subst_next old_next ansi_next locale_next expansion_next members_at names_at fill_at trim_at case_at replace_at is_transform transform_at slice_at delimiter_from delimiter_at delimiter_for body_from body_at behind_quotes ahead place_of place_behind stretch_run outcome marks equals_at bodies_at tick_run ticks_at run_step assign_at indexed_next holds bash next_piece nodes_in nodes_from expr_notes literal_text operand_name member_name simple_notes notes_of is_associative notes refusals builtins refused_builtins standard_words bash_words other_commands special_names special_prefixes written_text brace_words digits_of deep pieces
commands3_are = refl

abbrev forms1 : List Row
forms1 =
    (codes "break 0", no 11 0) ∷
    (codes "set -e", no 11 0) ∷
    (codes "set -- -e", none) ∷ []

forms1_are : map (λ r. first r.0) forms1 ≡ map (λ r. Some r.1) forms1
unfolding number_of sign_of longer is_gap reduce parse read vals vals_twice begins_name continues_name clear comment_end gap is_special_param is_meta is_ended is_quote is_active is_plain is_escaped_in is_escaped opens_glob opens_process expands is_literal literal_run literal_in begins_unit unit_starts unit_starts_in name_run digit_run idle quoted_run letter ansi_from code semi_at and_at pipe_at here_at less_at great_at front token is_token key_text is_key is_word_of compound_words command_words other_words declaring_words unary_tests binary_tests here_next copy_next both_next redirect_next plain_next simple_next compound_next command_next pipeline_next sum_command_next parens_next name_at tilde_at tilde_next short_param_at special_at behind_two dollar_name dollar_short brace_name length_name pointed_name brace_special brace_next dollar_sum sum_next subst_next old_next ansi_next locale_next expansion_next members_at names_at fill_at trim_at case_at replace_at is_transform transform_at slice_at delimiter_from delimiter_at delimiter_for body_from body_at behind_quotes ahead place_of place_behind stretch_run outcome marks equals_at bodies_at tick_run ticks_at run_step assign_at indexed_next holds bash next_piece nodes_in nodes_from expr_notes literal_text operand_name member_name simple_notes notes_of is_associative notes refusals builtins refused_builtins standard_words bash_words other_commands special_names special_prefixes written_text brace_words digits_of deep pieces
forms1_are = refl

abbrev forms2 : List Row
forms2 =
    (codes "read", no 11 0) ∷
    (codes "read -r a b", none) ∷
    (codes "return 1 2", no 11 0) ∷ []

forms2_are : map (λ r. first r.0) forms2 ≡ map (λ r. Some r.1) forms2
unfolding number_of sign_of longer is_gap reduce parse read vals vals_twice begins_name continues_name clear comment_end gap is_special_param is_meta is_ended is_quote is_active is_plain is_escaped_in is_escaped opens_glob opens_process expands is_literal literal_run literal_in begins_unit unit_starts unit_starts_in name_run digit_run idle quoted_run letter ansi_from code semi_at and_at pipe_at here_at less_at great_at front token is_token key_text is_key is_word_of compound_words command_words other_words declaring_words unary_tests binary_tests here_next copy_next both_next redirect_next plain_next simple_next compound_next command_next pipeline_next sum_command_next parens_next name_at tilde_at tilde_next short_param_at special_at behind_two dollar_name dollar_short brace_name length_name pointed_name brace_special brace_next dollar_sum sum_next subst_next old_next ansi_next locale_next expansion_next members_at names_at fill_at trim_at case_at replace_at is_transform transform_at slice_at delimiter_from delimiter_at delimiter_for body_from body_at behind_quotes ahead place_of place_behind stretch_run outcome marks equals_at bodies_at tick_run ticks_at run_step assign_at indexed_next holds bash next_piece nodes_in nodes_from expr_notes literal_text operand_name member_name simple_notes notes_of is_associative notes refusals builtins refused_builtins standard_words bash_words other_commands special_names special_prefixes written_text brace_words digits_of deep pieces
forms2_are = refl

abbrev forms3 : List Row
forms3 =
    (codes "exit 1", none) ∷
    (codes "f() { a; }; unset f", no 11 12) ∷
    (codes "f() { a; }; unset g", none) ∷ []

forms3_are : map (λ r. first r.0) forms3 ≡ map (λ r. Some r.1) forms3
unfolding number_of sign_of longer is_gap reduce parse read vals vals_twice begins_name continues_name clear comment_end gap is_special_param is_meta is_ended is_quote is_active is_plain is_escaped_in is_escaped opens_glob opens_process expands is_literal literal_run literal_in begins_unit unit_starts unit_starts_in name_run digit_run idle quoted_run letter ansi_from code semi_at and_at pipe_at here_at less_at great_at front token is_token key_text is_key is_word_of compound_words command_words other_words declaring_words unary_tests binary_tests here_next copy_next both_next redirect_next plain_next simple_next compound_next command_next pipeline_next sum_command_next parens_next name_at tilde_at tilde_next short_param_at special_at behind_two dollar_name dollar_short brace_name length_name pointed_name brace_special brace_next dollar_sum sum_next subst_next old_next ansi_next locale_next expansion_next members_at names_at fill_at trim_at case_at replace_at is_transform transform_at slice_at delimiter_from delimiter_at delimiter_for body_from body_at behind_quotes ahead place_of place_behind stretch_run outcome marks equals_at bodies_at tick_run ticks_at run_step assign_at indexed_next holds bash next_piece nodes_in nodes_from expr_notes literal_text operand_name member_name simple_notes notes_of is_associative notes refusals builtins refused_builtins standard_words bash_words other_commands special_names special_prefixes written_text brace_words digits_of deep pieces
forms3_are = refl

abbrev forms4 : List Row
forms4 =
    (codes "exec a > b", no 11 0) ∷
    (codes "exec a", none) ∷
    (codes "declare x+=1", no 11 0) ∷ []

forms4_are : map (λ r. first r.0) forms4 ≡ map (λ r. Some r.1) forms4
unfolding number_of sign_of longer is_gap reduce parse read vals vals_twice begins_name continues_name clear comment_end gap is_special_param is_meta is_ended is_quote is_active is_plain is_escaped_in is_escaped opens_glob opens_process expands is_literal literal_run literal_in begins_unit unit_starts unit_starts_in name_run digit_run idle quoted_run letter ansi_from code semi_at and_at pipe_at here_at less_at great_at front token is_token key_text is_key is_word_of compound_words command_words other_words declaring_words unary_tests binary_tests here_next copy_next both_next redirect_next plain_next simple_next compound_next command_next pipeline_next sum_command_next parens_next name_at tilde_at tilde_next short_param_at special_at behind_two dollar_name dollar_short brace_name length_name pointed_name brace_special brace_next dollar_sum sum_next subst_next old_next ansi_next locale_next expansion_next members_at names_at fill_at trim_at case_at replace_at is_transform transform_at slice_at delimiter_from delimiter_at delimiter_for body_from body_at behind_quotes ahead place_of place_behind stretch_run outcome marks equals_at bodies_at tick_run ticks_at run_step assign_at indexed_next holds bash next_piece nodes_in nodes_from expr_notes literal_text operand_name member_name simple_notes notes_of is_associative notes refusals builtins refused_builtins standard_words bash_words other_commands special_names special_prefixes written_text brace_words digits_of deep pieces
forms4_are = refl

abbrev forms5 : List Row
forms5 =
    (codes "declare x=1 y", none) ∷
    (codes "mapfile x", no 11 0) ∷
    (codes "mapfile -t x", none) ∷ []

forms5_are : map (λ r. first r.0) forms5 ≡ map (λ r. Some r.1) forms5
unfolding number_of sign_of longer is_gap reduce parse read vals vals_twice begins_name continues_name clear comment_end gap is_special_param is_meta is_ended is_quote is_active is_plain is_escaped_in is_escaped opens_glob opens_process expands is_literal literal_run literal_in begins_unit unit_starts unit_starts_in name_run digit_run idle quoted_run letter ansi_from code semi_at and_at pipe_at here_at less_at great_at front token is_token key_text is_key is_word_of compound_words command_words other_words declaring_words unary_tests binary_tests here_next copy_next both_next redirect_next plain_next simple_next compound_next command_next pipeline_next sum_command_next parens_next name_at tilde_at tilde_next short_param_at special_at behind_two dollar_name dollar_short brace_name length_name pointed_name brace_special brace_next dollar_sum sum_next subst_next old_next ansi_next locale_next expansion_next members_at names_at fill_at trim_at case_at replace_at is_transform transform_at slice_at delimiter_from delimiter_at delimiter_for body_from body_at behind_quotes ahead place_of place_behind stretch_run outcome marks equals_at bodies_at tick_run ticks_at run_step assign_at indexed_next holds bash next_piece nodes_in nodes_from expr_notes literal_text operand_name member_name simple_notes notes_of is_associative notes refusals builtins refused_builtins standard_words bash_words other_commands special_names special_prefixes written_text brace_words digits_of deep pieces
forms5_are = refl

abbrev forms6 : List Row
forms6 =
    (codes "export", no 11 0) ∷
    (codes "export x y=1", none) ∷ []

forms6_are : map (λ r. first r.0) forms6 ≡ map (λ r. Some r.1) forms6
unfolding number_of sign_of longer is_gap reduce parse read vals vals_twice begins_name continues_name clear comment_end gap is_special_param is_meta is_ended is_quote is_active is_plain is_escaped_in is_escaped opens_glob opens_process expands is_literal literal_run literal_in begins_unit unit_starts unit_starts_in name_run digit_run idle quoted_run letter ansi_from code semi_at and_at pipe_at here_at less_at great_at front token is_token key_text is_key is_word_of compound_words command_words other_words declaring_words unary_tests binary_tests here_next copy_next both_next redirect_next plain_next simple_next compound_next command_next pipeline_next sum_command_next parens_next name_at tilde_at tilde_next short_param_at special_at behind_two dollar_name dollar_short brace_name length_name pointed_name brace_special brace_next dollar_sum sum_next subst_next old_next ansi_next locale_next expansion_next members_at names_at fill_at trim_at case_at replace_at is_transform transform_at slice_at delimiter_from delimiter_at delimiter_for body_from body_at behind_quotes ahead place_of place_behind stretch_run outcome marks equals_at bodies_at tick_run ticks_at run_step assign_at indexed_next holds bash next_piece nodes_in nodes_from expr_notes literal_text operand_name member_name simple_notes notes_of is_associative notes refusals builtins refused_builtins standard_words bash_words other_commands special_names special_prefixes written_text brace_words digits_of deep pieces
forms6_are = refl

abbrev functions1 : List Row
functions1 =
    (codes "eval() { a; }", no 36 0) ∷ []

functions1_are : map (λ r. first r.0) functions1 ≡ map (λ r. Some r.1) functions1
unfolding number_of sign_of longer is_gap reduce parse read vals vals_twice begins_name continues_name clear comment_end gap is_special_param is_meta is_ended is_quote is_active is_plain is_escaped_in is_escaped opens_glob opens_process expands is_literal literal_run literal_in begins_unit unit_starts unit_starts_in name_run digit_run idle quoted_run letter ansi_from code semi_at and_at pipe_at here_at less_at great_at front token is_token key_text is_key is_word_of compound_words command_words other_words declaring_words unary_tests binary_tests here_next copy_next both_next redirect_next plain_next simple_next compound_next command_next pipeline_next sum_command_next parens_next name_at tilde_at tilde_next short_param_at special_at behind_two dollar_name dollar_short brace_name length_name pointed_name brace_special brace_next dollar_sum sum_next subst_next old_next ansi_next locale_next expansion_next members_at names_at fill_at trim_at case_at replace_at is_transform transform_at slice_at delimiter_from delimiter_at delimiter_for body_from body_at behind_quotes ahead place_of place_behind stretch_run outcome marks equals_at bodies_at tick_run ticks_at run_step assign_at indexed_next holds bash next_piece nodes_in nodes_from expr_notes literal_text operand_name member_name simple_notes notes_of is_associative notes refusals builtins refused_builtins standard_words bash_words other_commands special_names special_prefixes written_text brace_words digits_of deep pieces
functions1_are = refl

abbrev functions2 : List Row
functions2 =
    (codes "a-b() { c; }", no 36 0) ∷ []

functions2_are : map (λ r. first r.0) functions2 ≡ map (λ r. Some r.1) functions2
unfolding number_of sign_of longer is_gap reduce parse read vals vals_twice begins_name continues_name clear comment_end gap is_special_param is_meta is_ended is_quote is_active is_plain is_escaped_in is_escaped opens_glob opens_process expands is_literal literal_run literal_in begins_unit unit_starts unit_starts_in name_run digit_run idle quoted_run letter ansi_from code semi_at and_at pipe_at here_at less_at great_at front token is_token key_text is_key is_word_of compound_words command_words other_words declaring_words unary_tests binary_tests here_next copy_next both_next redirect_next plain_next simple_next compound_next command_next pipeline_next sum_command_next parens_next name_at tilde_at tilde_next short_param_at special_at behind_two dollar_name dollar_short brace_name length_name pointed_name brace_special brace_next dollar_sum sum_next subst_next old_next ansi_next locale_next expansion_next members_at names_at fill_at trim_at case_at replace_at is_transform transform_at slice_at delimiter_from delimiter_at delimiter_for body_from body_at behind_quotes ahead place_of place_behind stretch_run outcome marks equals_at bodies_at tick_run ticks_at run_step assign_at indexed_next holds bash next_piece nodes_in nodes_from expr_notes literal_text operand_name member_name simple_notes notes_of is_associative notes refusals builtins refused_builtins standard_words bash_words other_commands special_names special_prefixes written_text brace_words digits_of deep pieces
functions2_are = refl

abbrev functions3 : List Row
functions3 =
    (codes "ab() { c; }", none) ∷ []

functions3_are : map (λ r. first r.0) functions3 ≡ map (λ r. Some r.1) functions3
unfolding number_of sign_of longer is_gap reduce parse read vals vals_twice begins_name continues_name clear comment_end gap is_special_param is_meta is_ended is_quote is_active is_plain is_escaped_in is_escaped opens_glob opens_process expands is_literal literal_run literal_in begins_unit unit_starts unit_starts_in name_run digit_run idle quoted_run letter ansi_from code semi_at and_at pipe_at here_at less_at great_at front token is_token key_text is_key is_word_of compound_words command_words other_words declaring_words unary_tests binary_tests here_next copy_next both_next redirect_next plain_next simple_next compound_next command_next pipeline_next sum_command_next parens_next name_at tilde_at tilde_next short_param_at special_at behind_two dollar_name dollar_short brace_name length_name pointed_name brace_special brace_next dollar_sum sum_next subst_next old_next ansi_next locale_next expansion_next members_at names_at fill_at trim_at case_at replace_at is_transform transform_at slice_at delimiter_from delimiter_at delimiter_for body_from body_at behind_quotes ahead place_of place_behind stretch_run outcome marks equals_at bodies_at tick_run ticks_at run_step assign_at indexed_next holds bash next_piece nodes_in nodes_from expr_notes literal_text operand_name member_name simple_notes notes_of is_associative notes refusals builtins refused_builtins standard_words bash_words other_commands special_names special_prefixes written_text brace_words digits_of deep pieces
functions3_are = refl

abbrev functions4 : List Row
functions4 =
    (codes "show $((1+))", no 38 10) ∷ []

functions4_are : map (λ r. first r.0) functions4 ≡ map (λ r. Some r.1) functions4
unfolding number_of sign_of longer is_gap reduce parse read vals vals_twice begins_name continues_name clear comment_end gap is_special_param is_meta is_ended is_quote is_active is_plain is_escaped_in is_escaped opens_glob opens_process expands is_literal literal_run literal_in begins_unit unit_starts unit_starts_in name_run digit_run idle quoted_run letter ansi_from code semi_at and_at pipe_at here_at less_at great_at front token is_token key_text is_key is_word_of compound_words command_words other_words declaring_words unary_tests binary_tests here_next copy_next both_next redirect_next plain_next simple_next compound_next command_next pipeline_next sum_command_next parens_next name_at tilde_at tilde_next short_param_at special_at behind_two dollar_name dollar_short brace_name length_name pointed_name brace_special brace_next dollar_sum sum_next subst_next old_next ansi_next locale_next expansion_next members_at names_at fill_at trim_at case_at replace_at is_transform transform_at slice_at delimiter_from delimiter_at delimiter_for body_from body_at behind_quotes ahead place_of place_behind stretch_run outcome marks equals_at bodies_at tick_run ticks_at run_step assign_at indexed_next holds bash next_piece nodes_in nodes_from expr_notes literal_text operand_name member_name simple_notes notes_of is_associative notes refusals builtins refused_builtins standard_words bash_words other_commands special_names special_prefixes written_text brace_words digits_of deep pieces
functions4_are = refl

abbrev places1 : List Row
places1 =
    (codes "break", no 41 0) ∷
    (codes "while a; do break; done", none) ∷
    (codes "while a; do break 2; done", no 41 12) ∷ []

places1_are : map (λ r. first r.0) places1 ≡ map (λ r. Some r.1) places1
unfolding number_of sign_of longer is_gap reduce parse read vals vals_twice begins_name continues_name clear comment_end gap is_special_param is_meta is_ended is_quote is_active is_plain is_escaped_in is_escaped opens_glob opens_process expands is_literal literal_run literal_in begins_unit unit_starts unit_starts_in name_run digit_run idle quoted_run letter ansi_from code semi_at and_at pipe_at here_at less_at great_at front token is_token key_text is_key is_word_of compound_words command_words other_words declaring_words unary_tests binary_tests here_next copy_next both_next redirect_next plain_next simple_next compound_next command_next pipeline_next sum_command_next parens_next name_at tilde_at tilde_next short_param_at special_at behind_two dollar_name dollar_short brace_name length_name pointed_name brace_special brace_next dollar_sum sum_next subst_next old_next ansi_next locale_next expansion_next members_at names_at fill_at trim_at case_at replace_at is_transform transform_at slice_at delimiter_from delimiter_at delimiter_for body_from body_at behind_quotes ahead place_of place_behind stretch_run outcome marks equals_at bodies_at tick_run ticks_at run_step assign_at indexed_next holds bash next_piece nodes_in nodes_from expr_notes literal_text operand_name member_name simple_notes notes_of is_associative notes refusals builtins refused_builtins standard_words bash_words other_commands special_names special_prefixes written_text brace_words digits_of deep pieces
places1_are = refl

abbrev places2 : List Row
places2 =
    (codes "while a; do (break); done", no 41 13) ∷
    (codes "while break; do a; done", none) ∷
    (codes "f() { return; }", none) ∷ []

places2_are : map (λ r. first r.0) places2 ≡ map (λ r. Some r.1) places2
unfolding number_of sign_of longer is_gap reduce parse read vals vals_twice begins_name continues_name clear comment_end gap is_special_param is_meta is_ended is_quote is_active is_plain is_escaped_in is_escaped opens_glob opens_process expands is_literal literal_run literal_in begins_unit unit_starts unit_starts_in name_run digit_run idle quoted_run letter ansi_from code semi_at and_at pipe_at here_at less_at great_at front token is_token key_text is_key is_word_of compound_words command_words other_words declaring_words unary_tests binary_tests here_next copy_next both_next redirect_next plain_next simple_next compound_next command_next pipeline_next sum_command_next parens_next name_at tilde_at tilde_next short_param_at special_at behind_two dollar_name dollar_short brace_name length_name pointed_name brace_special brace_next dollar_sum sum_next subst_next old_next ansi_next locale_next expansion_next members_at names_at fill_at trim_at case_at replace_at is_transform transform_at slice_at delimiter_from delimiter_at delimiter_for body_from body_at behind_quotes ahead place_of place_behind stretch_run outcome marks equals_at bodies_at tick_run ticks_at run_step assign_at indexed_next holds bash next_piece nodes_in nodes_from expr_notes literal_text operand_name member_name simple_notes notes_of is_associative notes refusals builtins refused_builtins standard_words bash_words other_commands special_names special_prefixes written_text brace_words digits_of deep pieces
places2_are = refl

abbrev places3 : List Row
places3 =
    (codes "f() { (return); }", no 41 7) ∷
    (codes "return", no 41 0) ∷
    (codes "f() { a | local x; }", none) ∷ []

places3_are : map (λ r. first r.0) places3 ≡ map (λ r. Some r.1) places3
unfolding number_of sign_of longer is_gap reduce parse read vals vals_twice begins_name continues_name clear comment_end gap is_special_param is_meta is_ended is_quote is_active is_plain is_escaped_in is_escaped opens_glob opens_process expands is_literal literal_run literal_in begins_unit unit_starts unit_starts_in name_run digit_run idle quoted_run letter ansi_from code semi_at and_at pipe_at here_at less_at great_at front token is_token key_text is_key is_word_of compound_words command_words other_words declaring_words unary_tests binary_tests here_next copy_next both_next redirect_next plain_next simple_next compound_next command_next pipeline_next sum_command_next parens_next name_at tilde_at tilde_next short_param_at special_at behind_two dollar_name dollar_short brace_name length_name pointed_name brace_special brace_next dollar_sum sum_next subst_next old_next ansi_next locale_next expansion_next members_at names_at fill_at trim_at case_at replace_at is_transform transform_at slice_at delimiter_from delimiter_at delimiter_for body_from body_at behind_quotes ahead place_of place_behind stretch_run outcome marks equals_at bodies_at tick_run ticks_at run_step assign_at indexed_next holds bash next_piece nodes_in nodes_from expr_notes literal_text operand_name member_name simple_notes notes_of is_associative notes refusals builtins refused_builtins standard_words bash_words other_commands special_names special_prefixes written_text brace_words digits_of deep pieces
places3_are = refl

abbrev places4 : List Row
places4 =
    (codes "local x", no 41 0) ∷ []

places4_are : map (λ r. first r.0) places4 ≡ map (λ r. Some r.1) places4
unfolding number_of sign_of longer is_gap reduce parse read vals vals_twice begins_name continues_name clear comment_end gap is_special_param is_meta is_ended is_quote is_active is_plain is_escaped_in is_escaped opens_glob opens_process expands is_literal literal_run literal_in begins_unit unit_starts unit_starts_in name_run digit_run idle quoted_run letter ansi_from code semi_at and_at pipe_at here_at less_at great_at front token is_token key_text is_key is_word_of compound_words command_words other_words declaring_words unary_tests binary_tests here_next copy_next both_next redirect_next plain_next simple_next compound_next command_next pipeline_next sum_command_next parens_next name_at tilde_at tilde_next short_param_at special_at behind_two dollar_name dollar_short brace_name length_name pointed_name brace_special brace_next dollar_sum sum_next subst_next old_next ansi_next locale_next expansion_next members_at names_at fill_at trim_at case_at replace_at is_transform transform_at slice_at delimiter_from delimiter_at delimiter_for body_from body_at behind_quotes ahead place_of place_behind stretch_run outcome marks equals_at bodies_at tick_run ticks_at run_step assign_at indexed_next holds bash next_piece nodes_in nodes_from expr_notes literal_text operand_name member_name simple_notes notes_of is_associative notes refusals builtins refused_builtins standard_words bash_words other_commands special_names special_prefixes written_text brace_words digits_of deep pieces
places4_are = refl

abbrev words1 : List Row
words1 =
    (codes "printf \"$f\" a", no 42 7) ∷
    (codes "printf '%s' a", none) ∷ []

words1_are : map (λ r. first r.0) words1 ≡ map (λ r. Some r.1) words1
unfolding number_of sign_of longer is_gap reduce parse read vals vals_twice begins_name continues_name clear comment_end gap is_special_param is_meta is_ended is_quote is_active is_plain is_escaped_in is_escaped opens_glob opens_process expands is_literal literal_run literal_in begins_unit unit_starts unit_starts_in name_run digit_run idle quoted_run letter ansi_from code semi_at and_at pipe_at here_at less_at great_at front token is_token key_text is_key is_word_of compound_words command_words other_words declaring_words unary_tests binary_tests here_next copy_next both_next redirect_next plain_next simple_next compound_next command_next pipeline_next sum_command_next parens_next name_at tilde_at tilde_next short_param_at special_at behind_two dollar_name dollar_short brace_name length_name pointed_name brace_special brace_next dollar_sum sum_next subst_next old_next ansi_next locale_next expansion_next members_at names_at fill_at trim_at case_at replace_at is_transform transform_at slice_at delimiter_from delimiter_at delimiter_for body_from body_at behind_quotes ahead place_of place_behind stretch_run outcome marks equals_at bodies_at tick_run ticks_at run_step assign_at indexed_next holds bash next_piece nodes_in nodes_from expr_notes literal_text operand_name member_name simple_notes notes_of is_associative notes refusals builtins refused_builtins standard_words bash_words other_commands special_names special_prefixes written_text brace_words digits_of deep pieces
words1_are = refl

abbrev words2 : List Row
words2 =
    (codes "printf '%q' a", no 42 7) ∷
    (codes "printf -- a", none) ∷ []

words2_are : map (λ r. first r.0) words2 ≡ map (λ r. Some r.1) words2
unfolding number_of sign_of longer is_gap reduce parse read vals vals_twice begins_name continues_name clear comment_end gap is_special_param is_meta is_ended is_quote is_active is_plain is_escaped_in is_escaped opens_glob opens_process expands is_literal literal_run literal_in begins_unit unit_starts unit_starts_in name_run digit_run idle quoted_run letter ansi_from code semi_at and_at pipe_at here_at less_at great_at front token is_token key_text is_key is_word_of compound_words command_words other_words declaring_words unary_tests binary_tests here_next copy_next both_next redirect_next plain_next simple_next compound_next command_next pipeline_next sum_command_next parens_next name_at tilde_at tilde_next short_param_at special_at behind_two dollar_name dollar_short brace_name length_name pointed_name brace_special brace_next dollar_sum sum_next subst_next old_next ansi_next locale_next expansion_next members_at names_at fill_at trim_at case_at replace_at is_transform transform_at slice_at delimiter_from delimiter_at delimiter_for body_from body_at behind_quotes ahead place_of place_behind stretch_run outcome marks equals_at bodies_at tick_run ticks_at run_step assign_at indexed_next holds bash next_piece nodes_in nodes_from expr_notes literal_text operand_name member_name simple_notes notes_of is_associative notes refusals builtins refused_builtins standard_words bash_words other_commands special_names special_prefixes written_text brace_words digits_of deep pieces
words2_are = refl

abbrev words3 : List Row
words3 =
    (codes "printf -v x -- f", no 42 12) ∷
    (codes "[[ -v x ]]", no 43 3) ∷ []

words3_are : map (λ r. first r.0) words3 ≡ map (λ r. Some r.1) words3
unfolding number_of sign_of longer is_gap reduce parse read vals vals_twice begins_name continues_name clear comment_end gap is_special_param is_meta is_ended is_quote is_active is_plain is_escaped_in is_escaped opens_glob opens_process expands is_literal literal_run literal_in begins_unit unit_starts unit_starts_in name_run digit_run idle quoted_run letter ansi_from code semi_at and_at pipe_at here_at less_at great_at front token is_token key_text is_key is_word_of compound_words command_words other_words declaring_words unary_tests binary_tests here_next copy_next both_next redirect_next plain_next simple_next compound_next command_next pipeline_next sum_command_next parens_next name_at tilde_at tilde_next short_param_at special_at behind_two dollar_name dollar_short brace_name length_name pointed_name brace_special brace_next dollar_sum sum_next subst_next old_next ansi_next locale_next expansion_next members_at names_at fill_at trim_at case_at replace_at is_transform transform_at slice_at delimiter_from delimiter_at delimiter_for body_from body_at behind_quotes ahead place_of place_behind stretch_run outcome marks equals_at bodies_at tick_run ticks_at run_step assign_at indexed_next holds bash next_piece nodes_in nodes_from expr_notes literal_text operand_name member_name simple_notes notes_of is_associative notes refusals builtins refused_builtins standard_words bash_words other_commands special_names special_prefixes written_text brace_words digits_of deep pieces
words3_are = refl

abbrev words4 : List Row
words4 =
    (codes "[[ -n x ]]", none) ∷
    (codes "[[ a -nt b ]]", no 43 5) ∷ []

words4_are : map (λ r. first r.0) words4 ≡ map (λ r. Some r.1) words4
unfolding number_of sign_of longer is_gap reduce parse read vals vals_twice begins_name continues_name clear comment_end gap is_special_param is_meta is_ended is_quote is_active is_plain is_escaped_in is_escaped opens_glob opens_process expands is_literal literal_run literal_in begins_unit unit_starts unit_starts_in name_run digit_run idle quoted_run letter ansi_from code semi_at and_at pipe_at here_at less_at great_at front token is_token key_text is_key is_word_of compound_words command_words other_words declaring_words unary_tests binary_tests here_next copy_next both_next redirect_next plain_next simple_next compound_next command_next pipeline_next sum_command_next parens_next name_at tilde_at tilde_next short_param_at special_at behind_two dollar_name dollar_short brace_name length_name pointed_name brace_special brace_next dollar_sum sum_next subst_next old_next ansi_next locale_next expansion_next members_at names_at fill_at trim_at case_at replace_at is_transform transform_at slice_at delimiter_from delimiter_at delimiter_for body_from body_at behind_quotes ahead place_of place_behind stretch_run outcome marks equals_at bodies_at tick_run ticks_at run_step assign_at indexed_next holds bash next_piece nodes_in nodes_from expr_notes literal_text operand_name member_name simple_notes notes_of is_associative notes refusals builtins refused_builtins standard_words bash_words other_commands special_names special_prefixes written_text brace_words digits_of deep pieces
words4_are = refl

abbrev words5 : List Row
words5 =
    (codes "test a -nt b", no 43 7) ∷
    (codes "[ a -eq b ]", none) ∷ []

words5_are : map (λ r. first r.0) words5 ≡ map (λ r. Some r.1) words5
unfolding number_of sign_of longer is_gap reduce parse read vals vals_twice begins_name continues_name clear comment_end gap is_special_param is_meta is_ended is_quote is_active is_plain is_escaped_in is_escaped opens_glob opens_process expands is_literal literal_run literal_in begins_unit unit_starts unit_starts_in name_run digit_run idle quoted_run letter ansi_from code semi_at and_at pipe_at here_at less_at great_at front token is_token key_text is_key is_word_of compound_words command_words other_words declaring_words unary_tests binary_tests here_next copy_next both_next redirect_next plain_next simple_next compound_next command_next pipeline_next sum_command_next parens_next name_at tilde_at tilde_next short_param_at special_at behind_two dollar_name dollar_short brace_name length_name pointed_name brace_special brace_next dollar_sum sum_next subst_next old_next ansi_next locale_next expansion_next members_at names_at fill_at trim_at case_at replace_at is_transform transform_at slice_at delimiter_from delimiter_at delimiter_for body_from body_at behind_quotes ahead place_of place_behind stretch_run outcome marks equals_at bodies_at tick_run ticks_at run_step assign_at indexed_next holds bash next_piece nodes_in nodes_from expr_notes literal_text operand_name member_name simple_notes notes_of is_associative notes refusals builtins refused_builtins standard_words bash_words other_commands special_names special_prefixes written_text brace_words digits_of deep pieces
words5_are = refl

abbrev several1 : List Row
several1 =
    (codes "cat <<E && eval a\n$$\nE", no 9 11) ∷
    (codes "show $(eval a; b &)", no 9 7) ∷ []

several1_are : map (λ r. first r.0) several1 ≡ map (λ r. Some r.1) several1
unfolding number_of sign_of longer is_gap reduce parse read vals vals_twice begins_name continues_name clear comment_end gap is_special_param is_meta is_ended is_quote is_active is_plain is_escaped_in is_escaped opens_glob opens_process expands is_literal literal_run literal_in begins_unit unit_starts unit_starts_in name_run digit_run idle quoted_run letter ansi_from code semi_at and_at pipe_at here_at less_at great_at front token is_token key_text is_key is_word_of compound_words command_words other_words declaring_words unary_tests binary_tests here_next copy_next both_next redirect_next plain_next simple_next compound_next command_next pipeline_next sum_command_next parens_next name_at tilde_at tilde_next short_param_at special_at behind_two dollar_name dollar_short brace_name length_name pointed_name brace_special brace_next dollar_sum sum_next subst_next old_next ansi_next locale_next expansion_next members_at names_at fill_at trim_at case_at replace_at is_transform transform_at slice_at delimiter_from delimiter_at delimiter_for body_from body_at behind_quotes ahead place_of place_behind stretch_run outcome marks equals_at bodies_at tick_run ticks_at run_step assign_at indexed_next holds bash next_piece nodes_in nodes_from expr_notes literal_text operand_name member_name simple_notes notes_of is_associative notes refusals builtins refused_builtins standard_words bash_words other_commands special_names special_prefixes written_text brace_words digits_of deep pieces
several1_are = refl

abbrev several2 : List Row
several2 =
    (codes "f() { eval a; }", no 9 6) ∷
    (codes "show a & eval b", no 4 7) ∷ []

several2_are : map (λ r. first r.0) several2 ≡ map (λ r. Some r.1) several2
unfolding number_of sign_of longer is_gap reduce parse read vals vals_twice begins_name continues_name clear comment_end gap is_special_param is_meta is_ended is_quote is_active is_plain is_escaped_in is_escaped opens_glob opens_process expands is_literal literal_run literal_in begins_unit unit_starts unit_starts_in name_run digit_run idle quoted_run letter ansi_from code semi_at and_at pipe_at here_at less_at great_at front token is_token key_text is_key is_word_of compound_words command_words other_words declaring_words unary_tests binary_tests here_next copy_next both_next redirect_next plain_next simple_next compound_next command_next pipeline_next sum_command_next parens_next name_at tilde_at tilde_next short_param_at special_at behind_two dollar_name dollar_short brace_name length_name pointed_name brace_special brace_next dollar_sum sum_next subst_next old_next ansi_next locale_next expansion_next members_at names_at fill_at trim_at case_at replace_at is_transform transform_at slice_at delimiter_from delimiter_at delimiter_for body_from body_at behind_quotes ahead place_of place_behind stretch_run outcome marks equals_at bodies_at tick_run ticks_at run_step assign_at indexed_next holds bash next_piece nodes_in nodes_from expr_notes literal_text operand_name member_name simple_notes notes_of is_associative notes refusals builtins refused_builtins standard_words bash_words other_commands special_names special_prefixes written_text brace_words digits_of deep pieces
several2_are = refl
