-- Texts and their scripts, worked out by the table: operators, comments and joins.
use Rattle.std.specs.Prelude.{◌≡◌, List, [], ◌∷◌, map, Option, Some, None, refl, codes}
use Rattle.span_text.specs.Constant.{number_of}
use Rattle.span_text.specs.ExprTokens.{sign_of, longer, is_gap}
use Rattle.span_text.specs.Names.{begins_name, continues_name}
use Rattle.arith64.specs.Parsing.{reduce}
use Rattle.text_grammar.specs.Values.{vals}
use Rattle.text_grammar.specs.Reading.{parse, read}
use Rattle.text_grammar.specs.Later.{vals_twice}
use Rattle.bash_grammar.specs.Bytes.{Text, clear, comment_end, gap, is_special_param, is_meta, is_ended, is_quote, is_active, is_plain, is_escaped_in, is_escaped, opens_glob, opens_process, expands, is_literal, literal_run, literal_in, begins_unit, unit_starts, unit_starts_in, name_run, digit_run, idle}
use Rattle.bash_grammar.specs.Quotes.{quoted_run, letter, ansi_from}
use Rattle.bash_grammar.specs.Tokens.{◌>>=◌, code, semi_at, and_at, pipe_at, here_at, less_at, great_at, front, token, is_token, key_text, is_key, is_word_of, compound_words, command_words, other_words, declaring_words, unary_tests, binary_tests, here_next, copy_next, both_next, redirect_next, plain_next, simple_next, compound_next, command_next, pipeline_next, sum_command_next, parens_next, name_at, tilde_at, tilde_next}
use Rattle.bash_grammar.specs.Heads.{short_param_at, special_at, behind_two, dollar_name, dollar_short, brace_name, length_name, pointed_name, brace_special, brace_next, dollar_sum, sum_next, subst_next, old_next, ansi_next, locale_next, expansion_next, members_at, names_at, fill_at, trim_at, case_at, replace_at, is_transform, transform_at, slice_at}
use Rattle.bash_grammar.specs.Bodies.{delimiter_from, delimiter_at, delimiter_for, body_from, body_at}
use Rattle.bash_grammar.specs.State.{behind_quotes, ahead, place_of, place_behind, start_at}
use Rattle.bash_grammar.specs.Sums.{stretch_run, outcome, marks}
use Rattle.bash_grammar.specs.Nodes.{chains_in}
use Rattle.bash_grammar.specs.Steps.{equals_at, bodies_at, tick_run, ticks_at, run_step}
use Rattle.bash_grammar.specs.Tests.{assign_at, indexed_next, holds}
use Rattle.bash_grammar.specs.Spelling.{bash}
use Rattle.bash_grammar.specs.Pieces.{next_piece, nodes_in, nodes_from}
use Rattle.bash_grammar.specs.Shown.{script_text}

abbrev shown : Text → Option Text
shown text = nodes_from (start_at text) >>= λ ns. Some (script_text (chains_in ns))

-- a text, and its script written out, if it spells one
abbrev Row : Type 0
Row = Text × Option Text

-- (2, 3.2.3, 3.2.4, 3.2.5.2)
abbrev list_operators : List Row
list_operators =
    (codes "case x in a) b;;& c) d;& esac", Some (codes "case x in a) . b; ;;& c) . d; ;& esac;")) ∷
    (codes "a;;b", None) ∷
    (codes "a&&b", Some (codes ". a && . b;")) ∷
    (codes "a& &b", None) ∷
    (codes "a||b", Some (codes ". a || . b;")) ∷
    (codes "a| |b", None) ∷
    (codes "a|&b", Some (codes ". a |& . b;")) ∷
    (codes "a| &b", None) ∷
    (codes "(a)|(b)", Some (codes "( . a; ) | ( . b; );")) ∷
    (codes "(a)(b)", None) ∷
    (codes "!a", Some (codes ". !a;")) ∷
    (codes "! a", Some (codes "! . a;")) ∷
    (codes "a ! b", Some (codes ". a ! b;")) ∷
    (codes "{ a;}", Some (codes "{ . a; };")) ∷
    (codes "{a;}", None) ∷
    (codes "a }", Some (codes ". a };")) ∷
    (codes "a; }", None) ∷ []

list_operators_read : map (λ r. shown r.0) list_operators ≡ map (λ r. r.1) list_operators
unfolding number_of sign_of longer is_gap reduce parse read vals vals_twice begins_name continues_name clear comment_end gap is_special_param is_meta is_ended is_quote is_active is_plain is_escaped_in is_escaped opens_glob opens_process expands is_literal literal_run literal_in begins_unit unit_starts unit_starts_in name_run digit_run idle quoted_run letter ansi_from code semi_at and_at pipe_at here_at less_at great_at front token is_token key_text is_key is_word_of compound_words command_words other_words declaring_words unary_tests binary_tests here_next copy_next both_next redirect_next plain_next simple_next compound_next command_next pipeline_next sum_command_next parens_next name_at tilde_at tilde_next short_param_at special_at behind_two dollar_name dollar_short brace_name length_name pointed_name brace_special brace_next dollar_sum sum_next subst_next old_next ansi_next locale_next expansion_next members_at names_at fill_at trim_at case_at replace_at is_transform transform_at slice_at delimiter_from delimiter_at delimiter_for body_from body_at behind_quotes ahead place_of place_behind stretch_run outcome marks equals_at bodies_at tick_run ticks_at run_step assign_at indexed_next holds bash next_piece nodes_in nodes_from
list_operators_read = refl

-- (3.6)
abbrev redirect_operators : List Row
redirect_operators =
    (codes "a<b", Some (codes ". a <b;")) ∷
    (codes "a>b", Some (codes ". a >b;")) ∷
    (codes "a>>b", Some (codes ". a >>b;")) ∷
    (codes "a> >b", None) ∷
    (codes "a>|b", Some (codes ". a >b;")) ∷
    (codes "a> |b", None) ∷
    (codes "a<<<b", Some (codes ". a <<<b;")) ∷
    (codes "a<< <b", None) ∷
    (codes "a<&1", Some (codes ". a <&1;")) ∷
    (codes "a>&b", Some (codes ". a >&b;")) ∷
    (codes "a> &b", None) ∷
    (codes "a<>b", Some (codes ". a !readwrite 1-3!b;")) ∷
    (codes "a< >b", None) ∷
    (codes "a&>b", Some (codes ". a &>b;")) ∷
    (codes "a& >b", Some (codes ". a &1-2;. >b;")) ∷
    (codes "a&>>b", Some (codes ". a &>>b;")) ∷
    (codes "a&> >b", None) ∷
    (codes "a 1>b", Some (codes ". a 1>b;")) ∷
    (codes "a1>b", Some (codes ". a1 >b;")) ∷
    (codes "a 1 >b", Some (codes ". a 1 >b;")) ∷
    (codes "a 12>b", Some (codes ". a !descriptor 2-6!b;")) ∷
    (codes "a {b}<c", Some (codes ". a !descriptor 2-7!c;")) ∷
    (codes "a {1}>b", Some (codes ". a {1} >b;")) ∷
    (codes "<a", Some (codes ". <a;")) ∷
    (codes "&>a b", Some (codes ". b &>a;")) ∷
    (codes "a >", None) ∷ []

redirect_operators_read : map (λ r. shown r.0) redirect_operators ≡ map (λ r. r.1) redirect_operators
unfolding number_of sign_of longer is_gap reduce parse read vals vals_twice begins_name continues_name clear comment_end gap is_special_param is_meta is_ended is_quote is_active is_plain is_escaped_in is_escaped opens_glob opens_process expands is_literal literal_run literal_in begins_unit unit_starts unit_starts_in name_run digit_run idle quoted_run letter ansi_from code semi_at and_at pipe_at here_at less_at great_at front token is_token key_text is_key is_word_of compound_words command_words other_words declaring_words unary_tests binary_tests here_next copy_next both_next redirect_next plain_next simple_next compound_next command_next pipeline_next sum_command_next parens_next name_at tilde_at tilde_next short_param_at special_at behind_two dollar_name dollar_short brace_name length_name pointed_name brace_special brace_next dollar_sum sum_next subst_next old_next ansi_next locale_next expansion_next members_at names_at fill_at trim_at case_at replace_at is_transform transform_at slice_at delimiter_from delimiter_at delimiter_for body_from body_at behind_quotes ahead place_of place_behind stretch_run outcome marks equals_at bodies_at tick_run ticks_at run_step assign_at indexed_next holds bash next_piece nodes_in nodes_from
redirect_operators_read = refl

-- (3.1.2.1, 3.1.3)
abbrev comments_and_joins : List Row
comments_and_joins =
    (codes "a#", Some (codes ". a#;")) ∷
    (codes "a;#b", Some (codes ". a;")) ∷
    (codes "#a", Some (codes "")) ∷
    (codes "a \\\n#b", Some (codes ". a;")) ∷
    (codes "a\\\n#b", Some (codes ". a#b;")) ∷
    (codes "i\\\nf a; then b; fi", Some (codes "if . a; then . b; fi;")) ∷
    (codes "a &\\\n>b", Some (codes ". a &>b;")) ∷
    (codes "a 1\\\n>b", Some (codes ". a 1>b;")) ∷
    (codes "a # \\\nb", Some (codes ". a;. b;")) ∷
    (codes "\\", None) ∷
    (codes "a \\", None) ∷
    (codes "\"\\\n\"", Some (codes ". \"\";")) ∷
    (codes "'\\\n'", Some (codes ". '\\\n';")) ∷ []

comments_and_joins_read : map (λ r. shown r.0) comments_and_joins ≡ map (λ r. r.1) comments_and_joins
unfolding number_of sign_of longer is_gap reduce parse read vals vals_twice begins_name continues_name clear comment_end gap is_special_param is_meta is_ended is_quote is_active is_plain is_escaped_in is_escaped opens_glob opens_process expands is_literal literal_run literal_in begins_unit unit_starts unit_starts_in name_run digit_run idle quoted_run letter ansi_from code semi_at and_at pipe_at here_at less_at great_at front token is_token key_text is_key is_word_of compound_words command_words other_words declaring_words unary_tests binary_tests here_next copy_next both_next redirect_next plain_next simple_next compound_next command_next pipeline_next sum_command_next parens_next name_at tilde_at tilde_next short_param_at special_at behind_two dollar_name dollar_short brace_name length_name pointed_name brace_special brace_next dollar_sum sum_next subst_next old_next ansi_next locale_next expansion_next members_at names_at fill_at trim_at case_at replace_at is_transform transform_at slice_at delimiter_from delimiter_at delimiter_for body_from body_at behind_quotes ahead place_of place_behind stretch_run outcome marks equals_at bodies_at tick_run ticks_at run_step assign_at indexed_next holds bash next_piece nodes_in nodes_from
comments_and_joins_read = refl
