-- Texts and their scripts, worked out by the table: compound commands and functions.
use Rattle.std.specs.Prelude.{◌≡◌, List, [], ◌∷◌, map, Option, Some, None, refl, codes}
use Rattle.span_text.specs.Constant.{number_of}
use Rattle.span_text.specs.ExprTokens.{sign_of, longer, is_gap}
use Rattle.span_text.specs.Names.{begins_name, continues_name}
use Rattle.arith64.specs.Parsing.{reduce}
use Rattle.text_grammar.specs.Values.{vals}
use Rattle.text_grammar.specs.Reading.{parse, read}
use Rattle.text_grammar.specs.Later.{vals_twice}
use Rattle.bash_grammar.specs.Bytes.{Text, clear, comment_end, gap, is_special_param, is_meta, is_ended, is_quote, is_active, is_plain, is_escaped_in, is_escaped, opens_glob, opens_process, expands, is_literal, literal_run, literal_in, begins_unit, unit_starts, unit_starts_in, name_run, digit_run, idle}
use Rattle.bash_grammar.specs.Quotes.{quoted_run, letter, ansi_from}
use Rattle.bash_grammar.specs.Tokens.{◌>>=◌, code, semi_at, and_at, pipe_at, here_at, less_at, great_at, front, token, is_token, key_text, is_key, is_word_of, compound_words, command_words, other_words, declaring_words, unary_tests, binary_tests, here_next, copy_next, both_next, redirect_next, plain_next, simple_next, compound_next, command_next, pipeline_next, sum_command_next, parens_next, name_at, tilde_at, tilde_next}
use Rattle.bash_grammar.specs.Heads.{short_param_at, special_at, behind_two, dollar_name, dollar_short, brace_name, length_name, pointed_name, brace_special, brace_next, dollar_sum, sum_next, subst_next, old_next, ansi_next, locale_next, expansion_next, members_at, names_at, fill_at, trim_at, case_at, replace_at, is_transform, transform_at, slice_at}
use Rattle.bash_grammar.specs.Bodies.{delimiter_from, delimiter_at, delimiter_for, body_from, body_at}
use Rattle.bash_grammar.specs.State.{behind_quotes, ahead, place_of, place_behind, start_at}
use Rattle.bash_grammar.specs.Sums.{stretch_run, outcome, marks}
use Rattle.bash_grammar.specs.Nodes.{chains_in}
use Rattle.bash_grammar.specs.Steps.{equals_at, bodies_at, tick_run, ticks_at, run_step}
use Rattle.bash_grammar.specs.Tests.{assign_at, indexed_next, holds}
use Rattle.bash_grammar.specs.Spelling.{bash}
use Rattle.bash_grammar.specs.Pieces.{next_piece, nodes_in, nodes_from}
use Rattle.bash_grammar.specs.Shown.{script_text}

abbrev shown : Text → Option Text
shown text = nodes_from (start_at text) >>= λ ns. Some (script_text (chains_in ns))

-- a text, and its script written out, if it spells one
abbrev Row : Type 0
Row = Text × Option Text

-- (3.2.5)
abbrev compound_commands : List Row
compound_commands =
    (codes "{ a; }", Some (codes "{ . a; };")) ∷
    (codes "{ a }", None) ∷
    (codes "{a", Some (codes ". {a;")) ∷
    (codes "(a)", Some (codes "( . a; );")) ∷
    (codes "( (a))", Some (codes "( ( . a; ); );")) ∷
    (codes "if a; then b; elif c; then d; else e; fi", Some (codes "if . a; then . b; . c; then . d; else . e; fi;")) ∷
    (codes "if a; then; fi", None) ∷
    (codes "while a; do b; done >c", Some (codes "while . a; do . b; done >c;")) ∷
    (codes "for x do a; done", Some (codes "for x do . a; done;")) ∷
    (codes "for x in a b; do c; done", Some (codes "for x in a b do . c; done;")) ∷
    (codes "for x in a; { b; }", None) ∷
    (codes "case x in a|b) c;; (d) e;& *) esac", Some (codes "case x in a b) . c; ;; d) . e; ;& *)  ;; esac;")) ∷
    (codes "case x in esac) a;; esac", None) ∷
    (codes "case x in (esac) a;; esac", Some (codes "case x in esac) . a; ;; esac;")) ∷
    (codes "case x in y) a esac", None) ∷ []

compound_commands_read : map (λ r. shown r.0) compound_commands ≡ map (λ r. r.1) compound_commands
unfolding number_of sign_of longer is_gap reduce parse read vals vals_twice begins_name continues_name clear comment_end gap is_special_param is_meta is_ended is_quote is_active is_plain is_escaped_in is_escaped opens_glob opens_process expands is_literal literal_run literal_in begins_unit unit_starts unit_starts_in name_run digit_run idle quoted_run letter ansi_from code semi_at and_at pipe_at here_at less_at great_at front token is_token key_text is_key is_word_of compound_words command_words other_words declaring_words unary_tests binary_tests here_next copy_next both_next redirect_next plain_next simple_next compound_next command_next pipeline_next sum_command_next parens_next name_at tilde_at tilde_next short_param_at special_at behind_two dollar_name dollar_short brace_name length_name pointed_name brace_special brace_next dollar_sum sum_next subst_next old_next ansi_next locale_next expansion_next members_at names_at fill_at trim_at case_at replace_at is_transform transform_at slice_at delimiter_from delimiter_at delimiter_for body_from body_at behind_quotes ahead place_of place_behind stretch_run outcome marks equals_at bodies_at tick_run ticks_at run_step assign_at indexed_next holds bash next_piece nodes_in nodes_from
compound_commands_read = refl

-- (3.2.5.1, 3.2.5.2, 6.5)
abbrev sum_commands : List Row
sum_commands =
    (codes "((a))", Some (codes "((2-3 a 2-3));")) ∷
    (codes "((1)", None) ∷
    (codes "((a);(b))", None) ∷
    (codes "((1+))", Some (codes "!arith 4-6!;")) ∷
    (codes "for ((i=0;;i++)) do a; done", Some (codes "for ((6-9 i 6-7 =6-8;;11-14 i 11-12 =12-14)) do . a; done;")) ∷
    (codes "for ((a;b)) do c; done", None) ∷
    (codes "for ((a;b;c;d)) do e; done", Some (codes "!arith 11-26!;")) ∷ []

sum_commands_read : map (λ r. shown r.0) sum_commands ≡ map (λ r. r.1) sum_commands
unfolding number_of sign_of longer is_gap reduce parse read vals vals_twice begins_name continues_name clear comment_end gap is_special_param is_meta is_ended is_quote is_active is_plain is_escaped_in is_escaped opens_glob opens_process expands is_literal literal_run literal_in begins_unit unit_starts unit_starts_in name_run digit_run idle quoted_run letter ansi_from code semi_at and_at pipe_at here_at less_at great_at front token is_token key_text is_key is_word_of compound_words command_words other_words declaring_words unary_tests binary_tests here_next copy_next both_next redirect_next plain_next simple_next compound_next command_next pipeline_next sum_command_next parens_next name_at tilde_at tilde_next short_param_at special_at behind_two dollar_name dollar_short brace_name length_name pointed_name brace_special brace_next dollar_sum sum_next subst_next old_next ansi_next locale_next expansion_next members_at names_at fill_at trim_at case_at replace_at is_transform transform_at slice_at delimiter_from delimiter_at delimiter_for body_from body_at behind_quotes ahead place_of place_behind stretch_run outcome marks equals_at bodies_at tick_run ticks_at run_step assign_at indexed_next holds bash next_piece nodes_in nodes_from
sum_commands_read = refl

-- (3.3)
abbrev functions : List Row
functions =
    (codes "f() { a; }", Some (codes "f() { . a; };")) ∷
    (codes "function f (a)", Some (codes "f() ( . a; );")) ∷
    (codes "f-g() { a; }", Some (codes "!name 0-12!;")) ∷
    (codes "f() a", None) ∷
    (codes "f() { a; } >b", Some (codes "f() { . a; } >b;")) ∷
    (codes "\"f\"() (a)", Some (codes "!name 0-9!;")) ∷ []

functions_read : map (λ r. shown r.0) functions ≡ map (λ r. r.1) functions
unfolding number_of sign_of longer is_gap reduce parse read vals vals_twice begins_name continues_name clear comment_end gap is_special_param is_meta is_ended is_quote is_active is_plain is_escaped_in is_escaped opens_glob opens_process expands is_literal literal_run literal_in begins_unit unit_starts unit_starts_in name_run digit_run idle quoted_run letter ansi_from code semi_at and_at pipe_at here_at less_at great_at front token is_token key_text is_key is_word_of compound_words command_words other_words declaring_words unary_tests binary_tests here_next copy_next both_next redirect_next plain_next simple_next compound_next command_next pipeline_next sum_command_next parens_next name_at tilde_at tilde_next short_param_at special_at behind_two dollar_name dollar_short brace_name length_name pointed_name brace_special brace_next dollar_sum sum_next subst_next old_next ansi_next locale_next expansion_next members_at names_at fill_at trim_at case_at replace_at is_transform transform_at slice_at delimiter_from delimiter_at delimiter_for body_from body_at behind_quotes ahead place_of place_behind stretch_run outcome marks equals_at bodies_at tick_run ticks_at run_step assign_at indexed_next holds bash next_piece nodes_in nodes_from
functions_read = refl

-- (3.2.3, 3.2.5.2, 3.2.6)
abbrev reserved : List Row
reserved =
    (codes "time a | b", Some (codes "!reserved 0-6! | . b;")) ∷
    (codes "time", Some (codes "!reserved 0-4!;")) ∷
    (codes "time -p ! a", Some (codes "!reserved 0-11!;")) ∷
    (codes "coproc x { a; }", Some (codes "!reserved 0-15!;")) ∷
    (codes "select x in a; do b; done", Some (codes "!reserved 0-25!;")) ∷
    (codes "coproc", None) ∷ []

reserved_read : map (λ r. shown r.0) reserved ≡ map (λ r. r.1) reserved
unfolding number_of sign_of longer is_gap reduce parse read vals vals_twice begins_name continues_name clear comment_end gap is_special_param is_meta is_ended is_quote is_active is_plain is_escaped_in is_escaped opens_glob opens_process expands is_literal literal_run literal_in begins_unit unit_starts unit_starts_in name_run digit_run idle quoted_run letter ansi_from code semi_at and_at pipe_at here_at less_at great_at front token is_token key_text is_key is_word_of compound_words command_words other_words declaring_words unary_tests binary_tests here_next copy_next both_next redirect_next plain_next simple_next compound_next command_next pipeline_next sum_command_next parens_next name_at tilde_at tilde_next short_param_at special_at behind_two dollar_name dollar_short brace_name length_name pointed_name brace_special brace_next dollar_sum sum_next subst_next old_next ansi_next locale_next expansion_next members_at names_at fill_at trim_at case_at replace_at is_transform transform_at slice_at delimiter_from delimiter_at delimiter_for body_from body_at behind_quotes ahead place_of place_behind stretch_run outcome marks equals_at bodies_at tick_run ticks_at run_step assign_at indexed_next holds bash next_piece nodes_in nodes_from
reserved_read = refl

-- (3.2.5.2, 6.4)
abbrev conditions : List Row
conditions =
    (codes "[[ a == b* && ! -f c || d ]]", Some (codes "[[ ((a == b* && ! -f c) || d) ]];")) ∷
    (codes "[[ a =~ ^(b|c)$ ]]", Some (codes "[[ a =~ !regex 5-15! ]];")) ∷
    (codes "[[ (a) ]]", Some (codes "[[ a ]];")) ∷
    (codes "[[ -f ]]", None) ∷
    (codes "[[ a < b ]]", Some (codes "[[ a < b ]];")) ∷
    (codes "[[ a", None) ∷
    (codes "[[ a\n]]", None) ∷
    (codes "[[ a b ]]", None) ∷ []

conditions_read : map (λ r. shown r.0) conditions ≡ map (λ r. r.1) conditions
unfolding number_of sign_of longer is_gap reduce parse read vals vals_twice begins_name continues_name clear comment_end gap is_special_param is_meta is_ended is_quote is_active is_plain is_escaped_in is_escaped opens_glob opens_process expands is_literal literal_run literal_in begins_unit unit_starts unit_starts_in name_run digit_run idle quoted_run letter ansi_from code semi_at and_at pipe_at here_at less_at great_at front token is_token key_text is_key is_word_of compound_words command_words other_words declaring_words unary_tests binary_tests here_next copy_next both_next redirect_next plain_next simple_next compound_next command_next pipeline_next sum_command_next parens_next name_at tilde_at tilde_next short_param_at special_at behind_two dollar_name dollar_short brace_name length_name pointed_name brace_special brace_next dollar_sum sum_next subst_next old_next ansi_next locale_next expansion_next members_at names_at fill_at trim_at case_at replace_at is_transform transform_at slice_at delimiter_from delimiter_at delimiter_for body_from body_at behind_quotes ahead place_of place_behind stretch_run outcome marks equals_at bodies_at tick_run ticks_at run_step assign_at indexed_next holds bash next_piece nodes_in nodes_from
conditions_read = refl
