-- Texts and their scripts, worked out by the table: compound commands, conditions and functions, both sides of their borders.
use Rattle.std.specs.Prelude.{◌≡◌, List, [], ◌∷◌, map, Option, Some, None, refl, codes}
use Rattle.span_text.specs.Constant.{number_of}
use Rattle.span_text.specs.ExprTokens.{sign_of, longer, is_gap}
use Rattle.span_text.specs.Names.{begins_name, continues_name}
use Rattle.arith64.specs.Parsing.{reduce}
use Rattle.text_grammar.specs.Values.{vals}
use Rattle.text_grammar.specs.Reading.{parse, read}
use Rattle.text_grammar.specs.Later.{vals_twice}
use Rattle.bash_grammar.specs.Bytes.{Text, clear, comment_end, gap, is_special_param, is_meta, is_ended, is_quote, is_active, is_plain, is_escaped_in, is_escaped, opens_glob, opens_process, expands, is_literal, literal_run, literal_in, begins_unit, unit_starts, unit_starts_in, name_run, digit_run, idle}
use Rattle.bash_grammar.specs.Quotes.{quoted_run, letter, ansi_from}
use Rattle.bash_grammar.specs.Tokens.{◌>>=◌, code, semi_at, and_at, pipe_at, here_at, less_at, great_at, front, token, is_token, key_text, is_key, is_word_of, compound_words, command_words, other_words, declaring_words, unary_tests, binary_tests, here_next, copy_next, both_next, redirect_next, plain_next, simple_next, compound_next, command_next, pipeline_next, sum_command_next, parens_next, name_at, tilde_at, tilde_next}
use Rattle.bash_grammar.specs.Heads.{short_param_at, special_at, behind_two, dollar_name, dollar_short, brace_name, length_name, pointed_name, brace_special, brace_next, dollar_sum, sum_next, subst_next, old_next, ansi_next, locale_next, expansion_next, members_at, names_at, fill_at, trim_at, case_at, replace_at, is_transform, transform_at, slice_at}
use Rattle.bash_grammar.specs.Bodies.{delimiter_from, delimiter_at, delimiter_for, body_from, body_at}
use Rattle.bash_grammar.specs.State.{behind_quotes, ahead, place_of, place_behind, start_at}
use Rattle.bash_grammar.specs.Sums.{stretch_run, outcome, marks}
use Rattle.bash_grammar.specs.Nodes.{chains_in}
use Rattle.bash_grammar.specs.Steps.{equals_at, bodies_at, tick_run, ticks_at, run_step}
use Rattle.bash_grammar.specs.Tests.{assign_at, indexed_next, holds}
use Rattle.bash_grammar.specs.Spelling.{bash}
use Rattle.bash_grammar.specs.Pieces.{next_piece, nodes_in, nodes_from}
use Rattle.bash_grammar.specs.Shown.{script_text}

abbrev shown : Text → Option Text
shown text = nodes_from (start_at text) >>= λ ns. Some (script_text (chains_in ns))

-- a text, and its script written out, if it spells one
abbrev Row : Type 0
Row = Text × Option Text

-- (3.2.5.1, 3.2.5.2)
abbrev loops : List Row
loops =
    (codes "for ((;;)) do a; done", Some (codes "for ((;;)) do . a; done;")) ∷
    (codes "for x in; do a; done", Some (codes "for x in do . a; done;")) ∷
    (codes "for x\n\nin a\ndo b\ndone", Some (codes "for x in a do . b; done;")) ∷
    (codes "for x\n; do a; done", None) ∷
    (codes "for x in a do b; done", None) ∷
    (codes "for a-b in c; do d; done", None) ∷
    (codes "until a; do b; done", Some (codes "until . a; do . b; done;")) ∷
    (codes "while a; do; done", None) ∷
    (codes "if a & then b & fi", Some (codes "if . a &5-6; then . b &14-15; fi;")) ∷
    (codes "if a; then b", None) ∷
    (codes "{ a; { b; }; }", Some (codes "{ . a;{ . b; }; };")) ∷
    (codes "{ }", None) ∷
    (codes "( )", None) ∷
    (codes "case x\nin\na) b\n;;\nesac", Some (codes "case x in a) . b; ;; esac;")) ∷
    (codes "case x in esac", Some (codes "case x in esac;")) ∷
    (codes "case x in a|) b;; esac", None) ∷
    (codes "case x; in esac", None) ∷ []

loops_read : map (λ r. shown r.0) loops ≡ map (λ r. r.1) loops
unfolding number_of sign_of longer is_gap reduce parse read vals vals_twice begins_name continues_name clear comment_end gap is_special_param is_meta is_ended is_quote is_active is_plain is_escaped_in is_escaped opens_glob opens_process expands is_literal literal_run literal_in begins_unit unit_starts unit_starts_in name_run digit_run idle quoted_run letter ansi_from code semi_at and_at pipe_at here_at less_at great_at front token is_token key_text is_key is_word_of compound_words command_words other_words declaring_words unary_tests binary_tests here_next copy_next both_next redirect_next plain_next simple_next compound_next command_next pipeline_next sum_command_next parens_next name_at tilde_at tilde_next short_param_at special_at behind_two dollar_name dollar_short brace_name length_name pointed_name brace_special brace_next dollar_sum sum_next subst_next old_next ansi_next locale_next expansion_next members_at names_at fill_at trim_at case_at replace_at is_transform transform_at slice_at delimiter_from delimiter_at delimiter_for body_from body_at behind_quotes ahead place_of place_behind stretch_run outcome marks equals_at bodies_at tick_run ticks_at run_step assign_at indexed_next holds bash next_piece nodes_in nodes_from
loops_read = refl

-- (3.2.5.2, 6.4)
abbrev tests : List Row
tests =
    (codes "[[ ! -z a ]]", Some (codes "[[ ! -z a ]];")) ∷
    (codes "[[ ! ! a ]]", Some (codes "[[ ! ! a ]];")) ∷
    (codes "[[ a && (b || c) ]]", Some (codes "[[ (a && (b || c)) ]];")) ∷
    (codes "[[ a || b && c ]]", Some (codes "[[ (a || (b && c)) ]];")) ∷
    (codes "[[ a == @(b|c) ]]", Some (codes "[[ a == !glob 8-14! ]];")) ∷
    (codes "[[ -v a[1] ]]", Some (codes "[[ -v a[1] ]];")) ∷
    (codes "[[ a -eq 1 ]]", Some (codes "[[ a -eq 1 ]];")) ∷
    (codes "[[ a=b ]]", Some (codes "[[ a=b ]];")) ∷
    (codes "[[ a = b ]]", Some (codes "[[ a = b ]];")) ∷
    (codes "[[ a =~ ]]", None) ∷
    (codes "[[ a == b c ]]", None) ∷
    (codes "[[ ]]", None) ∷
    (codes "[[a ]]", Some (codes ". [[a ]];")) ∷
    (codes "[[ \"-f\" a ]]", None) ∷
    (codes "[[ -f == ]]", Some (codes "[[ -f == ]];")) ∷
    (codes "[[ (a ]]", None) ∷
    (codes "[[ a ]] >b", Some (codes "[[ a ]] >b;")) ∷
    (codes "[[ a =~ b|c && d ]]", Some (codes "[[ (a =~ !regex 5-11! && d) ]];")) ∷ []

tests_read : map (λ r. shown r.0) tests ≡ map (λ r. r.1) tests
unfolding number_of sign_of longer is_gap reduce parse read vals vals_twice begins_name continues_name clear comment_end gap is_special_param is_meta is_ended is_quote is_active is_plain is_escaped_in is_escaped opens_glob opens_process expands is_literal literal_run literal_in begins_unit unit_starts unit_starts_in name_run digit_run idle quoted_run letter ansi_from code semi_at and_at pipe_at here_at less_at great_at front token is_token key_text is_key is_word_of compound_words command_words other_words declaring_words unary_tests binary_tests here_next copy_next both_next redirect_next plain_next simple_next compound_next command_next pipeline_next sum_command_next parens_next name_at tilde_at tilde_next short_param_at special_at behind_two dollar_name dollar_short brace_name length_name pointed_name brace_special brace_next dollar_sum sum_next subst_next old_next ansi_next locale_next expansion_next members_at names_at fill_at trim_at case_at replace_at is_transform transform_at slice_at delimiter_from delimiter_at delimiter_for body_from body_at behind_quotes ahead place_of place_behind stretch_run outcome marks equals_at bodies_at tick_run ticks_at run_step assign_at indexed_next holds bash next_piece nodes_in nodes_from
tests_read = refl

-- (3.3)
abbrev functions_too : List Row
functions_too =
    (codes "f () { a; } <b", Some (codes "f() { . a; } <b;")) ∷
    (codes "function f { a; }", Some (codes "f() { . a; };")) ∷
    (codes "function f-g { a; }", Some (codes "!name 9-19!;")) ∷
    (codes "function f\n\n(a)", Some (codes "f() ( . a; );")) ∷
    (codes "f() ((a))", Some (codes "f() ((6-7 a 6-7));")) ∷
    (codes "$$() (a)", Some (codes "!special 0-8!;")) ∷
    (codes "if() { a; }", None) ∷
    (codes "a b() { c; }", None) ∷
    (codes "f() { a; } b", None) ∷
    (codes "function f a", None) ∷
    (codes "declare() (a)", Some (codes "declare() ( . a; );")) ∷ []

functions_too_read : map (λ r. shown r.0) functions_too ≡ map (λ r. r.1) functions_too
unfolding number_of sign_of longer is_gap reduce parse read vals vals_twice begins_name continues_name clear comment_end gap is_special_param is_meta is_ended is_quote is_active is_plain is_escaped_in is_escaped opens_glob opens_process expands is_literal literal_run literal_in begins_unit unit_starts unit_starts_in name_run digit_run idle quoted_run letter ansi_from code semi_at and_at pipe_at here_at less_at great_at front token is_token key_text is_key is_word_of compound_words command_words other_words declaring_words unary_tests binary_tests here_next copy_next both_next redirect_next plain_next simple_next compound_next command_next pipeline_next sum_command_next parens_next name_at tilde_at tilde_next short_param_at special_at behind_two dollar_name dollar_short brace_name length_name pointed_name brace_special brace_next dollar_sum sum_next subst_next old_next ansi_next locale_next expansion_next members_at names_at fill_at trim_at case_at replace_at is_transform transform_at slice_at delimiter_from delimiter_at delimiter_for body_from body_at behind_quotes ahead place_of place_behind stretch_run outcome marks equals_at bodies_at tick_run ticks_at run_step assign_at indexed_next holds bash next_piece nodes_in nodes_from
functions_too_read = refl

-- (3.2.3, 3.2.6)
abbrev reserved_too : List Row
reserved_too =
    (codes "time ! a; b", Some (codes "!reserved 0-8!;. b;")) ∷
    (codes "! time a", Some (codes "! !reserved 2-8!;")) ∷
    (codes "time time a", Some (codes "!reserved 0-11!;")) ∷
    (codes "(time)", None) ∷
    (codes "time | a", None) ∷
    (codes "coproc a b c", Some (codes "!reserved 0-12!;")) ∷
    (codes "coproc (a)", Some (codes "!reserved 0-10!;")) ∷
    (codes "a | coproc b", Some (codes ". a | !reserved 4-12!;")) ∷
    (codes "select a; do b; done >c", Some (codes "!reserved 0-20! >c;")) ∷
    (codes "select a b; do c; done", None) ∷
    (codes "'time' a", Some (codes ". 'time' a;")) ∷ []

reserved_too_read : map (λ r. shown r.0) reserved_too ≡ map (λ r. r.1) reserved_too
unfolding number_of sign_of longer is_gap reduce parse read vals vals_twice begins_name continues_name clear comment_end gap is_special_param is_meta is_ended is_quote is_active is_plain is_escaped_in is_escaped opens_glob opens_process expands is_literal literal_run literal_in begins_unit unit_starts unit_starts_in name_run digit_run idle quoted_run letter ansi_from code semi_at and_at pipe_at here_at less_at great_at front token is_token key_text is_key is_word_of compound_words command_words other_words declaring_words unary_tests binary_tests here_next copy_next both_next redirect_next plain_next simple_next compound_next command_next pipeline_next sum_command_next parens_next name_at tilde_at tilde_next short_param_at special_at behind_two dollar_name dollar_short brace_name length_name pointed_name brace_special brace_next dollar_sum sum_next subst_next old_next ansi_next locale_next expansion_next members_at names_at fill_at trim_at case_at replace_at is_transform transform_at slice_at delimiter_from delimiter_at delimiter_for body_from body_at behind_quotes ahead place_of place_behind stretch_run outcome marks equals_at bodies_at tick_run ticks_at run_step assign_at indexed_next holds bash next_piece nodes_in nodes_from
reserved_too_read = refl
