-- Texts and their scripts, worked out by the table: simple commands, redirections, lists.
use Rattle.std.specs.Prelude.{◌≡◌, List, [], ◌∷◌, map, Option, Some, None, refl, codes}
use Rattle.span_text.specs.Constant.{number_of}
use Rattle.span_text.specs.ExprTokens.{sign_of, longer, is_gap}
use Rattle.span_text.specs.Names.{begins_name, continues_name}
use Rattle.arith64.specs.Parsing.{reduce}
use Rattle.text_grammar.specs.Values.{vals}
use Rattle.text_grammar.specs.Reading.{parse, read}
use Rattle.text_grammar.specs.Later.{vals_twice}
use Rattle.bash_grammar.specs.Bytes.{Text, clear, comment_end, gap, is_special_param, is_meta, is_ended, is_quote, is_active, is_plain, is_escaped_in, is_escaped, opens_glob, opens_process, expands, is_literal, literal_run, literal_in, begins_unit, unit_starts, unit_starts_in, name_run, digit_run, idle}
use Rattle.bash_grammar.specs.Quotes.{quoted_run, letter, ansi_from}
use Rattle.bash_grammar.specs.Tokens.{◌>>=◌, code, semi_at, and_at, pipe_at, here_at, less_at, great_at, front, token, is_token, key_text, is_key, is_word_of, compound_words, command_words, other_words, declaring_words, unary_tests, binary_tests, here_next, copy_next, both_next, redirect_next, plain_next, simple_next, compound_next, command_next, pipeline_next, sum_command_next, parens_next, name_at, tilde_at, tilde_next}
use Rattle.bash_grammar.specs.Heads.{short_param_at, special_at, behind_two, dollar_name, dollar_short, brace_name, length_name, pointed_name, brace_special, brace_next, dollar_sum, sum_next, subst_next, old_next, ansi_next, locale_next, expansion_next, members_at, names_at, fill_at, trim_at, case_at, replace_at, is_transform, transform_at, slice_at}
use Rattle.bash_grammar.specs.Bodies.{delimiter_from, delimiter_at, delimiter_for, body_from, body_at}
use Rattle.bash_grammar.specs.State.{behind_quotes, ahead, place_of, place_behind, start_at}
use Rattle.bash_grammar.specs.Sums.{stretch_run, outcome, marks}
use Rattle.bash_grammar.specs.Nodes.{chains_in}
use Rattle.bash_grammar.specs.Steps.{equals_at, bodies_at, tick_run, ticks_at, run_step}
use Rattle.bash_grammar.specs.Tests.{assign_at, indexed_next, holds}
use Rattle.bash_grammar.specs.Spelling.{bash}
use Rattle.bash_grammar.specs.Pieces.{next_piece, nodes_in, nodes_from}
use Rattle.bash_grammar.specs.Shown.{script_text}

abbrev shown : Text → Option Text
shown text = nodes_from (start_at text) >>= λ ns. Some (script_text (chains_in ns))

-- a text, and its script written out, if it spells one
abbrev Row : Type 0
Row = Text × Option Text

-- assignments, words, comments (3.2.2, 3.4, 3.1.3)
abbrev simple_commands : List Row
simple_commands =
    (codes "a b", Some (codes ". a b;")) ∷
    (codes "a=b c", Some (codes ". [a=b] c;")) ∷
    (codes "a+=b", Some (codes ". [a+=b];")) ∷
    (codes "a= b", Some (codes ". [a=] b;")) ∷
    (codes "a[1]=b", Some (codes ". [a[1]=b];")) ∷
    (codes "a[b c]=d", Some (codes ". [a[b c 4-5]=d];")) ∷
    (codes "a[b c] d", Some (codes ". a[b c] d;")) ∷
    (codes "a[b", Some (codes ". a[b;")) ∷
    (codes "1a=b", Some (codes ". 1a=b;")) ∷
    (codes "a=~/b ~/c a=~", Some (codes ". [a={~}/b] {~}/c a=~;")) ∷
    (codes "a=([1]=b c)", Some (codes ". [a=( [1]=b c)];")) ∷
    (codes "a=(b;c)", None) ∷
    (codes "declare a=(b)", Some (codes ". declare [a=( b)];")) ∷
    (codes "a b=(c)", None) ∷
    (codes "a #b", Some (codes ". a;")) ∷
    (codes "a#b", Some (codes ". a#b;")) ∷
    (codes "a\\\nb", Some (codes ". ab;")) ∷
    (codes "$a\\\nb", Some (codes ". ${ab};")) ∷
    (codes "a\\", None) ∷
    (codes "esac", None) ∷
    (codes "in", None) ∷
    (codes "a esac", Some (codes ". a esac;")) ∷
    (codes "x=1 done", Some (codes ". [x=1] done;")) ∷ []

simple_commands_read : map (λ r. shown r.0) simple_commands ≡ map (λ r. r.1) simple_commands
unfolding number_of sign_of longer is_gap reduce parse read vals vals_twice begins_name continues_name clear comment_end gap is_special_param is_meta is_ended is_quote is_active is_plain is_escaped_in is_escaped opens_glob opens_process expands is_literal literal_run literal_in begins_unit unit_starts unit_starts_in name_run digit_run idle quoted_run letter ansi_from code semi_at and_at pipe_at here_at less_at great_at front token is_token key_text is_key is_word_of compound_words command_words other_words declaring_words unary_tests binary_tests here_next copy_next both_next redirect_next plain_next simple_next compound_next command_next pipeline_next sum_command_next parens_next name_at tilde_at tilde_next short_param_at special_at behind_two dollar_name dollar_short brace_name length_name pointed_name brace_special brace_next dollar_sum sum_next subst_next old_next ansi_next locale_next expansion_next members_at names_at fill_at trim_at case_at replace_at is_transform transform_at slice_at delimiter_from delimiter_at delimiter_for body_from body_at behind_quotes ahead place_of place_behind stretch_run outcome marks equals_at bodies_at tick_run ticks_at run_step assign_at indexed_next holds bash next_piece nodes_in nodes_from
simple_commands_read = refl

-- (3.6)
abbrev redirections : List Row
redirections =
    (codes "a >b 2>&1", Some (codes ". a >b 2>&1;")) ∷
    (codes ">|f", Some (codes ". >f;")) ∷
    (codes "a &>f", Some (codes ". a &>f;")) ∷
    (codes "a 22>f", Some (codes ". a !descriptor 2-6!f;")) ∷
    (codes "a {b}>f", Some (codes ". a !descriptor 2-7!f;")) ∷
    (codes "a {b} >f", Some (codes ". a {b} >f;")) ∷
    (codes "a <>f", Some (codes ". a !readwrite 2-4!f;")) ∷
    (codes "a <<<b", Some (codes ". a <<<b;")) ∷
    (codes "a >2>b", None) ∷
    (codes "a 2&>b", Some (codes ". a 2 &>b;")) ∷
    (codes "a < <(b)", Some (codes ". a <!process 4-8!;")) ∷
    (codes "a <(b", None) ∷ []

redirections_read : map (λ r. shown r.0) redirections ≡ map (λ r. r.1) redirections
unfolding number_of sign_of longer is_gap reduce parse read vals vals_twice begins_name continues_name clear comment_end gap is_special_param is_meta is_ended is_quote is_active is_plain is_escaped_in is_escaped opens_glob opens_process expands is_literal literal_run literal_in begins_unit unit_starts unit_starts_in name_run digit_run idle quoted_run letter ansi_from code semi_at and_at pipe_at here_at less_at great_at front token is_token key_text is_key is_word_of compound_words command_words other_words declaring_words unary_tests binary_tests here_next copy_next both_next redirect_next plain_next simple_next compound_next command_next pipeline_next sum_command_next parens_next name_at tilde_at tilde_next short_param_at special_at behind_two dollar_name dollar_short brace_name length_name pointed_name brace_special brace_next dollar_sum sum_next subst_next old_next ansi_next locale_next expansion_next members_at names_at fill_at trim_at case_at replace_at is_transform transform_at slice_at delimiter_from delimiter_at delimiter_for body_from body_at behind_quotes ahead place_of place_behind stretch_run outcome marks equals_at bodies_at tick_run ticks_at run_step assign_at indexed_next holds bash next_piece nodes_in nodes_from
redirections_read = refl

-- (3.6.6)
abbrev here_documents : List Row
here_documents =
    (codes "a <<E\nx$b\nE\nc", Some (codes ". a <<x${b}\n;. c;")) ∷
    (codes "a <<'E'\n$(\nE", Some (codes ". a <<'$(\n;")) ∷
    (codes "a <<-E\n\t$b\n\tE\n", Some (codes ". a <<${b}\n;")) ∷
    (codes "a <<E\nx\n", None) ∷
    (codes "a <<E\nE", Some (codes ". a <<;")) ∷
    (codes "a <<E\n\nE\nb", Some (codes ". a <<\n;. b;")) ∷
    (codes "a <<E; b <<F\n1\nE\n2\nF", Some (codes ". a <<1\n;. b <<2\n;")) ∷
    (codes "a <<E\n$(b <<F\nc\nF\n)\nE", Some (codes ". a <<$(. b <<c\n;)\n;")) ∷
    (codes "a `b <<E\nc\nE\n`", Some (codes ". a $(. b <<c\n;);")) ∷
    (codes "a `b <<E`\nc\nE", None) ∷
    (codes "a <<E\n${b-'}\nE", Some (codes ". a <<${b-!quote 10-11!}\n;")) ∷ []

here_documents_read : map (λ r. shown r.0) here_documents ≡ map (λ r. r.1) here_documents
unfolding number_of sign_of longer is_gap reduce parse read vals vals_twice begins_name continues_name clear comment_end gap is_special_param is_meta is_ended is_quote is_active is_plain is_escaped_in is_escaped opens_glob opens_process expands is_literal literal_run literal_in begins_unit unit_starts unit_starts_in name_run digit_run idle quoted_run letter ansi_from code semi_at and_at pipe_at here_at less_at great_at front token is_token key_text is_key is_word_of compound_words command_words other_words declaring_words unary_tests binary_tests here_next copy_next both_next redirect_next plain_next simple_next compound_next command_next pipeline_next sum_command_next parens_next name_at tilde_at tilde_next short_param_at special_at behind_two dollar_name dollar_short brace_name length_name pointed_name brace_special brace_next dollar_sum sum_next subst_next old_next ansi_next locale_next expansion_next members_at names_at fill_at trim_at case_at replace_at is_transform transform_at slice_at delimiter_from delimiter_at delimiter_for body_from body_at behind_quotes ahead place_of place_behind stretch_run outcome marks equals_at bodies_at tick_run ticks_at run_step assign_at indexed_next holds bash next_piece nodes_in nodes_from
here_documents_read = refl

-- (3.2.3, 3.2.4)
abbrev lists : List Row
lists =
    (codes "a; b & c", Some (codes ". a;. b &5-6;. c;")) ∷
    (codes "a && ! b || c", Some (codes ". a && ! . b || . c;")) ∷
    (codes "a |& b | c", Some (codes ". a |& . b | . c;")) ∷
    (codes "a;;", None) ∷
    (codes "! ! a", None) ∷
    (codes "a &&", None) ∷
    (codes "a & ; b", None) ∷
    (codes "a\n\n# b\nc", Some (codes ". a;. c;")) ∷
    (codes "a &\\\n& b", Some (codes ". a && . b;")) ∷ []

lists_read : map (λ r. shown r.0) lists ≡ map (λ r. r.1) lists
unfolding number_of sign_of longer is_gap reduce parse read vals vals_twice begins_name continues_name clear comment_end gap is_special_param is_meta is_ended is_quote is_active is_plain is_escaped_in is_escaped opens_glob opens_process expands is_literal literal_run literal_in begins_unit unit_starts unit_starts_in name_run digit_run idle quoted_run letter ansi_from code semi_at and_at pipe_at here_at less_at great_at front token is_token key_text is_key is_word_of compound_words command_words other_words declaring_words unary_tests binary_tests here_next copy_next both_next redirect_next plain_next simple_next compound_next command_next pipeline_next sum_command_next parens_next name_at tilde_at tilde_next short_param_at special_at behind_two dollar_name dollar_short brace_name length_name pointed_name brace_special brace_next dollar_sum sum_next subst_next old_next ansi_next locale_next expansion_next members_at names_at fill_at trim_at case_at replace_at is_transform transform_at slice_at delimiter_from delimiter_at delimiter_for body_from body_at behind_quotes ahead place_of place_behind stretch_run outcome marks equals_at bodies_at tick_run ticks_at run_step assign_at indexed_next holds bash next_piece nodes_in nodes_from
lists_read = refl
