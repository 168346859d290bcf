-- Texts and their scripts, worked out by the table: quotes, expansions and here-documents in one another.
use Rattle.std.specs.Prelude.{◌≡◌, List, [], ◌∷◌, map, Option, Some, None, refl, codes}
use Rattle.span_text.specs.Constant.{number_of}
use Rattle.span_text.specs.ExprTokens.{sign_of, longer, is_gap}
use Rattle.span_text.specs.Names.{begins_name, continues_name}
use Rattle.arith64.specs.Parsing.{reduce}
use Rattle.text_grammar.specs.Values.{vals}
use Rattle.text_grammar.specs.Reading.{parse, read}
use Rattle.text_grammar.specs.Later.{vals_twice}
use Rattle.bash_grammar.specs.Bytes.{Text, clear, comment_end, gap, is_special_param, is_meta, is_ended, is_quote, is_active, is_plain, is_escaped_in, is_escaped, opens_glob, opens_process, expands, is_literal, literal_run, literal_in, begins_unit, unit_starts, unit_starts_in, name_run, digit_run, idle}
use Rattle.bash_grammar.specs.Quotes.{quoted_run, letter, ansi_from}
use Rattle.bash_grammar.specs.Tokens.{◌>>=◌, code, semi_at, and_at, pipe_at, here_at, less_at, great_at, front, token, is_token, key_text, is_key, is_word_of, compound_words, command_words, other_words, declaring_words, unary_tests, binary_tests, here_next, copy_next, both_next, redirect_next, plain_next, simple_next, compound_next, command_next, pipeline_next, sum_command_next, parens_next, name_at, tilde_at, tilde_next}
use Rattle.bash_grammar.specs.Heads.{short_param_at, special_at, behind_two, dollar_name, dollar_short, brace_name, length_name, pointed_name, brace_special, brace_next, dollar_sum, sum_next, subst_next, old_next, ansi_next, locale_next, expansion_next, members_at, names_at, fill_at, trim_at, case_at, replace_at, is_transform, transform_at, slice_at}
use Rattle.bash_grammar.specs.Bodies.{delimiter_from, delimiter_at, delimiter_for, body_from, body_at}
use Rattle.bash_grammar.specs.State.{behind_quotes, ahead, place_of, place_behind, start_at}
use Rattle.bash_grammar.specs.Sums.{stretch_run, outcome, marks}
use Rattle.bash_grammar.specs.Nodes.{chains_in}
use Rattle.bash_grammar.specs.Steps.{equals_at, bodies_at, tick_run, ticks_at, run_step}
use Rattle.bash_grammar.specs.Tests.{assign_at, indexed_next, holds}
use Rattle.bash_grammar.specs.Spelling.{bash}
use Rattle.bash_grammar.specs.Pieces.{next_piece, nodes_in, nodes_from}
use Rattle.bash_grammar.specs.Shown.{script_text}

abbrev shown : Text → Option Text
shown text = nodes_from (start_at text) >>= λ ns. Some (script_text (chains_in ns))

-- a text, and its script written out, if it spells one
abbrev Row : Type 0
Row = Text × Option Text

-- (3.1.2, 3.5.3)
abbrev modes : List Row
modes =
    (codes "\"$(\"a\")\"", Some (codes ". \"$(. \"a\";)\";")) ∷
    (codes "\"`a`\"", Some (codes ". \"$(. a;)\";")) ∷
    (codes "\"${a-\"b\"}\"", Some (codes ". \"${a-\"b\"}\";")) ∷
    (codes "\"${a-$'b'}\"", Some (codes ". \"${a-'b'}\";")) ∷
    (codes "\"${a/b/$'c'}\"", Some (codes ". \"${a/b/!quote 7-11!}\";")) ∷
    (codes "\"${a/'b'/c}\"", Some (codes ". \"${a/'b'/c}\";")) ∷
    (codes "${a-'}'}", Some (codes ". ${a-'}'};")) ∷
    (codes "${a-\\}}", Some (codes ". ${a-'}'};")) ∷
    (codes "\"${a-\\}}\"", Some (codes ". \"${a-'}'}\";")) ∷
    (codes "\"${a-\\b}\"", Some (codes ". \"${a-\\b}\";")) ∷
    (codes "$(# a\n)", Some (codes ". $();")) ∷
    (codes "`a # b`", Some (codes ". $(. a;);")) ∷
    (codes "a$(b)c", Some (codes ". a$(. b;)c;")) ∷ []

modes_read : map (λ r. shown r.0) modes ≡ map (λ r. r.1) modes
unfolding number_of sign_of longer is_gap reduce parse read vals vals_twice begins_name continues_name clear comment_end gap is_special_param is_meta is_ended is_quote is_active is_plain is_escaped_in is_escaped opens_glob opens_process expands is_literal literal_run literal_in begins_unit unit_starts unit_starts_in name_run digit_run idle quoted_run letter ansi_from code semi_at and_at pipe_at here_at less_at great_at front token is_token key_text is_key is_word_of compound_words command_words other_words declaring_words unary_tests binary_tests here_next copy_next both_next redirect_next plain_next simple_next compound_next command_next pipeline_next sum_command_next parens_next name_at tilde_at tilde_next short_param_at special_at behind_two dollar_name dollar_short brace_name length_name pointed_name brace_special brace_next dollar_sum sum_next subst_next old_next ansi_next locale_next expansion_next members_at names_at fill_at trim_at case_at replace_at is_transform transform_at slice_at delimiter_from delimiter_at delimiter_for body_from body_at behind_quotes ahead place_of place_behind stretch_run outcome marks equals_at bodies_at tick_run ticks_at run_step assign_at indexed_next holds bash next_piece nodes_in nodes_from
modes_read = refl

-- (3.5.3, 6.7)
abbrev subscripts_and_slices : List Row
subscripts_and_slices =
    (codes "${a[$b]}", Some (codes ". ${a[${b}]};")) ∷
    (codes "${a['b c']}", Some (codes ". ${a['b c' 4-9]};")) ∷
    (codes "${a[b[c]]}", Some (codes ". ${a[b[c]]};")) ∷
    (codes "${a[1]", None) ∷
    (codes "${a[@]:1:2}", Some (codes ". ${a[@]:7-8:9-10};")) ∷
    (codes "${a:b?c:d:e}", Some (codes ". ${a:4-9 b 4-5 c 6-7 d 8-9:10-11 e 10-11};")) ∷
    (codes "${a:(b):c}", Some (codes ". ${a:4-7 b 5-6:8-9 c 8-9};")) ∷
    (codes "${a:1:2:3}", Some (codes ". !arith 7-10!;")) ∷
    (codes "a[1]+=b", Some (codes ". [a[1]+=b];")) ∷
    (codes "a[1]=(b)", Some (codes ". [a[1]=( b)];")) ∷
    (codes "a+=(b)", Some (codes ". [a+=( b)];")) ∷
    (codes "a=()", Some (codes ". [a=()];")) ∷
    (codes "a= (b)", None) ∷
    (codes "a=(b)c", None) ∷
    (codes "a=(b) c", Some (codes ". [a=( b)] c;")) ∷
    (codes "a['b]=c", None) ∷
    (codes "a[$(b)]=c", Some (codes ". [a[$(. b;)]=c];")) ∷
    (codes "a=([b c]=d)", Some (codes ". [a=( [b c 6-7]=d)];")) ∷
    (codes "a=([b] c)", Some (codes ". [a=( [b] c)];")) ∷
    (codes "a[b;c]=d", Some (codes ". [a[b;c 3-5]=d];")) ∷
    (codes "a[b;c]", Some (codes ". a[b;. c];")) ∷ []

subscripts_and_slices_read : map (λ r. shown r.0) subscripts_and_slices ≡ map (λ r. r.1) subscripts_and_slices
unfolding number_of sign_of longer is_gap reduce parse read vals vals_twice begins_name continues_name clear comment_end gap is_special_param is_meta is_ended is_quote is_active is_plain is_escaped_in is_escaped opens_glob opens_process expands is_literal literal_run literal_in begins_unit unit_starts unit_starts_in name_run digit_run idle quoted_run letter ansi_from code semi_at and_at pipe_at here_at less_at great_at front token is_token key_text is_key is_word_of compound_words command_words other_words declaring_words unary_tests binary_tests here_next copy_next both_next redirect_next plain_next simple_next compound_next command_next pipeline_next sum_command_next parens_next name_at tilde_at tilde_next short_param_at special_at behind_two dollar_name dollar_short brace_name length_name pointed_name brace_special brace_next dollar_sum sum_next subst_next old_next ansi_next locale_next expansion_next members_at names_at fill_at trim_at case_at replace_at is_transform transform_at slice_at delimiter_from delimiter_at delimiter_for body_from body_at behind_quotes ahead place_of place_behind stretch_run outcome marks equals_at bodies_at tick_run ticks_at run_step assign_at indexed_next holds bash next_piece nodes_in nodes_from
subscripts_and_slices_read = refl

-- (3.4.2, 3.5.3)
abbrev heads : List Row
heads =
    (codes "${!a[1]} ${!1} ${!}", Some (codes ". !indirect 0-8! !indirect 9-14! !special 15-19!;")) ∷
    (codes "${#} ${##} ${#@} ${#1} ${##a}", Some (codes ". ${#} ${##} ${#@} ${#1} ${##a};")) ∷
    (codes "${@:1} ${*%a} ${1-b} ${?}", Some (codes ". ${@:4-5:} ${*%a} ${1-b} ${?};")) ∷
    (codes "${#a-b}", None) ∷
    (codes "${a@b}", None) ∷
    (codes "${1a}", None) ∷
    (codes "${a,} ${a,,b}", Some (codes ". ${a,} !case 6-13!;")) ∷
    (codes "${_?a} ${$-a} ${-?a}", Some (codes ". !error 0-6! !special 7-13! !error 14-20!;")) ∷
    (codes "$((1 $$))", Some (codes ". !special 5-9!;")) ∷
    (codes "\"${a:'1'}\"", Some (codes ". \"!quote 5-9!\";")) ∷
    (codes "${a:?} ${a:=}", Some (codes ". !error 0-6! ${a:=};")) ∷ []

heads_read : map (λ r. shown r.0) heads ≡ map (λ r. r.1) heads
unfolding number_of sign_of longer is_gap reduce parse read vals vals_twice begins_name continues_name clear comment_end gap is_special_param is_meta is_ended is_quote is_active is_plain is_escaped_in is_escaped opens_glob opens_process expands is_literal literal_run literal_in begins_unit unit_starts unit_starts_in name_run digit_run idle quoted_run letter ansi_from code semi_at and_at pipe_at here_at less_at great_at front token is_token key_text is_key is_word_of compound_words command_words other_words declaring_words unary_tests binary_tests here_next copy_next both_next redirect_next plain_next simple_next compound_next command_next pipeline_next sum_command_next parens_next name_at tilde_at tilde_next short_param_at special_at behind_two dollar_name dollar_short brace_name length_name pointed_name brace_special brace_next dollar_sum sum_next subst_next old_next ansi_next locale_next expansion_next members_at names_at fill_at trim_at case_at replace_at is_transform transform_at slice_at delimiter_from delimiter_at delimiter_for body_from body_at behind_quotes ahead place_of place_behind stretch_run outcome marks equals_at bodies_at tick_run ticks_at run_step assign_at indexed_next holds bash next_piece nodes_in nodes_from
heads_read = refl

-- (3.1.2.4)
abbrev escapes : List Row
escapes =
    (codes "$'\\101\\?'", Some (codes ". 'A?';")) ∷
    (codes "$'\\0'", Some (codes ". !ansi 2-5!;")) ∷
    (codes "$'\\400'", Some (codes ". !ansi 2-7!;")) ∷
    (codes "$'\\x'", Some (codes ". !ansi 2-5!;")) ∷
    (codes "$'\\x4ag'", Some (codes ". 'Jg';")) ∷
    (codes "$'a", None) ∷
    (codes "$'a\\''", Some (codes ". 'a'';")) ∷ []

escapes_read : map (λ r. shown r.0) escapes ≡ map (λ r. r.1) escapes
unfolding number_of sign_of longer is_gap reduce parse read vals vals_twice begins_name continues_name clear comment_end gap is_special_param is_meta is_ended is_quote is_active is_plain is_escaped_in is_escaped opens_glob opens_process expands is_literal literal_run literal_in begins_unit unit_starts unit_starts_in name_run digit_run idle quoted_run letter ansi_from code semi_at and_at pipe_at here_at less_at great_at front token is_token key_text is_key is_word_of compound_words command_words other_words declaring_words unary_tests binary_tests here_next copy_next both_next redirect_next plain_next simple_next compound_next command_next pipeline_next sum_command_next parens_next name_at tilde_at tilde_next short_param_at special_at behind_two dollar_name dollar_short brace_name length_name pointed_name brace_special brace_next dollar_sum sum_next subst_next old_next ansi_next locale_next expansion_next members_at names_at fill_at trim_at case_at replace_at is_transform transform_at slice_at delimiter_from delimiter_at delimiter_for body_from body_at behind_quotes ahead place_of place_behind stretch_run outcome marks equals_at bodies_at tick_run ticks_at run_step assign_at indexed_next holds bash next_piece nodes_in nodes_from
escapes_read = refl

-- (3.6.6)
abbrev documents : List Row
documents =
    (codes "a <<$'E'\nE", None) ∷
    (codes "a <<\"E F\"\nx\nE F", Some (codes ". a <<'x\n;")) ∷
    (codes "a <<\\E\n$x\nE", Some (codes ". a <<'$x\n;")) ∷
    (codes "a <<E\n\\$x\\\ny\nE", Some (codes ". a <<'$'xy\n;")) ∷
    (codes "a <<E\n\"'\nE", Some (codes ". a <<\"'\n;")) ∷
    (codes "a <<E\n${b-\"c\"}\nE", Some (codes ". a <<${b-!quote 10-11!c!quote 12-13!}\n;")) ∷
    (codes "a <<E\n`b`\nE", Some (codes ". a <<$(. b;)\n;")) ∷
    (codes "a <<E\n$((1))\nE", Some (codes ". a <<$((9-10))\n;")) ∷
    (codes "a <<-E\n\t$$\n\tE", Some (codes ". a <<!special 8-10!\n;")) ∷
    (codes "a <<E\n$(b <<F\n$$\nF\n)\nE", Some (codes ". a <<$(. b <<!special 14-16!\n;)\n;")) ∷
    (codes "a `b; $$`", Some (codes ". a $(. b;. !special 6-8!;);")) ∷
    (codes "a <<E\n$(b\nE", None) ∷
    (codes "a 12<<E\nb\nE", Some (codes ". a !descriptor 2-7!b\n;")) ∷
    (codes "a `b <<E\n$$\nE\n`", Some (codes ". a $(. b <<!special 9-11!\n;);")) ∷ []

documents_read : map (λ r. shown r.0) documents ≡ map (λ r. r.1) documents
unfolding number_of sign_of longer is_gap reduce parse read vals vals_twice begins_name continues_name clear comment_end gap is_special_param is_meta is_ended is_quote is_active is_plain is_escaped_in is_escaped opens_glob opens_process expands is_literal literal_run literal_in begins_unit unit_starts unit_starts_in name_run digit_run idle quoted_run letter ansi_from code semi_at and_at pipe_at here_at less_at great_at front token is_token key_text is_key is_word_of compound_words command_words other_words declaring_words unary_tests binary_tests here_next copy_next both_next redirect_next plain_next simple_next compound_next command_next pipeline_next sum_command_next parens_next name_at tilde_at tilde_next short_param_at special_at behind_two dollar_name dollar_short brace_name length_name pointed_name brace_special brace_next dollar_sum sum_next subst_next old_next ansi_next locale_next expansion_next members_at names_at fill_at trim_at case_at replace_at is_transform transform_at slice_at delimiter_from delimiter_at delimiter_for body_from body_at behind_quotes ahead place_of place_behind stretch_run outcome marks equals_at bodies_at tick_run ticks_at run_step assign_at indexed_next holds bash next_piece nodes_in nodes_from
documents_read = refl

-- (3.5.6, 3.5.8.1)
abbrev refused_units : List Row
refused_units =
    (codes "<(a)b", Some (codes ". !process 0-4!b;")) ∷
    (codes "a<(b)", Some (codes ". a!process 1-5!;")) ∷
    (codes "a < (b)", None) ∷
    (codes "?(a)", Some (codes ". !glob 0-4!;")) ∷
    (codes "!(a)", Some (codes ". !glob 0-4!;")) ∷
    (codes "a@(b(c)d)e", Some (codes ". a!glob 1-9!e;")) ∷
    (codes "@(a", None) ∷
    (codes "${a#@(b}", Some (codes ". ${a#!glob 4-6!b};")) ∷
    (codes "$[a[1]]", Some (codes ". !old 0-7!;")) ∷
    (codes "$[1", None) ∷
    (codes "~ ~a a~", Some (codes ". {~} ~a a~;")) ∷
    (codes "a=~ b=~c ~/d", Some (codes ". [a={~}] [b=~c] {~}/d;")) ∷
    (codes "export a=~", Some (codes ". export a=~;")) ∷ []

refused_units_read : map (λ r. shown r.0) refused_units ≡ map (λ r. r.1) refused_units
unfolding number_of sign_of longer is_gap reduce parse read vals vals_twice begins_name continues_name clear comment_end gap is_special_param is_meta is_ended is_quote is_active is_plain is_escaped_in is_escaped opens_glob opens_process expands is_literal literal_run literal_in begins_unit unit_starts unit_starts_in name_run digit_run idle quoted_run letter ansi_from code semi_at and_at pipe_at here_at less_at great_at front token is_token key_text is_key is_word_of compound_words command_words other_words declaring_words unary_tests binary_tests here_next copy_next both_next redirect_next plain_next simple_next compound_next command_next pipeline_next sum_command_next parens_next name_at tilde_at tilde_next short_param_at special_at behind_two dollar_name dollar_short brace_name length_name pointed_name brace_special brace_next dollar_sum sum_next subst_next old_next ansi_next locale_next expansion_next members_at names_at fill_at trim_at case_at replace_at is_transform transform_at slice_at delimiter_from delimiter_at delimiter_for body_from body_at behind_quotes ahead place_of place_behind stretch_run outcome marks equals_at bodies_at tick_run ticks_at run_step assign_at indexed_next holds bash next_piece nodes_in nodes_from
refused_units_read = refl
