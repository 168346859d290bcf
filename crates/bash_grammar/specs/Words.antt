-- Texts and their scripts, worked out by the table: words.
use Rattle.std.specs.Prelude.{◌≡◌, List, [], ◌∷◌, map, Option, Some, None, refl, codes}
use Rattle.span_text.specs.Constant.{number_of}
use Rattle.span_text.specs.ExprTokens.{sign_of, longer, is_gap}
use Rattle.span_text.specs.Names.{begins_name, continues_name}
use Rattle.arith64.specs.Parsing.{reduce}
use Rattle.text_grammar.specs.Values.{vals}
use Rattle.text_grammar.specs.Reading.{parse, read}
use Rattle.text_grammar.specs.Later.{vals_twice}
use Rattle.bash_grammar.specs.Bytes.{Text, clear, comment_end, gap, is_special_param, is_meta, is_ended, is_quote, is_active, is_plain, is_escaped_in, is_escaped, opens_glob, opens_process, expands, is_literal, literal_run, literal_in, begins_unit, unit_starts, unit_starts_in, name_run, digit_run, idle}
use Rattle.bash_grammar.specs.Quotes.{quoted_run, letter, ansi_from}
use Rattle.bash_grammar.specs.Tokens.{◌>>=◌, code, semi_at, and_at, pipe_at, here_at, less_at, great_at, front, token, is_token, key_text, is_key, is_word_of, compound_words, command_words, other_words, declaring_words, unary_tests, binary_tests, here_next, copy_next, both_next, redirect_next, plain_next, simple_next, compound_next, command_next, pipeline_next, sum_command_next, parens_next, name_at, tilde_at, tilde_next}
use Rattle.bash_grammar.specs.Heads.{short_param_at, special_at, behind_two, dollar_name, dollar_short, brace_name, length_name, pointed_name, brace_special, brace_next, dollar_sum, sum_next, subst_next, old_next, ansi_next, locale_next, expansion_next, members_at, names_at, fill_at, trim_at, case_at, replace_at, is_transform, transform_at, slice_at}
use Rattle.bash_grammar.specs.Bodies.{delimiter_from, delimiter_at, delimiter_for, body_from, body_at}
use Rattle.bash_grammar.specs.State.{behind_quotes, ahead, place_of, place_behind, start_at}
use Rattle.bash_grammar.specs.Sums.{stretch_run, outcome, marks}
use Rattle.bash_grammar.specs.Nodes.{chains_in}
use Rattle.bash_grammar.specs.Steps.{equals_at, bodies_at, tick_run, ticks_at, run_step}
use Rattle.bash_grammar.specs.Tests.{assign_at, indexed_next, holds}
use Rattle.bash_grammar.specs.Spelling.{bash}
use Rattle.bash_grammar.specs.Pieces.{next_piece, nodes_in, nodes_from}
use Rattle.bash_grammar.specs.Shown.{script_text}

abbrev shown : Text → Option Text
shown text = nodes_from (start_at text) >>= λ ns. Some (script_text (chains_in ns))

-- a text, and its script written out, if it spells one
abbrev Row : Type 0
Row = Text × Option Text

-- (3.1.2)
abbrev quotes : List Row
quotes =
    (codes "'a b'\\c\"d$e\"", Some (codes ". 'a b''c'\"d${e}\";")) ∷
    (codes "$'a\\x41\\n'", Some (codes ". 'aA\n';")) ∷
    (codes "a$'b\\c'", Some (codes ". a!ansi 4-7!;")) ∷
    (codes "$\"a\"", Some (codes ". !locale 0-4!;")) ∷
    (codes "\"a", None) ∷
    (codes "'a", None) ∷
    (codes "\"\\a\\$\"", Some (codes ". \"\\a'$'\";")) ∷
    (codes "\"$'a'\"", Some (codes ". \"$'a'\";")) ∷ []

quotes_read : map (λ r. shown r.0) quotes ≡ map (λ r. r.1) quotes
unfolding number_of sign_of longer is_gap reduce parse read vals vals_twice begins_name continues_name clear comment_end gap is_special_param is_meta is_ended is_quote is_active is_plain is_escaped_in is_escaped opens_glob opens_process expands is_literal literal_run literal_in begins_unit unit_starts unit_starts_in name_run digit_run idle quoted_run letter ansi_from code semi_at and_at pipe_at here_at less_at great_at front token is_token key_text is_key is_word_of compound_words command_words other_words declaring_words unary_tests binary_tests here_next copy_next both_next redirect_next plain_next simple_next compound_next command_next pipeline_next sum_command_next parens_next name_at tilde_at tilde_next short_param_at special_at behind_two dollar_name dollar_short brace_name length_name pointed_name brace_special brace_next dollar_sum sum_next subst_next old_next ansi_next locale_next expansion_next members_at names_at fill_at trim_at case_at replace_at is_transform transform_at slice_at delimiter_from delimiter_at delimiter_for body_from body_at behind_quotes ahead place_of place_behind stretch_run outcome marks equals_at bodies_at tick_run ticks_at run_step assign_at indexed_next holds bash next_piece nodes_in nodes_from
quotes_read = refl

-- (3.4, 3.5.3)
abbrev parameters : List Row
parameters =
    (codes "$a${b}$1$#${10}", Some (codes ". ${a}${b}${1}${#}${10};")) ∷
    (codes "$$ $_", Some (codes ". !special 0-2! !special 3-5!;")) ∷
    (codes "a$ $%", Some (codes ". a$ $%;")) ∷
    (codes "${a:-b c}", Some (codes ". ${a:-b c};")) ∷
    (codes "${a##b*}", Some (codes ". ${a##b*};")) ∷
    (codes "${a//b/c}", Some (codes ". ${a//b/c};")) ∷
    (codes "${a/b}", Some (codes ". ${a/b/};")) ∷
    (codes "${a^^}", Some (codes ". ${a^^};")) ∷
    (codes "${a^b}", Some (codes ". !case 0-6!;")) ∷
    (codes "${a:1:-2}", Some (codes ". ${a:4-5:6-8};")) ∷
    (codes "${a: -1}", Some (codes ". ${a:4-7:};")) ∷
    (codes "${a:}", Some (codes ". !arith 4-5!;")) ∷
    (codes "${#a} ${#a[@]} ${!a[@]} ${a[1]} ${a[b]-c}", Some (codes ". ${#a} ${#a[@]} ${!a[@]} ${a[1]} ${a[b]-c};")) ∷
    (codes "${!a} ${!a*} ${a@Q}", Some (codes ". !indirect 0-5! !indirect 6-12! !indirect 13-19!;")) ∷
    (codes "${a?b}", Some (codes ". !error 0-6!;")) ∷
    (codes "${#-b} ${#-}", Some (codes ". ${#-b} !special 7-12!;")) ∷
    (codes "\"${a-'b'}\"", Some (codes ". \"${a-!quote 5-8!}\";")) ∷
    (codes "\"${a%'b'}\"", Some (codes ". \"${a%'b'}\";")) ∷
    (codes "${a", None) ∷
    (codes "${a b}", None) ∷ []

parameters_read : map (λ r. shown r.0) parameters ≡ map (λ r. r.1) parameters
unfolding number_of sign_of longer is_gap reduce parse read vals vals_twice begins_name continues_name clear comment_end gap is_special_param is_meta is_ended is_quote is_active is_plain is_escaped_in is_escaped opens_glob opens_process expands is_literal literal_run literal_in begins_unit unit_starts unit_starts_in name_run digit_run idle quoted_run letter ansi_from code semi_at and_at pipe_at here_at less_at great_at front token is_token key_text is_key is_word_of compound_words command_words other_words declaring_words unary_tests binary_tests here_next copy_next both_next redirect_next plain_next simple_next compound_next command_next pipeline_next sum_command_next parens_next name_at tilde_at tilde_next short_param_at special_at behind_two dollar_name dollar_short brace_name length_name pointed_name brace_special brace_next dollar_sum sum_next subst_next old_next ansi_next locale_next expansion_next members_at names_at fill_at trim_at case_at replace_at is_transform transform_at slice_at delimiter_from delimiter_at delimiter_for body_from body_at behind_quotes ahead place_of place_behind stretch_run outcome marks equals_at bodies_at tick_run ticks_at run_step assign_at indexed_next holds bash next_piece nodes_in nodes_from
parameters_read = refl

-- (3.5.4, 3.5.5)
abbrev substitutions : List Row
substitutions =
    (codes "$(a;b)", Some (codes ". $(. a;. b;);")) ∷
    (codes "$( )", Some (codes ". $();")) ∷
    (codes "$(<a)", Some (codes ". !readsub 0-5!;")) ∷
    (codes "$(case x in y) z;; esac)", Some (codes ". $(case x in y) . z; ;; esac;);")) ∷
    (codes "`a`", Some (codes ". $(. a;);")) ∷
    (codes "`a \\b`", Some (codes ". !backquote 0-6!;")) ∷
    (codes "`a", None) ∷
    (codes "$((1+$a))", Some (codes ". $((3-7 ${a}));")) ∷
    (codes "$((1)", None) ∷
    (codes "$((1) )", None) ∷
    (codes "$(( 'a' ))", Some (codes ". !arith 4-10!;")) ∷
    (codes "$[1]", Some (codes ". !old 0-4!;")) ∷
    (codes "@(a b)c", Some (codes ". !glob 0-6!c;")) ∷
    (codes "\"`a \"b\"`\"", Some (codes ". \"!backquote 1-8!\";")) ∷
    (codes "$(a", None) ∷ []

substitutions_read : map (λ r. shown r.0) substitutions ≡ map (λ r. r.1) substitutions
unfolding number_of sign_of longer is_gap reduce parse read vals vals_twice begins_name continues_name clear comment_end gap is_special_param is_meta is_ended is_quote is_active is_plain is_escaped_in is_escaped opens_glob opens_process expands is_literal literal_run literal_in begins_unit unit_starts unit_starts_in name_run digit_run idle quoted_run letter ansi_from code semi_at and_at pipe_at here_at less_at great_at front token is_token key_text is_key is_word_of compound_words command_words other_words declaring_words unary_tests binary_tests here_next copy_next both_next redirect_next plain_next simple_next compound_next command_next pipeline_next sum_command_next parens_next name_at tilde_at tilde_next short_param_at special_at behind_two dollar_name dollar_short brace_name length_name pointed_name brace_special brace_next dollar_sum sum_next subst_next old_next ansi_next locale_next expansion_next members_at names_at fill_at trim_at case_at replace_at is_transform transform_at slice_at delimiter_from delimiter_at delimiter_for body_from body_at behind_quotes ahead place_of place_behind stretch_run outcome marks equals_at bodies_at tick_run ticks_at run_step assign_at indexed_next holds bash next_piece nodes_in nodes_from
substitutions_read = refl
