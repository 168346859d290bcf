-- Texts and their whole scripts, with the places of all nodes, worked out by the table.
use Rattle.std.specs.Prelude.{◌≡◌, ℕ, false, List, [], ◌∷◌, map, Option, Some, None, refl, codes, pos}
use Rattle.span_text.specs.declared.span.Span.{Span}
use Rattle.span_text.specs.declared.expr.BinOp.TheVariants.{Add}
use Rattle.span_text.specs.declared.expr.Expr.TheVariants as expr
use Rattle.span_text.specs.Constant.{number_of}
use Rattle.span_text.specs.ExprTokens.{sign_of, longer, is_gap}
use Rattle.span_text.specs.Names.{begins_name, continues_name}
use Rattle.arith64.specs.Parsing.{reduce}
use Rattle.text_grammar.specs.Values.{vals}
use Rattle.text_grammar.specs.Reading.{parse, read}
use Rattle.text_grammar.specs.Later.{vals_twice}
use Rattle.bash_grammar.specs.Shape.{Name, tilde, plain, double, param, subst, Part, no_part, part, Word, word, no_word, next_word, arith, no_subscript, named, as_is, value, assign, no_assign, next_assign, Redirects, no_redirect, redirect, write, here_expanded, command, Kind, simple, arith_command, no_stage, stage, pipeline, no_link, chain, Script, no_chain, next_chain}
use Rattle.bash_grammar.specs.Bytes.{Text, clear, comment_end, gap, is_special_param, is_meta, is_ended, is_quote, is_active, is_plain, is_escaped_in, is_escaped, opens_glob, opens_process, expands, is_literal, literal_run, literal_in, begins_unit, unit_starts, unit_starts_in, name_run, digit_run, idle}
use Rattle.bash_grammar.specs.Quotes.{quoted_run, letter, ansi_from}
use Rattle.bash_grammar.specs.Tokens.{◌>>=◌, code, semi_at, and_at, pipe_at, here_at, less_at, great_at, front, token, is_token, key_text, is_key, is_word_of, compound_words, command_words, other_words, declaring_words, unary_tests, binary_tests, here_next, copy_next, both_next, redirect_next, plain_next, simple_next, compound_next, command_next, pipeline_next, sum_command_next, parens_next, name_at, tilde_at, tilde_next}
use Rattle.bash_grammar.specs.Heads.{short_param_at, special_at, behind_two, dollar_name, dollar_short, brace_name, length_name, pointed_name, brace_special, brace_next, dollar_sum, sum_next, subst_next, old_next, ansi_next, locale_next, expansion_next, members_at, names_at, fill_at, trim_at, case_at, replace_at, is_transform, transform_at, slice_at}
use Rattle.bash_grammar.specs.Bodies.{delimiter_from, delimiter_at, delimiter_for, body_from, body_at}
use Rattle.bash_grammar.specs.State.{behind_quotes, ahead, place_of, place_behind, start_at}
use Rattle.bash_grammar.specs.Sums.{stretch_run, outcome, marks}
use Rattle.bash_grammar.specs.Nodes.{chains_in}
use Rattle.bash_grammar.specs.Steps.{equals_at, bodies_at, tick_run, ticks_at, run_step}
use Rattle.bash_grammar.specs.Tests.{assign_at, indexed_next, holds}
use Rattle.bash_grammar.specs.Spelling.{bash}
use Rattle.bash_grammar.specs.Pieces.{next_piece, nodes_in, nodes_from}

abbrev script_of : Text → Option Script
script_of text = nodes_from (start_at text) >>= λ ns. Some (chains_in ns)

abbrev at : ℕ → ℕ → Span
at m n = record { from = m; to = n }

abbrev named_at : Text → ℕ → ℕ → Name
named_at text m n = record { text = text; span = at m n }

-- a word of one part, with the same place
abbrev one : Part → Span → Word
one p s = word (part p s no_part) s

-- a command by itself
abbrev alone : Kind → Redirects → Span → Option Span → Script
alone k r s b = next_chain (chain (pipeline false (stage (command k r s) no_stage) []) no_link) b no_chain

abbrev whole_scripts : List (Text × Option Script)
whole_scripts = (
  codes "a=~ $b\"c\" >d &",
  Some (alone
      (simple (next_assign (assign (named_at (codes "a") 0 1) no_subscript false (value (one tilde (at 2 3))) (at 0 3)) no_assign)
      (next_word (word (part (param (named (named_at (codes "b") 5 6)) as_is) (at 4 6) (part (double (part (plain (codes "c")) (at 7 8) no_part)) (at 6 9) no_part)) (at 4 9)) no_word))
      (redirect None write (one (plain (codes "d")) (at 11 12)) (at 10 12) no_redirect) (at 0 12) (Some (at 13 14))),
) ∷ (
  codes "a <<-E\n\tx\\\ny$z\n\tE",
  Some (alone
      (simple no_assign (next_word (one (plain (codes "a")) (at 0 1)) no_word))
      (redirect None here_expanded (word (part (plain (codes "xy")) (at 8 12) (part (param (named (named_at (codes "z") 13 14)) as_is) (at 12 14) (part (plain (codes "\n")) (at 14 15) no_part))) (at 8 15)) (at 2 6) no_redirect) (at 0 6) None),
) ∷ (
  codes "`b c`",
  Some (alone
      (simple no_assign (next_word (one (subst (alone (simple no_assign (next_word (one (plain (codes "b")) (at 1 2)) (next_word (one (plain (codes "c")) (at 3 4)) no_word))) no_redirect (at 1 4) None)) (at 0 5)) no_word))
      no_redirect (at 0 5) None),
) ∷ (
  codes "((x[1]+=$y))",
  Some (alone
      (arith_command (arith (expr.Assign (expr.Member (codes "x") (expr.Constant (pos 1))) (Some Add) (expr.Operand 0)) (next_word (one (param (named (named_at (codes "y") 9 10)) as_is) (at 8 10)) no_word) (named_at (codes "x") 2 3 ∷ []) (at 2 8 ∷ []) (at 2 10)))
      no_redirect (at 0 12) None),
) ∷ []

whole_scripts_read : map (λ r. script_of r.0) whole_scripts ≡ map (λ r. r.1) whole_scripts
unfolding number_of sign_of longer is_gap reduce parse read vals vals_twice begins_name continues_name clear comment_end gap is_special_param is_meta is_ended is_quote is_active is_plain is_escaped_in is_escaped opens_glob opens_process expands is_literal literal_run literal_in begins_unit unit_starts unit_starts_in name_run digit_run idle quoted_run letter ansi_from code semi_at and_at pipe_at here_at less_at great_at front token is_token key_text is_key is_word_of compound_words command_words other_words declaring_words unary_tests binary_tests here_next copy_next both_next redirect_next plain_next simple_next compound_next command_next pipeline_next sum_command_next parens_next name_at tilde_at tilde_next short_param_at special_at behind_two dollar_name dollar_short brace_name length_name pointed_name brace_special brace_next dollar_sum sum_next subst_next old_next ansi_next locale_next expansion_next members_at names_at fill_at trim_at case_at replace_at is_transform transform_at slice_at delimiter_from delimiter_at delimiter_for body_from body_at behind_quotes ahead place_of place_behind stretch_run outcome marks equals_at bodies_at tick_run ticks_at run_step assign_at indexed_next holds bash next_piece nodes_in nodes_from
whole_scripts_read = refl
