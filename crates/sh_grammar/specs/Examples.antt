-- Texts and their scripts, worked out by the table.
use Rattle.std.specs.Prelude.{◌≡◌, ℕ, true, false, List, [], ◌∷◌, ◌-◌, length, map, Option, Some, None, refl, codes}
use Rattle.span_text.specs.Names.{begins_name, continues_name}
use Rattle.text_grammar.specs.Values.{vals}
use Rattle.text_grammar.specs.Reading.{parse, read}
use Rattle.text_grammar.specs.Later.{vals_twice}
use Rattle.text_grammar.specs.Place.{front_in}
use Rattle.text_grammar.specs.Place as place
use Rattle.sh_grammar.specs.Shape.{Script, plain, exact, double, tilde, param, named, digits, as_is, length_of, fill, trim, default, subst, no_part, part, Parts, no_word, word, no_value, value, no_assign, assign, no_redirect, redirect, write, here_expanded, here_literal, Command, command, Kind, simple, subshell, group, cases, walk, branching, branch, no_branch, no_else, function, parameters, listed, loop, copy_in, no_item, item, no_stage, stage, pipeline, no_link, and_link, or_link, chain, no_chain, next_chain}
use Rattle.sh_grammar.specs.Bytes.{Text, is_literal, clear, comment_end, gap, is_special_param, expands, is_meta, is_active, is_plain, is_escaped, has_single, has_double, fill_context, trim_context, literal_run, begins_unit, unit_starts, name_run, digit_run, idle}
use Rattle.sh_grammar.specs.Tokens.{front, token, is_token, code, semi_at, and_at, pipe_at, here_at, less_at, great_at, key_text, is_key, here_next, copy_next, redirect_next, name_next, simple_next, compound_next, command_next, pipeline_next, name_at, assign_at, assign_next, function_next, tilde_at, tilde_next}
use Rattle.sh_grammar.specs.Expansions.{◌>>=◌, param_at, long_param_at, head_at, behind_two, dollar_param, dollar_head, dollar_sum, subst_next, sum_next, brace_next, closed_next, filling_next}
use Rattle.sh_grammar.specs.Bodies.{delimiter_from, delimiter_at, delimiter_for, body_from, body_at, bodies_at}
use Rattle.sh_grammar.specs.State.{State, start_at, Node, chains_in}
use Rattle.sh_grammar.specs.Steps.{run_step, holds, quoted_run}
use Rattle.sh_grammar.specs.Spelling.{sh}
use Rattle.sh_grammar.specs.Sums.{sum_run}
use Rattle.sh_grammar.specs.Pieces.{next_piece, nodes_in, nodes_from, stop_from}

abbrev seen : Option (List Node × State) → Option (Script × Text)
seen o = o >>= λ x. Some (chains_in x.0, x.1.bytes)

-- the script of the first piece of a text, and what follows the piece
abbrev first : Text → Option (Script × Text)
first text = seen (next_piece (start_at 0 text))

abbrev one : Command → Script
one c = next_chain (chain (pipeline false (stage c no_stage)) no_link) no_chain

-- a command without redirections
abbrev does : Kind → Script
does k = one (command k no_redirect)

abbrev w : Text → Parts
w text = part (plain text) no_part

-- a text and what its first piece gives
abbrev Row : Type 0
Row = Text × Option (Script × Text)

-- a command of one word
abbrev calls : Text → Kind
calls name = simple no_assign (word (w name) no_word)

-- a text that is one word
abbrev says : Parts → Option (Script × Text)
says ps = Some (does (simple no_assign (word ps no_word)), [])

-- simple commands: assignments, words, redirections (2.7, 2.9.1)
abbrev simple_commands : List Row
simple_commands =
    (codes "a b", Some (does (simple no_assign (word (w (codes "a")) (word (w (codes "b")) no_word))), [])) ∷
    (codes "a=b c", Some (does (simple (assign (codes "a") (value (w (codes "b"))) no_assign) (word (w (codes "c")) no_word)), [])) ∷
    (codes "a= >b", Some (one (command (simple (assign (codes "a") no_value no_assign) no_word) (redirect None write (w (codes "b")) no_redirect)), [])) ∷
    (codes "2>a", Some (one (command (simple no_assign no_word) (redirect (Some 2) write (w (codes "a")) no_redirect)), [])) ∷
    (codes "22>a", None) ∷
    (codes "a >2>b", None) ∷
    (codes "a <&-", Some (one (command (calls (codes "a")) (redirect None copy_in (w (codes "-")) no_redirect)), [])) ∷
    (codes "a >&b", None) ∷
    (codes "a esac", Some (does (simple no_assign (word (w (codes "a")) (word (w (codes "esac")) no_word))), [])) ∷
    (codes "esac", None) ∷
    (codes "a #b", Some (does (calls (codes "a")), [])) ∷
    (codes "a\nb", Some (does (calls (codes "a")), codes "b")) ∷
    (codes "\na", Some (no_chain, codes "a")) ∷ []

simple_commands_read : map (λ r. first r.0) simple_commands ≡ map (λ r. r.1) simple_commands
unfolding parse read vals vals_twice sh run_step holds quoted_run front token is_token code semi_at and_at pipe_at here_at less_at great_at key_text is_key here_next copy_next redirect_next name_next simple_next compound_next command_next pipeline_next name_at assign_at assign_next function_next tilde_at tilde_next is_literal clear comment_end gap is_special_param expands is_meta is_active is_plain is_escaped has_single has_double fill_context trim_context literal_run begins_unit unit_starts name_run digit_run idle param_at long_param_at head_at behind_two dollar_param dollar_head dollar_sum subst_next sum_next brace_next closed_next filling_next delimiter_from delimiter_at delimiter_for body_from body_at bodies_at begins_name continues_name sum_run next_piece
simple_commands_read = refl

-- here-documents (2.7.4)
abbrev here_documents : List Row
here_documents =
    (codes "a <<E\nx\nE\nb", Some (one (command (calls (codes "a")) (redirect None here_expanded (w (codes "x\n")) no_redirect)), codes "b")) ∷
    (codes "a <<'E'\n$\nE", Some (one (command (calls (codes "a")) (redirect None here_literal (w (codes "$\n")) no_redirect)), [])) ∷
    (codes "a <<-E\n\t$b\n\tE\n", Some (one (command (calls (codes "a")) (redirect None here_expanded (part (param (named (codes "b")) as_is) (w (codes "\n"))) no_redirect)), [])) ∷
    (codes "a <<E\nx\n", None) ∷ []

here_documents_read : map (λ r. first r.0) here_documents ≡ map (λ r. r.1) here_documents
unfolding parse read vals vals_twice sh run_step holds quoted_run front token is_token code semi_at and_at pipe_at here_at less_at great_at key_text is_key here_next copy_next redirect_next name_next simple_next compound_next command_next pipeline_next name_at assign_at assign_next function_next tilde_at tilde_next is_literal clear comment_end gap is_special_param expands is_meta is_active is_plain is_escaped has_single has_double fill_context trim_context literal_run begins_unit unit_starts name_run digit_run idle param_at long_param_at head_at behind_two dollar_param dollar_head dollar_sum subst_next sum_next brace_next closed_next filling_next delimiter_from delimiter_at delimiter_for body_from body_at bodies_at begins_name continues_name sum_run next_piece
here_documents_read = refl

-- compound commands and functions (2.9.4, 2.9.5)
abbrev compound_commands : List Row
compound_commands =
    (codes "(a)", Some (does (subshell (does (calls (codes "a")))), [])) ∷
    (codes "((a))", Some (does (subshell (does (subshell (does (calls (codes "a")))))), [])) ∷
    (codes "{ a; }", Some (does (group (does (calls (codes "a")))), [])) ∷
    (codes "{ a }", None) ∷
    (codes "{a", Some (does (calls (codes "{a")), [])) ∷
    (codes "if a; then b; fi", Some (does (branching (branch (does (calls (codes "a"))) (does (calls (codes "b"))) no_branch) no_else), [])) ∷
    (codes "for x do a; done", Some (does (walk (codes "x") parameters (does (calls (codes "a")))), [])) ∷
    (codes "for x in a; do b; done", Some (does (walk (codes "x") (listed (word (w (codes "a")) no_word)) (does (calls (codes "b")))), [])) ∷
    (codes "until a; do b; done", Some (does (loop true (does (calls (codes "a"))) (does (calls (codes "b")))), [])) ∷
    (codes "case x in esac", Some (does (cases (w (codes "x")) no_item), [])) ∷
    (codes "case x in y) a; esac", Some (does (cases (w (codes "x")) (item (word (w (codes "y")) no_word) (does (calls (codes "a"))) no_item)), [])) ∷
    (codes "case x in y) ;; esac", Some (does (cases (w (codes "x")) (item (word (w (codes "y")) no_word) no_chain no_item)), [])) ∷
    (codes "case x in y) a esac", None) ∷
    (codes "f() { a; }", Some (one (command (function (codes "f") (command (group (does (calls (codes "a")))) no_redirect)) no_redirect), [])) ∷
    (codes "f() a", None) ∷ []

compound_commands_read : map (λ r. first r.0) compound_commands ≡ map (λ r. r.1) compound_commands
unfolding parse read vals vals_twice sh run_step holds quoted_run front token is_token code semi_at and_at pipe_at here_at less_at great_at key_text is_key here_next copy_next redirect_next name_next simple_next compound_next command_next pipeline_next name_at assign_at assign_next function_next tilde_at tilde_next is_literal clear comment_end gap is_special_param expands is_meta is_active is_plain is_escaped has_single has_double fill_context trim_context literal_run begins_unit unit_starts name_run digit_run idle param_at long_param_at head_at behind_two dollar_param dollar_head dollar_sum subst_next sum_next brace_next closed_next filling_next delimiter_from delimiter_at delimiter_for body_from body_at bodies_at begins_name continues_name sum_run next_piece
compound_commands_read = refl

-- lists and pipelines (2.9.2, 2.9.3)
abbrev lists : List Row
lists =
    (codes "a && ! b", Some (next_chain (chain (pipeline false (stage (command (calls (codes "a")) no_redirect) no_stage)) (and_link (pipeline true (stage (command (calls (codes "b")) no_redirect) no_stage)) no_link)) no_chain, [])) ∷
    (codes "a || b", Some (next_chain (chain (pipeline false (stage (command (calls (codes "a")) no_redirect) no_stage)) (or_link (pipeline false (stage (command (calls (codes "b")) no_redirect) no_stage)) no_link)) no_chain, [])) ∷
    (codes "a && b | ! c", None) ∷
    (codes "a | b", Some (next_chain (chain (pipeline false (stage (command (calls (codes "a")) no_redirect) (stage (command (calls (codes "b")) no_redirect) no_stage))) no_link) no_chain, [])) ∷
    (codes "a; b;", Some (next_chain (chain (pipeline false (stage (command (calls (codes "a")) no_redirect) no_stage)) no_link) (next_chain (chain (pipeline false (stage (command (calls (codes "b")) no_redirect) no_stage)) no_link) no_chain), [])) ∷
    (codes "a &\\\n& b", Some (next_chain (chain (pipeline false (stage (command (calls (codes "a")) no_redirect) no_stage)) (and_link (pipeline false (stage (command (calls (codes "b")) no_redirect) no_stage)) no_link)) no_chain, [])) ∷
    (codes "a;;", None) ∷
    (codes "a & b", None) ∷ []

lists_read : map (λ r. first r.0) lists ≡ map (λ r. r.1) lists
unfolding parse read vals vals_twice sh run_step holds quoted_run front token is_token code semi_at and_at pipe_at here_at less_at great_at key_text is_key here_next copy_next redirect_next name_next simple_next compound_next command_next pipeline_next name_at assign_at assign_next function_next tilde_at tilde_next is_literal clear comment_end gap is_special_param expands is_meta is_active is_plain is_escaped has_single has_double fill_context trim_context literal_run begins_unit unit_starts name_run digit_run idle param_at long_param_at head_at behind_two dollar_param dollar_head dollar_sum subst_next sum_next brace_next closed_next filling_next delimiter_from delimiter_at delimiter_for body_from body_at bodies_at begins_name continues_name sum_run next_piece
lists_read = refl

-- words (2.2, 2.6)
abbrev parts : List Row
parts =
    (codes "a\\\nb", says (w (codes "ab"))) ∷
    (codes "'a b'\\c", says (part (exact (codes "a b")) (part (exact (codes "c")) no_part))) ∷
    (codes "~/a", says (part tilde (w (codes "/a")))) ∷
    (codes "a$", says (w (codes "a$"))) ∷
    (codes "\"a$b\"", says (part (double (part (plain (codes "a")) (part (param (named (codes "b")) as_is) no_part))) no_part)) ∷
    (codes "$1a", says (part (param (digits (codes "1")) as_is) (w (codes "a")))) ∷
    (codes "${#a}", says (part (param (named (codes "a")) length_of) no_part)) ∷
    (codes "${a:-b}", says (part (param (named (codes "a")) (fill default true (w (codes "b")))) no_part)) ∷
    (codes "${x%\"}\"}", says (part (param (named (codes "x")) (trim true false (part (double (w (codes "}"))) no_part))) no_part)) ∷
    (codes "\"$(a \"b\")\"", says (part (double (part (subst (does (simple no_assign (word (w (codes "a")) (word (part (double (w (codes "b"))) no_part) no_word))))) no_part)) no_part)) ∷
    (codes "`a`", None) ∷
    (codes "$$", None) ∷
    (codes "$((1)", None) ∷
    (codes "\"a", None) ∷
    (codes "'a", None) ∷ []

parts_read : map (λ r. first r.0) parts ≡ map (λ r. r.1) parts
unfolding parse read vals vals_twice sh run_step holds quoted_run front token is_token code semi_at and_at pipe_at here_at less_at great_at key_text is_key here_next copy_next redirect_next name_next simple_next compound_next command_next pipeline_next name_at assign_at assign_next function_next tilde_at tilde_next is_literal clear comment_end gap is_special_param expands is_meta is_active is_plain is_escaped has_single has_double fill_context trim_context literal_run begins_unit unit_starts name_run digit_run idle param_at long_param_at head_at behind_two dollar_param dollar_head dollar_sum subst_next sum_next brace_next closed_next filling_next delimiter_from delimiter_at delimiter_for body_from body_at bodies_at begins_name continues_name sum_run next_piece
parts_read = refl

-- ---- whole texts

-- the script of a text
abbrev script_of : Text → Option Script
script_of text = nodes_from (start_at 0 text) >>= λ ns. Some (chains_in ns)

abbrev whole_texts : List (Text × Option Script)
whole_texts =
    (codes "a\n# b\nc;d", Some (next_chain (chain (pipeline false (stage (command (calls (codes "a")) no_redirect) no_stage)) no_link) (next_chain (chain (pipeline false (stage (command (calls (codes "c")) no_redirect) no_stage)) no_link) (next_chain (chain (pipeline false (stage (command (calls (codes "d")) no_redirect) no_stage)) no_link) no_chain)))) ∷
    (codes " \n", Some no_chain) ∷
    (codes "", Some no_chain) ∷
    (codes "a &", None) ∷ []

whole_texts_read : map (λ r. script_of r.0) whole_texts ≡ map (λ r. r.1) whole_texts
unfolding parse read vals vals_twice sh run_step holds quoted_run front token is_token code semi_at and_at pipe_at here_at less_at great_at key_text is_key here_next copy_next redirect_next name_next simple_next compound_next command_next pipeline_next name_at assign_at assign_next function_next tilde_at tilde_next is_literal clear comment_end gap is_special_param expands is_meta is_active is_plain is_escaped has_single has_double fill_context trim_context literal_run begins_unit unit_starts name_run digit_run idle param_at long_param_at head_at behind_two dollar_param dollar_head dollar_sum subst_next sum_next brace_next closed_next filling_next delimiter_from delimiter_at delimiter_for body_from body_at bodies_at begins_name continues_name sum_run next_piece nodes_in nodes_from stop_from front_in place.front
whole_texts_read = refl

-- where the pieces of a text stop
abbrev place_of : Text → ℕ
place_of text = length text - length (idle (stop_from (start_at 0 text)).bytes)

-- texts that spell no script, and their places
abbrev wrong_texts : List (Text × ℕ)
wrong_texts =
    (codes ")", 0) ∷
    (codes "a\n (b", 3) ∷
    (codes "a\n\n# b\n\\\n)", 9) ∷
    (codes "a\nb; )\n", 2) ∷
    (codes "a <<E\nx\n", 0) ∷ []

wrong_texts_stop : map {B = Option Script × ℕ} (λ r. (script_of r.0, place_of r.0)) wrong_texts ≡ map {B = Option Script × ℕ} (λ r. (None, r.1)) wrong_texts
unfolding parse read vals vals_twice sh run_step holds quoted_run front token is_token code semi_at and_at pipe_at here_at less_at great_at key_text is_key here_next copy_next redirect_next name_next simple_next compound_next command_next pipeline_next name_at assign_at assign_next function_next tilde_at tilde_next is_literal clear comment_end gap is_special_param expands is_meta is_active is_plain is_escaped has_single has_double fill_context trim_context literal_run begins_unit unit_starts name_run digit_run idle param_at long_param_at head_at behind_two dollar_param dollar_head dollar_sum subst_next sum_next brace_next closed_next filling_next delimiter_from delimiter_at delimiter_for body_from body_at bodies_at begins_name continues_name sum_run next_piece nodes_in nodes_from stop_from front_in place.front
wrong_texts_stop = refl
