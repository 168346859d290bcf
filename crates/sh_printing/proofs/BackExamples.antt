-- Scripts that can be printed and scripts that can't, worked out.
use Rattle.std.specs.Prelude.{◌≡◌, Bool, true, false, List, [], ◌∷◌, map, Some, None, refl, codes}
use Rattle.span_text.specs.Names.{begins_name, continues_name}
use Rattle.sh_grammar.specs.Shape.{Script, plain, exact, double, tilde, param, named, digits, count, as_is, length_of, fill, trim, default, subst, no_part, part, Parts, no_word, word, value, no_assign, assign, no_redirect, redirect, write, here_expanded, here_literal, Command, command, Kind, simple, subshell, group, cases, function, copy_in, no_item, item, no_stage, stage, pipeline, no_link, chain, no_chain, next_chain}
use Rattle.sh_grammar.specs.Bytes.{Text, clear, is_special_param, expands, is_meta, is_active, is_plain, is_escaped, has_single, has_double, fill_context, trim_context, is_literal}
use Rattle.sh_grammar.specs.Tokens.{key_text}
use Rattle.sh_printing.specs.Printable.{script_printable}

abbrev one : Command → Script
one c = next_chain (chain (pipeline false (stage c no_stage)) no_link) no_chain

abbrev does : Kind → Script
does k = one (command k no_redirect)

abbrev w : Text → Parts
w text = part (plain text) no_part

abbrev calls : Text → Kind
calls name = simple no_assign (word (w name) no_word)

abbrev says : Parts → Script
says ps = does (simple no_assign (word (w (codes "a")) (word ps no_word)))

-- each with whether it can be printed
abbrev rows : List (Script × Bool)
rows =
    (does (calls (codes "a")), true) ∷
    (does (calls (codes "if")), false) ∷
    (one (command (calls (codes "if")) (redirect None write (w (codes "b")) no_redirect)), true) ∷
    (does (calls (codes "a=b")), false) ∷
    (does (simple (assign (codes "a") (value (w (codes "b"))) no_assign) (word (w (codes "if")) no_word)), true) ∷
    (says (w (codes "#")), false) ∷
    (says (w (codes "a#")), true) ∷
    (says (part tilde (w (codes "/a"))), true) ∷
    (says (w (codes "~/a")), false) ∷
    (says (part tilde (w (codes "a"))), false) ∷
    (says (part (plain (codes "a")) (w (codes "b"))), false) ∷
    (says (part (plain (codes "$")) (part (param (named (codes "b")) as_is) no_part)), false) ∷
    (says (part (double (part (exact (codes "$")) no_part)) no_part), true) ∷
    (says (part (double (part (exact (codes "a")) no_part)) no_part), false) ∷
    (says (part (exact (codes "a'")) no_part), false) ∷
    (says (part (param count length_of) no_part), true) ∷
    (says (part (param count (fill default false no_part)) no_part), false) ∷
    (says (part (param (named (codes "a")) (trim false false (w (codes "#b")))) no_part), false) ∷
    (says (part (param (digits (codes "10")) as_is) no_part), true) ∷
    (says (part (subst no_chain) no_part), true) ∷
    (one (command (calls (codes "a")) (redirect None here_expanded (w (codes "x\n")) no_redirect)), true) ∷
    (one (command (calls (codes "a")) (redirect None here_expanded (w (codes "x")) no_redirect)), false) ∷
    (one (command (calls (codes "a")) (redirect None here_literal (w (codes "$\n")) no_redirect)), true) ∷
    (one (command (calls (codes "a")) (redirect (Some 10) copy_in (w (codes "1")) no_redirect)), false) ∷
    (does (subshell no_chain), false) ∷
    (does (group (does (calls (codes "a")))), true) ∷
    (does (cases (w (codes "x")) (item (word (w (codes "esac")) no_word) no_chain no_item)), true) ∷
    (does (function (codes "f") (command (group (does (calls (codes "a")))) no_redirect)), true) ∷
    (does (function (codes "f") (command (calls (codes "a")) no_redirect)), false) ∷ []

rows_are : map (λ r. script_printable r.0) rows ≡ map (λ r. r.1) rows
unfolding begins_name continues_name clear is_special_param expands is_meta is_active is_plain is_escaped has_single has_double fill_context trim_context is_literal key_text
rows_are = refl
