-- Scripts and the texts that are printed of them.
use Rattle.std.specs.Prelude.{◌≡◌, true, false, List, [], ◌∷◌, map, None, refl, codes}
use Rattle.span_text.specs.Names.{begins_name, continues_name}
use Rattle.sh_grammar.specs.Shape.{Script, plain, exact, double, tilde, param, named, digits, count, as_is, length_of, fill, trim, default, subst, no_part, part, Parts, no_word, word, value, no_value, no_assign, assign, no_redirect, redirect, Redirects, read, write, append, copy_out, Command, command, Kind, simple, subshell, group, branching, branch, no_branch, otherwise, no_else, loop, walk, listed, parameters, cases, function, no_item, item, no_stage, stage, pipeline, no_link, and_link, or_link, chain, no_chain, next_chain}
use Rattle.sh_grammar.specs.Bytes.{Text, has_single, fill_context, trim_context}
use Rattle.sh_grammar.specs.Tokens.{key_text}
use Rattle.sh_printing.specs.Printing.{printed}

abbrev one : Command → Script
one c = next_chain (chain (pipeline false (stage c no_stage)) no_link) no_chain

abbrev does : Kind → Script
does k = one (command k no_redirect)

abbrev w : Text → Parts
w text = part (plain text) no_part

abbrev calls : Text → Kind
calls name = simple no_assign (word (w name) no_word)

-- `a` with this word
abbrev says : Parts → Script
says ps = does (simple no_assign (word (w (codes "a")) (word ps no_word)))

abbrev into : Text → Redirects
into text = redirect None write (w text) no_redirect

-- each with its text
abbrev Rows : Type 0
Rows = List (Script × Text)

-- ---- simple commands (2.9.1)

-- Behind redirections a reserved word is a command's name; it would be none before them.
abbrev simple_commands : Rows
simple_commands =
    (does (calls (codes "a")), codes "a\n") ∷
    (one (command (calls (codes "a")) (into (codes "x"))), codes "a >x\n") ∷
    (one (command (calls (codes "if")) (into (codes "x"))), codes ">x if\n") ∷
    (one (command (simple no_assign (word (w (codes "if")) (word (w (codes "b")) no_word))) (redirect None read (w (codes "x")) (into (codes "y")))), codes "<x >y if b\n") ∷
    (one (command (simple no_assign (word (w (codes "b")) (word (w (codes "if")) no_word))) (into (codes "x"))), codes "b if >x\n") ∷
    (one (command (simple (assign (codes "a") (value (w (codes "b"))) no_assign) (word (w (codes "if")) no_word)) (into (codes "x"))), codes "a=b if >x\n") ∷
    (does (simple (assign (codes "a") no_value (assign (codes "b") (value (w (codes "c"))) no_assign)) no_word), codes "a= b=c\n") ∷
    (one (command (simple no_assign no_word) (redirect None append (w (codes "x")) (redirect None copy_out (w (codes "1")) no_redirect))), codes ">>x >&1\n") ∷ []

simple_commands_print : map (λ r. printed r.0) simple_commands ≡ map (λ r. r.1) simple_commands
unfolding key_text
simple_commands_print = refl

-- ---- words (2.2, 2.5, 2.6)

abbrev words : Rows
words =
    (says (part (param (named (codes "a")) as_is) (w (codes "b"))), codes "a ${a}b\n") ∷
    (says (part (param (named (codes "a")) as_is) (w (codes "/b"))), codes "a $a/b\n") ∷
    (says (part (param (digits (codes "1")) as_is) (w (codes "0"))), codes "a $10\n") ∷
    (says (part (param (digits (codes "10")) as_is) no_part), codes "a ${10}\n") ∷
    (says (part (param count as_is) no_part), codes "a $#\n") ∷
    (says (part (param (named (codes "a")) length_of) no_part), codes "a ${#a}\n") ∷
    (says (part (param (named (codes "a")) (fill default true (w (codes "b")))) no_part), codes "a ${a:-b}\n") ∷
    (says (part (param (named (codes "a")) (trim true true (w (codes "b")))) no_part), codes "a ${a%%b}\n") ∷
    (says (part (exact (codes "b c")) no_part), codes "a 'b c'\n") ∷
    (says (part (exact (codes "'")) no_part), codes "a \\'\n") ∷
    (says (part (exact []) no_part), codes "a ''\n") ∷
    (says (part (double (part (plain (codes "b")) (part (param (named (codes "c")) as_is) no_part))) no_part), codes "a \"b$c\"\n") ∷
    (says (part (double (part (exact (codes "$")) no_part)) no_part), codes "a \"\\$\"\n") ∷
    (says (part tilde (w (codes "/b"))), codes "a ~/b\n") ∷
    (says (part (subst (does (calls (codes "b")))) no_part), codes "a $( b; )\n") ∷
    (says (part (subst no_chain) no_part), codes "a $( )\n") ∷ []

words_print : map (λ r. printed r.0) words ≡ map (λ r. r.1) words
unfolding key_text begins_name continues_name has_single fill_context trim_context
words_print = refl

-- ---- compound commands, pipelines and lists (2.9.2 to 2.9.5)

abbrev a : Script
a = does (calls (codes "a"))

abbrev b : Script
b = does (calls (codes "b"))

abbrev compound_commands : Rows
compound_commands =
    (does (group a), codes "{ a; }\n") ∷
    (one (command (subshell a) (into (codes "x"))), codes "( a; ) >x\n") ∷
    (does (branching (branch a b no_branch) no_else), codes "if a; then b; fi\n") ∷
    (does (branching (branch a b (branch b a no_branch)) (otherwise b)), codes "if a; then b; elif b; then a; else b; fi\n") ∷
    (does (loop true a b), codes "until a; do b; done\n") ∷
    (does (loop false a b), codes "while a; do b; done\n") ∷
    (does (walk (codes "x") (listed (word (w (codes "a")) no_word)) b), codes "for x in a; do b; done\n") ∷
    (does (walk (codes "x") parameters b), codes "for x do b; done\n") ∷
    (does (cases (w (codes "x")) (item (word (w (codes "y")) (word (w (codes "z")) no_word)) a no_item)), codes "case x in (y | z) a; ;; esac\n") ∷
    (does (function (codes "f") (command (group a) (into (codes "x")))), codes "f() { a; } >x\n") ∷
    (next_chain (chain (pipeline true (stage (command (calls (codes "a")) no_redirect) (stage (command (calls (codes "b")) no_redirect) no_stage))) (and_link (pipeline false (stage (command (calls (codes "c")) no_redirect) no_stage)) no_link)) no_chain, codes "! a | b && c\n") ∷
    (next_chain (chain (pipeline false (stage (command (calls (codes "a")) no_redirect) no_stage)) (or_link (pipeline false (stage (command (calls (codes "b")) no_redirect) no_stage)) no_link)) a, codes "a || b\na\n") ∷ []

compound_commands_print : map (λ r. printed r.0) compound_commands ≡ map (λ r. r.1) compound_commands
unfolding key_text
compound_commands_print = refl
