-- What a script of the forms that are taken is lowered to can be printed as sh text.
use Rattle.std.proofs.Common.{◌≡◌, ℕ, Bool, true, false, not, ◌&&◌, ◌||◌, ◌==◌, List, [], ◌∷◌, ◌++◌, refl, subst, ◌∙◌, append-nil, arith}
use Rattle.std.specs.Prelude.{codes}
use Rattle.std.specs.List.{list_all}
use Rattle.std.proofs.lemmas.Bool.Decides.{nat_tests}
use Rattle.span_text.specs.Names.{is_name, is_reserved}
use Rattle.span_text.specs.KnownNames.{same_text, is_among, standard_words, is_standard_word, is_builtin, is_refused_builtin, is_bash_word, is_restricted, is_known_command, other_commands}
use Rattle.span_text.specs.Scanning.{is_plain_byte, is_exact_byte, is_quoted_byte}
use Rattle.sh_grammar.specs.Bytes.{in_word, in_double, has_double, has_single}
use Rattle.sh_grammar.specs.Steps.{is_empty}
use Rattle.sh_grammar.specs.Tokens.{key_text}
use Rattle.sh_printing.specs.Printing.{continued}
use Rattle.sh_printing.specs.Spellable.{begins_with, is_reserved_text, is_reserved_word}
use Rattle.sh_printing.specs.Printable.{first_is, is_plain_part, is_assignment, parts_fit, word_fits, words_fit, value_fits, command_fits, chain_fits, script_printable}
use Rattle.bash_tree.specs.Shape.{plain, exact, double, param, Parts, no_part, part, Words, no_word, word, Value, no_value, value, no_assign, assign, Command, simple, no_stage, stage, pipeline, no_link, and_link, or_link, Chain, chain, Script, no_item, item, background_item}
use Rattle.bash2sh.specs.Form.{is_free_name, is_literal, literal_text, is_free_command, name_form, words_form, value_form}
use Rattle.bash2sh.specs.Lower.{lower_parts, lower_words, lower_value, lower_command, lower_chain, lower}
use Rattle.bash2sh.proofs.Tools.{and_no, both, neither, all_three, all_four}
use Rattle.bash2sh.proofs.PlainBytes.{reads_no_tilde, plain_is_literal, quoted_is_literal, plain_ends_no_dollar, quoted_ends_no_dollar, plain_begins_no_comment, begins_no_assign, exact_is_no_quote, exact_bytes}
use Rattle.bash2sh.proofs.Spelled.{is_something, has_part, begins_plain, goes_on_name, quoted_spelled, parts_spelled, word_spelled, words_spelled, value_spelled, command_taken, chain_taken, script_taken}
use Rattle.bash2sh.proofs.ShNames.{Differs, differs, no_either}

no_of : (b : Bool) → not b ≡ true → b ≡ false
no_of true e = absurd cc
no_of false e = refl

-- ---- what stands behind a part

plain_next : (ps : Parts) → first_is is_plain_part (lower_parts ps) ≡ begins_plain ps
plain_next no_part = refl
plain_next (part (plain text) ps) = refl
plain_next (part (exact text) ps) = refl
plain_next (part (double qs) ps) = refl
plain_next (part (param name) ps) = refl

name_next : (ps : Parts) → continued (lower_parts ps) ≡ goes_on_name ps
name_next no_part = refl
name_next (part (plain []) ps) = refl
name_next (part (plain (b ∷ bs)) ps) = refl
name_next (part (exact text) ps) = refl
name_next (part (double qs) ps) = refl
name_next (part (param name) ps) = refl

not_empty : (text : List ℕ) → is_something text ≡ true → is_empty text ≡ false
not_empty [] e = absurd cc
not_empty (b ∷ bs) e = refl

no_plain_behind : (ps : Parts) → not (begins_plain ps) ≡ true → first_is is_plain_part (lower_parts ps) ≡ false
no_plain_behind ps e = plain_next ps ∙ no_of (begins_plain ps) e

-- ---- parts of words

quoted_fit : (d : ℕ) (ps : Parts) → quoted_spelled ps ≡ true → parts_fit false d in_double (lower_parts ps) ≡ true
quoted_fit d no_part e = refl
quoted_fit d (part (plain text) ps) e =
    let y = all_four (is_something text) (list_all is_quoted_byte text) (not (begins_plain ps)) (quoted_spelled ps) e in
    rw (not_empty text y.0, quoted_is_literal text y.1, no_plain_behind ps y.2, quoted_ends_no_dollar text y.1) (quoted_fit d ps y.3)
quoted_fit d (part (param name) ps) e =
    let y = all_three (is_name name) (not (goes_on_name ps)) (quoted_spelled ps) e in
    rw (y.0, name_next ps ∙ no_of (goes_on_name ps) y.1) (quoted_fit d ps y.2)
quoted_fit d (part (exact text) ps) e = absurd cc
quoted_fit d (part (double qs) ps) e = absurd cc

parts_fitting : (d : ℕ) (ps : Parts) → parts_spelled ps ≡ true → parts_fit false d in_word (lower_parts ps) ≡ true
unfolding has_double has_single
parts_fitting d no_part e = refl
parts_fitting d (part (plain text) ps) e =
    let y = all_four (is_something text) (list_all is_plain_byte text) (not (begins_plain ps)) (parts_spelled ps) e in
    rw (not_empty text y.0, plain_is_literal text y.1, no_plain_behind ps y.2, plain_ends_no_dollar text y.1) (parts_fitting d ps y.3)
parts_fitting d (part (exact text) ps) e =
    let y = both (list_all is_exact_byte text) (parts_spelled ps) e in
    rw (exact_is_no_quote text y.0, exact_bytes text y.0) (parts_fitting d ps y.1)
parts_fitting d (part (double qs) ps) e =
    let y = both (quoted_spelled qs) (parts_spelled ps) e in
    rw (quoted_fit d qs y.0) (parts_fitting d ps y.1)
parts_fitting d (part (param name) ps) e = absurd cc

pub word_fitting : (d : ℕ) (spaced : Bool) (w : Parts) → word_spelled w ≡ true → word_fits false d spaced (lower_parts w) ≡ true
word_fitting d spaced no_part e = absurd cc
word_fitting d spaced (part (plain text) ps) e =
    let k = parts_fitting d (part (plain text) ps) e in
    let y = all_four (is_something text) (list_all is_plain_byte text) (not (begins_plain ps)) (parts_spelled ps) e in
    rw (and_no spaced (begins_with 35 text) (plain_begins_no_comment text y.1), reads_no_tilde text (lower_parts ps) y.1) k
word_fitting d spaced (part (exact text) ps) e = parts_fitting d (part (exact text) ps) e
word_fitting d spaced (part (double qs) ps) e = parts_fitting d (part (double qs) ps) e
word_fitting d spaced (part (param name) ps) e = absurd cc

words_fitting : (d : ℕ) (ws : Words) → words_spelled ws ≡ true → words_fit false d (lower_words ws) ≡ true
words_fitting d no_word e = refl
words_fitting d (word w ws) e =
    let y = both (word_spelled w) (words_spelled ws) e in
    rw (word_fitting d true w y.0, words_fitting d ws y.1) refl

-- ---- the name of a command

pub no_assignment : (w : Parts) → word_spelled w ≡ true → is_assignment (lower_parts w) ≡ false
no_assignment no_part e = refl
no_assignment (part (plain text) ps) e =
    begins_no_assign text (all_four (is_something text) (list_all is_plain_byte text) (not (begins_plain ps)) (parts_spelled ps) e).1
no_assignment (part (exact text) ps) e = refl
no_assignment (part (double qs) ps) e = refl
no_assignment (part (param name) ps) e = refl

same_byte : (x y : ℕ) → (x == y) ≡ (y == x)
same_byte x y = grind (arith, nat_tests)

turned : (xs ys : List ℕ) → same_text xs ys ≡ same_text ys xs
turned [] [] = refl
turned [] (y ∷ ys) = refl
turned (x ∷ xs) [] = refl
turned (x ∷ xs) (y ∷ ys) = rw (same_byte x y, turned xs ys) refl

-- a command that no shell knows is no word of the grammar
free_no_keyword : (text : List ℕ) → is_free_command text ≡ true → is_standard_word text ≡ false
free_no_keyword text e =
    let known = (neither (is_known_command text) (is_reserved text) e).0 in
    let more = (no_either (is_builtin text || is_refused_builtin text) (is_restricted text) known).1 in
    (no_either (is_standard_word text) (is_bash_word text) (no_either (is_standard_word text || is_bash_word text) (is_among other_commands text) more).0).0

no_keyword : (text : List ℕ) → is_standard_word text ≡ false → is_reserved_text text ≡ false
unfolding standard_words key_text
no_keyword text e =
    let d : Differs standard_words text = differs standard_words text e in
    rw (turned text (codes "if") ∙ d.0, turned text (codes "then") ∙ d.1.0, turned text (codes "elif") ∙ d.1.1.0, turned text (codes "else") ∙ d.1.1.1.0, turned text (codes "fi") ∙ d.1.1.1.1.0, turned text (codes "for") ∙ d.1.1.1.1.1.0, turned text (codes "in") ∙ d.1.1.1.1.1.1.0, turned text (codes "until") ∙ d.1.1.1.1.1.1.1.0, turned text (codes "while") ∙ d.1.1.1.1.1.1.1.1.0, turned text (codes "do") ∙ d.1.1.1.1.1.1.1.1.1.0, turned text (codes "done") ∙ d.1.1.1.1.1.1.1.1.1.1.0, turned text (codes "case") ∙ d.1.1.1.1.1.1.1.1.1.1.1.0, turned text (codes "esac") ∙ d.1.1.1.1.1.1.1.1.1.1.1.1.0, turned text (codes "{") ∙ d.1.1.1.1.1.1.1.1.1.1.1.1.1.0, turned text (codes "}") ∙ d.1.1.1.1.1.1.1.1.1.1.1.1.1.1.0, turned text (codes "!") ∙ d.1.1.1.1.1.1.1.1.1.1.1.1.1.1.1.0) refl

pub no_reserved : (w : Parts) → name_form w ≡ true → is_reserved_word (lower_parts w) ≡ false
no_reserved no_part e = refl
no_reserved (part (plain text) no_part) e =
    let free : is_free_command (text ++ []) ≡ true = (both (is_literal (part (plain text) no_part)) (is_free_command (literal_text (part (plain text) no_part))) e).1 in
    no_keyword text (free_no_keyword text (subst (λ (t : List ℕ). is_free_command t ≡ true) (append-nil text) free))
no_reserved (part (plain text) (part (plain t) qs)) e = refl
no_reserved (part (plain text) (part (exact t) qs)) e = refl
no_reserved (part (plain text) (part (double rs) qs)) e = refl
no_reserved (part (plain text) (part (param name) qs)) e = absurd cc
no_reserved (part (exact text) ps) e = refl
no_reserved (part (double qs) ps) e = refl
no_reserved (part (param name) ps) e = refl

-- ---- commands

value_fitting : (d : ℕ) (append : Bool) (name : List ℕ) (v : Value) → is_name name ≡ true → value_spelled v ≡ true → value_fits false d (lower_value append name v) ≡ true
unfolding has_double
value_fitting d false name no_value n e = refl
value_fitting d false name (value w) n e = word_fitting d false w e
value_fitting d true name no_value n e = rw n refl
value_fitting d true name (value w) n e = rw n (parts_fitting d w (both (has_part w) (parts_spelled w) e).1)

command_fitting : (d : ℕ) (c : Command) → command_taken c ≡ true → command_fits false d (lower_command c) ≡ true
command_fitting d (simple no_assign no_word) e = absurd cc
command_fitting d (simple no_assign (word w ws)) e =
    let y = both (name_form w && words_form ws) (words_spelled (word w ws)) e in
    let s = both (word_spelled w) (words_spelled ws) y.1 in
    rw (words_fitting d (word w ws) y.1, no_assignment w s.0, no_reserved w (both (name_form w) (words_form ws) y.0).0) refl
command_fitting d (simple (assign name append v no_assign) no_word) e =
    let y = both (is_free_name name && value_form v) (is_name name && value_spelled v) e in
    let s = both (is_name name) (value_spelled v) y.1 in
    rw (s.0, value_fitting d append name v s.0 s.1) refl
command_fitting d (simple (assign name append v no_assign) (word w ws)) e = absurd cc
command_fitting d (simple (assign name append v (assign name' append' v' more)) ws) e = absurd cc

chain_fitting : (d : ℕ) (c : Chain) → chain_taken c ≡ true → chain_fits false d (lower_chain c) ≡ true
chain_fitting d (chain (pipeline false (stage c no_stage)) no_link) e = rw (command_fitting d c e) refl
chain_fitting d (chain (pipeline false no_stage) ls) e = absurd cc
chain_fitting d (chain (pipeline false (stage c (stage k ks))) ls) e = absurd cc
chain_fitting d (chain (pipeline false (stage c no_stage)) (and_link p ls)) e = absurd cc
chain_fitting d (chain (pipeline false (stage c no_stage)) (or_link p ls)) e = absurd cc
chain_fitting d (chain (pipeline true ss) ls) e = absurd cc

-- ---- scripts

pub printable : (s : Script) → script_taken s ≡ true → script_printable (lower s) ≡ true
printable no_item e = refl
printable (item c more) e =
    let y = both (chain_taken c) (script_taken more) e in
    rw (chain_fitting 0 c y.0, printable more y.1) refl
printable (background_item c more) e = absurd cc
