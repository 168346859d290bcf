-- Built-ins worked out.
use Rattle.std.specs.Prelude.{◌≡◌, ℕ, true, false, List, [], ◌∷◌, map, Option, Some, None, refl, codes}
use Rattle.span_text.specs.Constant.{number_of}
use Rattle.span_text.specs.Names.{begins_name, continues_name}
use Rattle.field_split.specs.Fields.{is_of, behind, fields}
use Rattle.field_split.specs.Reading.{bytes_of, line_items, without_end, texts_of}
use Rattle.fmt_print.specs.Escapes.{expanded}
use Rattle.fmt_print.specs.Pieces.{pieces}
use Rattle.shell_world.specs.Texts.{Text}
use Rattle.shell_world.specs.Paths.{names_path, path_text}
use Rattle.shell_runs.specs.Flow.{Flow, Breaks, Continues, Returns, Exits}
use Rattle.sh_grammar.specs.Shape.{Parts, no_part, part, plain, exact, double, param, named, as_is, Words, no_word, word, function, group, command, no_redirect, next_chain, no_chain, chain, pipeline, stage, no_stage, no_link, subst, simple, no_assign}
use Rattle.sh_meaning.specs.Variables.{Variables}
use Rattle.sh_meaning.specs.builtins.Core.{Core}
use Rattle.sh_meaning.specs.builtins.Ends.{CoreEnding}
use Rattle.sh_meaning.specs.builtins.Export.{is_export_operand, is_export_name, has_fit_value, is_fit_operand, are_operands}
use Rattle.sh_meaning.specs.builtins.Forms.{Form}
use Rattle.sh_meaning.specs.builtins.Functions.{functions_of}
use Rattle.sh_meaning.specs.builtins.Jumps.{break_run, continue_run, return_run, exit_run}
use Rattle.sh_meaning.specs.builtins.Literals.{is_literal, are_written}
use Rattle.sh_meaning.specs.builtins.Names.{is_special, is_sh_builtin, special_builtin, plain_builtin, builtin_of}
use Rattle.sh_meaning.specs.builtins.Parameters.{set_run, shift_run}
use Rattle.sh_meaning.specs.builtins.Places.{Place}
use Rattle.sh_meaning.specs.builtins.Printing.{printf_output, echo_output}
use Rattle.sh_meaning.specs.builtins.Reading.{line_read, texts_read}
use Rattle.sh_meaning.specs.builtins.Testing.{tested}
use Rattle.sh_meaning.specs.builtins.Variables.{export_run, unset_run}

-- a word without quotes, and `"$x"`
abbrev w : Text → Parts
w text = part (plain text) no_part

abbrev expands : Parts
expands = part (double (part (param (named (codes "x")) as_is) no_part)) no_part

abbrev words_of : List Parts → Words
words_of [] = no_word
words_of (p ∷ ps) = word p (words_of ps)

abbrev written : List Parts → Form
written ws = record { functions = codes "f" ∷ []; prefix = []; words = words_of ws }

abbrev says : List Text → Form
says ts = written (map w ts)

-- ---- names

names_are : map is_special (codes ":" ∷ codes "exit" ∷ codes "echo" ∷ codes "cd" ∷ []) ≡ true ∷ true ∷ false ∷ false ∷ []
unfolding special_builtin plain_builtin builtin_of
names_are = refl

builtins_are : map is_sh_builtin (codes "[" ∷ codes "exit" ∷ codes "mapfile" ∷ codes "cd" ∷ []) ≡ true ∷ true ∷ false ∷ false ∷ []
unfolding special_builtin plain_builtin builtin_of
builtins_are = refl

-- `"$(f() { :; })"` defines f
defined_inside : functions_of (next_chain (chain (pipeline false (stage (command (simple no_assign (word (part (double (part (subst (next_chain (chain (pipeline false (stage (command (function (codes "f") (command (group no_chain) no_redirect)) no_redirect) no_stage)) no_link) no_chain)) no_part)) no_part) no_word)) no_redirect) no_stage)) no_link) no_chain) ≡ codes "f" ∷ []
defined_inside = refl

-- ---- jumps

abbrev flow_of : CoreEnding → Option (Flow × ℕ)
flow_of None = None
flow_of (Some x) = Some (x.0, x.1.status)

abbrev core : Core
core = record { vars = []; params = codes "sh" ∷ codes "a" ∷ codes "b" ∷ []; status = 7; fds = [] }

-- in two loops of a function
abbrev inside : Place
inside = record { loops = 2; in_function = true }

abbrev outside : Place
outside = record { loops = 0; in_function = false }

breaks_are : map (λ (r : Place × Form × List Text). flow_of (break_run r.0 r.1 r.2 core))
    ((inside, says (codes "break" ∷ []), []) ∷
    (inside, says (codes "break" ∷ codes "2" ∷ []), codes "2" ∷ []) ∷
    (inside, says (codes "break" ∷ codes "3" ∷ []), codes "3" ∷ []) ∷
    (inside, says (codes "break" ∷ codes "0" ∷ []), codes "0" ∷ []) ∷
    (inside, written (w (codes "break") ∷ expands ∷ []), codes "1" ∷ []) ∷
    (outside, says (codes "break" ∷ []), []) ∷ [])
    ≡ Some (Breaks 0, 0) ∷ Some (Breaks 1, 0) ∷ None ∷ None ∷ None ∷ None ∷ []
unfolding number_of is_literal are_written
breaks_are = refl

continues_are : map (λ place. flow_of (continue_run place (says (codes "continue" ∷ [])) [] core)) (inside ∷ outside ∷ []) ≡ Some (Continues 0, 0) ∷ None ∷ []
unfolding number_of is_literal are_written
continues_are = refl

returns_are : map (λ (r : Place × List Text). flow_of (return_run r.0 r.1 core)) ((inside, []) ∷ (inside, codes "255" ∷ []) ∷ (inside, codes "256" ∷ []) ∷ (outside, []) ∷ []) ≡ Some (Returns, 7) ∷ Some (Returns, 255) ∷ None ∷ None ∷ []
unfolding number_of is_literal are_written
returns_are = refl

exits_are : map (λ args. flow_of (exit_run args core)) ([] ∷ (codes "007" ∷ []) ∷ (codes "-1" ∷ []) ∷ (codes "1" ∷ codes "2" ∷ []) ∷ []) ≡ Some (Exits, 7) ∷ Some (Exits, 7) ∷ None ∷ None ∷ []
unfolding number_of is_literal are_written
exits_are = refl

-- ---- parameters

abbrev params_of : CoreEnding → Option (List Text)
params_of None = None
params_of (Some x) = Some x.1.params

params_are : map (λ args. params_of (shift_run args core)) ([] ∷ (codes "2" ∷ []) ∷ (codes "3" ∷ []) ∷ []) ≡ Some (codes "sh" ∷ codes "b" ∷ []) ∷ Some (codes "sh" ∷ []) ∷ None ∷ []
unfolding number_of
params_are = refl

sets_are : map (λ args. params_of (set_run args core)) ((codes "--" ∷ codes "c" ∷ []) ∷ (codes "c" ∷ []) ∷ []) ≡ Some (codes "sh" ∷ codes "c" ∷ []) ∷ None ∷ []
sets_are = refl

-- ---- variables

abbrev vars_of : CoreEnding → Option Variables
vars_of None = None
vars_of (Some x) = Some x.1.vars

exports_are : map (λ (r : Parts × Text). vars_of (export_run (written (w (codes "export") ∷ r.0 ∷ [])) (r.1 ∷ []) core))
    ((w (codes "a"), codes "a") ∷
    (part (plain (codes "a=")) expands, codes "a=b") ∷
    (part (plain (codes "a=")) (part (param (named (codes "x")) as_is) no_part), codes "a=b") ∷
    (w (codes "a=~"), codes "a=~") ∷
    (expands, codes "a") ∷
    (part (exact (codes "a=b")) no_part, codes "a=b") ∷
    (w (codes "1a=b"), codes "1a=b") ∷ [])
    ≡ Some ((codes "a", record { value = None; exported = true }) ∷ []) ∷ Some ((codes "a", record { value = Some (codes "b"); exported = true }) ∷ []) ∷ None ∷ None ∷ None ∷ None ∷ None ∷ []
unfolding number_of is_literal are_written is_export_operand is_export_name has_fit_value is_fit_operand are_operands begins_name continues_name
exports_are = refl

unsets_are : map (λ names. vars_of (unset_run (says (codes "unset" ∷ names)) names (record core { vars = (codes "a", record { value = Some (codes "b"); exported = true }) ∷ [] })))
    ((codes "a" ∷ []) ∷ (codes "-v" ∷ codes "a" ∷ []) ∷ (codes "f" ∷ []) ∷ [] ∷ (codes "-f" ∷ codes "a" ∷ []) ∷ [])
    ≡ Some ((codes "a", record { value = None; exported = false }) ∷ []) ∷ Some ((codes "a", record { value = None; exported = false }) ∷ []) ∷ None ∷ None ∷ None ∷ []
unfolding is_literal are_written begins_name continues_name
unsets_are = refl

-- ---- output

printfs_are : map printf_output ((codes "%s-" ∷ codes "a" ∷ codes "b" ∷ []) ∷ (codes "--" ∷ codes "a" ∷ []) ∷ (codes "a%%" ∷ codes "b" ∷ []) ∷ (codes "-a" ∷ []) ∷ (codes "%d" ∷ codes "x" ∷ []) ∷ [] ∷ [])
    ≡ Some (codes "a-b-") ∷ Some (codes "a") ∷ None ∷ None ∷ None ∷ None ∷ []
unfolding pieces expanded
printfs_are = refl

echoes_are : map echo_output ([] ∷ (codes "a" ∷ codes "b" ∷ []) ∷ (codes "-n" ∷ []) ∷ (codes "a" ∷ codes "-n" ∷ []) ∷ (codes "\\" ∷ []) ∷ []) ≡ Some (codes "\n") ∷ Some (codes "a b\n") ∷ None ∷ Some (codes "a -n\n") ∷ None ∷ []
echoes_are = refl

-- ---- input

-- a backslash joins two lines, but not with `-r`
lines_are : map (λ raw. line_read raw (codes "a\\\nb\nc")) (false ∷ true ∷ []) ≡ record { text = codes "a\\\nb"; ended = true } ∷ record { text = codes "a\\"; ended = true } ∷ []
lines_are = refl

texts_are : map (λ n. texts_read false n (codes " a b\\\nc  d ") []) (1 ∷ 2 ∷ 4 ∷ []) ≡ (codes "a bc  d" ∷ []) ∷ (codes "a" ∷ codes "bc  d" ∷ []) ∷ (codes "a" ∷ codes "bc" ∷ codes "d" ∷ [] ∷ []) ∷ []
unfolding is_of behind fields bytes_of line_items without_end texts_of
texts_are = refl

-- ---- `test`

tests_are : map (tested ((codes "d/f", codes "x") ∷ []))
    ([] ∷ (codes "-n" ∷ []) ∷ (codes "!" ∷ codes "a" ∷ []) ∷ (codes "-d" ∷ codes "d" ∷ []) ∷ (codes "-f" ∷ codes "d" ∷ []) ∷
    (codes "!" ∷ codes "=" ∷ codes "!" ∷ []) ∷ (codes "010" ∷ codes "-eq" ∷ codes "+10" ∷ []) ∷ (codes "a" ∷ codes "-lt" ∷ codes "1" ∷ []) ∷ (codes "a" ∷ codes "==" ∷ codes "a" ∷ []) ∷
    (codes "!" ∷ codes "a" ∷ codes "=" ∷ codes "b" ∷ []) ∷ [])
    ≡ Some false ∷ Some true ∷ Some false ∷ Some true ∷ Some false ∷ Some true ∷ Some true ∷ None ∷ None ∷ Some true ∷ []
unfolding number_of names_path path_text
tests_are = refl
