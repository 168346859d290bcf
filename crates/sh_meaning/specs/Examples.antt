-- Some runs worked out.
use Rattle.std.specs.Prelude.{map, ◌≡◌, ℕ, Bool, true, false, List, [], ◌∷◌, Option, Some, None, refl, codes, pos}
use Rattle.std.specs.Fmt.{digits as digits_of}
use Rattle.std.specs.Int.{int_wrap}
use Rattle.glob_pattern.specs.Brackets.{class_len, element_len, class_named, class_at, mark_len, body_len, body_of, is_range, member_len, member_at, members_of, is_doubtful, is_bad_range, range_doubt, member_doubt, members_doubt}
use Rattle.span_text.specs.declared.expr.UnOp.TheVariants as unary
use Rattle.span_text.specs.Constant.{number_of}
use Rattle.span_text.specs.KnownNames.{builtins, refused_builtins, standard_words, bash_words, other_commands}
use Rattle.span_text.specs.Names.{begins_name, continues_name}
use Rattle.field_split.specs.Fields.{is_of, behind, fields}
use Rattle.field_split.specs.Reading.{bytes_of, line_items, without_end, texts_of}
use Rattle.glob_pattern.specs.Pieces.{matches}
use Rattle.glob_pattern.specs.Reading.{piece_at, piece_len, piece_doubt, pieces_of, doubt_of}
use Rattle.glob_pattern.specs.Paths.{components_of, found_paths}
use Rattle.shell_world.specs.Texts.{Text}
use Rattle.shell_world.specs.declared.world.World.{World}
use Rattle.shell_world.specs.Paths.{names_path, path_text}
use Rattle.shell_world.specs.Ends.{Outcome, Ended, Going, Unknown}
use Rattle.shell_runs.specs.Shells.{substitution_text}
use Rattle.sh_grammar.specs.Shape.{plain, double, tilde, param, subst, Parts, no_part, part, as_is, fill, trim, default, Param, named, digits, status, at, Words, no_word, word, value, no_assign, assign, no_redirect, redirect, read, write, Command, command, Kind, simple, group, subshell, loop, cases, item, no_item, walk, function, listed, no_stage, stage, pipeline, no_link, chain, Script, no_chain, next_chain}
use Rattle.sh_meaning.specs.Arithmetic.{unary_value, number_text, operand_number}
use Rattle.sh_meaning.specs.Lists.{has_crowded_lists, is_entangled}
use Rattle.sh_meaning.specs.Pathnames.{field_texts}
use Rattle.sh_meaning.specs.Simple.{found}
use Rattle.sh_meaning.specs.Running.{run}
use Rattle.sh_meaning.specs.builtins.Export.{is_export_operand, is_export_name, is_fit_operand, has_fit_value, are_operands}
use Rattle.sh_meaning.specs.builtins.Literals.{is_literal, are_written}
use Rattle.sh_meaning.specs.builtins.Names.{special_builtin, plain_builtin, builtin_of}
use Rattle.sh_meaning.specs.builtins.Run.{builtin_ending}

-- ---- scripts

-- a word without quotes
abbrev w : Text → Parts
w text = part (plain text) no_part

-- `$x`, `"$x"`
abbrev bare : Param → Parts
bare p = part (param p as_is) no_part

abbrev quoted : Param → Parts
quoted p = part (double (bare p)) no_part

abbrev x : Param
x = named (codes "x")

abbrev words_of : List Parts → Words
words_of [] = no_word
words_of (p ∷ ps) = word p (words_of ps)

abbrev plainly : Kind → Command
plainly kind = command kind no_redirect

abbrev calls : List Parts → Command
calls ws = plainly (simple no_assign (words_of ws))

-- `echo ..`
abbrev echo : Parts → Command
echo p = calls (w (codes "echo") ∷ p ∷ [])

-- `x=..`
abbrev sets : Parts → Command
sets v = plainly (simple (assign (codes "x") (value v) no_assign) no_word)

abbrev script_of : List Command → Script
script_of [] = no_chain
script_of (c ∷ cs) = next_chain (chain (pipeline false (stage c no_stage)) no_link) (script_of cs)

-- `a | b`
abbrev pipes : Command → Command → Script → Script
pipes a b more = next_chain (chain (pipeline false (stage a (stage b no_stage))) no_link) more

-- ---- worlds

abbrev in_world : Bool → World
in_world last_current = record {
  args = codes "s" ∷ codes "a b" ∷ codes "c" ∷ [];
  env = [];
  files = [];
  rows = [];
  stdin = codes "l\n";
  bounds = record { turns = 5; depth = 2 };
  latitude = record { last_current = last_current; redirect = 3 };
}

-- how a script of commands ends in the world, with 5 turns and 2 levels
abbrev ends : List Command → Outcome
ends cs = run (in_world false) (script_of cs) 5 2

-- what it wrote, and its status where it ended
abbrev shown : Outcome → Option (Text × ℕ)
shown (Ended t files code) = Some (t.out, code)
shown (Going t) = None
shown (Unknown t) = None

abbrev shows : List Command → Option (Text × ℕ)
shows cs = shown (ends cs)

-- ---- words (2.6)

abbrev splitting : List (Option (Text × ℕ))
splitting =
    -- for x in $1; do echo $x; done
    shows (plainly (walk (codes "x") (listed (words_of (bare (digits (codes "1")) ∷ []))) (script_of (echo (bare x) ∷ []))) ∷ []) ∷
    -- for x in "$@"; do echo $x; done
    shows (plainly (walk (codes "x") (listed (words_of (quoted at ∷ []))) (script_of (echo (bare x) ∷ []))) ∷ []) ∷
    -- x=abc; echo ${x%c}
    shows (sets (w (codes "abc")) ∷ echo (part (param x (trim true false (w (codes "c")))) no_part) ∷ []) ∷
    -- echo ${x-a}
    shows (echo (part (param x (fill default false (w (codes "a")))) no_part) ∷ []) ∷
    -- echo "$x$@"
    shows (echo (part (double (part (param x as_is) (bare at))) no_part) ∷ []) ∷
    -- echo "$@$@"
    shows (echo (part (double (part (param at as_is) (bare at))) no_part) ∷ []) ∷
    -- echo ~
    shows (echo (part tilde no_part) ∷ []) ∷ []

words_are : splitting ≡ Some (codes "a\nb\n", 0) ∷ Some (codes "a b\nc\n", 0) ∷ Some (codes "ab\n", 0) ∷ Some (codes "a\n", 0) ∷ Some (codes "a b c\n", 0) ∷ None ∷ None ∷ []
unfolding body_len is_of behind fields bytes_of matches piece_at piece_len piece_doubt pieces_of doubt_of number_of has_crowded_lists is_entangled field_texts found is_export_operand is_export_name is_fit_operand is_literal special_builtin plain_builtin builtin_of builtin_ending builtins refused_builtins standard_words bash_words other_commands are_written has_fit_value are_operands
words_are = refl

abbrev substitutions : List (Option (Text × ℕ))
substitutions =
    -- x=$(false); echo $?
    shows (sets (part (subst (script_of (calls (w (codes "false") ∷ []) ∷ []))) no_part) ∷ echo (bare status) ∷ []) ∷
    -- echo $(false)$?
    shows (echo (part (subst (script_of (calls (w (codes "false") ∷ []) ∷ []))) (bare status)) ∷ []) ∷
    -- echo $(echo a)
    shows (echo (part (subst (script_of (echo (w (codes "a")) ∷ []))) no_part) ∷ []) ∷
    -- x=1; (x=2; echo $x); echo $x
    shows (sets (w (codes "1")) ∷ plainly (subshell (script_of (sets (w (codes "2")) ∷ echo (bare x) ∷ []))) ∷ echo (bare x) ∷ []) ∷ []

shells_are : substitutions ≡ Some (codes "1\n", 0) ∷ Some (codes "1\n", 0) ∷ Some (codes "a\n", 0) ∷ Some (codes "2\n1\n", 0) ∷ []
unfolding digits_of substitution_text is_of behind fields bytes_of has_crowded_lists field_texts found is_export_operand is_export_name is_fit_operand is_literal special_builtin plain_builtin builtin_of builtin_ending builtins refused_builtins standard_words bash_words other_commands are_written has_fit_value are_operands
shells_are = refl

-- echo a >f; case f in [f]) echo *;; esac
abbrev matching : List Command
matching =
    command (simple no_assign (words_of (w (codes "echo") ∷ w (codes "a") ∷ []))) (redirect None write (w (codes "f")) no_redirect)
    ∷ plainly (cases (w (codes "f")) (item (words_of (w (codes "[f]") ∷ [])) (script_of (echo (w (codes "*")) ∷ [])) no_item)) ∷ []

patterns_are : shows matching ≡ Some (codes "f\n", 0)
unfolding names_path path_text digits_of body_len body_of mark_len class_len element_len class_named class_at is_range member_len member_at members_of is_doubtful is_bad_range range_doubt member_doubt members_doubt components_of found_paths is_of behind fields bytes_of matches piece_at piece_len piece_doubt pieces_of doubt_of has_crowded_lists field_texts found is_export_operand is_export_name is_fit_operand is_literal special_builtin plain_builtin builtin_of builtin_ending builtins refused_builtins standard_words bash_words other_commands are_written has_fit_value are_operands
patterns_are = refl

-- ---- commands (2.9)

abbrev forever : List Command → Command
forever body = plainly (loop false (script_of (calls (w (codes "true") ∷ []) ∷ [])) (script_of body))

abbrev jumping : List (Option (Text × ℕ))
jumping =
    -- while true; do while true; do break 2; done; done; echo a
    shows (forever (forever (calls (w (codes "break") ∷ w (codes "2") ∷ []) ∷ []) ∷ []) ∷ echo (w (codes "a")) ∷ []) ∷
    -- while true; do break 2; done
    shows (forever (calls (w (codes "break") ∷ w (codes "2") ∷ []) ∷ []) ∷ []) ∷
    -- f() { echo $1; return 4; }; f a
    shows (plainly (function (codes "f") (plainly (group (script_of (echo (bare (digits (codes "1"))) ∷ calls (w (codes "return") ∷ w (codes "4") ∷ []) ∷ []))))) ∷ calls (w (codes "f") ∷ w (codes "a") ∷ []) ∷ []) ∷
    -- echo a >/; echo $?
    shows (command (simple no_assign (words_of (w (codes "echo") ∷ w (codes "a") ∷ []))) (redirect None write (w (codes "/")) no_redirect) ∷ echo (bare status) ∷ []) ∷
    -- echo a >f; read x <f; echo $x
    shows (command (simple no_assign (words_of (w (codes "echo") ∷ w (codes "a") ∷ []))) (redirect None write (w (codes "f")) no_redirect)
    ∷ command (simple no_assign (words_of (w (codes "read") ∷ w (codes "x") ∷ []))) (redirect None read (w (codes "f")) no_redirect) ∷ echo (bare x) ∷ []) ∷
    -- export x=*; echo "$x"
    shows (calls (w (codes "export") ∷ w (codes "x=*") ∷ []) ∷ echo (quoted x) ∷ []) ∷
    -- x=1 true; echo $x
    shows (plainly (simple (assign (codes "x") (value (w (codes "1"))) no_assign) (words_of (w (codes "true") ∷ []))) ∷ echo (quoted x) ∷ []) ∷ []

commands_are : jumping ≡ Some (codes "a\n", 0) ∷ None ∷ Some (codes "a\n", 4) ∷ Some (codes "3\n", 0) ∷ Some (codes "a\n", 0) ∷ Some (codes "*\n", 0) ∷ Some (codes "\n", 0) ∷ []
unfolding digits_of names_path path_text number_of is_of behind fields bytes_of line_items without_end texts_of has_crowded_lists field_texts found is_export_operand is_export_name is_fit_operand is_literal special_builtin plain_builtin builtin_of builtin_ending builtins refused_builtins standard_words bash_words other_commands begins_name continues_name is_entangled are_written has_fit_value are_operands
commands_are = refl

-- echo a | read x; echo "$x"
abbrev reading : Script
reading = pipes (echo (w (codes "a"))) (calls (w (codes "read") ∷ w (codes "x") ∷ [])) (script_of (echo (quoted x) ∷ []))

latitudes_are : shown (run (in_world false) reading 5 2) ∷ shown (run (in_world true) reading 5 2) ∷ [] ≡ Some (codes "\n", 0) ∷ Some (codes "a\n", 0) ∷ []
unfolding number_of is_of behind fields bytes_of line_items without_end texts_of has_crowded_lists field_texts found is_export_operand is_export_name is_fit_operand is_literal special_builtin plain_builtin builtin_of builtin_ending builtins refused_builtins standard_words bash_words other_commands begins_name continues_name are_written has_fit_value are_operands
latitudes_are = refl

-- ---- bounds

abbrev going : Outcome → Option Text
going (Ended t files code) = None
going (Going t) = Some t.out
going (Unknown t) = None

abbrev counting : List (Option Text)
counting =
    -- while true; do echo a; done, with 5 turns
    going (ends (forever (echo (w (codes "a")) ∷ []) ∷ [])) ∷
    -- while continue; do :; done
    going (ends (plainly (loop false (script_of (calls (w (codes "continue") ∷ []) ∷ [])) (script_of (calls (w (codes ":") ∷ []) ∷ []))) ∷ [])) ∷
    -- f() { echo a; f; }; f, with 2 levels
    going (ends (plainly (function (codes "f") (plainly (group (script_of (echo (w (codes "a")) ∷ calls (w (codes "f") ∷ []) ∷ []))))) ∷ calls (w (codes "f") ∷ []) ∷ [])) ∷ []

bounds_are : counting ≡ Some (codes "a\na\na\na\na\n") ∷ Some [] ∷ Some (codes "a\na\n") ∷ []
unfolding number_of is_of behind fields bytes_of has_crowded_lists field_texts found is_export_operand is_export_name is_fit_operand is_literal special_builtin plain_builtin builtin_of builtin_ending builtins refused_builtins standard_words bash_words other_commands are_written has_fit_value are_operands
bounds_are = refl

-- ---- arithmetic (2.6.4)

unary_is : map number_text (unary_value unary.Minus (pos 5) ∷ unary_value unary.Complement (pos 5) ∷ unary_value unary.Not (pos 5) ∷ unary_value unary.Not (pos 0) ∷ []) ≡ codes "-5" ∷ codes "-6" ∷ codes "0" ∷ codes "1" ∷ []
unfolding int_wrap number_text digits_of
unary_is = refl

-- `$x` behind a `-` may have no sign
operands_are : map (operand_number (0 ∷ []) 0) (codes "12" ∷ codes "-12" ∷ codes "a" ∷ []) ≡ Some (pos 12) ∷ None ∷ None ∷ []
unfolding operand_number number_of
operands_are = refl
