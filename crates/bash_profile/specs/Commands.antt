-- What is refused of commands: names, the forms of built-ins, what has to be around them, and operators of tests (3.2, 4, 6.4).
use Rattle.std.specs.Prelude.{ℕ, Bool, true, false, ◌&&◌, ◌||◌, not, ◌==◌, nat_eq, nat_le, nat_lt, ◌+◌, ◌*◌, ◌-◌, List, [], ◌∷◌, map, flat_map, Option, Some, None, is_some, if◌then◌else◌, codes}
use Rattle.std.specs.List.{list_all, list_any, starts_with}
use Rattle.span_text.specs.Names.{is_digit, is_reserved}
use Rattle.span_text.specs.KnownNames.{same_text, is_among, is_builtin, is_refused_builtin, is_restricted, is_known_command}
use Rattle.fmt_print.specs.Pieces.{is_format}
use Rattle.bash_grammar.specs.Bytes.{Text}
use Rattle.bash_grammar.specs.Shape.{TestOp, compound, no_part, part, Word, word, Words, no_word, next_word, assign, Redirects, no_redirect, command, simple, function, unary_cond, binary_cond}
use Rattle.bash_profile.specs.Names.{names_at}
use Rattle.bash_profile.specs.Sites.{Around, Site, chain_site, command_site, test_site, given_sites}
use Rattle.bash_profile.specs.Literals.{is_literal, literal_text, literal_name, operand_name, member_name}
use Rattle.bash_profile.specs.Kinds.{options_of}
use Rattle.bash_profile.specs.Known.{Known, is_keyed, place_if, holds_of, word_from, name_from, command_name, command_from, arguments, has_words, list_of}

-- ---- 4 background: the operator `&`

abbrev pub background : Site → List ℕ
background (chain_site (Some s)) = s.from ∷ []
background x = []

-- ---- a command that is named literally

-- the words of a command without assignments and redirections
abbrev words_at : Site → Words
words_at (command_site a (command (simple xs ws) rs s)) = ws
words_at x = no_word

abbrev at_name : (Text → Bool) → Words → List ℕ
at_name p ws = place_if (holds_of p (command_name ws)) (command_from ws)

-- ---- 9 refused-builtin: the name of a built-in that is left out

abbrev pub refused_builtin : Site → List ℕ
refused_builtin x = at_name is_refused_builtin (words_at x)

-- ---- 10 restricted-name: a reserved word, or a name that another shell builds in

abbrev pub restricted_name : Site → List ℕ
restricted_name x = at_name is_restricted (words_at x)

-- ---- 11 builtin-form: a built-in in a form that is left out

abbrev is_none : Words → Bool
is_none no_word = true
is_none ws = false

abbrev is_one : Words → Bool
is_one (next_word w no_word) = true
is_one ws = false

abbrev at_most_one : Words → Bool
at_most_one ws = is_none ws || is_one ws

abbrev is_named : Word → Bool
is_named w = is_some (literal_name w)

abbrev are_names : Words → Bool
are_names ws = has_words ws && list_all is_named (list_of ws)

abbrev is_one_name : Words → Bool
is_one_name ws = is_one ws && are_names ws

-- the first word alone
abbrev first : Words → Words
first no_word = no_word
first (next_word w ws) = next_word w no_word

abbrev is_first : Text → Words → Bool
is_first text no_word = false
is_first text (next_word w ws) = is_literal text w

-- `printf [--] FORMAT words`, `printf -v NAME FORMAT words`
abbrev printf_form : Words → Bool
printf_form ws =
    if is_first (codes "-v") ws then are_names (first (arguments ws)) && has_words (arguments (arguments ws))
    else (if is_first (codes "--") ws then has_words (arguments ws) else has_words ws)

-- `read [-r] NAME`, one name or more; `read -ra NAME`, `read -r -a NAME`
abbrev read_form : Words → Bool
read_form ws =
    if is_first (codes "-ra") ws then is_one_name (arguments ws)
    else (if is_first (codes "-r") ws && is_first (codes "-a") (arguments ws) then is_one_name (arguments (arguments ws))
    else (if is_first (codes "-r") ws then are_names (arguments ws) else are_names ws))

-- `mapfile -t NAME`
abbrev lines_form : Words → Bool
lines_form ws = is_first (codes "-t") ws && is_one_name (arguments ws)

-- `set -- words`
abbrev set_form : Words → Bool
set_form ws = is_first (codes "--") ws

-- the number that digits are, read from the left
abbrev number_from : ℕ → Text → ℕ
number_from n [] = n
number_from n (b ∷ bs) = number_from (n * 10 + (b - 48)) bs

abbrev all_digits : Text → Bool
all_digits [] = false
all_digits (b ∷ bs) = list_all is_digit (b ∷ bs)

-- a number from 1
abbrev is_count : Text → Bool
is_count text = all_digits text && nat_le 1 (number_from 0 text)

-- `break`, `break 2`
abbrev jump_form : Words → Bool
jump_form ws = is_none ws || (is_one ws && holds_of is_count (command_name ws))

abbrev begins_with : Text → Text → Bool
begins_with front text = starts_with nat_eq text front

-- a name that `exec` doesn't take
abbrev is_kept : Known → Text → Bool
is_kept k name = is_known_command name || is_reserved name || begins_with (codes "-") name || k.is_function name

-- `exec words`, without redirections
abbrev exec_form : Known → Words → Redirects → Bool
exec_form k ws no_redirect = has_words ws && not (holds_of (is_kept k) (command_name ws))
exec_form k ws rs = false

abbrev is_operand : Word → Bool
is_operand w = is_some (operand_name w)

abbrev is_compound : Word → Bool
is_compound (word (part (compound x) s no_part) t) = true
is_compound w = false

-- `NAME`, `NAME=word`
abbrev is_plain_operand : Word → Bool
is_plain_operand w = is_operand w && not (is_compound w)

-- `export NAME`, `export NAME=word`, one or more
abbrev export_form : Words → Bool
export_form ws = has_words ws && list_all is_plain_operand (list_of ws)

abbrev is_unset_operand : Known → Word → Bool
is_unset_operand k w = is_some (member_name w) || holds_of (λ name. not (k.is_function name)) (literal_name w)

-- `unset [-v] NAME`, where the name is none of a function; `unset 'NAME[i]'`
abbrev unset_form : Known → Words → Bool
unset_form k ws = if is_first (codes "-v") ws then has_words (arguments ws) && list_all (is_unset_operand k) (list_of (arguments ws)) else has_words ws && list_all (is_unset_operand k) (list_of ws)

abbrev is_declaring_letter : ℕ → Bool
is_declaring_letter b = b == 97 || b == 65

abbrev names_in : List Site → List Text
names_in xs = map (λ n. n.text) (flat_map names_at xs)

-- a list that uses its own name
abbrev names_itself : Known → Around → Word → Bool
names_itself k a (word (part (compound (assign n i more v s)) t no_part) u) = is_among (names_in (given_sites (is_keyed k) a n v)) n.text
names_itself k a w = false

-- `declare -a -A NAME`, `NAME=word`, or one `NAME=(items)` alone
abbrev declare_form : Known → Around → Words → Bool
declare_form k a ws =
    not (list_any (names_itself k a) (list_of (options_of ws).operands)) &&
    list_all is_declaring_letter (options_of ws).letters && has_words (options_of ws).operands
    && list_all is_operand (list_of (options_of ws).operands)
    && (is_one (options_of ws).operands || not (list_any is_compound (list_of (options_of ws).operands)))

abbrev any_words : List Text
any_words = codes ":" ∷ codes "true" ∷ codes "false" ∷ codes "echo" ∷ codes "test" ∷ codes "[" ∷ []

abbrev declaring : List Text
declaring = codes "local" ∷ codes "declare" ∷ codes "typeset" ∷ []

-- whether a built-in is used in a form that is taken
abbrev has_form : Known → Around → Text → Words → Redirects → Bool
has_form k a name ws rs =
    if is_among any_words name then true
    else (if same_text (codes "printf") name then printf_form ws
    else (if same_text (codes "read") name then read_form ws
    else (if is_among (codes "mapfile" ∷ codes "readarray" ∷ []) name then lines_form ws
    else (if same_text (codes "set") name then set_form ws
    else (if is_among (codes "break" ∷ codes "continue" ∷ []) name then jump_form ws
    else (if is_among (codes "shift" ∷ codes "return" ∷ codes "exit" ∷ []) name then at_most_one ws
    else (if same_text (codes "exec") name then exec_form k ws rs
    else (if same_text (codes "export") name then export_form ws
    else (if same_text (codes "unset") name then unset_form k ws
    else is_among declaring name && declare_form k a ws)))))))))

abbrev has_other_form : Known → Around → Words → Redirects → Text → Bool
has_other_form k a ws rs name = is_builtin name && not (has_form k a name (arguments ws) rs)

abbrev pub builtin_form : Known → Site → List ℕ
builtin_form k (command_site a (command (simple xs ws) rs s)) = at_name (has_other_form k a ws rs) ws
builtin_form k x = []

-- ---- 36 function-name: the name of a function that is a command's that is known (a word that is no name is refused as it is read)

abbrev pub function_name : Site → List ℕ
function_name (command_site a (command (function n c) rs s)) = place_if (is_known_command n.text) (name_from n)
function_name x = []

-- ---- 41 enclosure: `break` and `continue` outside of so many loops, `return` and `local` outside of functions

abbrev known_count : Option Text → ℕ
known_count None = 1
known_count (Some text) = number_from 0 text

abbrev jump_count : Words → ℕ
jump_count no_word = 1
jump_count (next_word w ws) = known_count (literal_text w)

abbrev is_misplaced : Around → Words → Text → Bool
is_misplaced a ws name =
    if is_among (codes "break" ∷ codes "continue" ∷ []) name then jump_form ws && nat_lt a.loops (jump_count ws)
    else (if same_text (codes "return") name then not a.returns
    else same_text (codes "local") name && not (is_some a.inside))

abbrev pub enclosure : Site → List ℕ
enclosure (command_site a (command (simple xs ws) rs s)) = at_name (is_misplaced a (arguments ws)) ws
enclosure x = []

-- ---- 42 printf-format: a format that isn't literal, or that is none

-- the words from the format on
abbrev from_format : Words → Words
from_format ws =
    if is_first (codes "-v") ws then arguments (arguments ws)
    else (if is_first (codes "--") ws then arguments ws else ws)

abbrev format_at : Words → List ℕ
format_at no_word = []
format_at (next_word w ws) = place_if (not (holds_of is_format (literal_text w))) (word_from w)

abbrev pub printf_format : Site → List ℕ
printf_format x = if holds_of (same_text (codes "printf")) (command_name (words_at x)) then format_at (from_format (arguments (words_at x))) else []

-- ---- 43 test-operator: an operator that is left out

abbrev unary_operators : List Text
unary_operators = codes "-n" ∷ codes "-z" ∷ codes "-e" ∷ codes "-f" ∷ codes "-d" ∷ codes "-s" ∷ codes "-r" ∷ codes "-w" ∷ []

abbrev binary_operators : List Text
binary_operators = codes "=" ∷ codes "==" ∷ codes "!=" ∷ codes "-eq" ∷ codes "-ne" ∷ codes "-lt" ∷ codes "-le" ∷ codes "-gt" ∷ codes "-ge" ∷ codes "<" ∷ codes ">" ∷ []

abbrev left_out : List Text
left_out =
    codes "-a" ∷ codes "-b" ∷ codes "-c" ∷ codes "-g" ∷ codes "-G" ∷ codes "-h" ∷ codes "-k" ∷ codes "-L" ∷ codes "-N" ∷ codes "-o" ∷
    codes "-O" ∷ codes "-p" ∷ codes "-R" ∷ codes "-S" ∷ codes "-t" ∷ codes "-u" ∷ codes "-v" ∷ codes "-x" ∷ codes "-ef" ∷
    codes "-nt" ∷ codes "-ot" ∷ codes "(" ∷ codes ")" ∷ codes "<" ∷ codes ">" ∷ []

abbrev operator_at : List Text → TestOp → List ℕ
operator_at taken o = place_if (not (is_among taken o.text)) o.span.from

abbrev left_out_at : Word → List ℕ
left_out_at w = place_if (holds_of (is_among left_out) (literal_text w)) (word_from w)

abbrev tests : List Text
tests = codes "test" ∷ codes "[" ∷ []

abbrev pub test_operator : Site → List ℕ
test_operator (test_site (unary_cond o w)) = operator_at unary_operators o
test_operator (test_site (binary_cond w o v)) = operator_at (codes "=~" ∷ binary_operators) o
test_operator x = if holds_of (is_among tests) (command_name (words_at x)) then flat_map left_out_at (list_of (arguments (words_at x))) else []
