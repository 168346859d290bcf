-- `printf` and `echo` (POSIX XCU printf, echo).
use Rattle.std.specs.Prelude.{ℕ, Bool, true, false, not, ◌&&◌, ◌||◌, ◌==◌, if◌then◌else◌, List, [], ◌∷◌, ◌++◌, length, Option, Some, None, Result, Ok, Err, codes}
use Rattle.std.specs.List.{list_any, join_by}
use Rattle.span_text.specs.KnownNames.{same_text}
use Rattle.shell_world.specs.Texts.{Text, nth}
use Rattle.shell_world.specs.Outside.{Trace, Outside, index_at, written, takes_piece}
use Rattle.shell_world.specs.Runs.{St}
use Rattle.shell_runs.specs.Flow.{Normal}
use Rattle.fmt_print.specs.Printing.{formatted}
use Rattle.fmt_print.specs.declared.Printed.{Printed}
use Rattle.fmt_print.specs.declared.fault.FmtFault.{FmtFault}
use Rattle.sh_meaning.specs.builtins.Core.{Core}
use Rattle.sh_meaning.specs.builtins.Ends.{Ending, status_set, status_of_test}

-- whether a text can be written to standard output
abbrev pub can_print : Text → St Core → Bool
can_print text s = takes_piece (index_at (nth 1 s.own.fds)) text s.outside.descs

abbrev pub printed_to : Trace × Outside → ℕ → Core → St Core
printed_to x status o = record { trace = x.0; outside = x.1; own = status_set status o }

-- the text is written to standard output; the status is 1 where it can't be
abbrev pub prints : Text → St Core → Ending
prints text s = Some (Normal, printed_to (written 1 s.own.fds text (s.trace, s.outside)) (status_of_test (can_print text s)) s.own)

abbrev pub prints_some : Option Text → St Core → Ending
prints_some None s = None
prints_some (Some text) s = prints text s

-- ---- `printf format words`, `printf -- format words`

-- whether a conversion stands in a format: a `%` that no other `%` follows
abbrev pub has_conversion : Text → Bool
has_conversion [] = false
has_conversion (b ∷ []) = b == 37
has_conversion (b ∷ c ∷ bs) = if b == 37 then (if c == 37 then has_conversion bs else true) else has_conversion (c ∷ bs)

-- arguments that no conversion takes aren't looked at by every shell alike
abbrev pub ignores : Text → List Text → Bool
ignores format args = not (length args == 0) && not (has_conversion format)

abbrev pub text_of_printed : Result Printed FmtFault → Option Text
text_of_printed (Ok printed) = Some printed.text
text_of_printed (Err fault) = None

abbrev pub printf_text : Text → List Text → Option Text
printf_text format args = if ignores format args then None else text_of_printed (formatted format args)

abbrev pub printf_behind : List Text → Option Text
printf_behind [] = None
printf_behind (format ∷ args) = printf_text format args

abbrev pub printf_output : List Text → Option Text
printf_output [] = None
printf_output (first ∷ more) = if same_text (codes "--") first then printf_behind more else printf_text first more

abbrev pub printf_run : List Text → St Core → Ending
printf_run args s = prints_some (printf_output args) s

-- ---- `echo words`

abbrev pub is_dashed : Text → Bool
is_dashed [] = false
is_dashed (b ∷ bs) = b == 45

abbrev pub begins_dash : List Text → Bool
begins_dash [] = false
begins_dash (text ∷ more) = is_dashed text

abbrev pub has_backslash : Text → Bool
has_backslash text = list_any (λ b. b == 92) text

-- shells differ on options and on backslashes
abbrev pub echo_output : List Text → Option Text
echo_output args = if begins_dash args || list_any has_backslash args then None else Some (join_by (λ t. t) (32 ∷ []) args ++ 10 ∷ [])

abbrev pub echo_run : List Text → St Core → Ending
echo_run args s = prints_some (echo_output args) s
