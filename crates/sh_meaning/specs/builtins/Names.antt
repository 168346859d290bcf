-- The names of the built-ins of sh, and which of them are special (POSIX XCU 2.14).
use Rattle.std.specs.Prelude.{Bool, if◌then◌else◌, Option, Some, None, is_some, codes}
use Rattle.span_text.specs.KnownNames.{same_text}
use Rattle.shell_world.specs.Texts.{Text}
use Rattle.sh_meaning.specs.declared.builtin.Builtin.{Builtin}
use Rattle.sh_meaning.specs.declared.builtin.Builtin.TheVariants as builtin

-- those that aren't special
unfoldable pub plain_builtin : Text → Option Builtin
plain_builtin name =
    if same_text (codes "true") name then Some builtin.True
    else if same_text (codes "false") name then Some builtin.False
    else if same_text (codes "printf") name then Some builtin.Printf
    else if same_text (codes "read") name then Some builtin.Read
    else if same_text (codes "test") name then Some builtin.Test
    else if same_text (codes "[") name then Some builtin.Bracket
    else if same_text (codes "echo") name then Some builtin.Echo
    else None

unfoldable pub special_builtin : Text → Option Builtin
special_builtin name =
    if same_text (codes ":") name then Some builtin.Colon
    else if same_text (codes "break") name then Some builtin.Break
    else if same_text (codes "continue") name then Some builtin.Continue
    else if same_text (codes "return") name then Some builtin.Return
    else if same_text (codes "exit") name then Some builtin.Exit
    else if same_text (codes "set") name then Some builtin.Set
    else if same_text (codes "shift") name then Some builtin.Shift
    else if same_text (codes "export") name then Some builtin.Export
    else if same_text (codes "unset") name then Some builtin.Unset
    else None

abbrev pub first_some : Option Builtin → Option Builtin → Option Builtin
first_some (Some b) other = Some b
first_some None other = other

unfoldable pub builtin_of : Text → Option Builtin
builtin_of name = first_some (special_builtin name) (plain_builtin name)

abbrev pub is_special : Text → Bool
is_special name = is_some (special_builtin name)

abbrev pub is_sh_builtin : Text → Bool
is_sh_builtin name = is_some (builtin_of name)
