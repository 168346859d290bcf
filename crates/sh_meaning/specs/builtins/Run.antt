-- What a built-in of sh does (POSIX XCU 2.14 and the utilities).
use Rattle.std.specs.Prelude.{List, Option, Some, None}
use Rattle.shell_world.specs.Texts.{Text}
use Rattle.shell_world.specs.Runs.{St, Do}
use Rattle.shell_runs.specs.Flow.{Flow}
use Rattle.sh_meaning.specs.declared.builtin.Builtin.{Builtin}
use Rattle.sh_meaning.specs.declared.builtin.Builtin.TheVariants as builtin
use Rattle.sh_meaning.specs.Own.{Own}
use Rattle.sh_meaning.specs.builtins.Core.{Core, core_state, in_own}
use Rattle.sh_meaning.specs.builtins.Ends.{CoreEnding, Ending, ends, on_core, finished}
use Rattle.sh_meaning.specs.builtins.Forms.{Form}
use Rattle.sh_meaning.specs.builtins.Jumps.{break_run, continue_run, return_run, exit_run}
use Rattle.sh_meaning.specs.builtins.Names.{builtin_of}
use Rattle.sh_meaning.specs.builtins.Parameters.{set_run, shift_run}
use Rattle.sh_meaning.specs.builtins.Places.{Place}
use Rattle.sh_meaning.specs.builtins.Printing.{printf_run, echo_run}
use Rattle.sh_meaning.specs.builtins.Reading.{read_run}
use Rattle.sh_meaning.specs.builtins.Testing.{test_run, bracket_run}
use Rattle.sh_meaning.specs.builtins.Variables.{export_run, unset_run}

-- those that see the shell environment alone
abbrev pub core_ending : Place → Form → Builtin → List Text → Core → CoreEnding
core_ending place form builtin.Colon args o = ends 0 o
core_ending place form builtin.True args o = ends 0 o
core_ending place form builtin.False args o = ends 1 o
core_ending place form builtin.Break args o = break_run place form args o
core_ending place form builtin.Continue args o = continue_run place form args o
core_ending place form builtin.Return args o = return_run place args o
core_ending place form builtin.Exit args o = exit_run args o
core_ending place form builtin.Set args o = set_run args o
core_ending place form builtin.Shift args o = shift_run args o
core_ending place form builtin.Export args o = export_run form args o
core_ending place form builtin.Unset args o = unset_run form args o
core_ending place form builtin.Printf args o = None
core_ending place form builtin.Read args o = None
core_ending place form builtin.Test args o = None
core_ending place form builtin.Bracket args o = None
core_ending place form builtin.Echo args o = None

abbrev pub ending : Place → Form → Builtin → List Text → St Core → Ending
ending place form builtin.Colon args s = on_core s (core_ending place form builtin.Colon args s.own)
ending place form builtin.True args s = on_core s (core_ending place form builtin.True args s.own)
ending place form builtin.False args s = on_core s (core_ending place form builtin.False args s.own)
ending place form builtin.Break args s = on_core s (core_ending place form builtin.Break args s.own)
ending place form builtin.Continue args s = on_core s (core_ending place form builtin.Continue args s.own)
ending place form builtin.Return args s = on_core s (core_ending place form builtin.Return args s.own)
ending place form builtin.Exit args s = on_core s (core_ending place form builtin.Exit args s.own)
ending place form builtin.Set args s = on_core s (core_ending place form builtin.Set args s.own)
ending place form builtin.Shift args s = on_core s (core_ending place form builtin.Shift args s.own)
ending place form builtin.Export args s = on_core s (core_ending place form builtin.Export args s.own)
ending place form builtin.Unset args s = on_core s (core_ending place form builtin.Unset args s.own)
ending place form builtin.Printf args s = printf_run args s
ending place form builtin.Read args s = read_run form args s
ending place form builtin.Test args s = test_run args s
ending place form builtin.Bracket args s = bracket_run args s
ending place form builtin.Echo args s = echo_run args s

-- by name; no command asks for a name that is none of theirs
abbrev pub ending_of : Place → Form → Option Builtin → List Text → St Core → Ending
ending_of place form None args s = None
ending_of place form (Some b) args s = ending place form b args s

unfoldable pub builtin_ending : Place → Form → Text → List Text → St Core → Ending
builtin_ending place form name args s = ending_of place form (builtin_of name) args s

-- the built-in of this name with these arguments, as a run
abbrev pub builtin_run : Place → Form → (name : Text) → (args : List Text) → Do Flow Own
builtin_run place form name args n s = finished (in_own s.own (builtin_ending place form name args (core_state s))) n s
