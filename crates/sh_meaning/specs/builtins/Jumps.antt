-- `break`, `continue`, `return` and `exit` (POSIX XCU 2.14).
use Rattle.std.specs.Prelude.{ℕ, zero, suc, ◌&&◌, ◌==◌, nat_lt, if◌then◌else◌, length, List, [], ◌∷◌, Option, Some, None}
use Rattle.span_text.specs.Constant.{number_of}
use Rattle.shell_world.specs.Texts.{Text}
use Rattle.shell_runs.specs.Flow.{Flow, Breaks, Continues, Returns, Exits}
use Rattle.sh_meaning.specs.builtins.Core.{Core}
use Rattle.sh_meaning.specs.builtins.Ends.{CoreEnding, leaves}
use Rattle.sh_meaning.specs.builtins.Forms.{Form}
use Rattle.sh_meaning.specs.builtins.Literals.{are_written}
use Rattle.sh_meaning.specs.builtins.Places.{Place}

-- one less, where it isn't 0
abbrev pub one_less : Option ℕ → Option ℕ
one_less None = None
one_less (Some zero) = None
one_less (Some (suc n)) = Some n

-- the decimal number n from 1 to the number of loops, or 1 where none is written: how many loops around the innermost one it says
abbrev pub loops_around : Place → Form → List Text → Option ℕ
loops_around place form [] = if are_written 1 0 form.words && nat_lt 0 place.loops then Some 0 else None
loops_around place form (text ∷ more) = if length more == 0 && are_written 1 1 form.words then one_less (number_of place.loops 10 text) else None

abbrev pub jumps : (ℕ → Flow) → Option ℕ → Core → CoreEnding
jumps flow None o = None
jumps flow (Some more) o = leaves (flow more) 0 o

-- `break [n]`
abbrev pub break_run : Place → Form → List Text → Core → CoreEnding
break_run place form args o = jumps Breaks (loops_around place form args) o

-- `continue [n]`
abbrev pub continue_run : Place → Form → List Text → Core → CoreEnding
continue_run place form args o = jumps Continues (loops_around place form args) o

-- the status that a decimal number from 0 to 255 says, or the last one where none is there
abbrev pub status_left : List Text → ℕ → Option ℕ
status_left [] last = Some last
status_left (text ∷ more) last = if length more == 0 then number_of 255 10 text else None

abbrev pub leaves_with : Flow → Option ℕ → Core → CoreEnding
leaves_with flow None o = None
leaves_with flow (Some status) o = leaves flow status o

-- `exit [n]`
abbrev pub exit_run : List Text → Core → CoreEnding
exit_run args o = leaves_with Exits (status_left args o.status) o

-- `return [n]`, which stands in a function
abbrev pub return_run : Place → List Text → Core → CoreEnding
return_run place args o = if place.in_function then leaves_with Returns (status_left args o.status) o else None
