-- `set` and `shift` (POSIX XCU 2.14): the positional parameters. `$0` stays.
use Rattle.std.specs.Prelude.{ℕ, ◌+◌, ◌-◌, ◌==◌, nat_le, if◌then◌else◌, List, [], ◌∷◌, ◌++◌, length, take, drop, Option, Some, None, codes}
use Rattle.span_text.specs.Constant.{number_of}
use Rattle.span_text.specs.KnownNames.{same_text}
use Rattle.shell_world.specs.Texts.{Text}
use Rattle.sh_meaning.specs.builtins.Core.{Core}
use Rattle.sh_meaning.specs.builtins.Ends.{CoreEnding, ends}

-- `$#`
abbrev pub param_count : List Text → ℕ
param_count params = length params - 1

abbrev pub params_set : List Text → Core → Core
params_set words o = record o { params = take 1 o.params ++ words }

-- `set -- words`
abbrev pub set_run : List Text → Core → CoreEnding
set_run [] o = None
set_run (first ∷ words) o = if same_text (codes "--") first then ends 0 (params_set words o) else None

-- a decimal number that is at most `$#`, or 1 where none is there
abbrev pub shift_count : List Text → ℕ → Option ℕ
shift_count [] count = if nat_le 1 count then Some 1 else None
shift_count (text ∷ more) count = if length more == 0 then number_of count 10 text else None

abbrev pub shifts : Option ℕ → Core → CoreEnding
shifts None o = None
shifts (Some n) o = ends 0 (params_set (drop (n + 1) o.params) o)

-- `shift [n]`
abbrev pub shift_run : List Text → Core → CoreEnding
shift_run args o = shifts (shift_count args (param_count o.params)) o
