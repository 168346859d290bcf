-- How built-ins end. None of them takes a turn.
use Rattle.std.specs.Prelude.{ℕ, Bool, true, false, Option, Some, None}
use Rattle.shell_world.specs.Runs.{St, Ends, Unspecified, Do, with_own}
use Rattle.shell_runs.specs.Flow.{Flow, Normal}
use Rattle.sh_meaning.specs.Own.{Own}
use Rattle.sh_meaning.specs.builtins.Core.{Core}

-- how it ends and what it leaves of the shell environment, or None where that is unspecified
abbrev pub CoreEnding : Type 0
CoreEnding = Option (Flow × Core)

-- the same with the record and the outside
abbrev pub Ending : Type 0
Ending = Option (Flow × St Core)

abbrev pub status_set : ℕ → Core → Core
status_set n o = record o { status = n }

abbrev pub leaves : Flow → ℕ → Core → CoreEnding
leaves flow status o = Some (flow, status_set status o)

-- the next command is next
abbrev pub ends : ℕ → Core → CoreEnding
ends status o = leaves Normal status o

-- the record and the outside stay
abbrev pub on_core : St Core → CoreEnding → Ending
on_core s None = None
on_core s (Some x) = Some (x.0, with_own s x.1)

-- the status of a test
abbrev pub status_of_test : Bool → ℕ
status_of_test true = 0
status_of_test false = 1

-- as a run
abbrev pub finished : Option (Flow × St Own) → Do Flow Own
finished None n s = Unspecified s.trace n
finished (Some x) n s = Ends x.0 x.1 n
