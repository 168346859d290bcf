-- What built-ins see of a shell environment (POSIX XCU 2.12): all but the functions, which none of them changes.
use Rattle.std.specs.Prelude.{ℕ, List, Option, Some, None}
use Rattle.shell_world.specs.Texts.{Text}
use Rattle.shell_world.specs.Outside.{Fds}
use Rattle.shell_world.specs.Runs.{St}
use Rattle.shell_runs.specs.Flow.{Flow}
use Rattle.sh_meaning.specs.Own.{Own}
use Rattle.sh_meaning.specs.Variables.{Variables}

pub record Core : Type 0 where
  pub vars : Variables
  -- `$0` and the positional parameters
  pub params : List Text
  -- `$?`
  pub status : ℕ
  pub fds : Fds

abbrev pub core_of : Own → Core
core_of o = record { vars = o.vars; params = o.params; status = o.status; fds = o.fds }

abbrev pub with_core : Core → Own → Own
with_core c o = record { vars = c.vars; params = c.params; functions = o.functions; status = c.status; fds = c.fds }

abbrev pub core_state : St Own → St Core
core_state s = record { trace = s.trace; outside = s.outside; own = core_of s.own }

-- the state with what a built-in left
abbrev pub with_core_state : St Core → Own → St Own
with_core_state s o = record { trace = s.trace; outside = s.outside; own = with_core s.own o }

-- the same of a run's end
abbrev pub in_own : Own → Option (Flow × St Core) → Option (Flow × St Own)
in_own o None = None
in_own o (Some x) = Some (x.0, with_core_state x.1 o)
