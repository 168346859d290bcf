-- Whole runs of sh: how a script begins and ends in a world.
use Rattle.std.specs.Prelude.{ℕ, [], codes}
use Rattle.shell_world.specs.declared.world.World.{World}
use Rattle.shell_world.specs.declared.world.Report.{Report}
use Rattle.shell_world.specs.Runs.{St, Res}
use Rattle.shell_world.specs.World.{start_outside, start_fds, start_ifs, no_trace}
use Rattle.shell_world.specs.Ends.{Outcome}
use Rattle.shell_runs.specs.Flow.{Flow}
use Rattle.shell_runs.specs.Ends.{outcome, report as report_of}
use Rattle.sh_grammar.specs.Shape.{Script}
use Rattle.sh_meaning.specs.Variables.{start_variables}
use Rattle.sh_meaning.specs.Own.{Own, status_of}
use Rattle.sh_meaning.specs.Simple.{Setting}
use Rattle.sh_meaning.specs.Commands.{script_run, level, in_shell_place}
use Rattle.sh_meaning.specs.builtins.Functions.{functions_of}

abbrev pub setting : World → Script → Setting
setting world script = record { world = world; functions = functions_of script }

abbrev pub start : World → St Own
start world = record {
  trace = no_trace;
  outside = start_outside world;
  own = record { vars = start_variables world.env (codes "IFS") start_ifs; params = world.args; functions = []; status = 0; fds = start_fds };
}

-- the script in this world, with so many turns and levels
abbrev pub script_result : World → Script → ℕ → ℕ → Res Flow Own
script_result world script turns depth = script_run (setting world script) (level (setting world script) depth) in_shell_place script turns (start world)

-- how it ends
abbrev pub run : World → Script → ℕ → ℕ → Outcome
run world script turns depth = outcome status_of (script_result world script turns depth)

-- what a run of the script in this world reports, under the world's own bounds
abbrev pub report : World → Script → Report
report world script = report_of status_of world.bounds.turns (script_result world script world.bounds.turns world.bounds.depth)
