-- The laws of whole scripts.
use Rattle.std.proofs.Common.{◌≡◌, ℕ, ◌≤◌, Bool, arith}
use Rattle.shell_world.specs.declared.world.World.{World}
use Rattle.shell_world.specs.Runs.{St}
use Rattle.shell_world.specs.Ends.{IsPrefix, trace_of}
use Rattle.shell_runs.specs.Bounds.{OutcomeLater, Later, Under, turns_left}
use Rattle.shell_runs.specs.Loops.{loop_from, loop_round}
use Rattle.shell_runs.proofs.Outcomes.{outcome_later, trace_later}
use Rattle.shell_runs.proofs.Unrolled.{loop_unrolls}
use Rattle.sh_grammar.specs.Shape.{Script}
use Rattle.sh_meaning.specs.Own.{Own, status_of, with_status}
use Rattle.sh_meaning.specs.Simple.{Setting}
use Rattle.sh_meaning.specs.builtins.Places.{Place}
use Rattle.sh_meaning.specs.Commands.{script_run, level, in_shell_place, goes}
use Rattle.sh_meaning.specs.Running.{setting, start, script_result, run}
use Rattle.sh_meaning.proofs.Larger.{script_larger, level_under}

result_later : (world : World) (script : Script) (t d u e : ℕ) → t ≤ u → d ≤ e → Later t u (script_result world script t d) (script_result world script u e)
result_later world script t d u e lt ld =
    (script_larger (setting world script) (level (setting world script) d) (level (setting world script) e) (level_under (setting world script) d e ld) in_shell_place script).later t u (start world) lt

pub run_later : (world : World) (script : Script) (t d u e : ℕ) → t ≤ u → d ≤ e → OutcomeLater (run world script t d) (run world script u e)
run_later world script t d u e lt ld = outcome_later status_of t u (script_result world script t d) (script_result world script u e) (result_later world script t d u e lt ld)

pub run_trace_later : (world : World) (script : Script) (t d u e : ℕ) → t ≤ u → d ≤ e → IsPrefix (trace_of (run world script t d)) (trace_of (run world script u e))
run_trace_later world script t d u e lt ld = trace_later status_of t u (script_result world script t d) (script_result world script u e) (result_later world script t d u e lt ld)

itself : (z : Setting) (d : ℕ) (place : Place) (k : Script) → Under (script_run z (level z d) place k) (script_run z (level z d) place k)
itself z d place k = script_larger z (level z d) (level z d) (level_under z d d (omega arith)) place k

pub script_loop_unrolls : (z : Setting) (d : ℕ) (place : Place) (until : Bool) (test body : Script) (last n : ℕ) (s : St Own) →
    loop_from (goes until) status_of with_status (script_run z (level z d) place test) (script_run z (level z d) place body) last n s
    ≡ loop_round (goes until) status_of with_status (script_run z (level z d) place test) (script_run z (level z d) place body) (loop_from (goes until) status_of with_status (script_run z (level z d) place test) (script_run z (level z d) place body)) last n s
script_loop_unrolls z d place until test body last n s =
    loop_unrolls (goes until) status_of with_status (script_run z (level z d) place test) (script_run z (level z d) place body) (itself z d place test).spends (itself z d place body).spends last n s

pub result_spends : (world : World) (script : Script) (t d : ℕ) → turns_left (script_result world script t d) ≤ t
result_spends world script t d = (itself (setting world script) d in_shell_place script).spends t (start world)
