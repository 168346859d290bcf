-- How a loop is left by how its commands end.
use Rattle.std.specs.Prelude.{zero, suc, Option, Some, None}
use Rattle.shell_world.specs.Runs.{Ends, Do}
use Rattle.shell_runs.specs.Flow.{Flow, Normal, Breaks, Continues, Returns, Exits}

-- None where the next round starts
abbrev pub loop_exit : Flow → Option Flow
loop_exit Normal = None
loop_exit (Breaks zero) = Some Normal
loop_exit (Breaks (suc more)) = Some (Breaks more)
loop_exit (Continues zero) = None
loop_exit (Continues (suc more)) = Some (Continues more)
loop_exit Returns = Some Returns
loop_exit Exits = Some Exits

abbrev pub exit_or : {S : Type 0} → Option Flow → Do Flow S → Do Flow S
exit_or None next n s = next n s
exit_or (Some flow) next n s = Ends flow s n
