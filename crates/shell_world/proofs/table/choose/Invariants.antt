use Rattle.std.proofs.Common.{◌≡◌, drop}
use Rattle.shell_world.specs.Calls.{chosen_from}
use Rattle.shell_world.proofs.table.choose.Given as goal

abbrev pub invariant-loop-i : goal.invariant-loop-i
invariant-loop-i l = chosen_from l.i (drop l.i l.rows) l.argv l.input ≡ chosen_from 0 l.rows l.argv l.input
