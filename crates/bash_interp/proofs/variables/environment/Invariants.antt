use Rattle.std.proofs.Common.{◌≡◌, ◌++◌, drop}
use Rattle.bash_meaning.specs.Variables as meaning
use Rattle.bash_interp.proofs.variables.environment.Given as goal

abbrev pub invariant-loop-entry : goal.invariant-loop-entry
invariant-loop-entry l = l.all ++ meaning.exported_of (drop l.entry-index l.bottom) ≡ meaning.exported_of l.bottom
