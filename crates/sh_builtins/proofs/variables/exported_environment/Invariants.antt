use Rattle.std.proofs.Common.{◌≡◌, ◌++◌, drop}
use Rattle.sh_meaning.specs.Variables as meaning
use Rattle.sh_builtins.proofs.variables.exported_environment.Given as goal

abbrev pub invariant-loop-entry : goal.invariant-loop-entry
invariant-loop-entry l = l.all ++ meaning.environment (drop l.entry-index l.vars) ≡ meaning.environment l.vars
