use Rattle.std.proofs.Common.{◌≡◌, take}
use Rattle.sh_interp.proofs.shell.copy_variables.Given as goal

abbrev pub invariant-loop-entry : goal.invariant-loop-entry
invariant-loop-entry l = l.copied ≡ take l.entry-index l.entries
