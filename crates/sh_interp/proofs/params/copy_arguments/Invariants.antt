use Rattle.std.proofs.Common.{◌≡◌, take}
use Rattle.sh_interp.proofs.params.copy_arguments.Given as goal

abbrev pub invariant-loop-text : goal.invariant-loop-text
invariant-loop-text l = l.copied ≡ take l.text-index l.members
