use Rattle.std.proofs.Common.{◌≡◌, ◌++◌, drop}
use Rattle.sh_builtins.proofs.parameters.push_copies.Given as goal

abbrev pub invariant-loop-text : goal.invariant-loop-text
invariant-loop-text l = l.to ++ drop l.text-index l.texts ≡ l.initial.to ++ l.texts
