use Rattle.std.proofs.Common.{◌≡◌, drop}
use Rattle.sh_meaning.specs.builtins.Variables.{unset_all}
use Rattle.sh_builtins.proofs.variables.unset_all.Given as goal

abbrev pub invariant-loop-name : goal.invariant-loop-name
invariant-loop-name l = unset_all (drop l.name-index l.names) l.vars ≡ unset_all l.names l.initial.vars
