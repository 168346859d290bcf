use Rattle.std.proofs.Common.{◌≡◌, ◌-◌, drop, length}
use Rattle.sh_meaning.specs.Variables.{start_imported}
use Rattle.sh_builtins.proofs.variables.imported.Given as goal

abbrev pub invariant-loop-behind : goal.invariant-loop-behind
invariant-loop-behind l = l.vars ≡ start_imported (drop (length l.env - l.behind) l.env)
