use Rattle.std.proofs.Common.{◌≡◌, ◌-◌, drop, length}
use Rattle.bash_meaning.specs.Variables.{start_cells}
use Rattle.bash_interp.proofs.variables.imported.Given as goal

abbrev pub invariant-loop-behind : goal.invariant-loop-behind
invariant-loop-behind l = l.vars ≡ start_cells (drop (length l.env - l.behind) l.env)
