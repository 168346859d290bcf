use Rattle.std.proofs.Common.{◌≡◌, drop}
use Rattle.sh_meaning.specs.builtins.Variables.{export_all}
use Rattle.sh_builtins.proofs.variables.export_all.Given as goal

abbrev pub invariant-loop-operand : goal.invariant-loop-operand
invariant-loop-operand l = export_all (drop l.operand-index l.args) l.vars ≡ export_all l.args l.initial.vars
