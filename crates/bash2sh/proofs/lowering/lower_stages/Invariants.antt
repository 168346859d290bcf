use Rattle.std.proofs.Common.{◌≡◌, take}
use Rattle.std.specs.Prelude.{map}
use Rattle.sh_syntax.specs.View.{view_command}
use Rattle.bash2sh.specs.Trees.{command_lowered}
use Rattle.bash2sh.proofs.lowering.lower_stages.Given as goal

abbrev pub invariant-loop-stage : goal.invariant-loop-stage
invariant-loop-stage l = map view_command l.lowered ≡ map command_lowered (take l.stage-index l.stages)
