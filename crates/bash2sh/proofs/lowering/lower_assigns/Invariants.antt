use Rattle.std.proofs.Common.{◌≡◌, take}
use Rattle.std.specs.Prelude.{map}
use Rattle.sh_syntax.specs.View.{view_assign}
use Rattle.bash2sh.specs.Trees.{assign_lowered}
use Rattle.bash2sh.proofs.lowering.lower_assigns.Given as goal

abbrev pub invariant-loop-assign : goal.invariant-loop-assign
invariant-loop-assign l = map view_assign l.lowered ≡ map assign_lowered (take l.assign-index l.assigns)
