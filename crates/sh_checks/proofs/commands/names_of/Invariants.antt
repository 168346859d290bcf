use Rattle.std.proofs.Common.{◌≡◌, ◌++◌, drop}
use Rattle.std.specs.Prelude.{map}
use Rattle.sh_syntax.specs.View.{view_assign, assigns_of}
use Rattle.sh_meaning.specs.Simple.{names_of}
use Rattle.sh_checks.proofs.commands.names_of.Given as goal

abbrev pub invariant-loop-assign : goal.invariant-loop-assign
invariant-loop-assign l = l.names ++ names_of (assigns_of (map view_assign (drop l.assign-index l.assigns))) ≡ names_of (assigns_of (map view_assign l.assigns))
