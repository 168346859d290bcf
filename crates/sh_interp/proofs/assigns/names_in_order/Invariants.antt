use Rattle.std.proofs.Common.{◌≡◌, take}
use Rattle.sh_meaning.specs.Simple.{saved_names}
use Rattle.sh_interp.proofs.assigns.names_in_order.Given as goal

abbrev pub invariant-loop-entry : goal.invariant-loop-entry
invariant-loop-entry l = l.names ≡ saved_names (take l.entry-index l.before)
