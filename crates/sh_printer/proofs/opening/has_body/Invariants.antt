use Rattle.std.proofs.Common.{◌≡◌, drop}
use Rattle.std.specs.Prelude.{map}
use Rattle.sh_printer.specs.Owed.{has_here}
use Rattle.sh_syntax.specs.View.{view_redirect}
use Rattle.sh_printer.proofs.opening.has_body.Given as goal

abbrev pub invariant-loop-redirect : goal.invariant-loop-redirect
invariant-loop-redirect l = has_here (map view_redirect (drop l.redirect-index l.owed)) ≡ has_here (map view_redirect l.owed)
