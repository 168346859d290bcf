use Rattle.std.proofs.Common.{◌≡◌, drop, false}
use Rattle.sh_meaning.specs.builtins.Export.{has_tilde}
use Rattle.sh_checks.proofs.tildes.has_tilde.Given as goal

abbrev pub invariant-loop-b : goal.invariant-loop-b
invariant-loop-b l = has_tilde l.behind (drop l.b-index l.text) ≡ has_tilde false l.text
