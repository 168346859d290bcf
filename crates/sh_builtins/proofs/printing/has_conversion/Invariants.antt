use Rattle.std.proofs.Common.{◌≡◌, length}
use Rattle.sh_meaning.specs.builtins.Printing.{has_conversion}
use Rattle.sh_builtins.proofs.printing.has_conversion.Given as goal

abbrev pub invariant-bytes : goal.invariant-bytes
invariant-bytes l = has_conversion l.rest ≡ has_conversion l.format

abbrev pub decreases-bytes : goal.decreases-bytes
decreases-bytes l = length l.rest
