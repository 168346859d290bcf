use Rattle.std.proofs.Common.{◌≡◌, length, true}
use Rattle.sh_parser.proofs.knowing.behind_line.Given as goal

abbrev pub invariant-line : goal.invariant-line
invariant-line l = true ≡ true

abbrev pub decreases-line : goal.decreases-line
decreases-line l = length l.rest
