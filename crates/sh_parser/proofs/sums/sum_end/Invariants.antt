use Rattle.std.proofs.Common.{◌≡◌, length}
use Rattle.sh_grammar.specs.Sums.{sum_run}
use Rattle.sh_parser.proofs.sums.sum_end.Given as goal

abbrev pub invariant-bytes : goal.invariant-bytes
invariant-bytes l = (sum_run l.rest).1 ≡ (sum_run l.bytes).1

abbrev pub decreases-bytes : goal.decreases-bytes
decreases-bytes l = length l.rest
