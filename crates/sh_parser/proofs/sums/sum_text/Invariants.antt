use Rattle.std.proofs.Common.{◌≡◌, length, ◌++◌}
use Rattle.sh_grammar.specs.Sums.{sum_run}
use Rattle.sh_parser.proofs.sums.sum_text.Given as goal

abbrev pub invariant-bytes : goal.invariant-bytes
invariant-bytes l = l.text.items ++ (sum_run l.rest).0 ≡ (sum_run l.bytes).0

abbrev pub decreases-bytes : goal.decreases-bytes
decreases-bytes l = length l.rest
