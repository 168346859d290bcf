use Rattle.std.proofs.Common.{◌≡◌, length}
use Rattle.sh_grammar.specs.Steps.{quoted_run}
use Rattle.sh_parser.specs.Owing.{joined_to}
use Rattle.sh_parser.proofs.bodies.quoted_run.Given as goal

abbrev pub invariant-bytes : goal.invariant-bytes
invariant-bytes l = joined_to l.text.items (quoted_run l.rest) ≡ quoted_run l.bytes

abbrev pub decreases-bytes : goal.decreases-bytes
decreases-bytes l = length l.rest
