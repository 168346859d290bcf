use Rattle.std.proofs.Common.{length}
use Rattle.sh_parser.specs.Values.{nodes}
use Rattle.sh_parser.proofs.Turns.{SoFar}
use Rattle.sh_parser.proofs.script.read.Given as goal

abbrev pub invariant-pieces : goal.invariant-pieces
invariant-pieces l = SoFar l.text l.rest (nodes l.values)

abbrev pub decreases-pieces : goal.decreases-pieces
decreases-pieces l = length l.rest
