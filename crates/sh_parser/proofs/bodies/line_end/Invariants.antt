use Rattle.std.proofs.Common.{◌≡◌, length, false}
use Rattle.sh_grammar.specs.Bodies.{line_from}
use Rattle.sh_parser.proofs.bodies.line_end.Given as goal

abbrev pub invariant-bytes : goal.invariant-bytes
invariant-bytes l = line_from l.literal false l.wanted l.rest ≡ line_from l.literal false l.text l.bytes

abbrev pub decreases-bytes : goal.decreases-bytes
decreases-bytes l = length l.rest
