use Rattle.std.proofs.Common.{◌≡◌, length}
use Rattle.sh_grammar.specs.Bodies.{body_from, line_start}
use Rattle.sh_parser.specs.Owing.{joined_to, owed_of, place_of}
use Rattle.sh_parser.proofs.bodies.body_at.Given as goal

abbrev pub invariant-bytes : goal.invariant-bytes
invariant-bytes l = joined_to l.text.items (body_from (owed_of l.owed) (place_of l.at) l.rest) ≡ body_from (owed_of l.owed) line_start l.bytes

abbrev pub decreases-bytes : goal.decreases-bytes
decreases-bytes l = length l.rest
