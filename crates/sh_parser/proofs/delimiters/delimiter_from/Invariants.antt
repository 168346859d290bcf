use Rattle.std.proofs.Common.{◌≡◌, length}
use Rattle.sh_grammar.specs.Bodies.{delimiter_from, bare}
use Rattle.sh_parser.specs.Delimiters.{joined_to, mode}
use Rattle.sh_parser.proofs.delimiters.delimiter_from.Given as goal

abbrev pub invariant-bytes : goal.invariant-bytes
invariant-bytes l = joined_to l.text.items l.quoted (delimiter_from (mode l.at) l.rest) ≡ delimiter_from bare l.bytes

abbrev pub decreases-bytes : goal.decreases-bytes
decreases-bytes l = length l.rest
