use Rattle.std.proofs.Common.{◌≡◌, length}
use Rattle.bash_grammar.specs.Bodies.{delimiter_from, unquoted}
use Rattle.bash_tokens.specs.Delimiters.{joined_to, mode}
use Rattle.bash_tokens.proofs.delimiters.delimiter_from.Given as goal

abbrev pub invariant-bytes : goal.invariant-bytes
invariant-bytes l = joined_to l.text.items l.quoted (delimiter_from (mode l.at) l.end l.rest) ≡ delimiter_from unquoted l.bytes l.bytes

abbrev pub decreases-bytes : goal.decreases-bytes
decreases-bytes l = length l.rest
