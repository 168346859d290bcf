use Rattle.std.proofs.Common.{◌≡◌, length}
use Rattle.bash_grammar.specs.Quotes.{ansi_from, outside}
use Rattle.bash_tokens.specs.Escapes.{joined_to}
use Rattle.bash_tokens.proofs.quotes.ansi_at.Given as goal

abbrev pub invariant-bytes : goal.invariant-bytes
invariant-bytes l = joined_to l.text.items l.bad (ansi_from outside l.rest) ≡ ansi_from outside l.bytes

abbrev pub decreases-bytes : goal.decreases-bytes
decreases-bytes l = length l.rest
