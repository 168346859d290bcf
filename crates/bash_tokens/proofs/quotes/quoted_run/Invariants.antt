use Rattle.std.proofs.Common.{◌≡◌, length}
use Rattle.bash_grammar.specs.Quotes.{quoted_run}
use Rattle.bash_tokens.specs.Escapes.{quoted_to}
use Rattle.bash_tokens.proofs.quotes.quoted_run.Given as goal

abbrev pub invariant-bytes : goal.invariant-bytes
invariant-bytes l = quoted_to l.text.items (quoted_run l.rest) ≡ quoted_run l.bytes

abbrev pub decreases-bytes : goal.decreases-bytes
decreases-bytes l = length l.rest
