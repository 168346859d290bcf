use Rattle.std.proofs.Common.{◌≡◌, length}
use Rattle.bash_grammar.specs.Tests.{has_byte}
use Rattle.bash_tokens.proofs.ticks.has_byte.Given as goal

abbrev pub invariant-bytes : goal.invariant-bytes
invariant-bytes l = has_byte l.k l.rest ≡ has_byte l.k l.bytes

abbrev pub decreases-bytes : goal.decreases-bytes
decreases-bytes l = length l.rest
