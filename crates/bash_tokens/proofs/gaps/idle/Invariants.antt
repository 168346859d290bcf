use Rattle.std.proofs.Common.{◌≡◌, length}
use Rattle.bash_grammar.specs.Bytes as bytes_of
use Rattle.bash_tokens.proofs.gaps.idle.Given as goal

abbrev pub invariant-blanks : goal.invariant-blanks
invariant-blanks l = bytes_of.idle l.rest ≡ bytes_of.idle l.bytes

abbrev pub decreases-blanks : goal.decreases-blanks
decreases-blanks l = length l.rest
