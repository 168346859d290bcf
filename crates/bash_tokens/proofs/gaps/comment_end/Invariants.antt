use Rattle.std.proofs.Common.{◌≡◌, length}
use Rattle.bash_grammar.specs.Bytes as bytes_of
use Rattle.bash_tokens.proofs.gaps.comment_end.Given as goal

abbrev pub invariant-comment : goal.invariant-comment
invariant-comment l = bytes_of.comment_end l.rest ≡ bytes_of.comment_end l.bytes

abbrev pub decreases-comment : goal.decreases-comment
decreases-comment l = length l.rest
