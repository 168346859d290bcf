use Rattle.std.proofs.Common.{◌≡◌, length}
use Rattle.bash_grammar.specs.Sums.{stretch_from}
use Rattle.bash_tokens.specs.Kinds.{stretch}
use Rattle.bash_tokens.proofs.stretching.stretch_run.Given as goal

abbrev pub invariant-bytes : goal.invariant-bytes
invariant-bytes l = stretch_from (stretch l.end) l.level l.rest ≡ stretch_from (stretch l.end) l.before l.bytes

abbrev pub decreases-bytes : goal.decreases-bytes
decreases-bytes l = length l.rest
