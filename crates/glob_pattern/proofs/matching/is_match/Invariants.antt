use Rattle.std.proofs.Common.{◌+◌, ◌*◌, length}
use Rattle.glob_pattern.proofs.Greedy.{State}
use Rattle.glob_pattern.proofs.matching.is_match.Given as goal

abbrev pub invariant-bytes : goal.invariant-bytes
invariant-bytes l = State l.pieces l.ahead l.last l.text l.rest l.left l.starred

-- so there are at most so many rounds: the product of the lengths, each and one
abbrev pub decreases-bytes : goal.decreases-bytes
decreases-bytes l = length l.left * (length l.pieces + 1) + length l.ahead
