use Rattle.std.proofs.Common.{◌≡◌, ◌++◌, length}
use Rattle.glob_pattern.specs.Brackets.{parts, member_len, member_at}
use Rattle.glob_pattern.proofs.member.members_of.Given as goal

abbrev pub invariant-members : goal.invariant-members
invariant-members l = l.members ++ parts member_len member_at 0 l.rest ≡ parts member_len member_at 0 l.body

abbrev pub decreases-members : goal.decreases-members
decreases-members l = length l.rest
