use Rattle.std.proofs.Common.{◌≡◌, length}
use Rattle.glob_pattern.specs.Brackets.{parts, lesser, least_place, member_len, member_doubt}
use Rattle.glob_pattern.proofs.member.members_doubt.Given as goal

abbrev pub invariant-members : goal.invariant-members
invariant-members l = lesser l.place (least_place (parts member_len (member_doubt l.purpose) 0 l.rest)) ≡ least_place (parts member_len (member_doubt l.purpose) 0 l.body)

abbrev pub decreases-members : goal.decreases-members
decreases-members l = length l.rest
