use Rattle.std.proofs.Common.{◌≡◌, false, length, sym, ◌∙◌}
use Rattle.std.specs.Prelude.{◌==◌}
use Rattle.glob_pattern.specs.Brackets.{parts, member_len, member_at}
use Rattle.glob_pattern.proofs.Parts.{list_next}
use Rattle.glob_pattern.proofs.member.members_of.Goals as goal

pub members-preserved : goal.members-preserved
members-preserved c =
    let e : (length c.members.rest.now == 0) ≡ false = sym c.is_empty.ensures ∙ c.members-test.true in
    rw (c.from-rest.ensures, c.in_ok-push.ensures.ok, c.member_at.ensures)
    (list_next member_len member_at c.members.rest.now c.member_len.result c.members.members (parts member_len member_at 0 c.args.body.now) e c.member_len.ensures.some (sym c.member_len.ensures.len) c.members.invariant)
