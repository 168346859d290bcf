use Rattle.std.proofs.Common.{◌≡◌, false, length, sym, ◌∙◌}
use Rattle.std.specs.Prelude.{◌==◌}
use Rattle.glob_pattern.specs.Brackets.{parts, least_place, member_len, member_doubt}
use Rattle.glob_pattern.proofs.Parts.{least_next}
use Rattle.glob_pattern.proofs.member.members_doubt.Goals as goal

pub members-preserved : goal.members-preserved
members-preserved c =
    let e : (length c.members.rest.now == 0) ≡ false = sym c.is_empty.ensures ∙ c.members-test.true in
    rw (c.from-rest.ensures, c.lesser-place.ensures, c.member_doubt.ensures)
    (least_next member_len (member_doubt c.args.purpose) c.members.rest.now c.member_len.result c.members.place (least_place (parts member_len (member_doubt c.args.purpose) 0 c.args.body.now)) e c.member_len.ensures.some (sym c.member_len.ensures.len) c.members.invariant)
