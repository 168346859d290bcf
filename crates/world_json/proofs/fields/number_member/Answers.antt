use Rattle.serde_json.specs.View.{view}
use Rattle.world_json.specs.Judging.{number_of}
use Rattle.world_json.proofs.Judging.{member_there}
use Rattle.world_json.proofs.fields.number_member.Goals as goal

pub returns-in-Some : goal.returns-in-Some
returns-in-Some c =
    let judged = number_of c.args.low c.args.high (view c.in-Some.member.now) in
    member_there c.args.missing (number_of c.args.low c.args.high) _ _ _ c.within.result c.in-Some.ensures _ c.as_bytes.ensures.value (c.within.ensures judged c.number.ensures)
