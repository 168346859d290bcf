use Rattle.std.proofs.Common.{[]}
use Rattle.serde_json.specs.View.{view}
use Rattle.world_json.specs.Judging.{text_of}
use Rattle.world_json.proofs.Judging.{member_there}
use Rattle.world_json.proofs.fields.text_member.Goals as goal

pub returns-in-Some : goal.returns-in-Some
returns-in-Some c =
    let judged = text_of (view c.in-Some.member.now) in
    member_there [] text_of _ _ _ c.within.result c.in-Some.ensures _ c.as_bytes.ensures.value (c.within.ensures judged c.text.ensures)
