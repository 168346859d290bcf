use Rattle.std.proofs.Common.{false, codes, refl}
use Rattle.serde_json.specs.View.{view}
use Rattle.world_json.specs.Jobs.{last_of}
use Rattle.world_json.proofs.Judging.{member_there}
use Rattle.world_json.proofs.bounds.last_member.Goals as goal

pub returns-in-Some : goal.returns-in-Some
returns-in-Some c =
    let judged = last_of (view c.in-Some.member.now) in
    member_there false last_of (codes "last") (view c.args.value.now) _ c.within.result c.in-Some.ensures _ refl (c.within.ensures judged c.last.ensures)
