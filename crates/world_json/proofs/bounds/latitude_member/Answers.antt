use Rattle.std.proofs.Common.{codes, refl}
use Rattle.serde_json.specs.View.{view}
use Rattle.world_json.specs.Jobs.{latitude_of, usual_latitude}
use Rattle.world_json.proofs.Judging.{member_there}
use Rattle.world_json.proofs.bounds.latitude_member.Goals as goal

pub returns-in-Some : goal.returns-in-Some
returns-in-Some c =
    let judged = latitude_of (view c.in-Some.member.now) in
    member_there usual_latitude latitude_of (codes "latitude") (view c.args.job.now) _ c.within.result c.in-Some.ensures _ refl (c.within.ensures judged c.latitude.ensures)
