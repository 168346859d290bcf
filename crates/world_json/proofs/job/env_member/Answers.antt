use Rattle.std.proofs.Common.{[], codes, refl}
use Rattle.serde_json.specs.View.{view}
use Rattle.world_json.specs.Jobs.{environment_of}
use Rattle.world_json.proofs.Judging.{member_there}
use Rattle.world_json.proofs.job.env_member.Goals as goal

pub returns-in-Some : goal.returns-in-Some
returns-in-Some c =
    let judged = environment_of (view c.in-Some.member.now) in
    member_there [] environment_of (codes "env") (view c.args.job.now) _ c.within.result c.in-Some.ensures _ refl (c.within.ensures judged c.environment.ensures)
