use Rattle.std.proofs.Common.{[], codes, refl}
use Rattle.serde_json.specs.View.{view}
use Rattle.world_json.specs.Judging.{list_of}
use Rattle.world_json.specs.Jobs.{row_of}
use Rattle.world_json.proofs.Judging.{member_there}
use Rattle.world_json.proofs.job.table_member.Goals as goal

pub returns-in-Some : goal.returns-in-Some
returns-in-Some c =
    let judged = list_of row_of (view c.in-Some.member.now) in
    member_there [] (list_of row_of) (codes "table") (view c.args.job.now) _ c.within.result c.in-Some.ensures _ refl (c.within.ensures judged c.list.ensures)
