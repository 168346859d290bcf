use Rattle.std.proofs.Common.{codes, refl}
use Rattle.serde_json.specs.View.{view}
use Rattle.shell_world.specs.declared.world.RowInput.TheVariants.{Nothing}
use Rattle.world_json.specs.Jobs.{input_of}
use Rattle.world_json.proofs.Judging.{member_there}
use Rattle.world_json.proofs.rows.input_member.Goals as goal

pub returns-in-Some : goal.returns-in-Some
returns-in-Some c =
    let judged = input_of (view c.in-Some.member.now) in
    member_there Nothing input_of (codes "input") (view c.args.value.now) _ c.within.result c.in-Some.ensures _ refl (c.within.ensures judged c.input.ensures)
