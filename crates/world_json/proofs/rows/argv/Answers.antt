use Rattle.std.proofs.Common.{List, codes, refl}
use Rattle.serde_json.specs.View.{view}
use Rattle.shell_world.specs.Texts.{Text}
use Rattle.world_json.specs.declared.fault.Reason.TheVariants as reason
use Rattle.world_json.specs.Judging.{Judged, refused, some_of, text_of}
use Rattle.world_json.proofs.Judging.{wanted_there, wanted_missing, refused_is}
use Rattle.world_json.proofs.rows.argv.Goals as goal

pub returns-in-Some : goal.returns-in-Some
returns-in-Some c =
    let judged = some_of text_of (view c.in-Some.member.now) in
    wanted_there (some_of text_of) (codes "argv") (view c.args.value.now) _ c.within.result c.in-Some.ensures _ refl (c.within.ensures judged c.some.ensures)

pub returns-in-None : goal.returns-in-None
returns-in-None c =
    let judged : Judged (List Text) = refused reason.Missing in
    wanted_missing (some_of text_of) (codes "argv") (view c.args.value.now) c.within-in-None.result c.in-None.ensures (c.within-in-None.ensures judged (refused_is judged reason.Missing _ c.refused.ensures refl))
