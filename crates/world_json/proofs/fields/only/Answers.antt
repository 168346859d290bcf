use Rattle.std.proofs.Common.{refl}
use Rattle.world_json.specs.declared.fault.Reason.TheVariants as reason
use Rattle.world_json.specs.Judging.{Judged, refused}
use Rattle.world_json.proofs.Judging.{only_unknown, refused_is}
use Rattle.world_json.proofs.fields.only.Goals as goal

pub returns-in-Some-first_unknown : goal.returns-in-Some-first_unknown
returns-in-Some-first_unknown c =
    let judged : Judged (Unit {0}) = refused reason.Unknown in
    only_unknown _ _ _ _ c.as_bytes.result.now c.within.result c.in-Some.ensures c.in-Some-first_unknown.ensures c.as_bytes.ensures.value
    (c.within.ensures judged (refused_is judged reason.Unknown _ c.refused-in-Some-first_unknown.ensures refl))
