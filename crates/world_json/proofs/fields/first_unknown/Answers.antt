use Rattle.std.proofs.Common.{sym, ◌∙◌}
use Rattle.serde_json.proofs.Views.{Entry}
use Rattle.world_json.proofs.Judging.{known_next, unknown_next}
use Rattle.world_json.proofs.fields.first_unknown.Goals as goal

pub returns-then-not-is_among : goal.returns-then-not-is_among
returns-then-not-is_among c =
    let e : Entry = (c.in-Some.name.now, c.in-Some._member.now) in
    sym (unknown_next c.args.names.now c.loop-name.name-iterator e _ _ _ c.in-Some.ensures.steps c.as_bytes.ensures.value c.is_among.ensures c.if-not-is_among.true) ∙ c.loop-name.invariant

pub loop-name-preserved : goal.loop-name-preserved
loop-name-preserved c =
    let e : Entry = (c.in-Some.name.now, c.in-Some._member.now) in
    sym (known_next c.args.names.now c.loop-name.name-iterator e _ _ _ c.in-Some.ensures.steps c.as_bytes.ensures.value c.is_among.ensures c.if-not-is_among.false) ∙ c.loop-name.invariant
