use Rattle.std.proofs.Common.{Ok, Err}
use Rattle.serde_json.proofs.Views.{Entry}
use Rattle.world_json.specs.Jobs.{variable_of}
use Rattle.world_json.proofs.Judging.{exit}
use Rattle.world_json.proofs.MapLoops.{pair_good, pair_bad, at_key}
use Rattle.world_json.proofs.pairs.variables.Goals as goal

pub returns-in_err-within : goal.returns-in_err-within
returns-in_err-within c =
    let e : Entry = (c.in-Some.key.now, c.in-Some.member.now) in
    let bad = at_key variable_of e _ _ _ (Err c.in_err-within.field-0.0) c.as_bytes.ensures.value c.as_str.ensures.value c.variable.ensures c.in_err-within.ensures in
    exit _ c.in_err-within.field-0.0 c.from_residual.result c.from_residual.ensures.1 (pair_bad variable_of c.loop-key.variables c.loop-key.key-iterator e _ _ c.in_err-within.field-0.0 c.in-Some.ensures.steps bad c.loop-key.invariant)

pub loop-key-preserved : goal.loop-key-preserved
loop-key-preserved c =
    let e : Entry = (c.in-Some.key.now, c.in-Some.member.now) in
    let good = at_key variable_of e _ _ _ (Ok c.in_ok-within.field-0) c.as_bytes.ensures.value c.as_str.ensures.value c.variable.ensures c.in_ok-within.ensures in
    pair_good variable_of c.loop-key.variables _ c.loop-key.key-iterator e _ _ _ c.in-Some.ensures.steps good c.in_ok-push.ensures.ok c.loop-key.invariant
