use Rattle.std.proofs.Common.{Ok, Err}
use Rattle.serde_json.specs.View.{view}
use Rattle.serde_json.proofs.Views.{Entry}
use Rattle.world_json.specs.Jobs.{file_of}
use Rattle.world_json.proofs.Judging.{exit}
use Rattle.world_json.proofs.MapLoops.{pair_good, pair_bad, at_key}
use Rattle.world_json.proofs.pairs.files_of.Goals as goal

pub returns-in_err-within : goal.returns-in_err-within
returns-in_err-within c =
    let e : Entry = (c.in-Some.path.now, c.in-Some.member.now) in
    let bad = at_key (file_of (view c.args.all.now)) e _ _ _ (Err c.in_err-within.field-0.0) c.as_bytes.ensures.value c.as_str.ensures.value c.file.ensures c.in_err-within.ensures in
    exit _ c.in_err-within.field-0.0 c.from_residual.result c.from_residual.ensures.1 (pair_bad (file_of (view c.args.all.now)) c.loop-path.files c.loop-path.path-iterator e _ _ c.in_err-within.field-0.0 c.in-Some.ensures.steps bad c.loop-path.invariant)

pub loop-path-preserved : goal.loop-path-preserved
loop-path-preserved c =
    let e : Entry = (c.in-Some.path.now, c.in-Some.member.now) in
    let good = at_key (file_of (view c.args.all.now)) e _ _ _ (Ok c.in_ok-within.field-0) c.as_bytes.ensures.value c.as_str.ensures.value c.file.ensures c.in_ok-within.ensures in
    pair_good (file_of (view c.args.all.now)) c.loop-path.files _ c.loop-path.path-iterator e _ _ _ c.in-Some.ensures.steps good c.in_ok-push.ensures.ok c.loop-path.invariant
