use Rattle.std.proofs.Common.{◌∙◌, ap}
use Rattle.serde_json.specs.Data.{array}
use Rattle.world_json.specs.Reports.{call_data}
use Rattle.world_json.specs.Reports.{items_for}
use Rattle.world_json.proofs.Items.{item_more, items_all}
use Rattle.world_json.proofs.report.calls_value.Goals as goal

pub loop-call-preserved : goal.loop-call-preserved
loop-call-preserved c =
    item_more call_data _ _ c.call-item.result _ _ c.in_ok-call_value.field-0 c.loop-call-test.true c.call-item.is c.in_ok-call_value.ensures c.in_ok-push.ensures.items c.loop-call.invariant

pub returns : goal.returns
returns c = c.from.ensures ∙ ap array (items_all call_data _ _ _ c.loop-call-test.false c.loop-call.invariant ∙ ap (items_for call_data) c.as_slice-call-items.ensures)
