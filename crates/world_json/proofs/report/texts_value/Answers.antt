use Rattle.std.proofs.Common.{◌∙◌, ap}
use Rattle.serde_json.specs.Data.{array}
use Rattle.world_json.specs.Texts.{text_data}
use Rattle.world_json.specs.Reports.{items_for}
use Rattle.world_json.proofs.Items.{item_more, items_all}
use Rattle.world_json.proofs.report.texts_value.Goals as goal

pub loop-text-preserved : goal.loop-text-preserved
loop-text-preserved c =
    item_more text_data _ _ c.text-item.result _ _ c.in_ok-text_value.field-0 c.loop-text-test.true c.text-item.is c.in_ok-text_value.ensures c.in_ok-push.ensures.items c.loop-text.invariant

pub returns : goal.returns
returns c = c.from.ensures ∙ ap array (items_all text_data _ _ _ c.loop-text-test.false c.loop-text.invariant ∙ ap (items_for text_data) c.as_slice-text-items.ensures)
