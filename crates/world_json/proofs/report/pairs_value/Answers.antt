use Rattle.std.proofs.Common.{◌∙◌, ap, ap₂}
use Rattle.serde_json.specs.Data.{object, put, no_members}
use Rattle.serde_json.specs.View.{members_view}
use Rattle.serde_json.proofs.Views.{members_view-insert_entry}
use Rattle.world_json.specs.Texts.{characters}
use Rattle.world_json.specs.Reports.{pairs_members}
use Rattle.world_json.proofs.Items.{pair_more, pairs_all}
use Rattle.world_json.proofs.report.pairs_value.Goals as goal

pub loop-key-preserved : goal.loop-key-preserved
loop-key-preserved c =
    let before = members_view c.loop-key.members.entries in
    let added = ap members_view c.in_ok-insert.ensures.entries ∙ members_view-insert_entry c.loop-key.members.entries c.in_ok-characters.field-0 c.in_ok-value.value
    ∙ ap₂ (λ k d. put k d before) (c.in_ok-characters.ensures ∙ ap characters c.bytes.ensures) c.in_ok-value.ensures in
    pair_more _ _ c.loop-key-item.result before _ c.loop-key-test.true c.loop-key-item.is added _ c.loop-key.invariant

pub returns : goal.returns
returns c = c.from.ensures ∙ ap object (pairs_all _ _ _ _ c.loop-key-test.false c.loop-key.invariant ∙ ap (pairs_members no_members) c.as_slice-key-items.ensures)
