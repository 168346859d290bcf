use Rattle.std.proofs.Common.{◌≡◌, drop}
use Rattle.world_json.specs.Texts.{text_data}
use Rattle.world_json.specs.Reports.{items_for}
use Rattle.world_json.proofs.Items.{joined}
use Rattle.world_json.proofs.report.texts_value.Given as goal

abbrev pub invariant-loop-text : goal.invariant-loop-text
invariant-loop-text l = joined l.items.items (items_for text_data (drop l.text-index l.text-items)) ≡ items_for text_data l.text-items
