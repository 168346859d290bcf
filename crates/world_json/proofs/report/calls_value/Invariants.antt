use Rattle.std.proofs.Common.{◌≡◌, drop}
use Rattle.world_json.specs.Reports.{call_data}
use Rattle.world_json.specs.Reports.{items_for}
use Rattle.world_json.proofs.Items.{joined}
use Rattle.world_json.proofs.report.calls_value.Given as goal

abbrev pub invariant-loop-call : goal.invariant-loop-call
invariant-loop-call l = joined l.items.items (items_for call_data (drop l.call-index l.call-items)) ≡ items_for call_data l.call-items
