use Rattle.std.proofs.Common.{◌≡◌, drop}
use Rattle.serde_json.specs.Data.{no_members}
use Rattle.serde_json.specs.View.{members_view}
use Rattle.world_json.specs.Reports.{pairs_members}
use Rattle.world_json.proofs.report.pairs_value.Given as goal

abbrev pub invariant-loop-key : goal.invariant-loop-key
invariant-loop-key l = pairs_members (members_view l.members.entries) (drop l.key-index l.key-items) ≡ pairs_members no_members l.key-items
