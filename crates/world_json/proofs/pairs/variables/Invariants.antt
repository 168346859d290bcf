use Rattle.std.proofs.Common.{◌≡◌}
use Rattle.serde_json.specs.View.{members_view}
use Rattle.world_json.specs.Jobs.{pairs_of, variable_of}
use Rattle.world_json.proofs.MapLoops.{pairs_left}
use Rattle.world_json.proofs.pairs.variables.Given as goal

abbrev pub invariant-loop-key : goal.invariant-loop-key
invariant-loop-key l = pairs_left variable_of l.variables l.key-iterator ≡ pairs_of variable_of (members_view l.members.entries)
