use Rattle.std.proofs.Common.{◌≡◌}
use Rattle.serde_json.specs.View.{view, members_view}
use Rattle.world_json.specs.Jobs.{pairs_of, file_of}
use Rattle.world_json.proofs.MapLoops.{pairs_left}
use Rattle.world_json.proofs.pairs.files_of.Given as goal

abbrev pub invariant-loop-path : goal.invariant-loop-path
invariant-loop-path l = pairs_left (file_of (view l.all)) l.files l.path-iterator ≡ pairs_of (file_of (view l.all)) (members_view l.members.entries)
