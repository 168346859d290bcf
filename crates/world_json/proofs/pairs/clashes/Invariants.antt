use Rattle.std.proofs.Common.{◌≡◌, take, drop, is_some}
use Rattle.std.specs.List.{list_any}
use Rattle.serde_json.specs.Find.{get}
use Rattle.serde_json.specs.View.{view}
use Rattle.world_json.specs.Jobs.{clashes, folders_from}
use Rattle.world_json.proofs.pairs.clashes.Given as goal

abbrev pub invariant-loop-at : goal.invariant-loop-at
invariant-loop-at l =
    list_any (λ folder. is_some (get folder (view l.files))) (folders_from (take l.at l.path) (drop l.at l.path)) ≡ clashes (view l.files) l.path
