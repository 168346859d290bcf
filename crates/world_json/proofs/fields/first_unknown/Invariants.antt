use Rattle.std.proofs.Common.{◌≡◌, map}
use Rattle.serde_json.specs.View.{members_view}
use Rattle.world_json.specs.Judging.{first_unknown}
use Rattle.world_json.proofs.fields.first_unknown.Given as goal

abbrev pub invariant-loop-name : goal.invariant-loop-name
invariant-loop-name l =
    let names = map (λ name. name.now) l.names in
    first_unknown names (members_view l.name-iterator) ≡ first_unknown names (members_view l.members.entries)
