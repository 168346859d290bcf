use Rattle.std.proofs.Common.{◌≡◌}
use Rattle.serde_json.specs.View.{items_view}
use Rattle.world_json.specs.Judging.{items_of}
use Rattle.world_json.proofs.Judging.{items_left}
use Rattle.world_json.proofs.fields.items.Given as goal

abbrev pub invariant-loop-value : goal.invariant-loop-value
invariant-loop-value g l = items_left g.T.Item.judged l.list l.value-index l.value-items ≡ items_of g.T.Item.judged 0 (items_view l.value-items)
