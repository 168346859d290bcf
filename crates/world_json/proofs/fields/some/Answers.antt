use Rattle.std.proofs.Common.{◌∙◌, ap, length, ◌==◌}
use Rattle.world_json.proofs.Judging.{some_there, has_items}
use Rattle.world_json.proofs.fields.some.Goals as goal

pub returns-in-Some-2 : goal.returns-in-Some-2
returns-in-Some-2 g c =
    some_there g.T.Item.judged _ _ c.items.result c.in-Some.ensures (has_items _ (c.if-is_empty.ensures ∙ ap (λ l. length l == 0) c.as_slice.ensures.value)) c.items.ensures
