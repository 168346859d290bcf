use Rattle.std.proofs.Common.{◌∙◌}
use Rattle.shell_world.proofs.Maps.{set_there, put_there}
use Rattle.shell_world.proofs.text_map.TextMap.insert.Goals as goal

pub returns-then-is_at-clause-ok : goal.returns-then-is_at-clause-ok
returns-then-is_at-clause-ok g c =
    set_there c.args.key c.args.value c.args.self.now _ c.bytes.result.now c.bytes-2.result.now _ c.is_at.result c.self.view_is c.bytes.ensures c.bytes-2.ensures c.place-place.ensures.place c.is_at.ensures.is c.if-is_at.true

pub returns-clause-ok : goal.returns-clause-ok
returns-clause-ok g c =
    c.in_ok-insert.ensures.items ∙ put_there c.args.key c.args.value c.args.self.now _ c.bytes.result.now c.bytes-2.result.now _ c.is_at.result c.self.view_is c.bytes.ensures c.bytes-2.ensures c.place-place.ensures.place c.is_at.ensures.is c.if-is_at.false
