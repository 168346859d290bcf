use Rattle.std.proofs.Common.{◌≡◌, drop}
use Rattle.shell_world.specs.Texts.{lookup}
use Rattle.shell_world.proofs.text_map.TextMap.get.Given as goal

abbrev pub invariant-loop-entry : goal.invariant-loop-entry
invariant-loop-entry g l = lookup l.key (drop l.entry-index l.self) ≡ lookup l.key l.self
