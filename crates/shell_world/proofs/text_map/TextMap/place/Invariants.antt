use Rattle.std.proofs.Common.{◌≡◌, ◌+◌, drop}
use Rattle.std.specs.List.{prefix_len}
use Rattle.shell_world.specs.Texts.{is_below}
use Rattle.shell_world.proofs.text_map.TextMap.place.Given as goal

abbrev pub invariant-loop-i : goal.invariant-loop-i
invariant-loop-i g l = l.i + prefix_len (λ e. is_below l.key e.0) (drop l.i l.self) ≡ prefix_len (λ e. is_below l.key e.0) l.self
