use Rattle.std.proofs.Common.{◌≡◌, ◌-◌, drop, length}
use Rattle.shell_world.specs.Texts.{map_of}
use Rattle.shell_world.proofs.outside.copy_files.Given as goal

abbrev pub invariant-loop-behind : goal.invariant-loop-behind
invariant-loop-behind l = l.map ≡ map_of (drop (length l.files - l.behind) l.files)
