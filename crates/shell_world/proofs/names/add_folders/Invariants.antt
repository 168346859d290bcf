use Rattle.std.proofs.Common.{◌≡◌, take, drop}
use Rattle.shell_world.specs.Paths.{folders_from, folders_of, with_names}
use Rattle.shell_world.proofs.names.add_folders.Given as goal

abbrev pub invariant-loop-at : goal.invariant-loop-at
invariant-loop-at l = with_names (folders_from (take l.at l.path) (drop l.at l.path)) l.names ≡ with_names (folders_of l.path) l.fn.names
