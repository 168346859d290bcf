use Rattle.std.proofs.Common.{◌≡◌, ◌++◌, drop}
use Rattle.std.specs.List.{filter_map}
use Rattle.glob_pattern.specs.Paths.{path_of}
use Rattle.glob_pattern.proofs.path.found_paths.Given as goal

abbrev pub invariant-loop-name : goal.invariant-loop-name
invariant-loop-name l = l.found.items ++ filter_map (path_of l.rooted l.components l.names) (drop l.name-index l.names) ≡ filter_map (path_of l.rooted l.components l.names) l.names
