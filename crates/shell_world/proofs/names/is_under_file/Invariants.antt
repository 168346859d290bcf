use Rattle.std.proofs.Common.{◌≡◌, take, drop, is_some}
use Rattle.std.specs.List.{list_any}
use Rattle.shell_world.specs.Texts.{lookup}
use Rattle.shell_world.specs.Paths.{is_under_file, folders_from}
use Rattle.shell_world.proofs.names.is_under_file.Given as goal

abbrev pub invariant-loop-at : goal.invariant-loop-at
invariant-loop-at l = list_any (λ folder. is_some (lookup folder l.files)) (folders_from (take l.at l.path) (drop l.at l.path)) ≡ is_under_file l.path l.files
