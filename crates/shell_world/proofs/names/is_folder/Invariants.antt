use Rattle.std.proofs.Common.{◌≡◌, drop}
use Rattle.shell_world.specs.Paths.{is_folder, path_text}
use Rattle.shell_world.proofs.names.is_folder.Given as goal

abbrev pub invariant-loop-file : goal.invariant-loop-file
invariant-loop-file l = is_folder (path_text l.text) (drop l.file-index l.files) ≡ is_folder (path_text l.text) l.files
