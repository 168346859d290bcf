use Rattle.std.proofs.Common.{◌≡◌, drop}
use Rattle.shell_world.specs.Texts.{lookup}
use Rattle.shell_world.specs.Paths.{path_text}
use Rattle.shell_world.proofs.names.file_named.Given as goal

abbrev pub invariant-loop-file : goal.invariant-loop-file
invariant-loop-file l = lookup (path_text l.text) (drop l.file-index l.files) ≡ lookup (path_text l.text) l.files
