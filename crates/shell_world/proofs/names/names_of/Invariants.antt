use Rattle.std.proofs.Common.{◌≡◌, drop, []}
use Rattle.shell_world.specs.Paths.{names_from}
use Rattle.shell_world.proofs.names.names_of.Given as goal

abbrev pub invariant-loop-file : goal.invariant-loop-file
invariant-loop-file l = names_from (drop l.file-index l.files) l.names ≡ names_from l.files []
