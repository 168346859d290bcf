use Rattle.std.proofs.Common.{◌≡◌, length}
use Rattle.shell_world.specs.Paths.{parts, joined, path_text, behind}
use Rattle.shell_world.proofs.paths.behind_named.Given as goal

abbrev pub invariant-parts : goal.invariant-parts
invariant-parts l = behind (joined l.lead (parts l.rest)) l.left ≡ behind (path_text l.text) l.path

abbrev pub decreases-parts : goal.decreases-parts
decreases-parts l = length l.rest
