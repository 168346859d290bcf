use Rattle.std.proofs.Common.{◌≡◌, ◌++◌, length}
use Rattle.shell_world.specs.Paths.{parts, joined, path_text}
use Rattle.shell_world.proofs.paths.path_text.Given as goal

abbrev pub invariant-parts : goal.invariant-parts
invariant-parts l = l.path ++ joined l.lead (parts l.rest) ≡ path_text l.text

abbrev pub decreases-parts : goal.decreases-parts
decreases-parts l = length l.rest
