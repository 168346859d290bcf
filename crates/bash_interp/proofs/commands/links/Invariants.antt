use Rattle.std.proofs.Common.{◌≡◌}
use Rattle.bash_interp.specs.Shells.{state_of}
use Rattle.bash_interp.proofs.Steps.{rest_links}
use Rattle.bash_interp.proofs.commands.links.Given as goal

abbrev pub invariant-loop-behind : goal.invariant-loop-behind
invariant-loop-behind l =
    (rest_links l.world l.rest l.behind-index l.shell.turns (state_of l.shell) ≡ rest_links l.world l.rest 0 l.initial.shell.turns (state_of l.initial.shell))
    × (l.shell.outside.rows ≡ l.initial.shell.outside.rows)
