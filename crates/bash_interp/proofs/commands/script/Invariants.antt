use Rattle.std.proofs.Common.{◌≡◌}
use Rattle.bash_interp.specs.Shells.{state_of}
use Rattle.bash_interp.proofs.Steps.{rest_items}
use Rattle.bash_interp.proofs.commands.script.Given as goal

abbrev pub invariant-loop-item : goal.invariant-loop-item
invariant-loop-item l =
    (rest_items l.world l.script.items l.item-index l.shell.turns (state_of l.shell) ≡ rest_items l.world l.script.items 0 l.initial.shell.turns (state_of l.initial.shell))
    × (l.shell.outside.rows ≡ l.initial.shell.outside.rows)
