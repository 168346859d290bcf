use Rattle.std.proofs.Common.{◌≡◌, drop}
use Rattle.bash_tree.specs.View.{assigns_of}
use Rattle.bash_meaning.specs.Meaning.{assignments}
use Rattle.bash_interp.specs.Shells.{state_of}
use Rattle.bash_interp.proofs.commands.assignments.Given as goal

abbrev pub invariant-loop-one : goal.invariant-loop-one
invariant-loop-one l =
    (assignments (assigns_of (drop l.one-index l.assigns)) l.shell.turns (state_of l.shell) ≡ assignments (assigns_of l.assigns) l.initial.shell.turns (state_of l.initial.shell))
    × (l.shell.outside.rows ≡ l.initial.shell.outside.rows)
