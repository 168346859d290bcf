use Rattle.std.proofs.Common.{◌≡◌, take, map}
use Rattle.shell_world.proofs.names.keys.Given as goal

abbrev pub invariant-loop-entry : goal.invariant-loop-entry
invariant-loop-entry l = l.keys ≡ map (λ e. e.0) (take l.entry-index l.names)
