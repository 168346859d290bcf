use Rattle.std.proofs.Common.{◌≡◌}
use Rattle.shell_world.specs.Outside.{padded}
use Rattle.shell_world.proofs.outside.padded.Given as goal

abbrev pub invariant-loop : goal.invariant-loop
invariant-loop l = l.text ≡ padded l.counter l.bytes
