use Rattle.std.proofs.Common.{◌≡◌, false, take, All}
use Rattle.shell_world.specs.Paths.{is_slash}
use Rattle.shell_world.proofs.paths.first_part.Given as goal

abbrev pub invariant-loop-at : goal.invariant-loop-at
invariant-loop-at l = All (λ b. is_slash b ≡ false) (take l.at l.text)
