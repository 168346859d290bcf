use Rattle.std.proofs.Common.{◌≡◌, ◌+◌}
use Rattle.sh_meaning.specs.Arithmetic.{evaluated}
use Rattle.sh_sums.specs.Frames.{meant, frames_weight, turn_weight}
use Rattle.sh_sums.proofs.evaluating.evaluate.Given as goal

abbrev pub invariant-turns : goal.invariant-turns
invariant-turns l = meant l.turn l.frames l.numbers l.vars ≡ evaluated l.expr l.numbers l.fn.vars

abbrev pub decreases-turns : goal.decreases-turns
decreases-turns l = frames_weight l.frames + turn_weight l.turn
