use Rattle.std.proofs.Common.{◌≡◌, length}
use Rattle.arith64.specs.Parsing.{reduce}
use Rattle.arith64.proofs.reducing.reduce.Given as goal

abbrev pub invariant-frames : goal.invariant-frames
invariant-frames l = reduce l.before l.frames l.operand ≡ reduce l.fn.before l.fn.frames l.fn.operand

abbrev pub decreases-frames : goal.decreases-frames
decreases-frames l = length l.frames
